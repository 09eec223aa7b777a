-- What an image is as a whole: one shape, one map, each row and key once.
use Rattle.std.specs.Prelude.{◌≡◌, ◌⊎◌, ◌↔◌, ℕ, ◌≤◌, ◌==◌, List, map, count_by, Contains}
use Rattle.std.specs.List.{range_with_len}
use Rattle.std.specs.FinMap as map_of_pairs
use Rattle.flit_words.specs.declared.layouts.Layout.{Layout}
use Rattle.flit_words.specs.declared.layouts.Kind.TheVariants.{Tree as Tree_kind}
use Rattle.flit_words.specs.Layouts.{Accepted, first_row_of, last_row_of}
use Rattle.flit_model.specs.Maps.{Map}
use Rattle.flit_model.specs.States.{fresh_words}
use Rattle.flit_model.specs.Lists.{IsChain, IsRisingFrom, IsLawfulList, IsLawfulChain, list_pairs, list_map, rows_on_chains}
use Rattle.flit_model.specs.Trees.{Tree, IsTree, IsLawfulTree, tree_pairs, tree_map}
use Rattle.flit_model.specs.Images.{Shape, IsLawfulAs, reached_rows, free_rows, Recovers}
use Rattle.std.specs.Prelude.{Some}

-- an image has one chain from a word
abbrev pub OneChain : Type 0
OneChain =
    (l : Layout) (image : List ℕ) (word : ℕ) (rows others : List ℕ) → IsChain l image word rows →
    IsChain l image word others → rows ≡ others

-- it has one tree below an edge, whatever the ranges
abbrev pub OneTree : Type 0
OneTree =
    (l : Layout) (image : List ℕ) (edge lo hi low high : ℕ) (t u : Tree) →
    IsTree l image edge lo hi t → IsTree l image edge low high u → t ≡ u

-- a lawful image has one map
abbrev pub OneMap : Type 0
OneMap =
    (l : Layout) (image : List ℕ) (m n : Map) (free others : List ℕ) → Recovers l image m free →
    Recovers l image n others → m ≡ n

-- it has one list of free rows
abbrev pub OneFreeList : Type 0
OneFreeList =
    (l : Layout) (image : List ℕ) (m n : Map) (free others : List ℕ) → Recovers l image m free →
    Recovers l image n others → free ≡ others

-- a lawful image reaches each row at most once
abbrev pub ReachesRowsOnce : Type 0
ReachesRowsOnce =
    (l : Layout) (image : List ℕ) (s : Shape) (row : ℕ) → IsLawfulAs l image s →
    count_by (λ r. r == row) (reached_rows l s) ≤ 1

-- the keys of the map rise along a chain
abbrev pub KeysRiseOnChains : Type 0
KeysRiseOnChains =
    (l : Layout) (image : List ℕ) (head : ℕ) (rows : List ℕ) → IsLawfulChain l image head rows →
    IsRisingFrom 0 (map (λ p. p.0) (list_pairs l image rows))

-- each key of the map stands once in the whole image
abbrev pub KeysOnceInLists : Type 0
KeysOnceInLists =
    (l : Layout) (image : List ℕ) (chain : ℕ → List ℕ) (key : ℕ) → IsLawfulList l image chain →
    count_by (λ p. p.0 == key) (list_pairs l image (rows_on_chains l chain)) ≤ 1

-- the keys of the map rise from left to right in a tree
abbrev pub KeysRiseInTrees : Type 0
KeysRiseInTrees =
    (l : Layout) (image : List ℕ) (t : Tree) → IsLawfulTree l image t →
    IsRisingFrom 0 (map (λ p. p.0) (tree_pairs l image 4 t))

-- the map of a lawful image has just the pairs of its rows
abbrev pub ListMapHasPairs : Type 0
ListMapHasPairs =
    (l : Layout) (image : List ℕ) (chain : ℕ → List ℕ) (key value : ℕ) →
    IsLawfulList l image chain →
    (map_of_pairs.get (list_map l image chain) key ≡ Some value)
    ↔ Contains (list_pairs l image (rows_on_chains l chain)) (key, value)

abbrev pub TreeMapHasPairs : Type 0
TreeMapHasPairs =
    (l : Layout) (image : List ℕ) (t : Tree) (key value : ℕ) → IsLawfulTree l image t →
    (map_of_pairs.get (tree_map l image t) key ≡ Some value)
    ↔ Contains (tree_pairs l image 4 t) (key, value)

-- the links lead to rows that a call may be given, and in a tree to row 3
abbrev pub ReachesRowsWithin : Type 0
ReachesRowsWithin =
    (l : Layout) (image : List ℕ) (s : Shape) (row : ℕ) → Accepted l → IsLawfulAs l image s →
    Contains (reached_rows l s) row →
    ((first_row_of l.kind ≤ row) × (row ≤ last_row_of l)) ⊎ ((l.kind ≡ Tree_kind) × (row ≡ 3))

-- the free rows are the rows that a call may be given and that are not reached
abbrev pub FreeRowsAreUnreached : Type 0
FreeRowsAreUnreached =
    (l : Layout) (s : Shape) (row : ℕ) →
    Contains (free_rows l s) row
    ↔ ((first_row_of l.kind ≤ row) × (row ≤ last_row_of l) × ¬ (Contains (reached_rows l s) row))

-- the fresh words of each layout are a lawful image with the empty map, and all rows are free
abbrev pub FreshIsLawful : Type 0
FreshIsLawful =
    (l : Layout) → Accepted l →
    Recovers l (fresh_words l) map_of_pairs.empty (range_with_len (first_row_of l.kind) l.rows)
