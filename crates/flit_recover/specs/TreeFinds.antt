-- What the walk over a tree image finds where nothing is wrong: the rows in the order in which they are reached, and the
-- keys with their values.
use Rattle.std.specs.Prelude.{◌≡◌, ◌≢◌, ℕ, ◌^◌, ◌<◌, ◌≤◌, List, [], ◌∷◌, ◌++◌, true, false}
use Rattle.flit_words.specs.declared.layouts.Layout.{Layout}
use Rattle.flit_words.specs.Layouts.{words_of, initial_of, above_keys}
use Rattle.flit_model.specs.Lists.{value_in, key_in}
use Rattle.flit_model.specs.Trees.{Tree, Leaf, IsLawfulTree, left_word, right_word, rows_in_tree, tree_pairs}
use Rattle.flit_recover.specs.declared.found.Damage.{Damage}
use Rattle.flit_recover.specs.declared.tree_walk.Pending.{Pending}
use Rattle.flit_recover.specs.TreeWalks.{IsSoundTree, IsDamagedTree, Way, reached_at_start, is_leaf, other_edge}

-- the walk from word 4 finds a tree with nothing wrong, and these are its rows and pairs
pub record FindsTree (l : Layout) (image : List ℕ) (rows : List ℕ) (pairs : List (ℕ × ℕ)) : Type 0 where
  pub tree : Tree
  pub sound : IsSoundTree l image 4 0 (above_keys 1) reached_at_start tree
  pub rows_are : rows ≡ reached_at_start ++ rows_in_tree tree
  pub pairs_are : pairs ≡ tree_pairs l image 4 tree

-- the walk from word 4 finds this damage
abbrev pub FindsDamage : Layout → List ℕ → Damage → Type 0
FindsDamage l image d = (way : Way) × IsDamagedTree l image 4 0 (above_keys 1) reached_at_start way d

-- the image is lawful; these are the rows reached at the start and then those of its tree, and the pairs of its map
pub record IsTreeReached (l : Layout) (image : List ℕ) (rows : List ℕ) (pairs : List (ℕ × ℕ)) : Type 0 where
  pub tree : Tree
  pub lawful : IsLawfulTree l image tree
  pub rows_are : rows ≡ reached_at_start ++ rows_in_tree tree
  pub pairs_are : pairs ≡ tree_pairs l image 4 tree

-- an edge and the other edge of the same row are words of the image
pub record IsEdgeWord (l : Layout) (edge : ℕ) : Type 0 where
  pub least : 1 ≤ edge
  pub most : edge < 2 ^ 31
  pub within : edge < words_of l
  pub other_within : other_edge edge < words_of l

-- all words in a range but word 4 are fresh
abbrev pub AreFresh : Layout → List ℕ → ℕ → ℕ → Type 0
AreFresh l image from to = (w : ℕ) → from ≤ w → w < to → w ≢ 4 → value_in image w ≡ initial_of l.kind w

-- the first word of a range that isn't fresh, word 4 left out
pub record IsFirstChanged (l : Layout) (image : List ℕ) (from to word : ℕ) : Type 0 where
  pub least : from ≤ word
  pub most : word < to
  pub other : word ≢ 4
  pub changed : value_in image word ≢ initial_of l.kind word
  pub before : AreFresh l image from word

-- the edges of a row that an edge leads to, each with its range
abbrev pub left_below : Layout → List ℕ → Pending → ℕ → Pending
left_below l image p row = record { edge = left_word l row; low = p.low; high = key_in l image row }

abbrev pub right_below : Layout → List ℕ → Pending → ℕ → Pending
right_below l image p row = record { edge = right_word l row; low = key_in l image row; high = p.high }

-- the walk goes on below a row: a leaf adds its pair, if it is in the map; an inner row adds its two edges, of which the
-- last is walked next
pub record GoesOn (l : Layout) (image : List ℕ) (p : Pending) (row : ℕ) (pairs more : List (ℕ × ℕ)) (stack left : List Pending) : Type 0 where
  pub leaf_pair : is_leaf l image row ≡ true → more ≡ pairs ++ tree_pairs l image p.edge (Leaf row)
  pub leaf_edges : is_leaf l image row ≡ true → left ≡ stack
  pub inner_pair : is_leaf l image row ≡ false → more ≡ pairs
  pub inner_edges : is_leaf l image row ≡ false → left ≡ stack ++ right_below l image p row ∷ left_below l image p row ∷ []
