-- The walk over the tree, and the first damage on it: an edge first, then the row below it, then all below that row's
-- left edge, then all below its right edge. Rows 1, 2, 4 and 5 count as reached from the start.
use Rattle.std.specs.Prelude.{◌≡◌, ◌≢◌, ◌⊎◌, ℕ, ◌+◌, ◌-◌, ◌%◌, ◌==◌, ◌<◌, ◌&&◌, ◌||◌, not, nat_lt, nat_le, Bool, true, false, List, [], ◌∷◌, ◌++◌, Option, Some, None, if◌then◌else◌}
use Rattle.flit_words.specs.declared.layouts.Layout.{Layout}
use Rattle.flit_words.specs.Layouts.{last_row_of, initial_of, above_keys}
use Rattle.flit_model.specs.Lists.{value_in, link_in, key_in}
use Rattle.flit_model.specs.Trees.{Tree, Leaf, Inner, left_word, right_word, rows_in_tree, IsFixed}
use Rattle.flit_recover.specs.declared.found.Damage.{Damage}
use Rattle.flit_recover.specs.declared.found.Damage.TheVariants.{RowOutOfRange, KeyOrder, KeyPlace, Shared, BadEdge}
use Rattle.flit_recover.specs.ListWalks.{stands_in}

-- the first fixed word that isn't fresh
pub record IsFixedDamage (l : Layout) (image : List ℕ) (d : Damage) : Type 0 where
  pub word : ℕ
  pub fixed : IsFixed l word
  pub changed : value_in image word ≢ initial_of l.kind word
  pub first : (w : ℕ) → w < word → IsFixed l w → value_in image w ≡ initial_of l.kind w
  pub is : d ≡ BadEdge word

-- an edge leads to a row, and names no remover
abbrev pub leads_to_row : Layout → List ℕ → ℕ → Bool
leads_to_row l image edge =
    ((link_in image edge).by == 0) && not ((link_in image edge).row == 0) && nat_le (link_in image edge).row (last_row_of l)

-- a link word that leads nowhere: to row 0, naming no remover
abbrev pub leads_nowhere : List ℕ → ℕ → Bool
leads_nowhere image word = ((link_in image word).by == 0) && ((link_in image word).row == 0)

abbrev pub has_bit : List ℕ → ℕ → Bool
has_bit image word = (link_in image word).mark || (link_in image word).frozen

-- of a row's two links this one leads nowhere and the other doesn't, or both lead nowhere and this one has a bit
abbrev pub is_odd_link : List ℕ → ℕ → ℕ → Bool
is_odd_link image word other =
    leads_nowhere image word && (if leads_nowhere image other then has_bit image word else true)

-- a row is a leaf where its left link leads nowhere
abbrev pub is_leaf : Layout → List ℕ → ℕ → Bool
is_leaf l image row = leads_nowhere image (left_word l row)

-- a leaf other than row 3 with a key above all keys
abbrev pub is_above_all : Layout → List ℕ → ℕ → Bool
is_above_all l image row = is_leaf l image row && not (row == 3) && nat_le (above_keys 0) (key_in l image row)

-- a leaf's key is from lo on and below hi; that of an inner row is above lo and below hi
abbrev pub is_out_of_range : Layout → List ℕ → ℕ → ℕ → ℕ → Bool
is_out_of_range l image lo hi row =
    nat_le hi (key_in l image row)
    || (if is_leaf l image row then nat_lt (key_in l image row) lo else nat_le (key_in l image row) lo)

-- the other edge word of the same row
abbrev pub other_edge : ℕ → ℕ
other_edge edge = if edge % 3 == 1 then edge + 1 else edge - 1

-- an edge with a bit that it may not have: word 4 with any; a flag above an inner row or row 3; a frozen edge whose
-- other edge isn't flagged
abbrev pub has_wrong_bit : Layout → List ℕ → ℕ → ℕ → Bool
has_wrong_bit l image edge row =
    ((edge == 4) && has_bit image edge)
    || ((link_in image edge).mark && (not (is_leaf l image row) || (row == 3)))
    || ((link_in image edge).frozen && not (link_in image (other_edge edge)).mark)

-- what is wrong at an edge and the row below it, where the range is lo to hi and these rows were reached
abbrev pub edge_damage : Layout → List ℕ → ℕ → ℕ → ℕ → List ℕ → Option Damage
edge_damage l image edge lo hi reached =
    if not (leads_to_row l image edge) then Some (RowOutOfRange edge)
    else (if stands_in reached (link_in image edge).row then Some (Shared (link_in image edge).row)
    else (if is_odd_link image (left_word l (link_in image edge).row) (right_word l (link_in image edge).row) then
    Some (RowOutOfRange (left_word l (link_in image edge).row))
    else (if is_odd_link image (right_word l (link_in image edge).row) (left_word l (link_in image edge).row) then
    Some (RowOutOfRange (right_word l (link_in image edge).row))
    else (if is_above_all l image (link_in image edge).row then Some (KeyPlace (link_in image edge).row)
    else (if is_out_of_range l image lo hi (link_in image edge).row then Some (KeyOrder (link_in image edge).row)
    else (if has_wrong_bit l image edge (link_in image edge).row then Some (BadEdge edge)
    else None))))))

-- nothing is wrong at an edge, and it leads to this row
pub record Reaches (l : Layout) (image : List ℕ) (edge lo hi : ℕ) (reached : List ℕ) (row : ℕ) : Type 0 where
  pub sound : edge_damage l image edge lo hi reached ≡ None
  pub named : (link_in image edge).row ≡ row

-- the walk below an edge finds this tree, with nothing wrong
abbrev pub IsSoundTree : Layout → List ℕ → ℕ → ℕ → ℕ → List ℕ → Tree → Type 0
IsSoundTree l image edge lo hi reached (Leaf r) = Reaches l image edge lo hi reached r × (is_leaf l image r ≡ true)
IsSoundTree l image edge lo hi reached (Inner r a b) =
    Reaches l image edge lo hi reached r
    × (is_leaf l image r ≡ false)
    × IsSoundTree l image (left_word l r) lo (key_in l image r) (r ∷ reached) a
    × IsSoundTree l image (right_word l r) (key_in l image r) hi (rows_in_tree a ++ r ∷ reached) b

-- where the walk below an edge finds the first damage: at the edge, or below its row, on the left, or on the right of a
-- sound left tree
pub data Way : Type 0 where
  Here : Way
  ToLeft : ℕ → Way → Way
  ToRight : ℕ → Tree → Way → Way

abbrev pub IsDamagedTree : Layout → List ℕ → ℕ → ℕ → ℕ → List ℕ → Way → Damage → Type 0
IsDamagedTree l image edge lo hi reached Here d = edge_damage l image edge lo hi reached ≡ Some d
IsDamagedTree l image edge lo hi reached (ToLeft r way) d =
    Reaches l image edge lo hi reached r
    × (is_leaf l image r ≡ false)
    × IsDamagedTree l image (left_word l r) lo (key_in l image r) (r ∷ reached) way d
IsDamagedTree l image edge lo hi reached (ToRight r a way) d =
    Reaches l image edge lo hi reached r
    × (is_leaf l image r ≡ false)
    × IsSoundTree l image (left_word l r) lo (key_in l image r) (r ∷ reached) a
    × IsDamagedTree l image (right_word l r) (key_in l image r) hi (rows_in_tree a ++ r ∷ reached) way d

abbrev pub reached_at_start : List ℕ
reached_at_start = 1 ∷ 2 ∷ 4 ∷ 5 ∷ []

-- the first damage of a tree image without tags: a fixed word, then the walk from word 4, then row 3 not reached
abbrev pub IsTreeDamage : Layout → List ℕ → Damage → Type 0
IsTreeDamage l image d =
    IsFixedDamage l image d
    ⊎ ((((w : ℕ) → IsFixed l w → value_in image w ≡ initial_of l.kind w)
    × ((way : Way) × IsDamagedTree l image 4 0 (above_keys 1) reached_at_start way d))
    ⊎ (((w : ℕ) → IsFixed l w → value_in image w ≡ initial_of l.kind w)
    × ((t : Tree) × IsSoundTree l image 4 0 (above_keys 1) reached_at_start t × (stands_in (rows_in_tree t) 3 ≡ false))
    × (d ≡ BadEdge 4)))
