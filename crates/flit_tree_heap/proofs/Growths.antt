-- The tree of an image, said of what the image says of edges and rows, and what one change of an edge makes of it. Images
-- that differ at one edge are compared so, without their words.
use Rattle.std.specs.Prelude.{◌≡◌, ◌≢◌, ◌⊎◌, ℕ, ◌<◌, ◌≤◌, ◌==◌, ◌&&◌, true, false, not, List, [], ◌∷◌, Option, Some, None, nat_lt, if◌then◌else◌}
use Rattle.flit_model.specs.Trees.{Tree, Leaf, Inner}
use Rattle.flit_tree_heap.specs.Edges.{left, right, own, other}
use Rattle.flit_tree_heap.specs.Routes.{Reading, side}

-- row r is a leaf at edge w
pub record IsLeaf (V : Reading) (w lo hi r : ℕ) : Type 0 where
  pub named : V.row w ≡ r
  pub row : 1 ≤ r
  pub inside : r ≤ V.rows
  pub low : lo ≤ V.key r
  pub high : V.key r < hi
  pub no_left : V.row (left r) ≡ 0
  pub no_right : V.row (right r) ≡ 0
  pub left_plain : (V.flag (left r) ≡ false) × (V.frozen (left r) ≡ false)
  pub right_plain : (V.flag (right r) ≡ false) × (V.frozen (right r) ≡ false)
  pub below : (r ≡ 3) ⊎ (V.key r < 4294967293)
  pub stays : V.flag w ≡ true → r ≢ 3

-- row r is an inner row at edge w
pub record IsInner (V : Reading) (w lo hi r : ℕ) : Type 0 where
  pub named : V.row w ≡ r
  pub row : 1 ≤ r
  pub inside : r ≤ V.rows
  pub low : lo < V.key r
  pub high : V.key r < hi
  pub unflagged : V.flag w ≡ false
  pub left_frozen : V.frozen (left r) ≡ true → V.flag (right r) ≡ true
  pub right_frozen : V.frozen (right r) ≡ true → V.flag (left r) ≡ true

-- the tree below edge w, whose keys are from lo on and below hi
abbrev pub IsTree : Reading → ℕ → ℕ → ℕ → Tree → Type 0
IsTree V w lo hi (Leaf r) = IsLeaf V w lo hi r
IsTree V w lo hi (Inner r a b) = IsInner V w lo hi r × IsTree V (left r) lo (V.key r) a × IsTree V (right r) (V.key r) hi b

-- a row of a tree
abbrev pub IsRow : ℕ → Tree → Type 0
IsRow r (Leaf q) = q ≡ r
IsRow r (Inner q a b) = (q ≡ r) ⊎ (IsRow r a ⊎ IsRow r b)

-- the leaf r stands in a tree at the edge v
abbrev pub LeafAt : Reading → ℕ → ℕ → ℕ → Tree → Type 0
LeafAt V v r w (Leaf q) = (w ≡ v) × (q ≡ r)
LeafAt V v r w (Inner q a b) = LeafAt V v r (left q) a ⊎ LeafAt V v r (right q) b

-- an inner row of a tree
abbrev pub InTree : ℕ → Tree → Type 0
InTree r (Leaf q) = ⊥
InTree r (Inner q a b) = (q ≡ r) ⊎ (InTree r a ⊎ InTree r b)

-- the edge into the leaf where the route of k ends
abbrev pub last : Reading → ℕ → ℕ → Tree → ℕ
last V k w (Leaf r) = w
last V k w (Inner r a b) = if nat_lt k (V.key r) then last V k (left r) a else last V k (right r) b

-- what the leaf at an edge says of k
unfoldable pub said : Reading → ℕ → ℕ → Option ℕ
said V k w = if (V.key (V.row w) == k) && not (V.flag w) then Some (V.value (V.row w)) else None

-- the value of k in the tree
abbrev pub found : Reading → ℕ → ℕ → Tree → Option ℕ
found V k w t = said V k (last V k w t)

-- the row of edge w has a key that is not between lo and hi
abbrev pub Outside : Reading → ℕ → ℕ → ℕ → Type 0
Outside V w lo hi = (V.key (own w) ≤ lo) ⊎ (hi ≤ V.key (own w))

-- the views differ at most at w0, an edge of an inner row
pub record Writes (V U : Reading) (w0 : ℕ) : Type 0 where
  pub row : (w : ℕ) → w ≢ w0 → U.row w ≡ V.row w
  pub flag : (w : ℕ) → w ≢ w0 → U.flag w ≡ V.flag w
  pub frozen : (w : ℕ) → w ≢ w0 → U.frozen w ≡ V.frozen w
  pub key : (r : ℕ) → U.key r ≡ V.key r
  pub value : (r : ℕ) → U.value r ≡ V.value r
  pub rows : U.rows ≡ V.rows
  pub edge : 1 ≤ V.row w0

-- a lawful image of the tree: row 3 is reached by an edge without flag
pub record IsLawful (V : Reading) (t : Tree) : Type 0 where
  pub is : IsTree V 4 0 4294967294 t
  pub two : V.key 2 ≡ 4294967294
  pub top : V.frozen 4 ≡ false
  pub three : found V 4294967293 4 t ≡ Some (V.value 3)

-- a flag is set at w0, an edge into a leaf other than row 3
pub record Flags (V U : Reading) (w0 : ℕ) : Type 0 where
  pub writes : Writes V U w0
  pub row : U.row w0 ≡ V.row w0
  pub flagged : U.flag w0 ≡ true
  pub frozen : U.frozen w0 ≡ V.frozen w0
  pub was_plain : V.flag w0 ≡ false
  pub into_leaf : V.row (left (V.row w0)) ≡ 0
  pub not_three : V.row w0 ≢ 3

-- the frozen bit is set at w0, whose other edge is flagged
pub record Freezes (V U : Reading) (w0 : ℕ) : Type 0 where
  pub writes : Writes V U w0
  pub row : U.row w0 ≡ V.row w0
  pub flag : U.flag w0 ≡ V.flag w0
  pub frozen : U.frozen w0 ≡ true
  pub not_top : w0 ≢ 4
  pub inner : 1 ≤ own w0
  pub sibling : V.flag (other w0) ≡ true

-- the inner row b is linked at w0 over the new leaf a with key k and the leaf that was there
pub record Links (V U : Reading) (w0 k b a : ℕ) : Type 0 where
  pub writes : Writes V U w0
  pub named : U.row w0 ≡ b
  pub unflagged : U.flag w0 ≡ false
  pub unfrozen : U.frozen w0 ≡ false
  pub was_unflagged : V.flag w0 ≡ false
  pub was_unfrozen : V.frozen w0 ≡ false
  pub into_leaf : V.row (left (V.row w0)) ≡ 0
  pub apart : own w0 ≢ b
  pub b_row : 1 ≤ b
  pub a_row : 1 ≤ a
  pub b_inside : b ≤ V.rows
  pub a_inside : a ≤ V.rows
  pub left_unflagged : V.flag (left b) ≡ false
  pub right_unflagged : V.flag (right b) ≡ false
  pub left_unfrozen : V.frozen (left b) ≡ false
  pub right_unfrozen : V.frozen (right b) ≡ false
  pub a_key : V.key a ≡ k
  pub a_left : V.row (left a) ≡ 0
  pub a_right : V.row (right a) ≡ 0
  pub a_left_plain : (V.flag (left a) ≡ false) × (V.frozen (left a) ≡ false)
  pub a_right_plain : (V.flag (right a) ≡ false) × (V.frozen (right a) ≡ false)
  pub below : k < 4294967293
  pub order : ((k < V.key (V.row w0)) × (V.key b ≡ V.key (V.row w0)) × (V.row (left b) ≡ a) × (V.row (right b) ≡ V.row w0))
      ⊎ ((V.key (V.row w0) < k) × (V.key b ≡ k) × (V.row (left b) ≡ V.row w0) × (V.row (right b) ≡ a))

-- from row r one comes over these rows, by the edges for k, which are frozen and not flagged, to a row with the frozen edge g
abbrev pub Trail : Reading → (ℕ → Type 0) → ℕ → ℕ → ℕ → List ℕ → Type 0
Trail V E k g r [] = ((g ≡ left r) ⊎ (g ≡ right r)) × (V.frozen g ≡ true) × (1 ≤ V.row g) × E g
Trail V E k g r (s ∷ rs) = (V.row (side V k r) ≡ s) × (1 ≤ s) × (V.frozen (side V k r) ≡ true) × E (side V k r) × Trail V E k g s rs

-- the edge w0 is swung to what stands at g
pub record Swings (V U : Reading) (E : ℕ → Type 0) (w0 k g : ℕ) (rows : List ℕ) : Type 0 where
  pub writes : Writes V U w0
  pub row : U.row w0 ≡ V.row g
  pub flag : U.flag w0 ≡ V.flag g
  pub unfrozen : U.frozen w0 ≡ false
  pub was_unflagged : V.flag w0 ≡ false
  pub was_unfrozen : V.frozen w0 ≡ false
  pub trail : Trail V E k g (V.row w0) rows
