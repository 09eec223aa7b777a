-- The rows that are reached from a link word, and the map that they are.
use Rattle.std.specs.Prelude.{◌≡◌, ℕ, ◌==◌, ◌≤◌, Bool, true, false, List, [], ◌∷◌, Option, Some, None}
use Rattle.flit_list_heap.specs.Links.{LinkWord, Next, Rows, low, bucket_of, row_of, is_marked}

-- a row that a link word may lead to
pub record Follows (c : Rows) (x : LinkWord) (r : ℕ) : Type 0 where
  pub real : 1 ≤ r
  pub linked : c.linked r
  pub above : low c x ≤ c.key r
  pub bucket : c.bucket (c.key r) ≡ bucket_of c x

-- these are the rows from a link word to the end, all of one bucket and with rising keys
abbrev pub Path : Rows → (LinkWord → ℕ) → LinkWord → List ℕ → Type 0
Path c img x [] = row_of (img x) ≡ 0
Path c img x (r ∷ p) = (row_of (img x) ≡ r) × Follows c x r × Path c img (Next r) p

-- the value of a key on a list of rows: that of the first row with this key that isn't marked
abbrev pub pick : Bool → Bool → Option ℕ → Option ℕ → Option ℕ
pick true false here there = here
pick _ _ here there = there

abbrev pub found : Rows → (ℕ → Bool) → List ℕ → ℕ → Option ℕ
found c marked [] k = None
found c marked (r ∷ p) k = pick (c.key r == k) (marked r) (Some (c.value r)) (found c marked p k)

-- which rows are marked: the mark stands in a row's own next word
abbrev pub marks : (LinkWord → ℕ) → ℕ → Bool
marks img r = is_marked (img (Next r))
