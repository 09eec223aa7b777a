-- What a search remembers of link words that it has loaded, in words of the heap alone; `first` is the number of updates
-- that were settled when it began, and `key` the key that it looks for.
use Rattle.std.specs.Prelude.{◌≡◌, ◌≢◌, ℕ, ◌+◌, ◌<◌, ◌≤◌, true, false, Bool, Option, Some, None, ◌⊎◌, length, take}
use Rattle.std.specs.FinMap as fin
use Rattle.flit_words.specs.declared.layouts.Layout.{Layout}
use Rattle.flit_words.specs.Layouts.{head_of_key}
use Rattle.flit_words.specs.Words.{is_tagged, version_of}
use Rattle.flit_model.specs.Maps.{map_after_all}
use Rattle.flit_model.specs.Lists.{key_in, row_value_in}
use Rattle.flit_list_heap.specs.Links.{LinkWord, Head, Next, low, bucket_of, row_of, is_marked, by_of}
use Rattle.flit_list_heap.specs.Chained.{Form, IsPast}
use Rattle.flit_list_heap.specs.Keeping.{ListHeap, IsLinkAt, rows_at, word_in, shadow_in}

-- a link word of the key's bucket has held this. It leads nowhere, or to a settled row, or it is what the word holds ahead
-- of its shadow; and where it is marked the word still holds it
pub record Saw (l : Layout) (h : ListHeap) (key : ℕ) (x : LinkWord) (u : ℕ) : Type 0 where
  pub link : IsLinkAt l h x
  pub bucket : bucket_of (rows_at l h) x ≡ head_of_key l key
  pub form : Form (rows_at l h) x u
  pub leads : (row_of u ≡ 0) ⊎ ((h.ghost (row_of u) ≡ true) ⊎ ((version_of (word_in l h x) ≡ version_of (shadow_in l h x) + 1) × (u ≡ word_in l h x)))
  pub final : is_marked u ≡ true → word_in l h x ≡ u

-- what was seen is persistent
abbrev pub IsPersistentAt : Layout → ListHeap → LinkWord → ℕ → Type 0
IsPersistentAt l h x u = version_of u ≤ version_of (shadow_in l h x)

abbrev pub IsBackPersistent : Layout → ListHeap → Option (LinkWord × ℕ) → Type 0
IsBackPersistent l h None = Unit {0}
IsBackPersistent l h (Some p) = IsPersistentAt l h p.0 p.1

-- the word behind which the key belongs, as far as the search has come: the head of the bucket, or the next word of a row
-- with a smaller key, to which the word before it has led by an unmarked link
pub data IsBehind (l : Layout) (h : ListHeap) (key : ℕ) : Option (LinkWord × ℕ) → LinkWord → Type 0 where
  at_head : IsBehind l h key None (Head (head_of_key l key))
  at_row : (b : LinkWord) (v : ℕ) → Saw l h key b v → is_marked v ≡ false → 1 ≤ row_of v → key_in l h.words (row_of v) < key →
      IsBehind l h key (Some (b, v)) (Next (row_of v))

-- and it has held this unmarked link
pub record Spot (l : Layout) (h : ListHeap) (key : ℕ) (back : Option (LinkWord × ℕ)) (pred : LinkWord) (c : ℕ) : Type 0 where
  pub behind : IsBehind l h key back pred
  pub saw : Saw l h key pred c
  pub unmarked : is_marked c ≡ false

-- the next word of the row that the link c leads to has held this link, with a mark or without
pub record SawNext (l : Layout) (h : ListHeap) (key c n : ℕ) (marked : Bool) : Type 0 where
  pub some : 1 ≤ row_of c
  pub saw : Saw l h key (Next (row_of c)) n
  pub mark : is_marked n ≡ marked

-- at a position that isn't before the first one the key had this value, or none
abbrev pub Had : ListHeap → ℕ → ℕ → Option ℕ → Type 0
Had h first key o = (position : ℕ) × (first ≤ position) × (position ≤ length h.progress.settled)
    × (fin.get (map_after_all h.opening.content (take position h.progress.settled)) key ≡ o)

-- a link that passes over the key: then the key was absent
abbrev pub Gone : Layout → ListHeap → ℕ → ℕ → LinkWord → ℕ → Type 0
Gone l h first key x u = low (rows_at l h) x ≤ key → IsPast (rows_at l h) key (row_of u) → Had h first key None

-- a row with the key: it isn't settled, or the key had its value
abbrev pub Here : Layout → ListHeap → ℕ → ℕ → ℕ → Type 0
Here l h first key r = key_in l h.words r ≡ key → (h.ghost r ≡ false) ⊎ Had h first key (Some (row_value_in l h.words r))

-- with values, this worker hasn't marked the row
abbrev pub IsNotMine : Layout → ListHeap → ℕ → ℕ → Type 0
IsNotMine l h name r = l.values ≡ true → is_marked (word_in l h (Next r)) ≡ true → by_of (word_in l h (Next r)) ≢ name

-- ---- what an operation knows of the words when its exchange of a link word from u to `to` is won

-- the word still holds what was seen of it, and that is persistent; the new word is the next version
pub record StillHolds (l : Layout) (h : ListHeap) (x : LinkWord) (u to : ℕ) : Type 0 where
  pub word : word_in l h x ≡ u
  pub persistent : IsPersistentAt l h x u
  pub bare : is_tagged to ≡ false
  pub next : version_of to ≡ version_of u + 1

-- a search has its spot, and all of it is persistent but for what is exchanged
pub record StandsStill (l : Layout) (h : ListHeap) (key : ℕ) (back : Option (LinkWord × ℕ)) (pred : LinkWord) (c : ℕ) : Type 0 where
  pub spot : Spot l h key back pred c
  pub back_persistent : IsBackPersistent l h back
