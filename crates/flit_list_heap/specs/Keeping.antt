-- What is kept true of the words, shadows and updates of a list or a hash table, and what others' changes leave of them.
use Rattle.std.specs.Prelude.{◌≡◌, ℕ, ◌+◌, ◌<◌, ◌≤◌, Bool, true, false, List, ◌++◌, length, Option, Some, None, ◌⊎◌, Contains}
use Rattle.std.specs.FinMap as fin
use Rattle.flit_words.specs.declared.layouts.Layout.{Layout}
use Rattle.flit_words.specs.declared.limits.TheConstants.{GREATEST_KEY}
use Rattle.flit_words.specs.Layouts.{Accepted, words_of, row_word_of, value_word_of, head_of_key}
use Rattle.flit_words.specs.Words.{is_tagged, version_of}
use Rattle.flit_model.specs.Maps.{Map, IsLegal, map_after_all, key_of}
use Rattle.flit_model.specs.Lists.{IsLawfulList, rows_on_chains, key_in, row_value_in}
use Rattle.flit_model.specs.Settling.{Progress}
use Rattle.flit_model.specs.declared.calls.Entry.{Entry}
use Rattle.flit_structure.specs.Moments.{made}
use Rattle.flit_structure.specs.Lawful.{is_insert}
use Rattle.flit_crew.specs.Heaps.{Heap, at_word, at_shadow, waits_at, IsOpen}
use Rattle.flit_crew.specs.Accounts.{IsPool}
use Rattle.flit_list_heap.specs.Links.{LinkWord, Rows, place_of, IsLink, is_marked, by_of}
use Rattle.flit_list_heap.specs.Chained.{Chained}

-- the ghost says which rows are settled: the link to them is persistent
abbrev pub ListHeap : Type 0
ListHeap = Heap (ℕ → Bool)

-- the links of a lawful image lead to this row
pub record IsReached (l : Layout) (image : List ℕ) (row : ℕ) : Type 0 where
  pub chain : ℕ → List ℕ
  pub lawful : IsLawfulList l image chain
  pub on : Contains (rows_on_chains l chain) row

-- a linked row: the links of the start image lead to it, or an insert has linked it
abbrev pub IsLinked : Layout → ListHeap → ℕ → Type 0
IsLinked l h row = IsReached l h.opening.words row ⊎ Contains h.given row

abbrev pub rows_at : Layout → ListHeap → Rows
rows_at l h = record {
  layout = l;
  bucket = head_of_key l;
  key = key_in l h.words;
  value = row_value_in l h.words;
  linked = λ row. IsLinked l h row;
}

abbrev pub word_in : Layout → ListHeap → LinkWord → ℕ
word_in l h x = at_word h (place_of l x)

abbrev pub shadow_in : Layout → ListHeap → LinkWord → ℕ
shadow_in l h x = at_shadow h (place_of l x)

abbrev pub entry_in : Layout → ListHeap → LinkWord → Option Entry
entry_in l h x = waits_at h (place_of l x)

-- the map after the settled updates
abbrev pub content_of : ListHeap → Map
content_of h = map_after_all h.opening.content h.progress.settled

-- a link word of the heap
abbrev pub IsLinkAt : Layout → ListHeap → LinkWord → Type 0
IsLinkAt l h x = IsLink (rows_at l h) x

-- an insert of this key was made
pub record HasInsert (q : Progress) (key : ℕ) : Type 0 where
  pub update : Entry
  pub among : Contains (made q) update
  pub insert : is_insert update.call ≡ true
  pub of_key : key_of update.call ≡ key

pub record Kept (l : Layout) (free : List ℕ) (h : ListHeap) : Type 0 where
  pub accepted : Accepted l
  pub pool : IsPool l free
  pub words : length h.words ≡ words_of l
  pub shadows : length h.shadows ≡ words_of l
  -- the start image is lawful, and no row of the pool is reached in it; inserts link rows of the pool
  pub opened : (chain : ℕ → List ℕ) × IsLawfulList l h.opening.words chain
  pub apart : (row : ℕ) → Contains free row → IsReached l h.opening.words row → ⊥
  pub given : (row : ℕ) → Contains h.given row → Contains free row
  pub bare : (w : ℕ) → IsOpen l free h w → is_tagged (at_word h w) ≡ false
  pub untagged : (w : ℕ) → w < words_of l → is_tagged (at_shadow h w) ≡ false
  -- the keys and the values of linked rows are persistent
  pub keys : (row : ℕ) → IsLinked l h row → at_word h (row_word_of l row 0) ≡ at_shadow h (row_word_of l row 0)
  pub values : (row : ℕ) → IsLinked l h row → l.values ≡ true → at_word h (value_word_of l row) ≡ at_shadow h (value_word_of l row)
  pub small : (row : ℕ) → IsLinked l h row → key_in l h.words row ≤ GREATEST_KEY
  -- and the keys are those that the start image has, and those of the inserts that were made
  pub stays : (row : ℕ) → IsReached l h.opening.words row → key_in l h.words row ≡ key_in l h.opening.words row
  pub grown : (row : ℕ) → Contains h.given row → HasInsert h.progress (key_in l h.words row)
  -- updates wait at link words alone; the settled ones are legal
  pub elsewhere : (w : ℕ) → ((x : LinkWord) → IsLinkAt l h x → place_of l x ≡ w → ⊥) → waits_at h w ≡ None
  pub legal : IsLegal h.opening.content h.progress.settled
  pub chained : Chained (rows_at l h) h.ghost (word_in l h) (shadow_in l h) (entry_in l h) (content_of h)

-- ---- what one who has this name, or nobody, leaves of the heap h in the heap k

-- a link word was exchanged: it was at rest and unmarked, and has the next version; its shadow stays
pub record HasMoved (l : Layout) (h k : ListHeap) (x : LinkWord) : Type 0 where
  pub solid : word_in l h x ≡ shadow_in l h x
  pub stays : shadow_in l k x ≡ shadow_in l h x
  pub unmarked : is_marked (word_in l h x) ≡ false
  pub next : version_of (word_in l k x) ≡ version_of (word_in l h x) + 1

-- a link word was written back: it was ahead of its shadow
pub record WasWritten (l : Layout) (h k : ListHeap) (x : LinkWord) : Type 0 where
  pub ahead : version_of (word_in l h x) ≡ version_of (shadow_in l h x) + 1
  pub now : shadow_in l k x ≡ word_in l h x

pub record Later (l : Layout) (who : Option ℕ) (h k : ListHeap) : Type 0 where
  pub opening : k.opening ≡ h.opening
  -- linked rows stay linked, settled ones settled, and settled updates in their places
  pub given : (row : ℕ) → Contains h.given row → Contains k.given row
  pub settled : (row : ℕ) → h.ghost row ≡ true → k.ghost row ≡ true
  pub updates : (more : List Entry) × (k.progress.settled ≡ h.progress.settled ++ more)
  -- the keys and the values of linked rows stay
  pub keys : (row : ℕ) → IsLinked l h row → at_word k (row_word_of l row 0) ≡ at_word h (row_word_of l row 0)
  pub values : (row : ℕ) → IsLinked l h row → l.values ≡ true → at_word k (value_word_of l row) ≡ at_word h (value_word_of l row)
  -- a link word stays or is exchanged, and its shadow stays or is written back
  pub word : (x : LinkWord) → IsLinkAt l h x → (word_in l k x ≡ word_in l h x) ⊎ HasMoved l h k x
  pub shadow : (x : LinkWord) → IsLinkAt l h x → (shadow_in l k x ≡ shadow_in l h x) ⊎ WasWritten l h k x
  -- a linked row that becomes settled is in the map then
  pub joins : (row : ℕ) → IsLinked l h row → h.ghost row ≡ false → k.ghost row ≡ true →
      fin.get (content_of k) (key_in l k.words row) ≡ Some (row_value_in l k.words row)
  -- with values, a link word that becomes marked names who did it; nobody marks none
  pub named : (x : LinkWord) → IsLinkAt l h x → l.values ≡ true → is_marked (word_in l h x) ≡ false → is_marked (word_in l k x) ≡ true →
      who ≡ Some (by_of (word_in l k x))
