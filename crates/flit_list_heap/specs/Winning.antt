-- What an exchange of a link word needs, in words of the heap alone.
use Rattle.std.specs.Prelude.{◌≡◌, ℕ, ◌+◌, ◌<◌, ◌≤◌, true, false, ◌⊎◌, List, ◌∷◌, [], if◌then◌else◌}
use Rattle.flit_words.specs.declared.layouts.Layout.{Layout}
use Rattle.flit_words.specs.declared.limits.TheConstants.{GREATEST_KEY, MOST_WORKERS}
use Rattle.flit_words.specs.Layouts.{head_of_key}
use Rattle.flit_words.specs.Words.{is_tagged, version_of}
use Rattle.flit_model.specs.Lists.{key_in, row_value_in, next_word}
use Rattle.flit_model.specs.declared.calls.Call.TheVariants.{Insert, Remove}
use Rattle.flit_model.specs.declared.calls.Reply.TheVariants.{Yes}
use Rattle.flit_model.specs.declared.calls.Entry.{Entry}
use Rattle.flit_crew.specs.Heaps.{at_word, AreResting}
use Rattle.flit_list_heap.specs.Links.{LinkWord, Next, low, bucket_of, link_held, row_of, is_marked}
use Rattle.flit_list_heap.specs.Chained.{IsRooted}
use Rattle.flit_list_heap.specs.Moves.{plain_link, marked_link}
use Rattle.flit_list_heap.specs.Keeping.{ListHeap, IsLinkAt, rows_at, word_in, shadow_in}

-- a link word holds this, persistent and unmarked, and is a head or the next word of a settled row; its new word is the
-- next version
pub record MayChange (l : Layout) (h : ListHeap) (y : LinkWord) (from to : ℕ) : Type 0 where
  pub link : IsLinkAt l h y
  pub word : word_in l h y ≡ from
  pub shadow : shadow_in l h y ≡ from
  pub unmarked : is_marked from ≡ false
  pub rooted : IsRooted h.ghost y
  pub bare : is_tagged to ≡ false
  pub next : version_of to ≡ version_of from + 1

-- the new word has the mark, and with values the remover's name: the row is removed
pub record MayMark (l : Layout) (h : ListHeap) (row from to : ℕ) (update : Entry) : Type 0 where
  pub change : MayChange l h (Next row) from to
  pub call : update.call ≡ Remove (key_in l h.words row)
  pub reply : update.reply ≡ Yes
  pub name : update.worker ≤ MOST_WORKERS
  pub link : link_held to ≡ marked_link (row_of from) (if l.values then update.worker else 0)

-- the new word leads past a row whose mark is persistent
pub record MayUnlink (l : Layout) (h : ListHeap) (y : LinkWord) (from to : ℕ) : Type 0 where
  pub change : MayChange l h y from to
  pub some : 1 ≤ row_of from
  pub marked : is_marked (shadow_in l h (Next (row_of from))) ≡ true
  pub link : link_held to ≡ plain_link (row_of (shadow_in l h (Next (row_of from))))

-- the new word leads to a row of the pool that is at rest and not linked; its key is behind the word and before the row
-- that the word led to, and it leads on to that row
pub record MayLink (l : Layout) (free : List ℕ) (h : ListHeap) (y : LinkWord) (from to row : ℕ) (update : Entry) : Type 0 where
  pub change : MayChange l h y from to
  pub rests : AreResting l free h (row ∷ [])
  pub call : update.call ≡ Insert (key_in l h.words row) (row_value_in l h.words row)
  pub reply : update.reply ≡ Yes
  pub small : key_in l h.words row ≤ GREATEST_KEY
  pub above : low (rows_at l h) y ≤ key_in l h.words row
  pub bucket : head_of_key l (key_in l h.words row) ≡ bucket_of (rows_at l h) y
  pub below : (row_of from ≡ 0) ⊎ (key_in l h.words row < key_in l h.words (row_of from))
  pub behind : link_held (at_word h (next_word l row)) ≡ plain_link (row_of from)
  pub link : link_held to ≡ plain_link row
