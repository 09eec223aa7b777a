-- What a search of a list or a hash table remembers, and what it has come upon.
use Rattle.std.specs.Prelude.{ℕ, Bool, Option, Some, None}
use Rattle.flit_words.specs.Words.{bare_of}
use Rattle.flit_list_heap.specs.Links.{LinkWord}

-- a link that was loaded, from this link word, as a raw word; and whether it is confirmed
pub record Loaded : Type 0 where
  pub word : LinkWord
  pub raw : ℕ
  pub sure : Bool

-- how far a search has come: the link behind which the key belongs, and the link that led to its row, where it isn't a head
pub record Walk : Type 0 where
  pub back : Option Loaded
  pub link : Loaded

abbrev pub loaded_pair : Loaded → LinkWord × ℕ
loaded_pair p = (p.word, bare_of p.raw)

abbrev pub pair_if : Option Loaded → Option (LinkWord × ℕ)
pair_if None = None
pair_if (Some p) = Some (loaded_pair p)

-- what the search has come upon, and confirms: a marked row, a row with the key, or a link that passes over the key; the
-- next link of the row is given
pub data Goal : Type 0 where
  Helps : Loaded → Goal
  Finds : Loaded → Goal
  Passes : Goal
