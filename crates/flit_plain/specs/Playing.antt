-- Calls that one worker makes in turn, with their replies.
use Rattle.std.specs.Prelude.{◌≡◌, ℕ, suc, List, [], ◌∷◌}
use Rattle.std.specs.Ordering.{nat_cmp}
use Rattle.std.specs.BTreeMap.{BTreeMap, get}
use Rattle.std.specs.FinMap as map
use Rattle.flit_model.specs.Maps.{Map}
use Rattle.flit_model.specs.declared.calls.Call.{Call}
use Rattle.flit_model.specs.declared.calls.Reply.{Reply}
use Rattle.flit_model.specs.declared.calls.Entry.{Entry}

-- the entries of worker 1's calls, of which the first has this number
abbrev pub entries_from : ℕ → List Call → List Reply → List Entry
entries_from n [] replies = []
entries_from n (c ∷ calls) [] = []
entries_from n (c ∷ calls) (r ∷ replies) = record { worker = 1; number = n; call = c; reply = r } ∷ entries_from (suc n) calls replies

abbrev pub entries_of : List Call → List Reply → List Entry
entries_of calls replies = entries_from 1 calls replies

-- a tree map has what a map has at each key
abbrev pub HasSame : Map → BTreeMap ℕ ℕ → Type 0
HasSame m tree = (key : ℕ) → get nat_cmp tree key ≡ map.get m key
