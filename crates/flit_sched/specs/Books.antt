-- What a call does to the one key that it names.
use Rattle.std.specs.Prelude.{ℕ, Option, Some, None}
use Rattle.flit_model.specs.declared.calls.Call.{Call}
use Rattle.flit_model.specs.declared.calls.Call.TheVariants.{Insert, Remove, Contains, Get}
use Rattle.flit_model.specs.declared.calls.Reply.{Reply}
use Rattle.flit_model.specs.declared.calls.Reply.TheVariants.{Yes, No}
use Rattle.flit_model.specs.Maps.{found_or_no}

-- what the map has at the call's key after the call, where it had this before
abbrev pub value_after : Call → Option ℕ → Option ℕ
value_after (Insert k v) None = Some v
value_after (Insert k v) (Some w) = Some w
value_after (Remove k) o = None
value_after (Contains k) o = o
value_after (Get k) o = o

abbrev pub yes_if_some : Option ℕ → Reply
yes_if_some None = No
yes_if_some (Some v) = Yes

abbrev pub yes_if_none : Option ℕ → Reply
yes_if_none None = Yes
yes_if_none (Some v) = No

-- what the map answers, where it has this at the call's key
abbrev pub reply_at : Call → Option ℕ → Reply
reply_at (Insert k v) o = yes_if_none o
reply_at (Remove k) o = yes_if_some o
reply_at (Contains k) o = yes_if_some o
reply_at (Get k) o = found_or_no o
