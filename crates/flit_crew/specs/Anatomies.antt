-- An operation, as the crew looks at it: its machine, the rows that it has for itself, and how far its update is.
use Rattle.std.specs.Prelude.{ℕ, ◌&&◌, Bool, true, false, List, [], if◌then◌else◌}
use Rattle.flit_model.specs.declared.calls.Call.{Call}
use Rattle.flit_model.specs.declared.calls.Reply.{Reply}
use Rattle.flit_place.specs.Tags.{Place}
use Rattle.flit_pv.specs.declared.hands.Hand.{Hand}
use Rattle.flit_rows.specs.Shares.{rows_in}
use Rattle.flit_runs.specs.Workings.{Working, Idles, Evicts}
use Rattle.flit_structure.specs.declared.workers.Doing.{Doing}
use Rattle.flit_structure.specs.declared.workers.Doing.TheVariants.{Idle, Busy, Evicting}
use Rattle.flit_structure.specs.Lawful.{is_insert}
use Rattle.flit_crew.specs.Fillings.{Filling}
use Rattle.flit_crew.specs.Machines.{Machine, machine_takes, working_in, hand_in, hand_of, has_ended, Deed, Fresh, Made, deed_of, has_linked}

pub record Anatomy (Op : Type 0) : Type 0 where
  pub call : Op → Call
  pub reply : Op → Reply
  -- the machine that it is in, with the operation's hand; and the operation with that machine further on
  pub machine : Op → Machine
  pub with_machine : Op → Machine → Op
  -- a call begins; and it goes on where its machine has ended so
  pub begun : Hand → Call → Op
  pub resumed : Op → Machine → Op
  -- its exchange, once won, is what the call does to the map; and it is behind that exchange
  pub effects : Op → Bool
  pub past : Op → Bool
  -- what its PrivateStore fills, where it is in one
  pub storing : Op → Filling

module _ {Op : Type 0} (A : Anatomy Op) where
  -- the operation after its event: with its machine further on, or, where that has ended, at its next one
  abbrev pub gone_by : Bool → Op → Machine → Op
  gone_by ended op m = if ended then A.resumed op m else A.with_machine op m

  abbrev pub gone_on : Place → Op → Machine → Op
  gone_on p op m = gone_by (has_ended p m) op m

  abbrev pub op_taken : Place → List ℕ → Op → ℕ → Op
  op_taken p free op told = gone_on p op (machine_takes p free (A.machine op) told)

  abbrev pub rows_but : Bool → List ℕ → List ℕ
  rows_but linked spare = if linked then [] else rows_in spare

  -- the rows that it has for itself
  abbrev pub own : Op → List ℕ
  own op = rows_but (A.effects op && (is_insert (A.call op) && has_linked (deed_of (A.machine op)))) (hand_in (A.machine op)).spare

  -- how far its update is
  abbrev pub deed_by : Bool → Bool → Deed → Deed
  deed_by true past deed = deed
  deed_by false true deed = Made
  deed_by false false deed = Fresh

  abbrev pub deed : Op → Deed
  deed op = deed_by (A.effects op) (A.past op) (deed_of (A.machine op))

  abbrev pub own_in : Doing Op → List ℕ
  own_in (Idle hand) = rows_in hand.spare
  own_in (Busy op call begun) = own op
  own_in (Evicting evict) = rows_in evict.hand.spare

  abbrev pub doing_working : Doing Op → Working
  doing_working (Idle hand) = Idles hand
  doing_working (Busy op call begun) = working_in (A.machine op)
  doing_working (Evicting evict) = Evicts evict

  -- the hand of a worker
  abbrev pub hand_at : Doing Op → Hand
  hand_at d = hand_of (doing_working d)
