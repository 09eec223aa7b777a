-- One worker's operation, alone on a machine: it is under way at a moment that holds, and has begun so many calls.
use Rattle.std.specs.Prelude.{◌≡◌, ℕ, true, false, [], ◌∷◌, Option, Some, IsSome}
use Rattle.flit_words.specs.declared.limits.TheConstants.{GREATEST_VERSION}
use Rattle.flit_words.specs.declared.layouts.Layout.{Layout}
use Rattle.flit_words.specs.declared.layouts.Kind.TheVariants.{List as List_kind}
use Rattle.flit_model.specs.States.{State, state_from}
use Rattle.flit_model.specs.declared.calls.Call.{Call}
use Rattle.flit_model.specs.declared.found.Recovered.{Recovered}
use Rattle.flit_place.specs.Tags.{Place}
use Rattle.flit_hashed.specs.Slots.{slot_in_table}
use Rattle.flit_hashed.specs.declared.Hashed.{Hashed}
use Rattle.flit_structure.specs.Moments.{Moment, Opening, with_workers, busy}
use Rattle.flit_structure.specs.Meanings.{Meaning, replied}
use Rattle.flit_one_key.specs.Operations.{HeldOp}
use Rattle.flit_one_key_laws.specs.OneKey.{one_key}
use Rattle.flit_sample.specs.declared.samples.Sample.{Sample}
use Rattle.flit_sched.specs.Openings.{opening_at, IsBookOf}
use Rattle.flit_speed.specs.declared.benches.Bench.{Bench}

pub record IsAlone {Op : Type 0} (meaning : Meaning Op) (calls : ℕ) (m : State) (op : Op) : Type 0 where
  pub moment : Moment Op
  pub call : Call
  pub begun : Option ℕ
  pub state : moment.state ≡ m
  pub holds : meaning.holds (with_workers moment (busy 1 calls op call begun ∷ []))

-- it has its reply
abbrev pub HasReply : {Op : Type 0} → Meaning Op → Op → Type 0
HasReply meaning op = IsSome (replied meaning op)

-- a machine stands where the structure may be opened
abbrev pub MayOpen : {Op : Type 0} → Meaning Op → State → Type 0
MayOpen meaning m = (o : Opening) × meaning.opens o × (m ≡ state_from meaning.layout o.words)

-- the layout that is measured: a list of one row without values, for one worker
abbrev pub one_row : Layout
one_row = record { kind = List_kind; buckets = 1; rows = 1; slots = 8; workers = 1; limit = GREATEST_VERSION; values = false }

-- and the sample that is measured in it
abbrev pub hashed : ℕ → Place
hashed slots = record { counted = true; slot = λ word. Some (slot_in_table slots word) }

abbrev pub measured : Sample Hashed → Meaning HeldOp
measured s = one_key s.layout (hashed s.place.slots) s.pool

-- it is ready for its next call
pub record IsReady (b : Bench (Sample Hashed) HeldOp) : Type 0 where
  pub layout : b.structure.layout ≡ one_row
  pub alone : IsAlone (measured b.structure) b.calls b.machine b.op
  pub reply : HasReply (measured b.structure) b.op

-- the sample may be opened at what recovery found
pub record IsStart (s : Sample Hashed) (start : Recovered) : Type 0 where
  pub layout : s.layout ≡ one_row
  pub opens : (measured s).opens (opening_at start)
  pub book : IsBookOf start
