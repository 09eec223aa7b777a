-- When a worker may begin its next item, and what is noted of a call that it begins.
use Rattle.std.specs.Prelude.{◌≡◌, ℕ, ◌<◌, List, Option, Some, None, map}
use Rattle.std.specs.List.{Contains}
use Rattle.std.specs.FinMap as map_of
use Rattle.flit_model.specs.Maps.{Map}
use Rattle.flit_model.specs.declared.calls.Call.{Call}
use Rattle.flit_model.specs.declared.calls.Item.{Item}
use Rattle.flit_model.specs.declared.calls.Item.TheVariants.{Call as Call_item, Evict as Evict_item}
use Rattle.flit_pv.specs.declared.hands.Hand.{Hand}
use Rattle.flit_structure.specs.declared.workers.Doing.{Doing}
use Rattle.flit_structure.specs.declared.workers.Doing.TheVariants.{Idle, Busy, Evicting}
use Rattle.flit_structure.specs.declared.workers.Worker.{Worker}
use Rattle.flit_structure.specs.Meanings.{Meaning, MayStart, key_of}

-- a worker that is idle may begin its next item
abbrev pub MayBegin : {Op : Type 0} → Meaning Op → List ℕ → Worker Op → Option Item → Type 0
MayBegin {Op} meaning keys u item = (hand : Hand) (call : Call) → u.doing ≡ Idle hand → item ≡ Some (Call_item call) →
    MayStart meaning.layout hand call × (u.number < 4294967295) × Contains keys (key_of call)

-- what the map has at the key of a call that begins is noted
abbrev pub IsNotedOf : List ℕ → List (Option ℕ) → Option Item → Option ℕ → Option ℕ → Type 0
IsNotedOf keys values None was noted = noted ≡ was
IsNotedOf keys values (Some (Call_item call)) was noted = (now : Map) → map (λ k. map_of.get now k) keys ≡ values → noted ≡ map_of.get now (key_of call)
IsNotedOf keys values (Some (Evict_item word)) was noted = noted ≡ was

abbrev pub IsNoted : {Op : Type 0} → List ℕ → List (Option ℕ) → Doing Op → Option Item → Option ℕ → Option ℕ → Type 0
IsNoted keys values (Idle hand) item was noted = IsNotedOf keys values item was noted
IsNoted keys values (Busy op call begun) item was noted = noted ≡ was
IsNoted keys values (Evicting evict) item was noted = noted ≡ was
