-- What a command has written: at Done the whole of its output stands behind what the sink had taken before, at WriteFault
-- a proper front of it; and what its sink's count of faults says.
use Rattle.std.specs.Prelude.{◌≡◌, ◌≢◌, ℕ, ◌<◌, List, ◌++◌, length, take, Option, Some, IfSome}
use Rattle.flit_outside.specs.Outside.{Rose}
use Rattle.flit_statuses.specs.declared.status.Status.{Status}
use Rattle.flit_statuses.specs.declared.status.Status.TheVariants.{Done, Usage, BadTrace, Limit, BadImage, ReadFault, WriteFault, NoMemory}

pub record Wrote (IsOutput : List ℕ → Type 0) (before after : Option (List ℕ)) : Type 0 where
  pub text : List ℕ
  pub output : IsOutput text
  pub written : IfSome before (λ bytes. after ≡ Some (bytes ++ text))

pub record WroteFront (IsOutput : List ℕ → Type 0) (before after : Option (List ℕ)) : Type 0 where
  pub text : List ℕ
  pub output : IsOutput text
  pub written : IfSome before (λ bytes. (count : ℕ) × (count < length text) × (after ≡ Some (bytes ++ take count text)))

-- what was written by a command that ended so. That nothing was at other statuses is said by WritesNothing
abbrev pub WroteAt : Status → (List ℕ → Type 0) → Option (List ℕ) → Option (List ℕ) → Type 0
WroteAt Done IsOutput before after = Wrote IsOutput before after
WroteAt WriteFault IsOutput before after = WroteFront IsOutput before after
WroteAt Usage IsOutput before after = Unit {0}
WroteAt (BadTrace line) IsOutput before after = Unit {0}
WroteAt (Limit line limit) IsOutput before after = Unit {0}
WroteAt (BadImage fault) IsOutput before after = Unit {0}
WroteAt ReadFault IsOutput before after = Unit {0}
WroteAt NoMemory IsOutput before after = Unit {0}

-- the sink's count of faults rose where the status is WriteFault, and else stayed
pub record CountsWrites (status : Status) (before after : ℕ) : Type 0 where
  pub told : status ≡ WriteFault → Rose before after
  pub steady : status ≢ WriteFault → after ≡ before
