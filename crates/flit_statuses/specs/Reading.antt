-- What a command that reads leaves of its source, and what its source's count of faults says.
use Rattle.std.specs.Prelude.{◌≡◌, ◌≢◌, ℕ, List, [], drop, Option, Some}
use Rattle.flit_outside.specs.Outside.{Rose, LosesFront}
use Rattle.flit_statuses.specs.declared.status.Status.{Status}
use Rattle.flit_statuses.specs.declared.status.Status.TheVariants.{Done, Usage, BadTrace, Limit, BadImage, ReadFault, WriteFault, NoMemory}

-- what is left of the input: nothing, or where the input is past the limit on bytes, what stands behind the one byte that shows it;
-- where a read failed or there was no memory, some front is gone, and no more than that. At Usage nothing was read, which another clause says
abbrev pub LeavesInput : Status → Option (List ℕ) → List ℕ → Type 0
LeavesInput Done left input = left ≡ Some []
LeavesInput Usage left input = Unit {0}
LeavesInput (BadTrace line) left input = left ≡ Some []
LeavesInput (Limit line limit) left input = left ≡ Some (drop 268435457 input)
LeavesInput (BadImage fault) left input = left ≡ Some []
LeavesInput ReadFault left input = LosesFront 268435457 input left
LeavesInput WriteFault left input = left ≡ Some []
LeavesInput NoMemory left input = LosesFront 268435457 input left

-- the source's count of faults rose where the status is ReadFault, and else stayed
pub record CountsReads (status : Status) (before after : ℕ) : Type 0 where
  pub told : status ≡ ReadFault → Rose before after
  pub steady : status ≢ ReadFault → after ≡ before

-- the status says why there is nothing to write
abbrev pub StopsBefore : Status → Type 0
StopsBefore Done = ⊥
StopsBefore Usage = ⊥
StopsBefore (BadTrace line) = Unit {0}
StopsBefore (Limit line limit) = Unit {0}
StopsBefore (BadImage fault) = Unit {0}
StopsBefore ReadFault = Unit {0}
StopsBefore WriteFault = ⊥
StopsBefore NoMemory = Unit {0}
