-- The commands that are built, and what the call of each of them gives.
use Rattle.std.specs.Prelude.{◌≡◌, ◌≢◌, ◌↔◌, ℕ, List, Option, Some, None, IfSome, IsNone}
use Rattle.flit_commands.specs.declared.commands.RunOption.{RunOption}
use Rattle.flit_commands.specs.declared.commands.StepOption.TheVariants.{Detect}
use Rattle.flit_commands.specs.declared.commands.Command.{Command}
use Rattle.flit_commands.specs.declared.commands.Command.TheVariants.{Run, Step, Recover, Make, Queue, Check}
use Rattle.flit_commands.specs.CommandWords.{said_by, IsCommand}
use Rattle.flit_statuses.specs.declared.status.Status.{Status}
use Rattle.flit_statuses.specs.declared.status.Status.TheVariants.{Usage}
use Rattle.flit_statuses.specs.Reading.{LeavesInput}
use Rattle.flit_statuses.specs.Statuses.{WritesNothing}
use Rattle.flit_statuses.specs.Answers.{Blames, WroteAnswer}
use Rattle.flit_structures.specs.Refusals.{HasNoReport}
use Rattle.flit_step_command.specs.Stepping.{WroteWanted}
use Rattle.flit_run_command.specs.declared.run.Ended.{Ended}
use Rattle.flit_run_command.specs.Running.{WroteRun}
use Rattle.flit_recover_command.specs.Recovering.{IsRecoveryOf, HasNoImage}
use Rattle.flit_make_command.specs.Making.{WroteMade, EndsMake}

-- the commands that are built; the others are answered Usage
abbrev pub IsBuilt : Command → Type 0
IsBuilt (Step (Some Detect)) = ⊥
IsBuilt (Step option) = Unit {0}
IsBuilt Recover = Unit {0}
IsBuilt (Make making) = Unit {0}
IsBuilt (Run option) = Unit {0}
IsBuilt Queue = ⊥
IsBuilt Check = ⊥

-- the words name no command that is built
abbrev pub NamesNoneBuilt : List (List ℕ) → Type 0
NamesNoneBuilt words = (command : Command) → IsCommand command → IsBuilt command → words ≢ said_by command

-- the commands that read their input
abbrev pub Reads : Command → Type 0
Reads (Step (Some Detect)) = ⊥
Reads (Step option) = Unit {0}
Reads Recover = Unit {0}
Reads (Make making) = ⊥
Reads (Run option) = Unit {0}
Reads Queue = ⊥
Reads Check = ⊥

-- the words name no command that reads its input
abbrev pub NamesNoReader : List (List ℕ) → Type 0
NamesNoReader words = (command : Command) → IsCommand command → Reads command → words ≢ said_by command

-- the words are those of `run`
abbrev pub NamesRun : List (List ℕ) → Type 0
NamesRun words = (option : Option RunOption) × (words ≡ said_by (Run option))

-- this holds of the command that the words name, if they name one
abbrev pub OfNamed : List (List ℕ) → (Command → Type 0) → Type 0
OfNamed words P = (command : Command) → IsCommand command → words ≡ said_by command → P command

-- what the status of a command says of the input
abbrev pub BlamesFor : Status → Option (List ℕ) → Command → Type 0
BlamesFor status input (Step option) = Blames HasNoReport status input
BlamesFor status input Recover = Blames HasNoImage status input
BlamesFor status input (Make making) = EndsMake status
BlamesFor status input (Run option) = Blames HasNoReport status input
BlamesFor status input Queue = status ≡ Usage
BlamesFor status input Check = status ≡ Usage

-- what a command leaves of the input
abbrev pub LeavesFor : Status → Option (List ℕ) → Option (List ℕ) → Command → Type 0
LeavesFor status before after (Step option) = IfSome before (LeavesInput status after)
LeavesFor status before after Recover = IfSome before (LeavesInput status after)
LeavesFor status before after (Make making) = after ≡ before
LeavesFor status before after (Run option) = IfSome before (LeavesInput status after)
LeavesFor status before after Queue = after ≡ before
LeavesFor status before after Check = after ≡ before

-- what a command with these words has written: what the words want of the input, its recovery, or the trace that is made of the
-- words; and of `run` what the words want of a run of the input, of which this is told
abbrev pub WroteFor : Ended → List (List ℕ) → Option (List ℕ) → Option (List ℕ) → Option (List ℕ) → Command → Type 0
WroteFor ended words input before after (Step option) = WroteWanted ended.status words input before after
WroteFor ended words input before after Recover = WroteAnswer IsRecoveryOf ended.status input before after
WroteFor ended words input before after (Make making) = WroteMade ended.status words before after
WroteFor ended words input before after (Run option) = WroteRun ended words input before after
WroteFor ended words input before after Queue = after ≡ before
WroteFor ended words input before after Check = after ≡ before

-- a run alone is told of, and exactly where its text was written, the whole of it or a front
abbrev pub TellsFor : Ended → Command → Type 0
TellsFor ended (Step option) = ended.told ≡ None
TellsFor ended Recover = ended.told ≡ None
TellsFor ended (Make making) = ended.told ≡ None
TellsFor ended (Run option) = IsNone ended.told ↔ WritesNothing ended.status
TellsFor ended Queue = ended.told ≡ None
TellsFor ended Check = ended.told ≡ None
