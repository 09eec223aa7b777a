-- The lists of words that a command line may have behind the program's name, and the command that each of them names.
use Rattle.std.specs.Prelude.{◌≢◌, ℕ, ◌≤◌, List, [], ◌∷◌, Some, None, codes}
use Rattle.std.specs.Fmt.{decimal}
use Rattle.flit_words.specs.declared.limits.TheConstants.{MOST_WORKERS}
use Rattle.flit_commands.specs.declared.commands.RunOption.{RunOption}
use Rattle.flit_commands.specs.declared.commands.RunOption.TheVariants.{Summary as Run_summary, Image as Run_image}
use Rattle.flit_commands.specs.declared.commands.StepOption.{StepOption}
use Rattle.flit_commands.specs.declared.commands.StepOption.TheVariants.{Events, Summary, Image, Detect}
use Rattle.flit_commands.specs.declared.commands.Making.{Making}
use Rattle.flit_commands.specs.declared.commands.Command.{Command}
use Rattle.flit_commands.specs.declared.commands.Command.TheVariants.{Run, Step, Recover, Make, Queue, Check}

-- the word of an option of `run`
abbrev pub run_option : RunOption → List ℕ
run_option Run_summary = codes "--summary"
run_option Run_image = codes "--image"

-- the word of an option of `step`
abbrev pub step_option : StepOption → List ℕ
step_option Events = codes "--events"
step_option Summary = codes "--summary"
step_option Image = codes "--image"
step_option Detect = codes "--detect"

-- the words of `make`: its name, and four numbers in decimal digits
abbrev pub make_words : Making → List (List ℕ)
make_words making = codes "make" ∷ decimal making.seed ∷ decimal making.calls ∷ decimal making.keys ∷ decimal making.workers ∷ []

-- the words that name a command
abbrev pub said_by : Command → List (List ℕ)
said_by (Run None) = codes "run" ∷ []
said_by (Run (Some option)) = codes "run" ∷ run_option option ∷ []
said_by (Step None) = codes "step" ∷ []
said_by (Step (Some option)) = codes "step" ∷ step_option option ∷ []
said_by Recover = codes "recover" ∷ []
said_by (Make making) = make_words making
said_by Queue = codes "queue" ∷ []
said_by Check = codes "check" ∷ []

-- what the numbers of `make` may be
pub record IsInRange (making : Making) : Type 0 where
  pub seed : making.seed ≤ 2147483647
  pub least_calls : 1 ≤ making.calls
  pub most_calls : making.calls ≤ 500000
  pub least_keys : 1 ≤ making.keys
  pub most_keys : making.keys ≤ 32768
  pub least_workers : 1 ≤ making.workers
  pub most_workers : making.workers ≤ MOST_WORKERS

-- the command is one that words can name: the numbers of `make` are in range
abbrev pub IsCommand : Command → Type 0
IsCommand (Run option) = Unit {0}
IsCommand (Step option) = Unit {0}
IsCommand Recover = Unit {0}
IsCommand (Make making) = IsInRange making
IsCommand Queue = Unit {0}
IsCommand Check = Unit {0}

-- the words are not those of `make` with numbers in their ranges
abbrev pub NamesNoMaking : List (List ℕ) → Type 0
NamesNoMaking words = (making : Making) → IsInRange making → words ≢ make_words making

-- the words name no command
abbrev pub NamesNoCommand : List (List ℕ) → Type 0
NamesNoCommand words = (command : Command) → IsCommand command → words ≢ said_by command
