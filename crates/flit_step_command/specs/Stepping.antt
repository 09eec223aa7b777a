-- What the words of the command `step` want of the trace that its source has, and what is written.
use Rattle.std.specs.Prelude.{◌≡◌, ◌≢◌, ℕ, List, Option, Some, None}
use Rattle.flit_commands.specs.declared.commands.StepOption.{StepOption}
use Rattle.flit_commands.specs.declared.commands.StepOption.TheVariants.{Events as Events_option, Summary as Summary_option, Image as Image_option}
use Rattle.flit_commands.specs.declared.commands.Command.TheVariants.{Step}
use Rattle.flit_commands.specs.CommandWords.{said_by}
use Rattle.flit_statuses.specs.Answers.{WroteAnswer}
use Rattle.flit_statuses.specs.declared.status.Status.{Status}
use Rattle.flit_structures.specs.Texts.{IsTextOf}
use Rattle.flit_structures.specs.declared.runs.Wanted.{Wanted}
use Rattle.flit_structures.specs.declared.runs.Wanted.TheVariants.{Report, Events, Summary, Image}

-- the option that wants this of `step`, and its words; the option `--detect` isn't there yet
abbrev pub option_for : Wanted → Option StepOption
option_for Report = None
option_for Events = Some Events_option
option_for Summary = Some Summary_option
option_for Image = Some Image_option

abbrev pub words_for : Wanted → List (List ℕ)
words_for wanted = said_by (Step (option_for wanted))

-- the words want nothing of `step` that is there
abbrev pub NamesNoStep : List (List ℕ) → Type 0
NamesNoStep words = (wanted : Wanted) → words ≢ words_for wanted

-- what the words want of the input was written: the whole of it at Done, a proper front of it at WriteFault
abbrev pub WroteWanted : Status → List (List ℕ) → Option (List ℕ) → Option (List ℕ) → Option (List ℕ) → Type 0
WroteWanted status words input before after =
    (wanted : Wanted) → words ≡ words_for wanted → WroteAnswer (λ bytes text. IsTextOf bytes wanted text) status input before after
