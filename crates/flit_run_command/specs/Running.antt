-- What the command `run` answers to the bytes of its source, and the words that name it.
use Rattle.std.specs.Prelude.{◌≡◌, ◌≢◌, ℕ, List, Option, Some, None, IsSomeAnd}
use Rattle.flit_commands.specs.declared.commands.RunOption.{RunOption}
use Rattle.flit_commands.specs.declared.commands.RunOption.TheVariants.{Summary as Summary_option, Image as Image_option}
use Rattle.flit_commands.specs.declared.commands.Command.TheVariants.{Run}
use Rattle.flit_commands.specs.CommandWords.{said_by}
use Rattle.flit_table.specs.declared.told.Told.{Told}
use Rattle.flit_table.specs.Closing.{told_by}
use Rattle.flit_statuses.specs.Answers.{WroteAnswer}
use Rattle.flit_run_structures.specs.Texts.{IsTextOfRun}
use Rattle.flit_run_structures.specs.declared.runs.Wanted.{Wanted}
use Rattle.flit_run_structures.specs.declared.runs.Wanted.TheVariants.{Report, Summary, Image}
use Rattle.flit_run_command.specs.declared.run.Ended.{Ended}

-- the option that wants this of `run`, and its words
abbrev pub option_for : Wanted → Option RunOption
option_for Report = None
option_for Summary = Some Summary_option
option_for Image = Some Image_option

abbrev pub words_for : Wanted → List (List ℕ)
words_for wanted = said_by (Run (option_for wanted))

-- the words are not those of `run`
abbrev pub NamesNoRun : List (List ℕ) → Type 0
NamesNoRun words = (wanted : Wanted) → words ≢ words_for wanted

-- the text is what is wanted of a run of the trace that the bytes are, and this was told of the same run
abbrev pub IsTextWithTold : Wanted → List ℕ → Told → List ℕ → Type 0
IsTextWithTold wanted bytes told text = IsTextOfRun bytes wanted (told_by told) text

-- the same where something was told
abbrev pub IsAnswerWith : Wanted → Option Told → List ℕ → List ℕ → Type 0
IsAnswerWith wanted told bytes text = IsSomeAnd told (λ one. IsTextWithTold wanted bytes one text)

-- what the words want of a run of the input was written, the whole of it at Done and a proper front of it at WriteFault; and what
-- is told is told of the run that the text is of
abbrev pub WroteRun : Ended → List (List ℕ) → Option (List ℕ) → Option (List ℕ) → Option (List ℕ) → Type 0
WroteRun ended words input before after =
    (wanted : Wanted) → words ≡ words_for wanted → WroteAnswer (IsAnswerWith wanted ended.told) ended.status input before after
