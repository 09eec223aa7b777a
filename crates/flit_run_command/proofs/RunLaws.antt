-- Words want one thing of `run`.
use Rattle.std.proofs.Common.{◌≡◌, ℕ, List, Option, Some, refl, sym, ap, ◌∙◌, subst}
use Rattle.flit_commands.specs.declared.commands.RunOption.TheVariants.{Summary as Summary_option, Image as Image_option}
use Rattle.flit_commands.specs.declared.commands.Command.{Command}
use Rattle.flit_commands.specs.declared.commands.Command.TheVariants.{Run}
use Rattle.flit_commands.proofs.CommandLaws.{no_two}
use Rattle.flit_table.specs.declared.told.Told.{Told}
use Rattle.flit_statuses.specs.Answers.{WroteAnswer}
use Rattle.flit_statuses.specs.declared.status.Status.{Status}
use Rattle.flit_run_structures.specs.declared.runs.Wanted.{Wanted}
use Rattle.flit_run_structures.specs.declared.runs.Wanted.TheVariants.{Report, Summary, Image}
use Rattle.flit_run_command.specs.Running.{option_for, words_for, IsAnswerWith}

abbrev wanted_of : Command → Wanted
wanted_of (Run (Some Summary_option)) = Summary
wanted_of (Run (Some Image_option)) = Image
wanted_of other = Report

back : (wanted : Wanted) → wanted_of (Run (option_for wanted)) ≡ wanted
back Report = refl
back Summary = refl
back Image = refl

one_wanted : (a b : Wanted) → words_for a ≡ words_for b → a ≡ b
one_wanted a b same = sym (back a) ∙ ap wanted_of (no_two (Run (option_for a)) (Run (option_for b)) tt tt same) ∙ back b

pub wrote_wanted : (status : Status) (words : List (List ℕ)) (wanted : Wanted) (told : Option Told) (input before after : Option (List ℕ)) →
    words ≡ words_for wanted → WroteAnswer (IsAnswerWith wanted told) status input before after →
    (other : Wanted) → words ≡ words_for other → WroteAnswer (IsAnswerWith other told) status input before after
wrote_wanted status words wanted told input before after is wrote other said =
    subst (λ (w : Wanted). WroteAnswer (IsAnswerWith w told) status input before after) (one_wanted wanted other (sym is ∙ said)) wrote
