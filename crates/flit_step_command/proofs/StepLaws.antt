-- Words want one thing of `step`, and not `--detect` beside it.
use Rattle.std.proofs.Common.{◌≡◌, ◌≢◌, ℕ, List, Option, Some, None, refl, sym, ap, ◌∙◌, subst}
use Rattle.flit_commands.specs.declared.commands.Command.{Command}
use Rattle.flit_commands.specs.declared.commands.Command.TheVariants.{Step}
use Rattle.flit_commands.specs.declared.commands.StepOption.TheVariants.{Events as Events_option, Summary as Summary_option, Image as Image_option, Detect}
use Rattle.flit_commands.specs.CommandWords.{said_by}
use Rattle.flit_commands.proofs.CommandLaws.{no_two}
use Rattle.flit_statuses.specs.Answers.{WroteAnswer}
use Rattle.flit_statuses.specs.declared.status.Status.{Status}
use Rattle.flit_structures.specs.Texts.{IsTextOf}
use Rattle.flit_structures.specs.declared.runs.Wanted.{Wanted}
use Rattle.flit_structures.specs.declared.runs.Wanted.TheVariants.{Report, Events, Summary, Image}
use Rattle.flit_step_command.specs.Stepping.{option_for, words_for, WroteWanted}

abbrev wanted_of : Command → Wanted
wanted_of (Step None) = Report
wanted_of (Step (Some Events_option)) = Events
wanted_of (Step (Some Summary_option)) = Summary
wanted_of (Step (Some Image_option)) = Image
wanted_of other = Report

back : (wanted : Wanted) → wanted_of (Step (option_for wanted)) ≡ wanted
back Report = refl
back Events = refl
back Summary = refl
back Image = refl

one_wanted : (a b : Wanted) → words_for a ≡ words_for b → a ≡ b
one_wanted a b same = sym (back a) ∙ ap wanted_of (no_two (Step (option_for a)) (Step (option_for b)) tt tt same) ∙ back b

not_detect : (wanted : Wanted) → Step (option_for wanted) ≡ Step (Some Detect) → ⊥
not_detect Report e = cc
not_detect Events e = cc
not_detect Summary e = cc
not_detect Image e = cc

pub no_detect : (words : List (List ℕ)) (wanted : Wanted) → words ≡ words_for wanted → words ≢ said_by (Step (Some Detect))
no_detect words wanted is said = not_detect wanted (no_two (Step (option_for wanted)) (Step (Some Detect)) tt tt (sym is ∙ said))

pub wrote_wanted : (status : Status) (words : List (List ℕ)) (wanted : Wanted) (input before after : Option (List ℕ)) → words ≡ words_for wanted →
    WroteAnswer (λ bytes text. IsTextOf bytes wanted text) status input before after → WroteWanted status words input before after
wrote_wanted status words wanted input before after is wrote other said =
    subst (λ (w : Wanted). WroteAnswer (λ bytes text. IsTextOf bytes w text) status input before after) (one_wanted wanted other (sym is ∙ said)) wrote
