-- What holds of the command that was found holds of the command that the words name, since no words name two.
use Rattle.std.proofs.Common.{◌≡◌, ℕ, true, false, List, Option, Some, None, ◌↔◌, refl, sym, ap, ◌∙◌, subst}
use Rattle.std.specs.Option.{IsSome, IsNone, is_some}
use Rattle.flit_commands.specs.declared.commands.Command.{Command}
use Rattle.flit_commands.specs.declared.commands.StepOption.{StepOption}
use Rattle.flit_commands.specs.declared.commands.StepOption.TheVariants.{Events, Summary as Step_summary_option, Image as Step_image_option, Detect}
use Rattle.flit_commands.specs.declared.commands.RunOption.{RunOption}
use Rattle.flit_commands.specs.declared.commands.RunOption.TheVariants.{Summary as Summary_option, Image as Image_option}
use Rattle.flit_commands.specs.declared.commands.Command.TheVariants.{Run, Step, Recover, Make, Queue, Check}
use Rattle.flit_commands.specs.declared.commands.Making.{Making}
use Rattle.flit_commands.specs.CommandWords.{said_by, IsCommand, NamesNoCommand, NamesNoMaking}
use Rattle.flit_commands.proofs.CommandLaws.{no_two}
use Rattle.flit_statuses.specs.Statuses.{WritesNothing}
use Rattle.flit_statuses.specs.declared.status.Status.{Status}
use Rattle.flit_structures.specs.declared.runs.Wanted.{Wanted as Step_wanted}
use Rattle.flit_structures.specs.declared.runs.Wanted.TheVariants.{Report as Step_report, Events as Step_events, Summary as Step_summary, Image as Step_image}
use Rattle.flit_step_command.specs.Stepping.{words_for as step_words, NamesNoStep}
use Rattle.flit_run_structures.specs.declared.runs.Wanted.{Wanted}
use Rattle.flit_run_structures.specs.declared.runs.Wanted.TheVariants.{Report, Summary, Image}
use Rattle.flit_run_command.specs.declared.run.Ended.{Ended}
use Rattle.flit_run_command.specs.Running.{words_for, NamesNoRun}
use Rattle.flit_cli.specs.Dispatch.{IsBuilt, NamesNoneBuilt, Reads, NamesRun, OfNamed, TellsFor}

pub of_found : (words : List (List ℕ)) (P : Command → Type 0) (found : Command) → IsCommand found → words ≡ said_by found → P found → OfNamed words P
of_found words P found is said p other other_is other_said = subst P (no_two found other is other_is (sym said ∙ other_said)) p

pub of_none : (words : List (List ℕ)) (P : Command → Type 0) → NamesNoCommand words → OfNamed words P
of_none words P none command is said = absurd (none command is said)

-- Usage comes where the command that was found isn't built, and so where the words name none that is
pub usage_found : (Told : Type 0) (words : List (List ℕ)) (found : Command) → IsCommand found → words ≡ said_by found →
    (Told ↔ (¬ IsBuilt found)) → Told ↔ NamesNoneBuilt words
usage_found Told words found is said usage = (
  λ told other other_is built other_said. usage.0 told (subst IsBuilt (sym (no_two found other is other_is (sym said ∙ other_said))) built),
  λ none. usage.1 (λ built. none found is built said),
)

-- `make` is built, so its call answers no Usage to its own words
pub usage_make : (Told : Type 0) (words : List (List ℕ)) (command : Command) (making : Making) → command ≡ Make making → IsCommand command →
    words ≡ said_by command → (Told ↔ NamesNoMaking words) → Told ↔ (¬ IsBuilt command)
usage_make Told words command making is can said usage = (
  λ told built. usage.0 told making (subst IsCommand is can) (said ∙ ap said_by is),
  λ unbuilt. absurd (unbuilt (subst IsBuilt (sym is) tt)),
)

-- each option of `step` wants something, but `--detect`, to which its call answers Usage and reads nothing
pub usage_step : (Told : Type 0) (words : List (List ℕ)) (command : Command) (option : Option StepOption) → command ≡ Step option →
    words ≡ said_by command → (Told ↔ NamesNoStep words) → (words ≡ said_by (Step (Some Detect)) → Told) → Told ↔ (¬ IsBuilt command)
usage_step Told words command option is said usage detect =
    subst (λ (c : Command). Told ↔ (¬ IsBuilt c)) (sym is) (by_option option (said ∙ ap said_by is))
  where
    wants : (wanted : Step_wanted) → words ≡ step_words wanted → Told → ⊥
    wants wanted named told = usage.0 told wanted named

    by_option : (option : Option StepOption) → words ≡ said_by (Step option) → Told ↔ (¬ IsBuilt (Step option))
    by_option None named = (λ told built. wants Step_report named told, λ unbuilt. absurd (unbuilt tt))
    by_option (Some Events) named = (λ told built. wants Step_events named told, λ unbuilt. absurd (unbuilt tt))
    by_option (Some Step_summary_option) named = (λ told built. wants Step_summary named told, λ unbuilt. absurd (unbuilt tt))
    by_option (Some Step_image_option) named = (λ told built. wants Step_image named told, λ unbuilt. absurd (unbuilt tt))
    by_option (Some Detect) named = (λ told built. built, λ unbuilt. detect named)

pub unread_step : (Told Same : Type 0) (words : List (List ℕ)) (command : Command) (option : Option StepOption) → command ≡ Step option →
    words ≡ said_by command → (words ≡ said_by (Step (Some Detect)) → Told) → (Told → Same) → (¬ Reads command) → Same
unread_step Told Same words command option is said detect unread not =
    by_option option (said ∙ ap said_by is) (subst (λ (c : Command). ¬ Reads c) is not)
  where
    by_option : (option : Option StepOption) → words ≡ said_by (Step option) → (¬ Reads (Step option)) → Same
    by_option None named closed = absurd (closed tt)
    by_option (Some Events) named closed = absurd (closed tt)
    by_option (Some Step_summary_option) named closed = absurd (closed tt)
    by_option (Some Step_image_option) named closed = absurd (closed tt)
    by_option (Some Detect) named closed = unread (detect named)

-- each option of `run` wants something, so its call answers no Usage to its own words
run_words : (option : Option RunOption) → (wanted : Wanted) × (said_by (Run option) ≡ words_for wanted)
run_words None = (Report, refl)
run_words (Some Summary_option) = (Summary, refl)
run_words (Some Image_option) = (Image, refl)

pub usage_run : (Told : Type 0) (words : List (List ℕ)) (command : Command) (option : Option RunOption) → command ≡ Run option → words ≡ said_by command →
    (Told ↔ NamesNoRun words) → Told ↔ (¬ IsBuilt command)
usage_run Told words command option is said usage =
    let wants = run_words option in (
      λ told built. usage.0 told wants.0 (said ∙ ap said_by is ∙ wants.1),
      λ unbuilt. absurd (unbuilt (subst IsBuilt (sym is) tt)),
    )

-- ---- what is told of a run

some_of : {A : Type 0} (P : Type 0) (told : Option A) → (IsNone told ↔ P) → (¬ P) → IsSome told
some_of P None is not = absurd (not (is.0 refl))
some_of P (Some x) is not = refl

none_of : {A : Type 0} (P : Type 0) (told : Option A) → (IsNone told ↔ P) → IsSome told → ¬ P
none_of P None is some p = absurd cc
none_of P (Some x) is some p = absurd (let h : true ≡ false = is.1 p in cc)

not_told : {A : Type 0} (Q : Type 0) (told : Option A) → told ≡ None → IsSome told → Q
not_told Q told none some = absurd (let h : is_some told ≡ true = some in let e : is_some told ≡ false = ap is_some none in cc)

-- a run is told of where the command that was found is `run` and its text was written; and else nothing is
pub told_found : (ended : Ended) (words : List (List ℕ)) (found : Command) → IsCommand found → words ≡ said_by found → TellsFor ended found →
    IsSome ended.told ↔ (NamesRun words × (¬ WritesNothing ended.status))
told_found ended words found is said tells = (forth found said tells, back)
  where
    forth : (found : Command) → words ≡ said_by found → TellsFor ended found → IsSome ended.told → NamesRun words × (¬ WritesNothing ended.status)
    forth (Run option) said tells some = ((option, said), none_of (WritesNothing ended.status) ended.told tells some)
    forth (Step option) said tells some = not_told _ ended.told tells some
    forth Recover said tells some = not_told _ ended.told tells some
    forth (Make making) said tells some = not_told _ ended.told tells some
    forth Queue said tells some = not_told _ ended.told tells some
    forth Check said tells some = not_told _ ended.told tells some

    back : NamesRun words × (¬ WritesNothing ended.status) → IsSome ended.told
    back ((option, named), not) =
        some_of (WritesNothing ended.status) ended.told (subst (TellsFor ended) (no_two found (Run option) is tt (sym said ∙ named)) tells) not

pub told_none : (ended : Ended) (words : List (List ℕ)) → NamesNoCommand words → ended.told ≡ None →
    IsSome ended.told ↔ (NamesRun words × (¬ WritesNothing ended.status))
told_none ended words none silent = (not_told _ ended.told silent, λ r. absurd (none (Run r.0.0) tt r.0.1))
