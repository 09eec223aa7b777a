-- A run that is opened with the works of a trace, and played.
use Rattle.std.proofs.Common.{◌≡◌, ℕ, suc, ◌+◌, ◌≤◌, ◌++◌, Bool, List, [], ◌∷◌, length, refl, sym, ◌∙◌, ap, subst}
use Rattle.std.proofs.lemmas.List.{length-map}
use Rattle.std.proofs.lemmas.List.FromFn.{length-map-range_with_len}
use Rattle.std.specs.List.{AllByRecursion}
use Rattle.flit_model.specs.declared.calls.Ahead.{Ahead}
use Rattle.flit_model.specs.declared.calls.Work.{Work}
use Rattle.flit_model.specs.declared.found.Recovered.{Recovered}
use Rattle.flit_report.specs.declared.content.Shown.{Shown}
use Rattle.flit_structure.specs.Meanings.{Meaning}
use Rattle.flit_structure.proofs.Names.{all_map}
use Rattle.flit_trace.specs.Ahead.{Names}
use Rattle.flit_trace.specs.Contents.{Content}
use Rattle.flit_trace.specs.Rights.{IsRightTurn}
use Rattle.flit_trace.specs.SeenTraces.{SeenTrace, Shows, IsWithoutScripts}
use Rattle.flit_sched.specs.Runs.{Run}
use Rattle.flit_sched.specs.Openings.{first_parts, opened_run}
use Rattle.flit_sched.specs.Views.{HasWorker}
use Rattle.flit_turns.specs.Lines.{ShowsLines, turn_lines, last_lines}
use Rattle.flit_step_reports.specs.StepReports.{AreWorksOf, items_in}
use Rattle.flit_step_runs.specs.Plays.{CanPlay, IsPlayed, ShowsTurns}

pub turns_shown : (trace : SeenTrace) (t : Content) → Shows trace t → ShowsTurns trace t
turns_shown trace t shows = record { head = shows.head; turns = shows.turns }

-- a trace without its scripts still shows the turns, and names the words ahead
pub turns_left : (before after : SeenTrace) (t : Content) → IsWithoutScripts before after → Shows before t → ShowsTurns after t
turns_left before after t is shows = record { head = is.head ∙ shows.head; turns = is.turns ∙ shows.turns }

pub names_left : (before after : SeenTrace) (a : Ahead) → IsWithoutScripts before after → Names a after.all_ahead after.ahead →
    Names a before.all_ahead before.ahead
names_left before after a is h =
    subst (λ b. Names a b before.ahead) is.all_ahead (subst (λ (ws : List ℕ). Names a after.all_ahead ws) is.ahead h)

works_long : (t : Content) (works : List Work) → AreWorksOf t works → length works ≡ t.head.layout.workers
works_long t works h =
    sym (length-map works (λ w. w.items.items)) ∙ ap length h.items ∙ length-map-range_with_len (items_in t) 1 t.head.layout.workers

module _ {Op : Type 0} (meaning : Meaning Op) (start : Recovered) (t : Content) (works : List Work) where
  parts_long : (name : ℕ) (ws : List Work) → length (first_parts {Op = Op} name ws) ≡ length ws
  parts_long name [] = refl
  parts_long name (w ∷ ws) = ap suc (parts_long (name + 1) ws)

  pub opened_long : (r : Run Op) → r ≡ opened_run meaning start works → AreWorksOf t works → length r.parts ≡ t.head.layout.workers
  opened_long r is h = ap (λ q. length q.parts) is ∙ parts_long 1 works ∙ works_long t works h

  -- each turn line names one of the run's workers
  pub turns_named : (trace : SeenTrace) (r : Run Op) → ShowsTurns trace t → length r.parts ≡ t.head.layout.workers → CanPlay meaning start t →
      AllByRecursion (λ x. HasWorker r x.0) trace.turns
  turns_named trace r shows long can =
      subst (λ (xs : List (ℕ × ℕ)). AllByRecursion (λ x. HasWorker r x.0) xs) (sym shows.turns)
      (all_map (IsRightTurn t.head.layout) (λ x. HasWorker r x.0) (λ x k. (k.0, subst (λ n. x.0 ≤ n) (sym long) k.1)) t.turns can.turns)

  pub is_played : (trace : SeenTrace) (r final : Run Op) (kept : Bool) (before after : List Shown) → ShowsTurns trace t → CanPlay meaning start t →
      AreWorksOf t works → r ≡ opened_run meaning start works →
      ShowsLines meaning (turn_lines trace.turns ++ last_lines trace.head.layout.workers) r final kept before after →
      IsPlayed meaning t start kept final before after
  is_played trace r final kept before after shows can are is h =
      let one = subst (λ q. ShowsLines meaning (turn_lines trace.turns ++ last_lines trace.head.layout.workers) q final kept before after) is h in
      let two = subst (λ (ts : List (ℕ × ℕ)). ShowsLines meaning (turn_lines ts ++ last_lines trace.head.layout.workers) (opened_run meaning start works) final
      kept before after) shows.turns one in
      let lines = subst (λ n. ShowsLines meaning (turn_lines t.turns ++ last_lines n) (opened_run meaning start works) final kept before after)
      (ap (λ x. x.layout.workers) shows.head) two in
      record { given = lines.0; works = works; are_works = are; starts = can.starts works are; follows = lines.1; shown = lines.2 }
