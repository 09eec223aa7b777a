-- A run on which a trace was played holds the scripts of the trace.
use Rattle.std.proofs.Common.{◌≡◌, ℕ, zero, suc, ◌+◌, ◌-◌, ◌≤◌, List, [], ◌∷◌, map, length, take, drop, slice_get, Some, Bool, refl, sym, ◌∙◌, ap, arith}
use Rattle.std.proofs.lemmas.List.{length-map}
use Rattle.std.specs.List.{range_with_len}
use Rattle.flit_model.specs.declared.calls.Work.{Work}
use Rattle.flit_model.specs.declared.found.Recovered.{Recovered}
use Rattle.flit_report.specs.declared.content.Shown.{Shown}
use Rattle.flit_structure.specs.Meanings.{Meaning}
use Rattle.flit_trace.specs.Contents.{Content, script_of}
use Rattle.flit_trace.specs.SeenTraces.{SeenTrace, Shows, script_at, IsWorker}
use Rattle.flit_sched.specs.Runs.{Part, Run, IsPart}
use Rattle.flit_sched.specs.Openings.{item_count, first_part, first_parts, opened_run}
use Rattle.flit_sched.specs.Views.{OfWorker}
use Rattle.flit_sched.proofs.SplitLists.{same_split}
use Rattle.flit_histories.specs.Reached.{here}
use Rattle.flit_histories.proofs.LedParts.{follows_long, follows_led, part_led}
use Rattle.flit_turns.proofs.LineLaws.{lines_follow}
use Rattle.flit_step_reports.specs.StepReports.{items_in, plan_of}
use Rattle.flit_step_runs.specs.Plays.{IsPlayed}
use Rattle.flit_step_runs.specs.Tellings.{HoldsItems, HoldsScripts}
use Rattle.flit_step_runs.proofs.OpenedLaws.{opened_long}
use Rattle.flit_step_runs.proofs.TellingLaws.{at_place}

module _ {Op : Type 0} (meaning : Meaning Op) where
  part_opened : (name i : ℕ) (works : List Work) (p : Part Op) → slice_get (first_parts {Op = Op} name works) i ≡ Some p →
      (w : Work) × (slice_get works i ≡ Some w) × (p.items ≡ w.items.items)
  part_opened name i [] p h = absurd (none_at i h)
    where
      none_at : (i : ℕ) → slice_get (first_parts {Op = Op} name []) i ≡ Some p → ⊥
      none_at zero h = cc
      none_at (suc i) h = cc
  part_opened name zero (w ∷ ws) p h = let same : first_part {Op = Op} name w ≡ p = cc in (w, refl, ap (λ q. q.items) (sym same))
  part_opened name (suc i) (w ∷ ws) p h = part_opened (name + 1) i ws p h

  work_items : (t : Content) (a i n : ℕ) (works : List Work) (w : Work) → map (λ x. x.items.items) works ≡ map (items_in t) (range_with_len a n) →
      slice_get works i ≡ Some w → w.items.items ≡ items_in t (a + i)
  work_items t a zero zero [] w h at = absurd (let none : ⊥ = cc in none)
  work_items t a (suc i) zero [] w h at = absurd (let none : ⊥ = cc in none)
  work_items t a zero (suc n) [] w h at = absurd (let none : ⊥ = cc in none)
  work_items t a (suc i) (suc n) [] w h at = absurd (let none : ⊥ = cc in none)
  work_items t a i zero (x ∷ xs) w h at = absurd (let none : ⊥ = cc in none)
  work_items t a zero (suc n) (x ∷ xs) w h at =
      let same : x ≡ w = cc in
      let first : x.items.items ≡ items_in t a = cc in
      let here : a ≡ a + 0 = omega arith in
      ap (λ y. y.items.items) (sym same) ∙ first ∙ ap (items_in t) here
  work_items t a (suc i) (suc n) (x ∷ xs) w h at =
      let rest : map (λ y. y.items.items) xs ≡ map (items_in t) (range_with_len (a + 1) n) = cc in
      let here : (a + 1) + i ≡ a + suc i = omega arith in
      work_items t (a + 1) i n xs w rest at ∙ ap (items_in t) here

  few_items : (i : ℕ) (works : List Work) (w : Work) → slice_get works i ≡ Some w → length w.items.items ≤ item_count works
  few_items zero [] w at = absurd (let none : ⊥ = cc in none)
  few_items (suc i) [] w at = absurd (let none : ⊥ = cc in none)
  few_items zero (x ∷ xs) w at = let same : x ≡ w = cc in let long = ap (λ y. length y.items.items) same in omega (arith, long)
  few_items (suc i) (x ∷ xs) w at = let h = few_items i xs w at in omega (arith, h)

  module _ (t : Content) (start : Recovered) (kept : Bool) (final : Run Op) (before after : List Shown)
      (h : IsPlayed meaning t start kept final before after) where
    long : length final.parts ≡ t.head.layout.workers
    long =
        let first = opened_run meaning start h.works in
        follows_long meaning first final h.given (lines_follow meaning first final (plan_of t) h.given h.follows)
        ∙ opened_long meaning start t h.works first refl h.are_works

    -- the first part of a worker, with its work
    opened_at : (worker : ℕ) → 1 ≤ worker → worker ≤ t.head.layout.workers → (p : Part Op) × (a : List (Part Op)) × (b : List (Part Op)) ×
        IsPart (opened_run meaning start h.works) worker a p b × (p.items ≡ items_in t worker) × (length p.items ≤ item_count h.works)
    opened_at worker least most =
        let first = opened_run meaning start h.works in
        let all = opened_long meaning start t h.works first refl h.are_works in
        let x = at_place first.parts (worker - 1) (omega (arith, least, most, all)) in
        let before_it = x.before in
        let w = part_opened 1 (worker - 1) h.works x.item x.got in
        let place : 1 + (worker - 1) ≡ worker = omega (arith, least) in
        let items = w.2 ∙ work_items t 1 (worker - 1) t.head.layout.workers h.works w.0 h.are_works.items w.1 ∙ ap (items_in t) place in
        let few = few_items (worker - 1) h.works w.0 w.1 in
        let same = ap length w.2 in (
          x.item,
          take (worker - 1) first.parts,
          drop (suc (worker - 1)) first.parts,
          record { is = x.parted; number = omega (arith, least, before_it) },
          items,
          omega (arith, few, same),
        )

    held_items : (worker : ℕ) → 1 ≤ worker → worker ≤ t.head.layout.workers → OfWorker final worker (λ p. p.items ≡ items_in t worker)
    held_items worker least most a p b at =
        let first = opened_run meaning start h.works in
        let o = opened_at worker least most in
        let led = follows_led meaning first first final h.given (lines_follow meaning first final (plan_of t) h.given h.follows) here in
        let x = part_led meaning first final led worker o.1 o.0 o.2 o.3 in
        let n = x.is.number in
        let m = at.number in
        let same = (same_split a b x.before x.behind p x.part (sym at.is ∙ x.is.is) (omega (arith, n, m))).here in
        ap (λ q. q.items) same ∙ x.later.items ∙ o.4

    pub holds_items : HoldsItems t final
    holds_items = record {
      long = long;
      items = held_items;
      few = λ worker least most. let o = opened_at worker least most in let same = ap length o.4 in let few = o.5 in
          let all = h.starts.right.most in omega (arith, same, few, all);
    }

  pub holds_scripts : (trace : SeenTrace) (t : Content) (start : Recovered) (kept : Bool) (final : Run Op) (before after : List Shown) → Shows trace t →
      IsPlayed meaning t start kept final before after → HoldsScripts trace final
  holds_scripts trace t start kept final before after shows h =
      let i = holds_items t start kept final before after h in
      let workers = ap (λ x. x.layout.workers) shows.head in
      record {
        long = i.long ∙ sym workers;
        items = λ worker is a p b at.
            let most = is.most in
            ap length (i.items worker is.least (omega (arith, most, workers)) a p b at) ∙ script_long worker is;
        few = λ worker is.
            let most = is.most in
            let few = i.few worker is.least (omega (arith, most, workers)) in
            let same = script_long worker is in
            omega (arith, few, same);
      }
    where
      script_long : (worker : ℕ) → IsWorker trace worker → length (items_in t worker) ≡ length (script_at trace worker)
      script_long worker is = length-map (script_of t.items worker) (λ l. l.1) ∙ ap length (sym (shows.scripts worker is))
