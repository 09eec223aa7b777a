-- How many calls of a worker have begun, by its lines.
use Rattle.std.proofs.Common.{◌≡◌, ℕ, zero, suc, ◌+◌, ◌-◌, ◌≤◌, Bool, true, false, cond, List, [], ◌∷◌, ◌++◌, map, length, take, refl, sym, ◌∙◌, ap, subst, arith, Some, None, slice_get}
use Rattle.std.proofs.lemmas.Bool.{false≢true}
use Rattle.std.proofs.lemmas.Option.{slice_get_within}
use Rattle.std.proofs.lemmas.List.{length-map}
use Rattle.flit_model.specs.declared.calls.Item.{Item}
use Rattle.flit_model.specs.declared.calls.Item.TheVariants.{Call as Call_item, Evict as Evict_item}
use Rattle.flit_model.specs.declared.calls.Outcome.{Outcome}
use Rattle.flit_model.specs.declared.calls.Outcome.TheVariants.{Replied, Stopped}
use Rattle.flit_model.specs.declared.calls.Reply.TheVariants.{Yes, No, Found, Full, Worn}
use Rattle.flit_model.specs.declared.calls.Tally.{Tally}
use Rattle.flit_model.specs.declared.found.Recovered.{Recovered}
use Rattle.flit_report.specs.declared.content.Line.{Line}
use Rattle.flit_report.specs.Content.{Content as Told, is_stopped}
use Rattle.flit_structure.specs.declared.workers.Doing.{Doing}
use Rattle.flit_structure.specs.declared.workers.Doing.TheVariants.{Idle, Busy, Evicting}
use Rattle.flit_structure.specs.Meanings.{Meaning}
use Rattle.flit_structure.specs.Lawful.{Lawful, IsBelowTop, excuses}
use Rattle.flit_trace.specs.Contents.{Content}
use Rattle.flit_sched.specs.Kept.{one_if_busy}
use Rattle.flit_sched.specs.Runs.{Part, Run, IsPart}
use Rattle.flit_sched.specs.Openings.{opened_run}
use Rattle.flit_sched.specs.Turns.{tally_in}
use Rattle.flit_histories.specs.Calls.{calls_in}
use Rattle.flit_histories.specs.Reached.{here}
use Rattle.flit_histories.proofs.FirstRuns.{opened_sound}
use Rattle.flit_histories.proofs.LedParts.{follows_led}
use Rattle.flit_histories.proofs.Numbers.{number_at, calls_next, calls_rise}
use Rattle.flit_histories.proofs.PartLists.{AllFrom, all_from_at}
use Rattle.flit_histories.proofs.ReachedRuns.{sound_led}
use Rattle.flit_histories.proofs.SoundRuns.{IsSound, IsSoundPart, IsAtWork}
use Rattle.flit_step_reports.specs.StepReports.{IsReportOf}
use Rattle.flit_step_sentences.specs.Lines.{lines_of, IsLineOf, may_have_begun}
use Rattle.flit_step_sentences.specs.SayLaws.{IsOpenFor}
use Rattle.flit_step_sentences.proofs.OwnLines.{items_by, own_lines, own_at}
use Rattle.flit_step_sentences.proofs.OwnParts.{part_there, parts_long}
use Rattle.flit_step_sentences.proofs.PaidSearches.{searches_paid}
use Rattle.flit_step_sentences.proofs.PrintedCalls as printed

-- where no line in front is stopped, these have begun, and one more where there is a further line
begun : (ls : List Line) (n extra : ℕ) → extra ≤ 1 → n + extra ≤ length ls →
    ((j : ℕ) (x : Line) → slice_get ls j ≡ Some x → is_stopped x.outcome ≡ true → n ≤ j) → n + extra ≤ may_have_begun ls
begun [] n extra one few h = omega (arith, few)
begun (l ∷ ls) zero extra one few h = by_test (is_stopped l.outcome)
  where
    by_test : (b : Bool) → 0 + extra ≤ cond b 1 (1 + may_have_begun ls)
    by_test true = omega (arith, one)
    by_test false = omega (arith, one)
begun (l ∷ ls) (suc n) extra one few h =
    by_test (is_stopped l.outcome) refl
    (begun ls n extra one (omega (arith, few)) (λ j x at stopped. let low = h (suc j) x at stopped in omega (arith, low)))
  where
    by_test : (b : Bool) → is_stopped l.outcome ≡ b → n + extra ≤ may_have_begun ls → suc n + extra ≤ cond b 1 (1 + may_have_begun ls)
    by_test true is rest = let low = h 0 l refl is in absurd (omega (arith, low))
    by_test false is rest = omega (arith, rest)

calls_all : (items : List Item) (k : ℕ) → calls_in (take k items) ≤ calls_in items
calls_all items zero = omega arith
calls_all [] (suc k) = omega arith
calls_all (i ∷ is) (suc k) = let rest = calls_all is k in omega (arith, rest)

stopped_is : (o : Outcome) → is_stopped o ≡ true → o ≡ Stopped
stopped_is Stopped h = refl
stopped_is (Replied Yes) h = absurd (false≢true h)
stopped_is (Replied No) h = absurd (false≢true h)
stopped_is (Replied (Found v)) h = absurd (false≢true h)
stopped_is (Replied (Full v)) h = absurd (false≢true h)
stopped_is (Replied (Worn v w)) h = absurd (false≢true h)

own_long : {Op : Type 0} (r : Run Op) (worker before : ℕ) (items : List Item) → length (own_lines r worker before items) ≡ calls_in items
own_long r worker before [] = refl
own_long r worker before (Call_item call ∷ is) = let rest = own_long r worker (before + 1) is in omega (arith, rest)
own_long r worker before (Evict_item word ∷ is) = let rest = own_long r worker (before + 1) is in omega (arith, rest)

module _ {Op : Type 0} (meaning : Meaning Op) (l : Lawful meaning) (t : Content) (shows : Bool) (start : Recovered) (told : Told)
    (ready : IsOpenFor meaning t start) (is : IsReportOf meaning t shows start told) where
  abbrev final : Run Op
  final = is.final

  K : IsSound meaning final
  K =
      let first = opened_run meaning start is.run.works in
      sound_led meaning l first final
      (follows_led meaning first first final is.given (printed.follows meaning l t shows start told ready is) here)
      (opened_sound meaning l start is.run.works (printed.starts meaning l t shows start told ready is))

  module _ (worker : ℕ) (a : List (Part Op)) (p : Part Op) (b : List (Part Op)) (at : IsPart final worker a p b) where
    sound_part : IsSoundPart meaning (1 + length a) p
    sound_part = all_from_at (IsSoundPart meaning) 1 a b p (subst (AllFrom (IsSoundPart meaning) 1) at.is K.each)

    items : p.items ≡ items_by t.items worker
    items = printed.items_are meaning l t shows start told ready is worker a p b at

    lines : lines_of worker told.lines ≡ own_lines final worker 0 (items_by t.items worker)
    lines = printed.lines_are meaning l t shows start told ready is worker

    -- a line that is stopped is not in front of the call that has begun last
    stopped_behind : (j : ℕ) (x : Line) → slice_get (lines_of worker told.lines) j ≡ Some x → is_stopped x.outcome ≡ true → calls_in (take p.over p.items) ≤ j
    stopped_behind j x got stopped =
        let own = own_at final worker 0 j (items_by t.items worker) x (sym (ap (λ xs. slice_get xs j) lines) ∙ got) in
        let outcome = ap (λ (y : Line). y.outcome) (sym own.told) ∙ stopped_is x.outcome stopped in
        let it_is : x ≡ record { worker = worker; call = own.call; outcome = Stopped } = own.told
        ∙ ap (λ o. record { worker = worker; call = own.call; outcome = o }) outcome in
        let place : j + 1 - 1 ≡ j = omega arith in
        let line : IsLineOf told.lines worker (j + 1) own.call Stopped =
        record { counted = omega arith; is = ap (slice_get (lines_of worker told.lines)) place ∙ got ∙ ap Some it_is } in
        let q = printed.printed_in meaning l t shows start told ready is worker (j + 1) own.call Stopped line in
        let late = printed.stopped_late meaning l t shows start told ready is worker (j + 1) own.call q in
        let same = printed.same_as meaning l t shows start told ready is worker (j + 1) q.item own.call q.part q.call_in a p b at in
        let over = ap (λ y. y.over) same in
        let number = number_at q.part.items q.item own.call (j + 1) q.call_in.call_at in
        let up = calls_rise q.part.items q.part.over q.item late in
        let mine = ap (λ y. calls_in (take y.over y.items)) same in
        omega (arith, number, up, mine)

    busy_within : (d : Doing Op) → IsAtWork meaning (slice_get p.items p.over) d →
        (calls_in (take p.over p.items) + one_if_busy d ≤ calls_in p.items) × (one_if_busy d ≤ 1)
    busy_within (Idle hand) work = let all = calls_all p.items p.over in (omega (arith, all), omega arith)
    busy_within (Busy op call None) work = absurd work
    busy_within (Busy op call (Some n)) work =
        let next = calls_next p.items p.over (Call_item call) work.0 in
        let all = calls_all p.items (p.over + 1) in
        (omega (arith, all, next), omega arith)
    busy_within (Evicting evict) work = let all = calls_all p.items p.over in (omega (arith, all), omega arith)

    number_begun : p.worker.number ≤ may_have_begun (lines_of worker told.lines)
    number_begun =
        let number = sound_part.number in
        let within = busy_within p.worker.doing sound_part.at_work in
        let all = within.0 in
        let long : length (lines_of worker told.lines) ≡ calls_in p.items = ap length lines ∙ own_long final worker 0 (items_by t.items worker)
        ∙ ap calls_in (sym items) in
        let most = begun (lines_of worker told.lines) (calls_in (take p.over p.items)) (one_if_busy p.worker.doing) within.1
        (omega (arith, all, long)) stopped_behind in
        omega (arith, number, most)

    paid : IsBelowTop (tally_in meaning p.worker.doing) →
        (tally_in meaning p.worker.doing).tries
        ≤ excuses meaning.layout.kind (tally_in meaning p.worker.doing) + may_have_begun (lines_of worker told.lines)
    paid low =
        let few = searches_paid meaning l start is.run.works (printed.starts meaning l t shows start told ready is) worker is.given final
        (printed.follows meaning l t shows start told ready is) a p b at low in
        let most = number_begun in
        omega (arith, few, most)

  -- a tally that is told is that of a part
  pub tally_there : (worker : ℕ) (tally : Tally) → 1 ≤ worker → slice_get told.tallies (worker - 1) ≡ Some tally →
      (a : List (Part Op)) × (p : Part Op) × (b : List (Part Op)) × IsPart final worker a p b × (tally_in meaning p.worker.doing ≡ tally)
  tally_there worker tally some got =
      let all : told.tallies ≡ map (λ p. tally_in meaning p.worker.doing) final.parts = is.tallies in
      let long : length told.tallies ≡ t.head.layout.workers = ap length all ∙ length-map final.parts (λ p. tally_in meaning p.worker.doing)
      ∙ parts_long meaning t start is.run.works is.run.are_works final is.given (printed.follows meaning l t shows start told ready is) in
      let within = slice_get_within told.tallies (worker - 1) tally got in
      let o = part_there meaning t start is.run.works is.run.are_works final is.given (printed.follows meaning l t shows start told ready is) worker some
      (omega (arith, some, long, within)) in (
        o.0,
        o.1,
        o.2,
        o.3,
        tally_is o.0 o.1 o.2 (sym (at_here o.0 o.1 o.2 o.3) ∙ ap (λ xs. slice_get xs (worker - 1)) (sym all) ∙ got),
      )
    where
      tally_is : (a : List (Part Op)) (p : Part Op) (b : List (Part Op)) → Some (tally_in meaning p.worker.doing) ≡ Some tally →
          tally_in meaning p.worker.doing ≡ tally
      tally_is a p b h = cc

      at_here : (a : List (Part Op)) (p : Part Op) (b : List (Part Op)) → IsPart final worker a p b →
          slice_get (map (λ q. tally_in meaning q.worker.doing) final.parts) (worker - 1) ≡ Some (tally_in meaning p.worker.doing)
      at_here a p b h =
          let n = h.number in
          let place : worker - 1 ≡ length a = omega (arith, n) in
          ap (slice_get (map (λ q. tally_in meaning q.worker.doing) final.parts)) place
          ∙ ap (λ ps. slice_get (map (λ q. tally_in meaning q.worker.doing) ps) (length a)) h.is ∙ mapped a b p
        where
          mapped : (xs ys : List (Part Op)) (x : Part Op) →
              slice_get (map (λ q. tally_in meaning q.worker.doing) (xs ++ x ∷ ys)) (length xs) ≡ Some (tally_in meaning x.worker.doing)
          mapped [] ys x = refl
          mapped (z ∷ xs) ys x = mapped xs ys x

  pub searches : (worker : ℕ) (tally : Tally) → 1 ≤ worker → slice_get told.tallies (worker - 1) ≡ Some tally → IsBelowTop tally →
      tally.tries ≤ excuses t.head.layout.kind tally + may_have_begun (lines_of worker told.lines)
  searches worker tally some got low =
      let o = tally_there worker tally some got in
      subst (λ k. tally.tries ≤ excuses k tally + may_have_begun (lines_of worker told.lines)) (ap (λ x. x.kind) ready.layout)
      (subst (λ y. y.tries ≤ excuses meaning.layout.kind y + may_have_begun (lines_of worker told.lines)) o.4
      (paid worker o.0 o.1 o.2 o.3 (subst IsBelowTop (sym o.4) low)))
