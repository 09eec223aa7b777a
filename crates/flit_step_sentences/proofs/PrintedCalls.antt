-- The lines that a report has of calls are those of the run's calls, each with its outcome.
use Rattle.std.proofs.Common.{◌≡◌, ◌⊎◌, inl, inr, ℕ, ◌+◌, ◌-◌, ◌<◌, ◌≤◌, Bool, List, [], length, take, sym, ◌∙◌, ap, arith, Some, slice_get}
use Rattle.std.proofs.lemmas.Bool.{cases_lt}
use Rattle.flit_model.specs.declared.calls.Call.{Call}
use Rattle.flit_model.specs.declared.calls.Item.TheVariants.{Call as Call_item}
use Rattle.flit_model.specs.declared.calls.Outcome.{Outcome}
use Rattle.flit_model.specs.declared.calls.Outcome.TheVariants.{Replied, Stopped}
use Rattle.flit_model.specs.declared.calls.Reply.{Reply}
use Rattle.flit_model.specs.declared.found.Recovered.{Recovered}
use Rattle.flit_report.specs.declared.content.Line.{Line}
use Rattle.flit_report.specs.Content.{Content as Told}
use Rattle.flit_structure.specs.Meanings.{Meaning}
use Rattle.flit_structure.specs.Lawful.{Lawful}
use Rattle.flit_trace.specs.Contents.{Content}
use Rattle.flit_sched.specs.Runs.{Part, Run, IsPart}
use Rattle.flit_sched.specs.Openings.{opened_run}
use Rattle.flit_histories.specs.Following.{Follows}
use Rattle.flit_histories.specs.Calls.{calls_in, IsCallIn}
use Rattle.flit_histories.specs.Promises.{KeepsPromises}
use Rattle.flit_histories.specs.Reached.{IsStart}
use Rattle.flit_histories.proofs.LedParts.{same_part}
use Rattle.flit_histories.proofs.Numbers.{number_at, call_at}
use Rattle.flit_histories.proofs.Promised.{promised}
use Rattle.flit_turns.proofs.LineLaws.{lines_follow}
use Rattle.flit_step_reports.specs.StepReports.{outcome_or_stopped, outcome_of, outcome_in, plan_of, picks_in, IsReportOf}
use Rattle.flit_step_sentences.specs.Lines.{lines_of, IsLineOf}
use Rattle.flit_step_sentences.specs.SayLaws.{IsOpenFor}
use Rattle.flit_step_sentences.proofs.OwnLines.{got_between, items_by, named_by, own_lines, lines_are_own, own_at, at_own}
use Rattle.flit_step_sentences.proofs.OwnParts.{part_there, part_items}

pub same_outcome : (x y : Outcome) → Some (Some x) ≡ Some (Some y) → x ≡ y
same_outcome x y h = cc

module _ {Op : Type 0} where
  outcome_here : (r : Run Op) (worker k : ℕ) (a : List (Part Op)) (p : Part Op) (b : List (Part Op)) → IsPart r worker a p b →
      outcome_in r worker (0 + k) ≡ outcome_or_stopped (slice_get p.outcomes k)
  outcome_here r worker k a p b at =
      let n = at.number in
      let place : worker - 1 ≡ length a = omega (arith, n) in
      let item : 0 + k ≡ k = omega arith in
      ap (outcome_in r worker) item ∙ ap (λ i. outcome_of (slice_get r.parts i) k) place ∙ ap (λ ps. outcome_of (slice_get ps (length a)) k) at.is
      ∙ ap (λ x. outcome_of x k) (got_between a b p)

module _ {Op : Type 0} (meaning : Meaning Op) (l : Lawful meaning) (t : Content) (shows : Bool) (start : Recovered) (told : Told)
    (ready : IsOpenFor meaning t start) (is : IsReportOf meaning t shows start told) where
  abbrev pub final : Run Op
  final = is.final

  abbrev pub first : Run Op
  first = opened_run meaning start is.run.works

  pub follows : Follows meaning first is.given final
  follows = lines_follow meaning first final (plan_of t) is.given is.run.follows

  pub starts : IsStart meaning start is.run.works
  starts = ready.starts is.run.works is.run.are_works

  pub promises : KeepsPromises meaning first is.given final (picks_in t)
  promises = promised meaning l start is.run.works starts is.given final follows (picks_in t)

  -- a call of the run, with its outcome
  pub record IsPrinted (worker number : ℕ) (call : Call) (outcome : Outcome) : Type 0 where
    pub part : Part Op
    pub item : ℕ
    pub call_in : IsCallIn final worker part item call number
    pub at : slice_get part.outcomes item ≡ Some (Some outcome)

  has_outcome : (worker number k : ℕ) (call : Call) (p : Part Op) → IsCallIn final worker p k call number →
      (outcome : Outcome) × (slice_get p.outcomes k ≡ Some (Some outcome))
  has_outcome worker number k call p c = by_place (cases_lt k p.over)
    where
      by_place : (k < p.over) ⊎ (p.over ≤ k) → (outcome : Outcome) × (slice_get p.outcomes k ≡ Some (Some outcome))
      by_place (inl less) = let a = promises.over worker p k call number c less in (Replied a.reply, a.outcome)
      by_place (inr le) = (Stopped, (promises.left worker p k call number c le).outcome)

  pub items_are : (worker : ℕ) (a : List (Part Op)) (p : Part Op) (b : List (Part Op)) → IsPart final worker a p b → p.items ≡ items_by t.items worker
  items_are worker a p b at = part_items meaning t start is.run.works is.run.are_works final is.given follows worker a p b at

  pub lines_are : (worker : ℕ) → lines_of worker told.lines ≡ own_lines final worker 0 (items_by t.items worker)
  lines_are worker = ap (lines_of worker) is.lines ∙ lines_are_own final worker [] t.items

  pub printed_in : (worker number : ℕ) (call : Call) (outcome : Outcome) → IsLineOf told.lines worker number call outcome → IsPrinted worker number call outcome
  printed_in worker number call outcome h =
      let line : Line = record { worker = worker; call = call; outcome = outcome } in
      let own = own_at final worker 0 (number - 1) (items_by t.items worker) line (sym (ap (λ xs. slice_get xs (number - 1)) (lines_are worker)) ∙ h.is) in
      let named = named_by t.head.layout t.items worker own.item (Call_item own.call) ready.lines own.is in
      let part = part_there meaning t start is.run.works is.run.are_works final is.given follows worker named.0 named.1 in
      let items = items_are worker part.0 part.1 part.2 part.3 in
      let call_is : call ≡ own.call = ap (λ (x : Line). x.call) own.told in
      let counted = h.counted in
      let number_is = own.number in
      let c : IsCallIn final worker part.1 own.item call number = record {
        before = part.0;
        behind = part.2;
        is = part.3;
        call_at = call_at part.1.items own.item call number (ap (λ xs. slice_get xs own.item) items ∙ own.is ∙ ap (λ x. Some (Call_item x)) (sym call_is))
            (plus_one number (calls_in (take own.item (items_by t.items worker))) counted number_is
            ∙ ap (λ xs. calls_in (take own.item xs) + 1) (sym items));
      } in
      let o = has_outcome worker number own.item call part.1 c in
      let outcome_is : outcome ≡ o.0 = ap (λ (x : Line). x.outcome) own.told ∙ outcome_here final worker own.item part.0 part.1 part.2 part.3
      ∙ ap outcome_or_stopped o.1 in
      record { part = part.1; item = own.item; call_in = c; at = o.1 ∙ ap (λ x. Some (Some x)) (sym outcome_is) }
    where
      plus_one : (n m : ℕ) → 1 ≤ n → m ≡ n - 1 → n ≡ m + 1
      plus_one n m low same = omega (arith, low, same)

  pub printed_out : (worker number k : ℕ) (call : Call) (outcome : Outcome) (p : Part Op) → IsCallIn final worker p k call number →
      slice_get p.outcomes k ≡ Some (Some outcome) → IsLineOf told.lines worker number call outcome
  printed_out worker number k call outcome p c at =
      let items = items_are worker c.before p c.behind c.is in
      let n = number_at p.items k call number c.call_at in
      let place : number - 1 ≡ calls_in (take k (items_by t.items worker)) = less_one number (calls_in (take k p.items)) n
      ∙ ap (λ xs. calls_in (take k xs)) items in
      let outcome_is : outcome_in final worker (0 + k) ≡ outcome = outcome_here final worker k c.before p c.behind c.is ∙ ap outcome_or_stopped at in
      record {
        counted = omega (arith, n);
        is = ap (λ xs. slice_get xs (number - 1)) (lines_are worker)
            ∙ ap (slice_get (own_lines final worker 0 (items_by t.items worker))) place
            ∙ at_own final worker 0 k (items_by t.items worker) call (ap (λ xs. slice_get xs k) (sym items) ∙ c.call_at.is)
            ∙ ap (λ o. Some (record { worker = worker; call = call; outcome = o })) outcome_is;
      }
    where
      less_one : (n m : ℕ) → n ≡ m + 1 → n - 1 ≡ m
      less_one n m same = omega (arith, same)

  -- a stopped call isn't over, and one that has its reply is
  pub stopped_late : (worker number : ℕ) (call : Call) (h : IsPrinted worker number call Stopped) → h.part.over ≤ h.item
  stopped_late worker number call h = by_place (cases_lt h.item h.part.over)
    where
      by_place : (h.item < h.part.over) ⊎ (h.part.over ≤ h.item) → h.part.over ≤ h.item
      by_place (inl less) =
          let a = promises.over worker h.part h.item call number h.call_in less in
          absurd (let both = same_outcome (Replied a.reply) Stopped (sym a.outcome ∙ h.at) in cc)
      by_place (inr le) = le

  pub replied_over : (worker number : ℕ) (call : Call) (reply : Reply) (h : IsPrinted worker number call (Replied reply)) → h.item < h.part.over
  replied_over worker number call reply h = by_place (cases_lt h.item h.part.over)
    where
      by_place : (h.item < h.part.over) ⊎ (h.part.over ≤ h.item) → h.item < h.part.over
      by_place (inl less) = less
      by_place (inr le) =
          absurd (let both = same_outcome Stopped (Replied reply) (sym (promises.left worker h.part h.item call number h.call_in le).outcome ∙ h.at) in cc)

  -- two calls of one worker are of one part
  pub part_same : (worker m n j k : ℕ) (c d : Call) (p q : Part Op) → IsCallIn final worker p j c m → IsCallIn final worker q k d n → p ≡ q
  part_same worker m n j k c d p q x y = same_part final worker x.before x.behind y.before y.behind p q x.is y.is

  pub same_as : (worker m j : ℕ) (c : Call) (p : Part Op) → IsCallIn final worker p j c m → (a : List (Part Op)) (q : Part Op) (b : List (Part Op)) →
      IsPart final worker a q b → p ≡ q
  same_as worker m j c p x a q b at = same_part final worker x.before x.behind a b p q x.is at
