-- What is told of a run of a trace on threads, worker by worker, from what is told of its works.
use Rattle.std.proofs.Common.{◌≡◌, ◌⊎◌, inl, inr, ℕ, zero, suc, ◌+◌, ◌-◌, ◌<◌, ◌≤◌, List, [], ◌∷◌, ◌++◌, map, drop, length, slice_index_or, sym, ◌∙◌, ap, subst, arith, append-nil}
use Rattle.std.proofs.lemmas.List.{length-map}
use Rattle.std.proofs.lemmas.List.FromFn.{length-map-range_with_len}
use Rattle.std.proofs.Math.Seq.{drop-append_seam}
use Rattle.std.specs.List.{AllByRecursion, range_with_len}
use Rattle.flit_words.specs.declared.layouts.Layout.{Layout}
use Rattle.flit_model.specs.Recovery.{IsImageOf}
use Rattle.flit_model.specs.declared.calls.Entry.{Entry}
use Rattle.flit_model.specs.declared.calls.Outcome.{Outcome}
use Rattle.flit_model.specs.declared.calls.Work.{Work}
use Rattle.flit_structure.specs.Meanings.{Meaning}
use Rattle.flit_trace.specs.Contents.{Content}
use Rattle.flit_trace.specs.Drafts.{stop_of}
use Rattle.flit_table.specs.declared.told.Known.{Known}
use Rattle.flit_table.specs.declared.views.Origin.{Origin}
use Rattle.flit_table.specs.Orders.{entries_in}
use Rattle.flit_table.specs.Views.{answered, made_by}
use Rattle.flit_workers.specs.Ends.{AllInOrder}
use Rattle.flit_workers.specs.Works.{item_of, AreNumberedFrom, outcomes_of, EndsAt}
use Rattle.flit_workers.proofs.Sharing.{same_length}
use Rattle.flit_thread_histories.specs.Promises.{history_told, events_told, IsToldOf, IsUnfinishedUpdate}
use Rattle.flit_thread_histories.specs.Reports.{AllReplied, HasMadeAll, EndsByStop, IsWithinTold, TellsRun}
use Rattle.flit_thread_histories.proofs.Reported.{tells_run}
use Rattle.flit_step_reports.specs.StepReports.{items_in}
use Rattle.flit_run_reports.specs.RunReports.{IsWorkerOf, left_by, IsToldOfWorker, AreOutcomesOf, start_room}
use Rattle.flit_run_reports.specs.RunLaws.{TellsTrace, HaveRunTrace}

-- ---- the work and the outcomes of one worker

record AtWorker (t : Content) (P : ℕ → Work → List Outcome → Type 0) (outcomes : List Outcome) (worker : ℕ) : Type 0 where
  pub work : Work
  pub items : work.items.items ≡ items_in t worker
  pub stop : work.stop ≡ stop_of t.stops worker
  pub said : P worker work outcomes

at_worker : (t : Content) (P : ℕ → Work → List Outcome → Type 0) (a n i : ℕ) (works : List Work) (outcomes : List (List Outcome)) →
    map (λ w. w.items.items) works ≡ map (items_in t) (range_with_len a n) → map (λ w. w.stop) works ≡ map (stop_of t.stops) (range_with_len a n) →
    AllInOrder P a works outcomes → i < n → AtWorker t P (slice_index_or outcomes i []) (a + i)
at_worker t P a zero i works outcomes items stops h less = absurd (omega (arith, less))
at_worker t P a (suc n) i [] outcomes items stops h less = absurd (let none : ⊥ = cc in none)
at_worker t P a (suc n) i (w ∷ ws) [] items stops h less = absurd h
at_worker t P a (suc n) zero (w ∷ ws) (os ∷ oss) items stops h less =
    let here : a ≡ a + 0 = omega arith in
    let first : w.items.items ≡ items_in t a = cc in
    let stop : w.stop ≡ stop_of t.stops a = cc in
    subst (AtWorker t P os) here (record { work = w; items = first; stop = stop; said = h.0 })
at_worker t P a (suc n) (suc i) (w ∷ ws) (os ∷ oss) items stops h less =
    let rest : map (λ y. y.items.items) ws ≡ map (items_in t) (range_with_len (a + 1) n) = cc in
    let left : map (λ y. y.stop) ws ≡ map (stop_of t.stops) (range_with_len (a + 1) n) = cc in
    let one : suc a ≡ a + 1 = omega arith in
    let here : (a + 1) + i ≡ a + suc i = omega arith in
    subst (AtWorker t P (slice_index_or oss i [])) here
    (at_worker t P (a + 1) n i ws oss rest left (subst (λ k. AllInOrder P k ws oss) one h.1) (omega (arith, less)))

-- ---- what is told of it

module _ (t : Content) (k : Known) (worker : ℕ) (w : Work) (os : List Outcome) (items : w.items.items ≡ items_in t worker)
    (stop : w.stop ≡ stop_of t.stops worker) (h : IsToldOf k (history_told k) worker w os) (e : EndsByStop k worker w os) where
  left_is : left_by t k worker ≡ h.rest
  left_is =
      ap (λ n. drop n (items_in t worker)) (ap length h.told ∙ sym (length-map h.made item_of))
      ∙ ap (drop (length (map item_of h.made))) (sym items ∙ h.items) ∙ drop-append_seam (map item_of h.made) h.rest

  told_of : IsToldOfWorker t k worker
  told_of = record {
    items = sym items ∙ h.items ∙ ap (λ l. map item_of l ++ h.rest) (sym h.told) ∙ ap (λ l. map item_of (made_by worker k.mine) ++ l) (sym left_is);
    ends = subst (EndsAt (stop_of t.stops worker) (events_told worker k)) (sym left_is) (subst (λ s. EndsAt s (events_told worker k) h.rest) stop h.ends);
    numbered = subst (λ l. AreNumberedFrom 0 (answered l)) (sym h.told) h.numbered;
    more = h.more;
    entries = h.entries ∙ ap (λ l. entries_in l ++ h.more) (sym h.told);
    unfinished = subst (λ l. IsUnfinishedUpdate worker (length (answered l) + 1) (left_by t k worker) h.more) (sym h.told)
        (subst (λ l. IsUnfinishedUpdate worker (length (answered h.made) + 1) l h.more) (sym left_is) h.unfinished);
  }

  by_stop : (n : ℕ) → (events_told worker k ≡ n) ⊎ ((events_told worker k < n) × HasMadeAll k worker w os) →
      (events_told worker k ≡ n) ⊎ ((events_told worker k < n) × AllReplied os)
  by_stop n (inl is) = inl is
  by_stop n (inr less) = inr (less.0, less.1.0)

  outcomes_told : AreOutcomesOf t k worker os
  outcomes_told = record {
    replies = h.outcomes_are ∙ ap (λ l. outcomes_of l h.rest) (sym h.told) ∙ ap (outcomes_of (made_by worker k.mine)) (sym left_is);
    without_stop = λ none. (e.without (stop ∙ none)).0;
    with_stop = λ n is. by_stop n (e.with_stop n (stop ∙ is));
  }

-- ---- all of it

module _ {S Op : Type 0} (meaning : Meaning Op) (o : Origin S) (t : Content) (works : List Work) (outcomes : List (List Outcome)) (k : Known)
    (h : HaveRunTrace meaning o t works outcomes k) where
  run : TellsRun meaning o works outcomes k
  run = tells_run meaning o works outcomes k h.ahead h.promises

  abbrev ToldOf : ℕ → Work → List Outcome → Type 0
  ToldOf name w os = IsToldOf k (history_told k) name w os × EndsByStop k name w os

  here : (worker : ℕ) → IsWorkerOf t worker → AtWorker t ToldOf (slice_index_or outcomes (worker - 1) []) worker
  here worker is =
      let least = is.0 in
      let most = is.1 in
      let place : 1 + (worker - 1) ≡ worker = omega (arith, least) in
      subst (AtWorker t ToldOf (slice_index_or outcomes (worker - 1) [])) place
      (at_worker t ToldOf 1 t.head.layout.workers (worker - 1) works outcomes h.are_works.items h.are_works.stops (run).workers (omega (arith, least, most)))

  whole : history_told k ++ h.promises.taken ≡ history_told k
  whole = ap (λ l. history_told k ++ l) (h.promises.none_taken h.ahead) ∙ append-nil (history_told k)

  long : length outcomes ≡ t.head.layout.workers
  long =
      let same = same_length ToldOf 1 works outcomes (run).workers in
      let all = sym (length-map works (λ w. w.items.items)) ∙ ap length h.are_works.items ∙ length-map-range_with_len (items_in t) 1 t.head.layout.workers in
      omega (arith, same, all)

  pub tells_trace : TellsTrace t o.start.value k outcomes
  tells_trace = record {
    run = record {
      layout = (run).layout ∙ h.layout;
      names = (run).names;
      ahead = h.ahead;
      legal = (run).legal;
      shape = subst (λ (l : Layout). IsImageOf l k.image) h.layout h.promises.shape;
      whole = h.promises.whole;
      recovered = (run).map;
      workers = λ worker is. let a = here worker is in told_of t k worker a.work (slice_index_or outcomes (worker - 1) []) a.items a.stop a.said.0 a.said.1;
      others = subst (λ (l : Layout). AllByRecursion (λ e. (1 ≤ e.worker) × (e.worker ≤ l.workers)) (history_told k)) h.layout
          (subst (λ (es : List Entry). AllByRecursion (λ e. (1 ≤ e.worker) × (e.worker ≤ meaning.layout.workers)) es) whole h.promises.named);
      bounds = subst (λ (l : Layout). AllByRecursion (λ e. IsWithinTold l (start_room o.start.value) k e.reply) (answered k.mine)) h.layout
          (subst (λ n. AllByRecursion (λ e. IsWithinTold meaning.layout n k e.reply) (answered k.mine)) h.room (run).bounds);
    };
    each = long;
    are_outcomes = λ worker is. let a = here worker is in
        outcomes_told t k worker a.work (slice_index_or outcomes (worker - 1) []) a.items a.stop a.said.0 a.said.1;
  }
