-- The works of a trace on a structure that opens where the trace starts.
use Rattle.std.proofs.Common.{◌≡◌, ◌≤◌, List, [], ◌∷◌, length, arith}
use Rattle.std.specs.List.{AllByRecursion}
use Rattle.flit_words.specs.declared.layouts.Layout.{Layout}
use Rattle.flit_words.specs.declared.limits.TheConstants.{MOST_CALLS}
use Rattle.flit_model.specs.declared.calls.Ahead.TheVariants.{None as No_ahead}
use Rattle.flit_model.specs.declared.calls.Item.{Item}
use Rattle.flit_model.specs.declared.calls.Item.TheVariants.{Call as Call_item, Evict as Evict_item}
use Rattle.flit_model.specs.declared.calls.Outcome.{Outcome}
use Rattle.flit_model.specs.declared.calls.Work.{Work}
use Rattle.flit_structure.specs.Meanings.{Meaning}
use Rattle.flit_structure.proofs.Names.{all_map}
use Rattle.flit_trace.specs.Contents.{Content}
use Rattle.flit_sched.specs.Openings.{item_count, IsRightItem as Is_right_item, AreRight as Are_right}
use Rattle.flit_table.specs.declared.told.Known.{Known}
use Rattle.flit_table.specs.declared.views.Origin.{Origin}
use Rattle.flit_table.specs.Steps.{Home, meaning_of}
use Rattle.flit_workers.specs.Works.{IsRightItem}
use Rattle.flit_workers.specs.Ends.{AreRight}
use Rattle.flit_thread_histories.specs.Promises.{KeepsPromises}
use Rattle.flit_step_reports.specs.StepReports.{AreWorksOf}
use Rattle.flit_run_reports.specs.RunLaws.{TellsTrace, PromisesTellTraces}
use Rattle.flit_run_runs.specs.Plays.{CanRun}

right_item : (l : Layout) (i : Item) → Is_right_item l i → IsRightItem l i
right_item l (Call_item call) h = h
right_item l (Evict_item word) h = h

few_items : (works : List Work) → item_count works ≤ MOST_CALLS → AllByRecursion (λ w. length w.items.items ≤ 4294967295) works
few_items [] h = tt
few_items (w ∷ ws) h = (omega (arith, h), few_items ws (omega (arith, h)))

-- what a run under turns asks of works, one on threads asks, too
pub right_works : (l : Layout) (works : List Work) → Are_right l works → AreRight l l.workers works
right_works l works h = record {
  one_each = h.workers;
  items = all_map (λ w. AllByRecursion (Is_right_item l) w.items.items) (λ w. AllByRecursion (IsRightItem l) w.items.items)
      (λ w k. all_map (Is_right_item l) (IsRightItem l) (λ i r. right_item l i r) w.items.items k) works h.items;
  most = few_items works h.most;
}

-- what keeps all promises on a structure that was opened where the trace can be run, tells the trace
pub told_of_trace : {S Op : Type 0} (meanings : S → Meaning Op) (home : Home S) (t : Content) (works : List Work) (outcomes : List (List Outcome)) (k : Known) →
    ((r : S) (o : Origin S) → PromisesTellTraces (meanings r) o) → CanRun (meaning_of meanings home) home.origin.start.value t → AreWorksOf t works →
    k.ahead ≡ No_ahead → KeepsPromises (meaning_of meanings home) home.origin works outcomes k → TellsTrace t home.origin.start.value k outcomes
told_of_trace meanings home t works outcomes k law can are none kept =
    law home.origin.structure.value home.origin t works outcomes k (record {
      layout = can.layout;
      room = can.room;
      are_works = are;
      ahead = none;
      promises = kept;
    })
