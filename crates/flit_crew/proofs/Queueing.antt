-- With one worker no event queues a word.
use Rattle.std.proofs.Common.{◌≡◌, ℕ, List, ◌∷◌, ◌++◌, length, Option, Some, refl, sym, ◌∙◌, ap}
use Rattle.flit_words.specs.declared.layouts.Layout.{Layout}
use Rattle.flit_model.specs.Effects.{after, answer}
use Rattle.flit_model.specs.Settling.{progress_after}
use Rattle.flit_model.specs.declared.calls.Call.{Call}
use Rattle.flit_model.specs.declared.events.Event.{Event}
use Rattle.flit_place.specs.Tags.{Place}
use Rattle.flit_structure.specs.declared.workers.Worker.{Worker}
use Rattle.flit_structure.specs.Moments.{Moment, with_workers, busy}
use Rattle.flit_structure.specs.Meanings.{first_at}
use Rattle.flit_crew.specs.Machines.{machine_asks, machine_exchanges, hand_in, hand_of}
use Rattle.flit_crew.specs.Anatomies.{op_taken}
use Rattle.flit_crew.specs.Crews.{Crew, Holds}
use Rattle.flit_crew.specs.Obligations.{Keeps}
use Rattle.flit_crew.proofs.Moving.{mine}
use Rattle.flit_crew.proofs.CallSteps.{call_step, effect_if_now}

module _ {G Op : Type 0} (c : Crew G Op) (l : Layout) (p : Place) (free : List ℕ) (keeps : Keeps c l p free) where
  -- the hand of a call's machine has queued none
  queued_none : (M : Moment Op) (a : List (Worker Op)) (name number : ℕ) (op : Op) (call : Call) (begun : Option ℕ) (b : List (Worker Op)) → l.workers ≡ 1 →
      Holds c l p free (with_workers M (a ++ busy name number op call begun ∷ b)) → (hand_in (c.anatomy.machine op)).tally.queued ≡ 0
  queued_none M a name number op call begun b one holds =
      let r = mine c l p free keeps M a (busy name number op call begun) b holds in
      ap (λ x. (hand_of x).tally.queued) (sym r.mine.at) ∙ (r.mine.alone one).queued

  pub unqueued : (M : Moment Op) (a : List (Worker Op)) (name number : ℕ) (op : Op) (call : Call) (begun : Option ℕ) (b : List (Worker Op)) (e : Event) →
      l.workers ≡ 1 → machine_asks p (c.anatomy.machine op) ≡ Some e → Holds c l p free (with_workers M (a ++ busy name number op call begun ∷ b)) →
      (hand_in (c.anatomy.machine (op_taken c.anatomy p free op (answer M.state e)))).tally.queued ≡ (hand_in (c.anatomy.machine op)).tally.queued
  unqueued M a name number op call begun b e one q holds =
      let N : Moment Op = record M {
        state = after M.state e;
        progress = progress_after M.progress M.state e
            (effect_if_now c l p free keeps M a name number op call begun b holds (machine_exchanges p (c.anatomy.machine op)));
      } in
      queued_none N a name number (op_taken c.anatomy p free op (answer M.state e)) call (Some (first_at (length M.progress.settled) begun)) b one
      (call_step c l p free keeps M a name number op call begun b holds (c.anatomy.machine op) refl e q)
      ∙ sym (queued_none M a name number op call begun b one holds)
