-- Whatever happens at a moment that holds keeps what a list's heap keeps besides.
use Rattle.std.proofs.Common.{◌≡◌, ℕ, List, ◌∷◌, ◌++◌, Option, Some, None, refl}
use Rattle.std.proofs.lemmas.Option.{none-some}
use Rattle.flit_words.specs.declared.layouts.Layout.{Layout}
use Rattle.flit_model.specs.declared.events.Event.{Event}
use Rattle.flit_model.specs.declared.calls.Reply.{Reply}
use Rattle.flit_place.specs.Tags.{Place}
use Rattle.flit_structure.specs.declared.workers.Doing.{Doing}
use Rattle.flit_structure.specs.declared.workers.Doing.TheVariants.{Idle, Busy, Evicting}
use Rattle.flit_structure.specs.declared.workers.Worker.{Worker}
use Rattle.flit_structure.specs.Moments.{Moment, with_workers}
use Rattle.flit_structure.specs.Meanings.{asks, moment_after, reply_at, Happens, hiring, reordering, beginning, finishing, evicting, evicted, making, writing_back}
use Rattle.flit_crew.specs.Crews.{Crew, Holds}
use Rattle.flit_crew.specs.Obligations.{Keeps}
use Rattle.flit_crew.proofs.WritingBack.{written_back}
use Rattle.flit_crew.proofs.Hiring.{hires, orders}
use Rattle.flit_crew.proofs.Beginning.{begins, ends}
use Rattle.flit_crew.proofs.Evicting.{evicts, evict_over, evict_steps}
use Rattle.flit_crew.proofs.CallSteps.{call_step}
use Rattle.flit_list_steps.specs.Operations.{HeldOp}
use Rattle.flit_list_heap.specs.Keeping.{ListHeap}
use Rattle.flit_list_laws.specs.ListAnatomy.{list_anatomy}
use Rattle.flit_list_laws.specs.ListCrew.{IsOfLists}
use Rattle.flit_list_laws.proofs.Keeping.{lists_keep}
use Rattle.flit_list_structure.specs.ListStructure.{lists}
use Rattle.flit_marked_laws.proofs.Strengthening.{crew_with, Both, both_keep}
use Rattle.flit_marked_laws.proofs.Ties.{kept_now, later_now, knows_now, Besides}

none_asked : (o : Option Event) (x y : Reply) → reply_at o x ≡ Some y → o ≡ None
none_asked None x y q = refl
none_asked (Some e) x y q = absurd (cc)

module _ (l : Layout) (p : Place) (free : List ℕ) (chains : IsOfLists l) (Q : ListHeap → Type 0) where
  -- the crew of the lists that keeps Q besides
  abbrev pub Stronger : Crew (ℕ → Rattle.std.specs.Prelude.Bool) HeldOp
  Stronger = crew_with (list_anatomy l p free) (later_now l p free) (knows_now l p free) l p free
      (Both (list_anatomy l p free) (later_now l p free) (knows_now l p free) l p free (kept_now l p free) Q)

  abbrev pub HoldsStronger : Moment HeldOp → Type 0
  HoldsStronger M = Holds Stronger l p free M

  module _ (besides : Besides l p free Q) where
    pub keeps : Keeps Stronger l p free
    keeps = both_keep (list_anatomy l p free) (later_now l p free) (knows_now l p free) l p free (kept_now l p free) Q besides
        (lists_keep.keeps l p free chains)

    worker_step : (M : Moment HeldOp) (a : List (Worker HeldOp)) (name number : ℕ) (d : Doing HeldOp) (b : List (Worker HeldOp)) (e : Event) →
        let u : Worker HeldOp = record { name = name; number = number; doing = d } in
        asks (lists l p free) d ≡ Some e → HoldsStronger (with_workers M (a ++ u ∷ b)) → HoldsStronger (moment_after (lists l p free) M e a u b)
    worker_step M a name number (Idle hand) b e q h = absurd (none-some e q)
    worker_step M a name number (Busy op call begun) b e q h =
        call_step Stronger l p free keeps M a name number op call begun b h (Stronger.anatomy.machine op) refl e q
    worker_step M a name number (Evicting m) b e q h = evict_steps Stronger l p free keeps M a b name number m m.at refl e q h

    pub lasts : (who : Option ℕ) (M N : Moment HeldOp) → Happens (lists l p free) who M N → HoldsStronger M → HoldsStronger N
    lasts _ _ _ (hiring M name least most new) h = hires Stronger l p free M name least most new h
    lasts _ _ _ (reordering M a x y b) h = orders Stronger l p free M a x y b h
    lasts _ _ _ (beginning M a name number hand call b may) h = begins Stronger l p free keeps M a b name number hand call may.served h
    lasts _ _ _ (finishing M a name number op call begun reply b replied) h =
        ends Stronger l p free keeps M a b name number op call begun h (none_asked _ (Stronger.anatomy.reply op) reply replied)
    lasts _ _ _ (evicting M a name number hand word b below) h = evicts Stronger l p free keeps M a b name number hand word below h
    lasts _ _ _ (evicted M a name number evict b) h = evict_over Stronger l p free keeps M a b name number evict h
    lasts _ _ _ (making M a u b e q) h = worker_step M a u.name u.number u.doing b e q h
    lasts _ _ _ (writing_back M word below) h = written_back Stronger l p free keeps M h word below
