-- The counts of a call go on, and those of all hands stay within, whatever happens.
use Rattle.std.proofs.Common.{◌≡◌, ℕ, ◌+◌, ◌-◌, ◌^◌, ◌≤◌, Bool, true, false, List, length, Option, Some, None, refl, sym, ◌∙◌, subst, arith}
use Rattle.std.proofs.lemmas.Option.{none-some}
use Rattle.flit_words.specs.declared.layouts.Layout.{Layout}
use Rattle.flit_model.specs.Effects.{answer}
use Rattle.flit_model.specs.declared.events.Event.{Event}
use Rattle.flit_model.specs.declared.calls.Tally.{Tally}
use Rattle.flit_place.specs.Tags.{Place}
use Rattle.flit_pv.specs.Hands.{no_tally}
use Rattle.flit_pv.specs.Evicts.{evict_started}
use Rattle.flit_pv.specs.Tallies.{IsTally, Counts, Tallies}
use Rattle.flit_pv.proofs.OneEvent.{counts_up, tallies_within, evict_goes_on, counts_within}
use Rattle.flit_structure.specs.declared.workers.Doing.{Doing}
use Rattle.flit_structure.specs.declared.workers.Doing.TheVariants.{Idle, Busy, Evicting}
use Rattle.flit_structure.specs.declared.workers.Worker.{Worker}
use Rattle.flit_structure.specs.Moments.{Moment, idle, busy, sweeper}
use Rattle.flit_structure.specs.Meanings.{Meaning, Happens, hiring, reordering, beginning, finishing, evicting, evicted, making, writing_back, asks, goes_on}
use Rattle.flit_structure.specs.Lawful.{IsCounted, BeginsWith, GrowsTo, is_persist}
use Rattle.flit_structure.proofs.Names.{all_at, all_put, all_swap}
use Rattle.flit_crew.specs.Machines.{Machine, machine_asks, machine_takes, hand_in, has_ended}
use Rattle.flit_crew.specs.Anatomies.{Anatomy, gone_by, op_taken, hand_at}
use Rattle.flit_crew.specs.Crews.{Crew}
use Rattle.flit_crew.specs.CrewMeanings.{Bounds, crew_meaning}
use Rattle.flit_crew.specs.Obligations.{Keeps}
use Rattle.flit_crew_bounds.specs.Counting.{GoesOnWith, StartsWith, tally_of, AreCounting, KeepsCounts}
use Rattle.flit_crew_bounds.proofs.MachineHands.{Tallied, machine_tallied}
use Rattle.flit_crew_bounds.proofs.WriteBacksCounted.{Adds, machine_adds}

-- ---- tallies

-- a tally after one event: it has grown, and is within
pub record Counted (e : Event) (was now : Tally) : Type 0 where
  pub grows : GrowsTo e was now
  pub within : IsTally now

counted : (was now : ℕ) → was ≤ 2 ^ 64 - 1 → Counts was now → IsCounted was now
counted was now top h = let k = counts_up was now top h in record { least = k.0; most = k.1 }

pub counted_all : (e : Event) (was now : Tally) → IsTally was → Tallies was now → Adds (is_persist e) was now → Counted e was now
counted_all e was now t h adds = record {
  grows = record {
    loads = (counts_up was.loads now.loads t.loads h.loads).0;
    omitted = (counts_up was.omitted now.omitted t.omitted h.omitted).0;
    queued = (counts_up was.queued now.queued t.queued h.queued).0;
    split = adds.split;
    persists = adds.persists;
    failed = counted was.failed now.failed t.failed h.failed;
    helped = counted was.helped now.helped t.helped h.helped;
    tries = counted was.tries now.tries t.tries h.tries;
  };
  within = tallies_within was now t h;
}

through : (a b c : ℕ) → a ≤ b → b ≤ c → a ≤ c
through a b c h i = omega (arith, h, i)

-- an event of its machine, and what comes behind it
pub counted_on : (e : Event) (was mid now : Tally) → IsTally was → Tallied was mid → Adds (is_persist e) was mid → GoesOnWith mid now → Counted e was now
counted_on e was mid now t m adds g =
    let k = (counted_all e was mid t m.counts adds).grows in
    record {
      grows = record {
        loads = through was.loads mid.loads now.loads k.loads g.loads;
        omitted = through was.omitted mid.omitted now.omitted k.omitted g.omitted;
        queued = through was.queued mid.queued now.queued k.queued g.queued;
        split = λ h. g.split (adds.split h);
        persists = g.persists ∙ adds.persists;
        failed = subst (IsCounted was.failed) (sym g.failed) k.failed;
        helped = counted was.helped now.helped t.helped (subst (λ n. Counts n now.helped) m.helped g.helped);
        tries = counted was.tries now.tries t.tries (subst (λ n. Counts n now.tries) m.tries g.tries);
      };
      within = g.within;
    }

pub started_within : (was now : Tally) → IsTally was → StartsWith was now → IsTally now
started_within was now t s = subst IsTally (sym s.same) (record {
  loads = t.loads;
  omitted = t.omitted;
  queued = t.queued;
  persists = t.persists;
  failed = t.failed;
  helped = t.helped;
  tries = up was.tries now.tries t.tries s.tries;
})
  where
    up : (a b : ℕ) → a ≤ 2 ^ 64 - 1 → Counts a b → b ≤ 2 ^ 64 - 1
    up a b top h = counts_within a b top h

pub started_begins : (was now : Tally) → IsTally was → StartsWith was now → BeginsWith was now
started_begins was now t s = record { same = s.same; tries = counted was.tries now.tries t.tries s.tries }

first_counts : IsTally no_tally
first_counts = record {
  loads = omega arith;
  omitted = omega arith;
  queued = omega arith;
  persists = omega arith;
  failed = omega arith;
  helped = omega arith;
  tries = omega arith;
}

-- ---- operations

module _ {G Op : Type 0} (c : Crew G Op) (l : Layout) (p : Place) (free : List ℕ) (keeps : Keeps c l p free) (counts : KeepsCounts c p free) where
  abbrev A : Anatomy Op
  A = c.anatomy

  -- an event of an operation
  pub op_counted : (op : Op) (e : Event) (told : ℕ) → machine_asks p (A.machine op) ≡ Some e → IsTally (tally_of A op) →
      Counted e (tally_of A op) (tally_of A (op_taken A p free op told))
  op_counted op e told q t = by_end (has_ended p m) refl
    where
      m : Machine
      m = machine_takes p free (A.machine op) told

      tallied : Tallied (tally_of A op) (hand_in m).tally
      tallied = machine_tallied p free (A.machine op) told

      adds : Adds (is_persist e) (tally_of A op) (hand_in m).tally
      adds = machine_adds p free (A.machine op) told e q

      within : IsTally (hand_in m).tally
      within = tallies_within (tally_of A op) (hand_in m).tally t tallied.counts

      by_end : (b : Bool) → has_ended p m ≡ b → Counted e (tally_of A op) (tally_of A (gone_by A b op m))
      by_end true ended = counted_on e (tally_of A op) (hand_in m).tally (tally_of A (A.resumed op m)) t tallied adds
          (counts.resumed op m (record { told = told; is = refl; ended = ended }) within)
      by_end false going = subst (λ x. Counted e (tally_of A op) (hand_in x).tally) (sym (keeps.put op m (told, refl)))
          (counted_all e (tally_of A op) (hand_in m).tally t tallied.counts adds)

  abbrev IsCounting : Worker Op → Type 0
  IsCounting u = IsTally (hand_at A u.doing).tally

  module _ (bounds : Bounds Op) where
    abbrev meaning : Meaning Op
    meaning = crew_meaning c l p free bounds

    doing_counted : (settled told : ℕ) (d : Doing Op) (e : Event) → asks meaning d ≡ Some e → IsTally (hand_at A d).tally →
        IsTally (hand_at A (goes_on meaning settled d told)).tally
    doing_counted settled told (Idle hand) e q t = absurd (none-some e q)
    doing_counted settled told (Busy op call begun) e q t = (op_counted op e told q t).within
    doing_counted settled told (Evicting m) e q t = tallies_within m.hand.tally (hand_at A (goes_on meaning settled (Evicting m) told)).tally t
        (evict_goes_on m told).tally

    -- whatever happens keeps all counts within
    pub counts_kept : (who : Option ℕ) (M N : Moment Op) → Happens meaning who M N → AreCounting A M.workers → AreCounting A N.workers
    counts_kept _ _ _ (hiring M name least most new) h = (first_counts, h)
    counts_kept _ _ _ (reordering M a x y b) h = all_swap IsCounting a x y b h
    counts_kept _ _ _ (beginning M a name number hand call b may) h =
        let t = all_at IsCounting a b (idle name number hand) h in
        all_put IsCounting a b (idle name number hand) (busy name (number + 1) (A.begun hand call) call None)
        (started_within hand.tally (tally_of A (A.begun hand call)) t (counts.begun hand call t)) h
    counts_kept _ _ _ (finishing M a name number op call begun reply b replied) h =
        all_put IsCounting a b (busy name number op call begun) (idle name number (hand_in (A.machine op)))
        (all_at IsCounting a b (busy name number op call begun) h) h
    counts_kept _ _ _ (evicting M a name number hand word b below) h =
        all_put IsCounting a b (idle name number hand) (sweeper name number (evict_started hand word)) (all_at IsCounting a b (idle name number hand) h) h
    counts_kept _ _ _ (evicted M a name number evict b) h =
        all_put IsCounting a b (sweeper name number evict) (idle name number evict.hand) (all_at IsCounting a b (sweeper name number evict) h) h
    counts_kept _ _ _ (making M a u b e q) h =
        let settled : ℕ = length M.progress.settled in
        all_put IsCounting a b u (record u { doing = goes_on meaning settled u.doing (answer M.state e) })
        (doing_counted settled (answer M.state e) u.doing e q (all_at IsCounting a b u h)) h
    counts_kept _ _ _ (writing_back M word below) h = h
