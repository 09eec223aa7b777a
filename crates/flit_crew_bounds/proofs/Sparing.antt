-- A row leaves the spare rows of an operation's hand only in an insert whose update is made.
use Rattle.std.proofs.Common.{◌≡◌, ◌⊎◌, inl, inr, ℕ, ◌&&◌, not, Bool, true, false, List, ◌∷◌, ◌++◌, Option, Some, is_none, refl, sym, ◌∙◌, ap, subst, []}
use Rattle.std.proofs.lemmas.Bool.{false≢true}
use Rattle.std.specs.Prelude.{Contains}
use Rattle.std.proofs.lemmas.List.Elements.{Contains-append_left, Contains-append_right, Contains-push}
use Rattle.flit_words.specs.declared.layouts.Layout.{Layout}
use Rattle.flit_model.specs.Effects.{answer}
use Rattle.flit_model.specs.Settling.{Progress, progress_after}
use Rattle.flit_model.specs.States.{State}
use Rattle.flit_model.specs.declared.events.Event.{Event}
use Rattle.flit_model.specs.declared.calls.Call.{Call}
use Rattle.flit_model.specs.declared.calls.Entry.{Entry}
use Rattle.flit_place.specs.Tags.{Place}
use Rattle.flit_pv.specs.Exchanges.{HeldExchange, exchange_asks, exchange_asked, exchange_taken}
use Rattle.flit_pv.specs.declared.exchanges.Exchanging.{Exchanging}
use Rattle.flit_pv.specs.declared.exchanges.Exchanging.TheVariants.{Ready, Tries, TriesBare, WritesBack, Withdraws, Lowers, Ended}
use Rattle.flit_pv.specs.declared.exchanges.Exchanged.TheVariants.{Won, Lost, Worn}
use Rattle.flit_pv.proofs.Asking.{has_won, withdraws, wins_at_the_end}
use Rattle.flit_runs.specs.Worlds.{Actor}
use Rattle.flit_runs.specs.Workings as run
use Rattle.flit_runs.specs.Workings.{Working, Idles, Loads, VLoads, Confirms, Exchanges, VExchanges, Stores, Fences, Completes, Evicts}
use Rattle.flit_structure.specs.declared.workers.Worker.{Worker}
use Rattle.flit_structure.specs.Moments.{Moment, with_workers, busy, update_of, made, waiting_updates}
use Rattle.flit_structure.specs.Meanings.{first_at}
use Rattle.flit_structure.specs.Lawful.{StandsFrom, AreSpareIn, is_insert}
use Rattle.flit_structure.proofs.Growing.{settles_one, gains_one}
use Rattle.flit_crew.specs.Machines.{Machine, Works, Takes, Made, machine_asks, machine_takes, hand_in, has_ended, is_complete, deed_of, exchange_deed, has_linked}
use Rattle.flit_crew.specs.Heaps.{Heap}
use Rattle.flit_crew.specs.Anatomies.{Anatomy, deed_by, gone_by, op_taken}
use Rattle.flit_crew.specs.Accounts.{HasUpdate}
use Rattle.flit_crew.specs.Crews.{Crew, Holds, IsBusy, who_of}
use Rattle.flit_crew.specs.Obligations.{Keeps}
use Rattle.flit_crew.proofs.Moving.{h, mine}
use Rattle.flit_crew_bounds.proofs.MachineFalls.{and_first}
use Rattle.flit_crew_bounds.specs.Counting.{HasLinkedBy, KeepsCounts}
use Rattle.flit_crew_bounds.proofs.MachineHands.{machine_spare}

-- ---- an exchange that has ended and whose rows are linked has won, and was to withdraw its tag

linked_won : (p : Place) (n : HeldExchange) (at : Exchanging) → is_none (exchange_asks p at n) ≡ true → has_linked (exchange_deed at n) ≡ true →
    has_won at ≡ true
linked_won p n Ready none linked = linked
linked_won p n (Tries slot) none linked = linked
linked_won p n TriesBare none linked = linked
linked_won p n WritesBack none linked = absurd (false≢true none)
linked_won p n Withdraws none linked = absurd (false≢true none)
linked_won p n (Lowers slot found) none linked = linked
linked_won p n (Ended Won) none linked = refl
linked_won p n (Ended (Lost found)) none linked = linked
linked_won p n (Ended (Worn word version)) none linked = linked

withdraws_made : (m : HeldExchange) (at : Exchanging) → withdraws at ≡ true → exchange_deed at m ≡ Made
withdraws_made m Ready q = absurd (false≢true q)
withdraws_made m (Tries slot) q = absurd (false≢true q)
withdraws_made m TriesBare q = absurd (false≢true q)
withdraws_made m WritesBack q = absurd (false≢true q)
withdraws_made m Withdraws q = refl
withdraws_made m (Lowers slot found) q = absurd (false≢true q)
withdraws_made m (Ended how) q = absurd (false≢true q)

exchange_made : (p : Place) (m : HeldExchange) (e : Event) (told : ℕ) → exchange_asked p m ≡ Some e →
    is_none (exchange_asks p (exchange_taken p m told).at (exchange_taken p m told)) ≡ true →
    has_linked (exchange_deed (exchange_taken p m told).at (exchange_taken p m told)) ≡ true → exchange_deed m.at m ≡ Made
exchange_made p m e told q none linked = by_test (withdraws m.at) refl
  where
    won : has_won (exchange_taken p m told).at ≡ true
    won = linked_won p (exchange_taken p m told) (exchange_taken p m told).at none linked

    by_test : (b : Bool) → withdraws m.at ≡ b → exchange_deed m.at m ≡ Made
    by_test true w = withdraws_made m m.at w
    by_test false w = absurd (false≢true (sym (wins_at_the_end m told p e q w) ∙ won))

working_made : (p : Place) (free : List ℕ) (w : Working) (e : Event) (told : ℕ) → run.asks p w ≡ Some e →
    is_none (run.asks p (run.takes p w told)) ≡ true → has_linked (deed_of (Works (run.takes p w told))) ≡ true → deed_of (Works w) ≡ Made
working_made p free (Idles hand) e told q none linked = absurd (false≢true linked)
working_made p free (Loads m) e told q none linked = absurd (false≢true linked)
working_made p free (VLoads m) e told q none linked = absurd (false≢true linked)
working_made p free (Confirms m) e told q none linked = absurd (false≢true linked)
working_made p free (Exchanges m) e told q none linked = exchange_made p m e told q none linked
working_made p free (VExchanges m) e told q none linked = absurd (false≢true linked)
working_made p free (Stores m) e told q none linked = absurd (false≢true linked)
working_made p free (Fences m) e told q none linked = absurd (false≢true linked)
working_made p free (Completes m) e told q none linked = absurd (false≢true linked)
working_made p free (Evicts m) e told q none linked = absurd (false≢true linked)

-- where a machine has ended by its event and its rows are linked, the update was made before
pub machine_made : (p : Place) (free : List ℕ) (m : Machine) (e : Event) (told : ℕ) → machine_asks p m ≡ Some e →
    has_ended p (machine_takes p free m told) ≡ true → has_linked (deed_of (machine_takes p free m told)) ≡ true → deed_of m ≡ Made
machine_made p free (Works w) e told q ended linked =
    working_made p free w e told q (and_first (is_none (run.asks p (run.takes p w told))) (not (is_complete (run.takes p w told))) ended) linked
machine_made p free (Takes m) e told q ended linked = absurd (false≢true linked)

-- ---- an update that is settled is made, and goes on being so

first_in : (e : Entry) (es : List Entry) → Contains (e ∷ es) e
first_in e es = Contains-append_left (e ∷ []) es e (Contains-push [] e)

stands_in : (n : ℕ) (es : List Entry) (e : Entry) → StandsFrom n es e → Contains es e
stands_in n es e s = subst (λ xs. Contains xs e) (sym s.2) (Contains-append_right s.0 (e ∷ s.1) e (first_in e s.1))

pub still_made : (q : Progress) (s : State) (e : Event) (effect : Option Entry) (n : ℕ) (x : Entry) → StandsFrom n q.settled x →
    Contains (made (progress_after q s e effect)) x
still_made q s e effect n x stands =
    let now : Progress = progress_after q s e effect in
    let g = gains_one q now e (settles_one q s e effect) in
    Contains-append_left now.settled (waiting_updates now) x
    (subst (λ xs. Contains xs x) (sym g.1) (Contains-append_left q.settled g.0 x (stands_in n q.settled x stands)))

module _ {G Op : Type 0} (c : Crew G Op) (l : Layout) (p : Place) (free : List ℕ) (keeps : Keeps c l p free) (counts : KeepsCounts c p free)
    (M : Moment Op) (a : List (Worker Op)) (name number : ℕ) (op : Op) (call : Call) (begun : Option ℕ) (b : List (Worker Op))
    (holds : Holds c l p free (with_workers M (a ++ busy name number op call begun ∷ b))) where
  abbrev A : Anatomy Op
  A = c.anatomy

  abbrev heap : Heap G
  heap = h c l p free keeps M a (busy name number op call begun) b holds

  abbrev actor : Actor
  actor = (mine c l p free keeps M a (busy name number op call begun) b holds).actor

  known : IsBusy c l p free heap actor name number op call begun
  known = (mine c l p free keeps M a (busy name number op call begun) b holds).mine.doing

  -- an operation that effects and whose machine has made its update has made it
  settled_now : A.effects op ≡ true → deed_of (A.machine op) ≡ Made → StandsFrom (first_at 0 begun) M.progress.settled (update_of name number call)
  settled_now effects is = subst (HasUpdate heap name number call (first_at 0 begun))
      (ap (λ t. deed_by A t (A.past op) (deed_of (A.machine op))) effects ∙ is) known.update

  pub spares : (e : Event) (effect : Option Entry) → machine_asks p (A.machine op) ≡ Some e →
      AreSpareIn (hand_in (A.machine (op_taken A p free op (answer M.state e)))) (hand_in (A.machine op))
      ⊎ ((is_insert call ≡ true) × Contains (made (progress_after M.progress M.state e effect)) (update_of name number call))
  spares e effect q = by_end (has_ended p m) refl
    where
      m : Machine
      m = machine_takes p free (A.machine op) (answer M.state e)

      Goal : Op → Type 0
      Goal next = AreSpareIn (hand_in (A.machine next)) (hand_in (A.machine op))
          ⊎ ((is_insert call ≡ true) × Contains (made (progress_after M.progress M.state e effect)) (update_of name number call))

      on : AreSpareIn (hand_in m) (hand_in (A.machine op))
      on = machine_spare p free (A.machine op) (answer M.state e)

      over : has_ended p m ≡ true → AreSpareIn (hand_in (A.machine (A.resumed op m))) (hand_in m) ⊎ HasLinkedBy A op m → Goal (A.resumed op m)
      over ended (inl s) = inl (λ row some has. s row some (on row some has))
      over ended (inr k) = inr (
        ap is_insert (sym known.same_call) ∙ k.insert,
        still_made M.progress M.state e effect (first_at 0 begun) (update_of name number call)
            (settled_now k.effects (machine_made p free (A.machine op) e (answer M.state e) q ended k.linked)),
      )

      by_end : (t : Bool) → has_ended p m ≡ t → Goal (gone_by A t op m)
      by_end true ended = over ended (counts.spare heap (who_of name number call begun actor) op m holds.kept known.knows known.same_call
          (record { told = answer M.state e; is = refl; ended = ended }))
      by_end false going = inl (λ row some has. subst (λ x. Contains (hand_in x).spare row) (sym (keeps.put op m (answer M.state e, refl))) (on row some has))
