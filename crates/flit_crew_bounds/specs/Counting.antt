-- The counts of hands: none passes its top; and how those of a call, and its spare rows, go on where its machine has
-- ended. What machines make of a hand is known, so this is all that a structure has to show of it.
use Rattle.std.specs.Prelude.{◌≡◌, ◌⊎◌, ℕ, ◌≤◌, true, List}
use Rattle.std.specs.List.{AllByRecursion}
use Rattle.flit_model.specs.declared.calls.Call.{Call}
use Rattle.flit_model.specs.declared.calls.Tally.{Tally}
use Rattle.flit_place.specs.Tags.{Place}
use Rattle.flit_pv.specs.declared.hands.Hand.{Hand}
use Rattle.flit_pv.specs.Tallies.{IsTally, Counts}
use Rattle.flit_structure.specs.declared.workers.Worker.{Worker}
use Rattle.flit_structure.specs.Lawful.{AreSpareIn, AreLoadsSplit, is_insert}
use Rattle.flit_crew.specs.Machines.{Machine, machine_takes, hand_in, has_ended, deed_of, has_linked}
use Rattle.flit_crew.specs.Heaps.{Heap}
use Rattle.flit_crew.specs.Anatomies.{Anatomy, hand_at}
use Rattle.flit_crew.specs.Crews.{Crew, Who}

-- a tally as a call goes on from its ended machine: loads that end without an event may be counted, a removal that was
-- helped may be, and a search that begins; no write-back and no lost exchange
pub record GoesOnWith (was now : Tally) : Type 0 where
  pub within : IsTally now
  pub loads : was.loads ≤ now.loads
  pub omitted : was.omitted ≤ now.omitted
  pub queued : was.queued ≤ now.queued
  pub split : AreLoadsSplit was → AreLoadsSplit now
  pub persists : now.persists ≡ was.persists
  pub failed : now.failed ≡ was.failed
  pub helped : Counts was.helped now.helped
  pub tries : Counts was.tries now.tries

-- a tally as a call begins: a search may begin with it
pub record StartsWith (was now : Tally) : Type 0 where
  pub same : now ≡ record was { tries = now.tries }
  pub tries : Counts was.tries now.tries

module _ {Op : Type 0} (A : Anatomy Op) where
  abbrev pub tally_of : Op → Tally
  tally_of op = (hand_in (A.machine op)).tally

  -- no count of any hand is past its top
  abbrev pub AreCounting : List (Worker Op) → Type 0
  AreCounting us = AllByRecursion (λ u. IsTally (hand_at A u.doing).tally) us

  -- its exchange that is won makes an insert's update, so that its rows are linked
  pub record HasLinkedBy (op : Op) (m : Machine) : Type 0 where
    pub effects : A.effects op ≡ true
    pub insert : is_insert (A.call op) ≡ true
    pub linked : has_linked (deed_of m) ≡ true

  -- a machine that has ended as one event left it, where the call goes on
  pub record Ends (p : Place) (free : List ℕ) (op : Op) (m : Machine) : Type 0 where
    pub told : ℕ
    pub is : m ≡ machine_takes p free (A.machine op) told
    pub ended : has_ended p m ≡ true

-- what a structure shows of the hands of its operations
pub record KeepsCounts {G Op : Type 0} (c : Crew G Op) (p : Place) (free : List ℕ) : Type 0 where
  -- a call begins with its hand's counts, but for the search
  pub begun : (hand : Hand) (call : Call) → IsTally hand.tally → StartsWith hand.tally (tally_of c.anatomy (c.anatomy.begun hand call))
  -- it goes on with those of its ended machine, but for loads, a help and a search
  pub resumed : (op : Op) (m : Machine) → Ends c.anatomy p free op m → IsTally (hand_in m).tally →
      GoesOnWith (hand_in m).tally (tally_of c.anatomy (c.anatomy.resumed op m))
  -- and, by what it knows of a kept heap, with its spare rows, unless they were linked
  pub spare : (h : Heap G) (me : Who) (op : Op) (m : Machine) → c.kept h → c.knows h me op → c.anatomy.call op ≡ me.call → Ends c.anatomy p free op m →
      AreSpareIn (hand_in (c.anatomy.machine (c.anatomy.resumed op m))) (hand_in m) ⊎ HasLinkedBy c.anatomy op m
