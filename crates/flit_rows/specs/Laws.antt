-- What holds of the rows that workers draw from the pool, and of the TakeRow that draws them.
use Rattle.std.specs.Prelude.{◌≡◌, ◌≢◌, ℕ, ◌↔◌, ◌+◌, ◌-◌, ◌*◌, ◌^◌, ◌<◌, ◌≤◌, true, false, List, [], ◌∷◌, ◌++◌, length, drop, min}
use Rattle.std.specs.Prelude.{sum_by, Contains, slice_index, take}
use Rattle.std.specs.List.{AllByRecursion}
use Rattle.std.specs.List.Sorted.{IsPermutation, IsStrictlyIncreasing}
use Rattle.flit_words.specs.declared.limits.TheConstants.{MOST_WORKERS}
use Rattle.flit_model.specs.declared.events.Event.{Event}
use Rattle.flit_model.specs.declared.events.Event.TheVariants.{Draw}
use Rattle.flit_model.specs.States.{State}
use Rattle.flit_model.specs.Effects.{IsAllowed}
use Rattle.flit_pv.specs.declared.hands.Hand.{Hand}
use Rattle.flit_rows.specs.declared.take_row.Took.{Took}
use Rattle.flit_rows.specs.declared.take_row.Took.TheVariants.{Taken, None as NoRow}
use Rattle.flit_rows.specs.Taking.{HeldTake, lacks, take_started, take_asked, take_taken, HasTaken, IsRight}
use Rattle.flit_pv.specs.Played.{AnsweredEvent, Played}
use Rattle.flit_rows.specs.TakeLists.{IsTakeList}
use Rattle.flit_rows.specs.Shares.{Share, HasNothing, IsDealt, IsOnce, all_got, all_spare, rows_in, share_drawn, share_used}
use Rattle.flit_rows.specs.Takers.{Takes, Taker, PoolState, PoolStep, PoolRun, IsBeginning, IsFair, hand_at, shares}

-- From its start to its end a TakeRow makes just such a list of Draws, with such an end.
abbrev pub TakeLists : Type 0
TakeLists = (free : List ℕ) (need : ℕ) (hand : Hand) (list : List AnsweredEvent) (left : Hand) (took : Took) →
    ((m : HeldTake) × Played take_asked (take_taken free) (take_started free hand need) list m × HasTaken m left took) ↔ IsTakeList free need hand list left took

-- Its events are Draws. It ends Taken exactly where no row is missing, and None exactly where a row is missing and the
-- ticket, which it tells, is at or past the number of free rows. Of free rows from 1 on it makes no more Draws than rows
-- are needed.
pub record TakeEnds : Type 0 where
  pub draws : (free : List ℕ) (need : ℕ) (hand : Hand) (list : List AnsweredEvent) (left : Hand) (took : Took) → IsTakeList free need hand list left took →
      AllByRecursion (λ t. t.event ≡ Draw) list
  pub taken : (free : List ℕ) (need : ℕ) (hand : Hand) (list : List AnsweredEvent) (left : Hand) (took : Took) → IsTakeList free need hand list left took →
      (took ≡ Taken) ↔ (lacks need left.spare ≡ false)
  pub none : (free : List ℕ) (need : ℕ) (hand : Hand) (list : List AnsweredEvent) (left : Hand) (took : Took) (ticket : ℕ) →
      IsTakeList free need hand list left took →
      (took ≡ NoRow ticket) ↔ ((lacks need left.spare ≡ true) × (length free ≤ left.ticket) × (ticket ≡ left.ticket))
  pub few : (free : List ℕ) (need : ℕ) (hand : Hand) (list : List AnsweredEvent) (left : Hand) (took : Took) → AllByRecursion (λ row. 1 ≤ row) free →
      IsTakeList free need hand list left took → length list ≤ need

-- A TakeRow changes nothing of the hand but its ticket and its first `need` spare places; a row in a spare place stays
-- there, and where no row is missing each of the first `need` places has one.
pub record TakeKeeps : Type 0 where
  pub others : (free : List ℕ) (need : ℕ) (hand : Hand) (list : List AnsweredEvent) (left : Hand) (took : Took) → IsTakeList free need hand list left took →
      left ≡ record hand { ticket = left.ticket; spare = left.spare }
  pub stays : (free : List ℕ) (need : ℕ) (hand : Hand) (list : List AnsweredEvent) (left : Hand) (took : Took) (place : ℕ) →
      IsTakeList free need hand list left took → slice_index hand.spare place ≢ 0 → slice_index left.spare place ≡ slice_index hand.spare place
  pub beyond : (free : List ℕ) (need : ℕ) (hand : Hand) (list : List AnsweredEvent) (left : Hand) (took : Took) → IsTakeList free need hand list left took →
      drop need left.spare ≡ drop need hand.spare
  pub filled : (need : ℕ) (spare : List ℕ) (place : ℕ) → lacks need spare ≡ false → place < need → place < length spare → slice_index spare place ≢ 0

-- A hand without rows from place `need` on has at most `need` spare rows, and fewer where one is missing.
pub record SpareRowsFew : Type 0 where
  pub few : (need : ℕ) (spare : List ℕ) → rows_in (drop need spare) ≡ [] → length (rows_in spare) ≤ need
  pub fewer : (need : ℕ) (spare : List ℕ) → rows_in (drop need spare) ≡ [] → lacks need spare ≡ true → length (rows_in spare) < need

-- At each moment a TakeRow stands right: it draws only where a row is missing and the ticket gives one.
pub record TakeStandsRight : Type 0 where
  pub start : (free : List ℕ) (hand : Hand) (need : ℕ) → IsRight free (take_started free hand need)
  pub taken : (free : List ℕ) (m : HeldTake) (told : ℕ) → IsRight free m → IsRight free (take_taken free m told)

-- Before the first Draw the rows are dealt, to workers with ticket 0 and without rows.
abbrev pub FreshIsDealt : Type 0
FreshIsDealt = (free : List ℕ) (shares : List Share) → AllByRecursion HasNothing shares → IsDealt free 0 shares

-- A Draw of one worker deals the next row to it.
abbrev pub DrawDeals : Type 0
DrawDeals = (free : List ℕ) (counter need : ℕ) (before : List Share) (me : Share) (behind : List Share) → lacks need me.spare ≡ true →
    me.ticket < length free → IsDealt free counter (before ++ me ∷ behind) → IsDealt free (counter + 1) (before ++ share_drawn free me counter ∷ behind)

-- The use of one worker's spare row keeps what is dealt.
abbrev pub UseKeepsDealt : Type 0
UseKeepsDealt = (free : List ℕ) (counter : ℕ) (before : List Share) (me : Share) (behind : List Share) (place : ℕ) →
    IsDealt free counter (before ++ me ∷ behind) → IsDealt free counter (before ++ share_used me place ∷ behind)

-- Each free row goes to one worker, once; the spare rows of all workers are different, and each was got by its worker.
pub record EachRowOnce : Type 0 where
  pub got : (free : List ℕ) (counter : ℕ) (shares : List Share) → IsStrictlyIncreasing free → IsDealt free counter shares → IsOnce (all_got shares)
  pub spare : (free : List ℕ) (counter : ℕ) (shares : List Share) → IsStrictlyIncreasing free → IsDealt free counter shares → IsOnce (all_spare shares)
  pub apart : (free : List ℕ) (counter : ℕ) (before : List Share) (me : Share) (between : List Share) (other : Share) (behind : List Share) (row : ℕ) →
      IsStrictlyIncreasing free → IsDealt free counter (before ++ me ∷ between ++ other ∷ behind) → Contains (rows_in me.spare) row →
      Contains (rows_in other.spare) row → ⊥
  pub held : (free : List ℕ) (counter : ℕ) (before : List Share) (me : Share) (behind : List Share) (row : ℕ) → IsDealt free counter (before ++ me ∷ behind) →
      Contains (rows_in me.spare) row → Contains me.got row

-- What was got are free rows, as many as the counter says or all of them. A row that is still to be drawn was got by
-- nobody.
pub record DealtRowsAreFree : Type 0 where
  pub free : (free : List ℕ) (counter : ℕ) (shares : List Share) (row : ℕ) → IsDealt free counter shares → Contains (all_got shares) row → Contains free row
  pub number : (free : List ℕ) (counter : ℕ) (shares : List Share) → IsDealt free counter shares → length (all_got shares) ≡ min counter (length free)
  pub drawn : (free : List ℕ) (counter : ℕ) (shares : List Share) (row : ℕ) → IsStrictlyIncreasing free → IsDealt free counter shares →
      Contains (drop counter free) row → Contains (all_got shares) row → ⊥

-- The counter is at most the number of free rows and of workers. So a Draw is always allowed, for at most `MOST_WORKERS` workers.
pub record CounterWithin : Type 0 where
  pub bound : (free : List ℕ) (counter : ℕ) (shares : List Share) → IsDealt free counter shares → counter ≤ length free + length shares
  pub allowed : (free : List ℕ) (s : State) (shares : List Share) → IsStrictlyIncreasing free → AllByRecursion (λ row. row < 2 ^ 32) free →
      length shares ≤ MOST_WORKERS → IsDealt free s.counter shares → IsAllowed s Draw

-- Where the ticket of a worker is at or past the number of free rows, so is the counter, and all free rows have been got.
-- Where each worker has at most `need` spare rows, and this one fewer, more rows than all free rows but `need` for each
-- worker have been used.
pub record PastTheEnd : Type 0 where
  pub counter : (free : List ℕ) (counter : ℕ) (before : List Share) (me : Share) (behind : List Share) → IsDealt free counter (before ++ me ∷ behind) →
      length free ≤ me.ticket → length free ≤ counter
  pub got : (free : List ℕ) (counter : ℕ) (before : List Share) (me : Share) (behind : List Share) → IsDealt free counter (before ++ me ∷ behind) →
      length free ≤ me.ticket → IsPermutation (all_got (before ++ me ∷ behind)) free
  pub used : (free : List ℕ) (counter need : ℕ) (before : List Share) (me : Share) (behind : List Share) → IsDealt free counter (before ++ me ∷ behind) →
      length free ≤ me.ticket → AllByRecursion (λ s. length (rows_in s.spare) ≤ need) (before ++ me ∷ behind) → length (rows_in me.spare) < need →
      length free < sum_by (λ s. length s.got - length (rows_in s.spare)) (before ++ me ∷ behind) + need * length (before ++ me ∷ behind)

-- The invariant holds at the beginning, and each turn keeps it; so it holds at the end of each run.
pub record TakersAreFair : Type 0 where
  pub beginning : (free : List ℕ) (first : PoolState) → IsBeginning first → IsFair free first
  pub turn : (free : List ℕ) (w v : PoolState) → PoolStep free w v → IsFair free w → IsFair free v
  pub run : (free : List ℕ) (first last : PoolState) → PoolRun free first last → IsBeginning first → IsFair free last

-- Whatever turns the workers take, each free row goes to one of them, once: what they have got, together, are the first
-- free rows, as many as the counter says or all of them. Their spare rows are different, and each was got
-- by the worker that has it.
pub record RowsGoOnce : Type 0 where
  pub first : (free : List ℕ) (first last : PoolState) → PoolRun free first last → IsBeginning first →
      IsPermutation (all_got (shares last.takers)) (take last.counter free)
  pub once : (free : List ℕ) (first last : PoolState) → IsStrictlyIncreasing free → PoolRun free first last → IsBeginning first →
      IsOnce (all_got (shares last.takers))
  pub spare : (free : List ℕ) (first last : PoolState) → IsStrictlyIncreasing free → PoolRun free first last → IsBeginning first →
      IsOnce (all_spare (shares last.takers))
  pub held : (free : List ℕ) (first last : PoolState) (before : List Taker) (me : Taker) (behind : List Taker) (row : ℕ) → PoolRun free first last →
      IsBeginning first → last.takers ≡ before ++ me ∷ behind → Contains (rows_in (hand_at me.at).spare) row → Contains me.got row

-- The counter is at most the number of free rows and of workers, because at most one Draw of each worker gives no row. So
-- a Draw is always allowed, for at most `MOST_WORKERS` workers.
pub record DrawsPastTheEnd : Type 0 where
  pub counter : (free : List ℕ) (first last : PoolState) → PoolRun free first last → IsBeginning first → last.counter ≤ length free + length last.takers
  pub once : (free : List ℕ) (first last : PoolState) → PoolRun free first last → IsBeginning first → AllByRecursion (λ me. me.vain ≤ 1) last.takers
  pub allowed : (free : List ℕ) (first last : PoolState) (s : State) → IsStrictlyIncreasing free → AllByRecursion (λ row. row < 2 ^ 32) free →
      PoolRun free first last → IsBeginning first → length first.takers ≤ MOST_WORKERS → s.counter ≡ last.counter → IsAllowed s Draw

-- A TakeRow ends None exactly where a row is missing and the ticket is at or past the number of free rows. Then the
-- counter is there too, and all free rows have been got.
pub record NoneIsFull : Type 0 where
  pub taken : (free : List ℕ) (first last : PoolState) (before : List Taker) (me : Taker) (behind : List Taker) (m : HeldTake) (left : Hand) (took : Took) →
      PoolRun free first last → IsBeginning first → last.takers ≡ before ++ me ∷ behind → me.at ≡ Takes m → HasTaken m left took →
      (took ≡ Taken) ↔ (lacks m.need left.spare ≡ false)
  pub none : (free : List ℕ) (first last : PoolState) (before : List Taker) (me : Taker) (behind : List Taker) (m : HeldTake) (left : Hand) (took : Took)
      (ticket : ℕ) → PoolRun free first last → IsBeginning first → last.takers ≡ before ++ me ∷ behind → me.at ≡ Takes m → HasTaken m left took →
      (took ≡ NoRow ticket) ↔ ((lacks m.need left.spare ≡ true) × (length free ≤ left.ticket) × (ticket ≡ left.ticket))
  pub counter : (free : List ℕ) (first last : PoolState) (before : List Taker) (me : Taker) (behind : List Taker) (m : HeldTake) (left : Hand) (ticket : ℕ) →
      PoolRun free first last → IsBeginning first → last.takers ≡ before ++ me ∷ behind → me.at ≡ Takes m → HasTaken m left (NoRow ticket) →
      length free ≤ last.counter
  pub got : (free : List ℕ) (first last : PoolState) (before : List Taker) (me : Taker) (behind : List Taker) (m : HeldTake) (left : Hand) (ticket : ℕ) →
      PoolRun free first last → IsBeginning first → last.takers ≡ before ++ me ∷ behind → me.at ≡ Takes m → HasTaken m left (NoRow ticket) →
      IsPermutation (all_got (shares last.takers)) free
