-- What is so of every run that turns lead to from one that was opened.
use Rattle.std.specs.Prelude.{◌≡◌, ◌⊎◌, ℕ, ◌<◌, ◌≤◌, ◌++◌, Bool, List, [], ◌∷◌, Some, None, length, filter, slice_get}
use Rattle.std.specs.List.{AllByRecursion}
use Rattle.std.specs.FinMap as map
use Rattle.flit_model.specs.Maps.{IsLegal}
use Rattle.flit_model.specs.Histories.{IsRightAt}
use Rattle.flit_model.specs.CrashImages.{crash_image}
use Rattle.flit_model.specs.declared.calls.Call.{Call}
use Rattle.flit_model.specs.declared.calls.Entry.{Entry}
use Rattle.flit_model.specs.declared.calls.Item.TheVariants.{Evict}
use Rattle.flit_model.specs.declared.calls.Outcome.{Outcome}
use Rattle.flit_model.specs.declared.calls.Outcome.TheVariants.{Replied, Stopped}
use Rattle.flit_model.specs.declared.calls.Placed.{Placed}
use Rattle.flit_model.specs.declared.calls.Reply.{Reply}
use Rattle.flit_model.specs.declared.calls.Reply.TheVariants.{Full, Worn}
use Rattle.flit_model.specs.declared.calls.Work.{Work}
use Rattle.flit_model.specs.declared.found.Recovered.{Recovered}
use Rattle.flit_structure.specs.Moments.{made, update_of}
use Rattle.flit_structure.specs.Meanings.{Meaning}
use Rattle.flit_structure.specs.Lawful.{IsRecoverable}
use Rattle.flit_sched.specs.Runs.{Part, Run, IsPart}
use Rattle.flit_sched.specs.Openings.{opened_run}
use Rattle.flit_sched.specs.Views.{IsAtMoment, history_with}
use Rattle.flit_histories.specs.Reached.{Leads, IsStart, IsReached, IsWonBetween}
use Rattle.flit_histories.specs.Orders.{IsOver, IsYetToBegin, IsIn, StandsBefore, AreReadsOfOne}
use Rattle.flit_histories.specs.Calls.{IsCallIn, is_of, entries_of, IsOfCall, IsUnderWayAt}

module _ {Op : Type 0} (meaning : Meaning Op) where
  -- A run that is reached is at a moment that holds. Its settled updates are legal from the map at the start, and each
  -- completed read is right at its position. So for each choice of words the history is legal, and recovery finds its map
  -- in the crash image that takes the values ahead of these words.
  pub record RunsAreRight : Type 0 where
    pub moment : (r : Run Op) → IsReached meaning r → IsAtMoment meaning r
    pub settled : (r : Run Op) → IsReached meaning r → IsLegal r.content r.progress.settled
    pub placed : (r : Run Op) → IsReached meaning r → AllByRecursion (IsRightAt r.content r.progress.settled) r.placed
    pub history : (r : Run Op) (picks : ℕ → Bool) → IsReached meaning r →
        IsRecoverable meaning.layout r.content (crash_image picks r.state) (history_with r picks)

  -- A call among a worker's items has an outcome: its reply where it is below the number of items that are over, and else
  -- Stopped. Where it has its reply, the history has its entry just once if it is an
  -- update or a completed read, and else not, as after a reply Full or Worn. Where it was stopped, the history has nothing
  -- of it; but for the call that the worker is at, which may have its update, once. An Evict has no outcome. And each entry
  -- of the history is of a call among the items of the worker that it names.
  pub record CallsStandOnce : Type 0 where
    pub told : (r : Run Op) (worker : ℕ) (p : Part Op) (k : ℕ) (call : Call) (number : ℕ) → IsReached meaning r → IsCallIn r worker p k call number →
        (outcome : Outcome) × (slice_get p.outcomes k ≡ Some (Some outcome))
    pub over : (r : Run Op) (worker : ℕ) (p : Part Op) (k : ℕ) (call : Call) (number : ℕ) → IsReached meaning r → IsCallIn r worker p k call number →
        k < p.over → (reply : Reply) × (slice_get p.outcomes k ≡ Some (Some (Replied reply)))
    pub rest : (r : Run Op) (worker : ℕ) (p : Part Op) (k : ℕ) (call : Call) (number : ℕ) → IsReached meaning r → IsCallIn r worker p k call number →
        p.over ≤ k → slice_get p.outcomes k ≡ Some (Some Stopped)
    pub replied : (r : Run Op) (picks : ℕ → Bool) (worker : ℕ) (p : Part Op) (k : ℕ) (call : Call) (number : ℕ) (reply : Reply) → IsReached meaning r →
        IsCallIn r worker p k call number → slice_get p.outcomes k ≡ Some (Some (Replied reply)) →
        filter (is_of worker number) (history_with r picks) ≡ entries_of worker number call reply
    pub full : (r : Run Op) (picks : ℕ → Bool) (worker : ℕ) (p : Part Op) (k : ℕ) (call : Call) (number : ℕ) (ticket : ℕ) → IsReached meaning r →
        IsCallIn r worker p k call number → slice_get p.outcomes k ≡ Some (Some (Replied (Full ticket))) →
        filter (is_of worker number) (history_with r picks) ≡ []
    pub worn : (r : Run Op) (picks : ℕ → Bool) (worker : ℕ) (p : Part Op) (k : ℕ) (call : Call) (number : ℕ) (word version : ℕ) → IsReached meaning r →
        IsCallIn r worker p k call number → slice_get p.outcomes k ≡ Some (Some (Replied (Worn word version))) →
        filter (is_of worker number) (history_with r picks) ≡ []
    pub stopped : (r : Run Op) (picks : ℕ → Bool) (worker : ℕ) (p : Part Op) (k : ℕ) (call : Call) (number : ℕ) → IsReached meaning r →
        IsCallIn r worker p k call number → slice_get p.outcomes k ≡ Some (Some Stopped) →
        (filter (is_of worker number) (history_with r picks) ≡ []) ⊎ ((filter (is_of worker number) (history_with r picks) ≡ update_of worker number call ∷ [])
        × IsUnderWayAt p k call)
    pub evicts : (r : Run Op) (worker : ℕ) (before : List (Part Op)) (p : Part Op) (behind : List (Part Op)) (k word : ℕ) → IsReached meaning r →
        IsPart r worker before p behind → slice_get p.items k ≡ Some (Evict word) → slice_get p.outcomes k ≡ Some None
    pub calls : (r : Run Op) (picks : ℕ → Bool) → IsReached meaning r → AllByRecursion (IsOfCall r) (history_with r picks)

  -- Each update that is settled or waits was made by a turn: an Exchange that found what it expected, by which its call
  -- takes effect.
  abbrev pub UpdatesWereWon : Type 0
  UpdatesWereWon = (start : Recovered) (works : List Work) (r : Run Op) → IsStart meaning start works → Leads meaning (opened_run meaning start works) r →
      AllByRecursion (IsWonBetween meaning (opened_run meaning start works) r) (made r.progress)

  -- A call that was over before another began stands before it. The update of a call that is over at a run is among the
  -- updates settled there, and does not wait later; the position of its read is not behind them. The update of a call
  -- that has not begun there stands behind them, and so does its read, or just at their end. So in each history of each
  -- later run an entry of the first call stands before an entry of the second, or both are reads of one position. Two
  -- entries of one worker stand in the order of their numbers.
  pub record OrderIsKept : Type 0 where
    pub updates_over : (r next : Run Op) (front : List Entry) (x : Entry) (back : List Entry) → IsReached meaning r → Leads meaning r next →
        IsOver r x.worker x.number → next.progress.settled ≡ front ++ x ∷ back → length front < length r.progress.settled
    pub none_waits : (r next : Run Op) (word : ℕ) (x : Entry) → IsReached meaning r → Leads meaning r next → IsOver r x.worker x.number →
        map.get next.progress.waiting word ≡ Some x → ⊥
    pub reads_over : (r next : Run Op) (q : Placed) → IsReached meaning r → Leads meaning r next → IsOver r q.entry.worker q.entry.number →
        IsIn next.placed q → q.position ≤ length r.progress.settled
    pub updates_later : (r next : Run Op) (front : List Entry) (x : Entry) (back : List Entry) → IsReached meaning r → Leads meaning r next →
        IsYetToBegin r x.worker x.number → next.progress.settled ≡ front ++ x ∷ back → length r.progress.settled ≤ length front
    pub reads_later : (r next : Run Op) (q : Placed) → IsReached meaning r → Leads meaning r next → IsYetToBegin r q.entry.worker q.entry.number →
        IsIn next.placed q → length r.progress.settled ≤ q.position
    pub history : (r next : Run Op) (picks : ℕ → Bool) (d e : Entry) → IsReached meaning r → Leads meaning r next → IsOver r d.worker d.number →
        IsYetToBegin r e.worker e.number → IsIn (history_with next picks) d → IsIn (history_with next picks) e →
        StandsBefore (history_with next picks) d e ⊎ AreReadsOfOne next.placed d e
    pub callers : (r : Run Op) (picks : ℕ → Bool) (d e : Entry) → IsReached meaning r → IsIn (history_with r picks) d → IsIn (history_with r picks) e →
        d.worker ≡ e.worker → d.number < e.number → StandsBefore (history_with r picks) d e
