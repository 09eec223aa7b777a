-- All that a run promises at a moment, for one choice of words of which a crash takes the value ahead.
use Rattle.std.specs.Prelude.{◌≡◌, ◌⊎◌, ℕ, ◌-◌, ◌^◌, min, ◌<◌, ◌≤◌, Bool, List, [], ◌∷◌, filter, Some, None, slice_get}
use Rattle.std.specs.List.{AllByRecursion}
use Rattle.flit_model.specs.Maps.{IsLegal, map_after_all}
use Rattle.flit_model.specs.Histories.{IsRightAt}
use Rattle.flit_model.specs.CrashImages.{crash_image}
use Rattle.flit_model.specs.declared.calls.Call.{Call}
use Rattle.flit_model.specs.declared.calls.Entry.{Entry}
use Rattle.flit_model.specs.declared.calls.Item.TheVariants.{Evict}
use Rattle.flit_model.specs.declared.calls.Outcome.TheVariants.{Replied, Stopped}
use Rattle.flit_model.specs.declared.calls.Reply.{Reply}
use Rattle.flit_model.specs.declared.calls.Work.{Work}
use Rattle.flit_model.specs.Recovery.{IsImageOf, IsWhole, layout_of}
use Rattle.flit_model.specs.declared.found.Image.{Image}
use Rattle.flit_model.specs.declared.found.Recovered.{Recovered}
use Rattle.flit_structure.specs.Moments.{update_of}
use Rattle.flit_structure.specs.Meanings.{Meaning}
use Rattle.flit_structure.specs.Lawful.{HasMap, IsBounded, IsBelowTop, AreLoadsSplit}
use Rattle.flit_sched.specs.Runs.{Part, Run}
use Rattle.flit_sched.specs.Openings.{opened_run}
use Rattle.flit_sched.specs.Turns.{tally_in}
use Rattle.flit_histories.specs.Following.{Given, Follows, persists_by}
use Rattle.flit_sched.specs.Views.{OfWorker, AreAheadOf, history_with}
use Rattle.flit_histories.specs.Calls.{IsCallIn, is_of, entries_of, IsOfCall, IsUnderWayAt}
use Rattle.flit_histories.specs.Counts.{Count, no_count, Counts, IsWithinBounds}
use Rattle.flit_histories.specs.Orders.{IsOver, IsYetToBegin, IsIn, StandsBefore, AreReadsOfOne}
use Rattle.flit_histories.specs.Reached.{IsStart}

module _ {Op : Type 0} (meaning : Meaning Op) where
  -- what becomes of a call that is over: it has its reply, within its bounds, and the history has its entry just once if
  -- it is an update or a completed read, and else not
  pub record IsAnswered (r : Run Op) (history : List Entry) (worker number : ℕ) (p : Part Op) (k : ℕ) (call : Call) : Type 0 where
    pub reply : Reply
    pub outcome : slice_get p.outcomes k ≡ Some (Some (Replied reply))
    pub entries : filter (is_of worker number) history ≡ entries_of worker number call reply
    pub bounded : IsBounded meaning.layout meaning.room r.state r.progress.settled reply

  -- and of one that isn't: it was stopped, and the history has nothing of it; but for the one call that the worker is at,
  -- which may have its update, once
  pub record IsLeft (history : List Entry) (worker number : ℕ) (p : Part Op) (k : ℕ) (call : Call) : Type 0 where
    pub outcome : slice_get p.outcomes k ≡ Some (Some Stopped)
    pub entries : (filter (is_of worker number) history ≡ [])
        ⊎ ((filter (is_of worker number) history ≡ update_of worker number call ∷ []) × IsUnderWayAt p k call)

  -- these turns lead from one run to this one
  pub record KeepsPromises (first : Run Op) (turns : List Given) (r : Run Op) (picks : ℕ → Bool) : Type 0 where
    -- one legal history of one map; recovery finds its map in the words that a crash leaves, and an image of these words is
    -- whole, and lawful for its own layout: so recovery of it is Ok
    pub content : r.content ≡ first.content
    pub legal : IsLegal r.content (history_with r picks)
    pub image : HasMap meaning.layout (crash_image picks r.state) (map_after_all r.content (history_with r picks))
    pub found : (i : Image) → IsImageOf meaning.layout i → i.words.items ≡ crash_image picks r.state →
        IsWhole i × HasMap (layout_of i) i.words.items (map_after_all r.content (history_with r picks))
    -- it has each completed call once, and beside these at most one unfinished update of each worker; an Evict has no
    -- outcome, and each entry is of a call
    pub over : (worker : ℕ) (p : Part Op) (k : ℕ) (call : Call) (number : ℕ) → IsCallIn r worker p k call number → k < p.over →
        IsAnswered r (history_with r picks) worker number p k call
    pub left : (worker : ℕ) (p : Part Op) (k : ℕ) (call : Call) (number : ℕ) → IsCallIn r worker p k call number → p.over ≤ k →
        IsLeft (history_with r picks) worker number p k call
    pub evicts : (worker k word : ℕ) → OfWorker r worker (λ p. slice_get p.items k ≡ Some (Evict word) → slice_get p.outcomes k ≡ Some None)
    pub calls : AllByRecursion (IsOfCall r) (history_with r picks)
    pub ahead : AreAheadOf meaning r
    -- the calls of one worker stand in its order, and a call that was over before another began stands before it, or both
    -- are reads of one position; each read is right at its position
    pub callers : (d e : Entry) → IsIn (history_with r picks) d → IsIn (history_with r picks) e → d.worker ≡ e.worker → d.number < e.number →
        StandsBefore (history_with r picks) d e
    pub order : (q : Run Op) (ts us : List Given) (d e : Entry) → Follows meaning first ts q → Follows meaning q us r → IsOver q d.worker d.number →
        IsYetToBegin q e.worker e.number → IsIn (history_with r picks) d → IsIn (history_with r picks) e →
        StandsBefore (history_with r picks) d e ⊎ AreReadsOfOne r.placed d e
    pub reads : AllByRecursion (IsRightAt r.content r.progress.settled) r.placed
    -- the searches of each worker's call and the events of its try are within their bounds, by its count along the turns,
    -- as long as no count of its tally is at its top; and with one worker nothing is queued
    pub bounds : (worker : ℕ) (c : Count) → Counts meaning worker first no_count turns r c →
        OfWorker r worker (λ p. IsBelowTop (tally_in meaning p.worker.doing) → IsWithinBounds meaning c p.worker.doing)
    pub queued : meaning.layout.workers ≡ 1 → (worker : ℕ) → OfWorker r worker (λ p. (tally_in meaning p.worker.doing).queued ≡ 0)
    -- a worker's tally counts the write-backs that its turns made, as far as 64 bits go; and each load that it counts has
    -- queued its word or not
    pub persists : (worker : ℕ) → OfWorker r worker
        (λ p. (tally_in meaning p.worker.doing).persists ≡ min (persists_by worker turns) (2 ^ 64 - 1))
    pub split : (worker : ℕ) → OfWorker r worker (λ p. AreLoadsSplit (tally_in meaning p.worker.doing))

  -- Turns that are given from an opening on, to any workers in any order, lead to a run that promises all this for each
  -- choice of words. And each worker has its count along them.
  pub record TurnsKeepPromises : Type 0 where
    pub kept : (start : Recovered) (works : List Work) (turns : List Given) (r : Run Op) (picks : ℕ → Bool) → IsStart meaning start works →
        Follows meaning (opened_run meaning start works) turns r → KeepsPromises (opened_run meaning start works) turns r picks
    pub counted : (worker : ℕ) (first r : Run Op) (c : Count) (turns : List Given) → Follows meaning first turns r →
        (d : Count) × Counts meaning worker first c turns r d
