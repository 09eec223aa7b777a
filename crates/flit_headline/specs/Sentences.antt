-- The headline, sentence by sentence, of the run that turns lead to and of one choice of words of which a crash takes the
-- value ahead: the completed calls stand in one legal history of one map, each once, in the order its caller had seen;
-- recovery from the words that a crash leaves finds the map after that history, which holds beside the completed calls at
-- most one unfinished update per worker.
use Rattle.std.specs.Prelude.{◌≡◌, ◌⊎◌, ℕ, ◌<◌, Bool, List, filter, Some, slice_get}
use Rattle.std.specs.List.{AllByRecursion}
use Rattle.flit_model.specs.Maps.{IsLegal, map_after_all}
use Rattle.flit_model.specs.Histories.{IsRightAt}
use Rattle.flit_model.specs.CrashImages.{crash_image}
use Rattle.flit_model.specs.Recovery.{IsImageOf, IsWhole, layout_of}
use Rattle.flit_model.specs.declared.calls.Call.{Call}
use Rattle.flit_model.specs.declared.calls.Entry.{Entry}
use Rattle.flit_model.specs.declared.calls.Outcome.TheVariants.{Replied}
use Rattle.flit_model.specs.declared.calls.Reply.{Reply}
use Rattle.flit_model.specs.declared.calls.Work.{Work}
use Rattle.flit_model.specs.declared.found.Image.{Image}
use Rattle.flit_model.specs.declared.found.Recovered.{Recovered}
use Rattle.flit_structure.specs.Moments.{update_of}
use Rattle.flit_structure.specs.Meanings.{Meaning}
use Rattle.flit_structure.specs.Lawful.{HasMap}
use Rattle.flit_sched.specs.Runs.{Part, Run}
use Rattle.flit_sched.specs.Openings.{opened_run}
use Rattle.flit_sched.specs.Views.{history_with}
use Rattle.flit_histories.specs.Following.{Given, Follows}
use Rattle.flit_histories.specs.Calls.{IsCallIn, is_of, entries_of, IsUnderWayAt}
use Rattle.flit_histories.specs.Orders.{IsOver, IsYetToBegin, IsIn, StandsBefore, AreReadsOfOne}
use Rattle.flit_histories.specs.Reached.{IsStart}

-- an entry is the update of the call that its worker is at
pub record IsUnfinishedUpdate {Op : Type 0} (r : Run Op) (e : Entry) : Type 0 where
  pub part : Part Op
  pub item : ℕ
  pub is : IsCallIn r e.worker part item e.call e.number
  pub at : IsUnderWayAt part item e.call
  pub update : e ≡ update_of e.worker e.number e.call

module _ {Op : Type 0} (meaning : Meaning Op) (first : Run Op) (turns : List Given) (r : Run Op) (picks : ℕ → Bool) where
  -- the history is legal from the map at the start
  abbrev pub IsOneLegalHistory : Type 0
  IsOneLegalHistory = IsLegal first.content (history_with r picks)

  -- of each call that has its reply the history has just its one entry, where it is completed, and none, where it was
  -- refused
  abbrev pub HasEachCompletedOnce : Type 0
  HasEachCompletedOnce = (worker : ℕ) (p : Part Op) (k : ℕ) (call : Call) (number : ℕ) (reply : Reply) → IsCallIn r worker p k call number →
      slice_get p.outcomes k ≡ Some (Some (Replied reply)) → filter (is_of worker number) (history_with r picks) ≡ entries_of worker number call reply

  -- the calls of one worker stand in its order; a call that was over before another began stands before it, or both are
  -- reads of one position; and each read is right at its position
  pub record IsInCallersOrder : Type 0 where
    pub own : (d e : Entry) → IsIn (history_with r picks) d → IsIn (history_with r picks) e → d.worker ≡ e.worker → d.number < e.number →
        StandsBefore (history_with r picks) d e
    pub seen : (q : Run Op) (ts us : List Given) (d e : Entry) → Follows meaning first ts q → Follows meaning q us r → IsOver q d.worker d.number →
        IsYetToBegin q e.worker e.number → IsIn (history_with r picks) d → IsIn (history_with r picks) e →
        StandsBefore (history_with r picks) d e ⊎ AreReadsOfOne r.placed d e
    pub reads : AllByRecursion (IsRightAt first.content r.progress.settled) r.placed

  -- the words that a crash leaves have the map after the history; and an image of them is whole and lawful, with this map
  pub record HasItsMap : Type 0 where
    pub words : HasMap meaning.layout (crash_image picks r.state) (map_after_all first.content (history_with r picks))
    pub image : (i : Image) → IsImageOf meaning.layout i → i.words.items ≡ crash_image picks r.state →
        IsWhole i × HasMap (layout_of i) i.words.items (map_after_all first.content (history_with r picks))

  -- each entry of a call that isn't over is such an update, and of one worker there is one at most
  pub record HasOneUnfinishedEach : Type 0 where
    pub update : (e : Entry) → IsIn (history_with r picks) e → ¬ (IsOver r e.worker e.number) → IsUnfinishedUpdate r e
    pub one : (d e : Entry) → IsIn (history_with r picks) d → IsIn (history_with r picks) e → d.worker ≡ e.worker →
        ¬ (IsOver r d.worker d.number) → ¬ (IsOver r e.worker e.number) → d ≡ e

  pub record KeepsHeadline : Type 0 where
    pub legal : IsOneLegalHistory
    pub once : HasEachCompletedOnce
    pub order : IsInCallersOrder
    pub map : HasItsMap
    pub unfinished : HasOneUnfinishedEach

-- it is kept by every list of turns from an opening on, to any workers in any order, and by each choice of words
abbrev pub HeadlineIsKept : {Op : Type 0} → Meaning Op → Type 0
HeadlineIsKept {Op} meaning = (start : Recovered) (works : List Work) (turns : List Given) (r : Run Op) (picks : ℕ → Bool) → IsStart meaning start works →
    Follows meaning (opened_run meaning start works) turns r → KeepsHeadline meaning (opened_run meaning start works) turns r picks
