-- What callers see of a run, and what images and histories are made of.
use Rattle.std.specs.Prelude.{◌≡◌, ◌≢◌, ℕ, ◌≤◌, ◌==◌, ◌++◌, Bool, true, false, List, length, Some}
use Rattle.std.specs.List.{list_any}
use Rattle.std.specs.FinMap as map_of
use Rattle.flit_model.specs.Histories.{history_of}
use Rattle.flit_model.specs.Settling.{taken_updates}
use Rattle.flit_model.specs.declared.calls.Ahead.{Ahead}
use Rattle.flit_model.specs.declared.calls.Ahead.TheVariants.{None as No_ahead, All as All_ahead, Words as Words_ahead}
use Rattle.flit_model.specs.declared.calls.Entry.{Entry}
use Rattle.flit_structure.specs.Meanings.{Meaning, key_of}
use Rattle.flit_structure.specs.Lawful.{IsUnfinished}
use Rattle.flit_sched.specs.Runs.{Part, Run, IsPart, moment_of, workers_of}

-- the words of which an image takes the value ahead
abbrev pub picks_of : Ahead → ℕ → Bool
picks_of No_ahead word = false
picks_of All_ahead word = true
picks_of (Words_ahead words) word = list_any (λ w. w == word) words.items

module _ {Op : Type 0} where
  -- the run has a worker of this number, from 1; and what is so of it
  abbrev pub HasWorker : Run Op → ℕ → Type 0
  HasWorker r worker = (1 ≤ worker) × (worker ≤ length r.parts)

  abbrev pub OfWorker : Run Op → ℕ → (Part Op → Type 0) → Type 0
  OfWorker r worker Says = (before : List (Part Op)) (p : Part Op) (behind : List (Part Op)) → IsPart r worker before p behind → Says p

  -- the settled updates, then those of the values ahead that are taken
  abbrev pub updates_with : Run Op → (ℕ → Bool) → List Entry
  updates_with r picks = r.progress.settled ++ taken_updates r.progress picks

  -- the history of the settled updates and the reads, then the updates of the values ahead that are taken
  abbrev pub history_with : Run Op → (ℕ → Bool) → List Entry
  history_with r picks = history_of r.progress.settled r.placed ++ taken_updates r.progress picks

  -- the run is at a moment at which `holds` is true
  pub record IsAtMoment (meaning : Meaning Op) (r : Run Op) : Type 0 where
    pub words : List ℕ
    pub free : List ℕ
    pub holds : meaning.holds (moment_of r words free)

  -- an update whose value is ahead is of a call that has no reply; a worker has at most one, and no two are of one key
  pub record AreAheadOf (meaning : Meaning Op) (r : Run Op) : Type 0 where
    pub unfinished : (word : ℕ) (e : Entry) → map_of.get r.progress.waiting word ≡ Some e → IsUnfinished meaning (workers_of r.parts) e
    pub one_each : (v w : ℕ) (d e : Entry) → map_of.get r.progress.waiting v ≡ Some d → map_of.get r.progress.waiting w ≡ Some e → d.worker ≡ e.worker → v ≡ w
    pub different_keys : (v w : ℕ) (d e : Entry) → v ≢ w → map_of.get r.progress.waiting v ≡ Some d → map_of.get r.progress.waiting w ≡ Some e →
        key_of d.call ≢ key_of e.call
