-- What is true of the table at every moment. Word 0 is 0; then come the words, the shadows, the slots and the row
-- counter. There is one log, and the words with the workers of all views are a moment at which the log's updates are
-- settled.
use Rattle.std.specs.Prelude.{◌≡◌, ◌⊎◌, ℕ, ◌+◌, ◌<◌, List, [], ◌∷◌, ◌++◌, map, Some}
use Rattle.std.specs.List.{AllByRecursion}
use Rattle.atomic_table.specs.Table as table
use Rattle.flit_model.specs.Histories.{IsRightAt}
use Rattle.flit_model.specs.States.{State}
use Rattle.flit_model.specs.declared.calls.Entry.{Entry}
use Rattle.flit_structure.specs.declared.workers.Doing.{Doing}
use Rattle.flit_structure.specs.declared.workers.Doing.TheVariants.{Idle, Busy, Evicting}
use Rattle.flit_structure.specs.declared.workers.Worker.{Worker}
use Rattle.flit_structure.specs.Moments.{Moment}
use Rattle.flit_structure.specs.Meanings.{Meaning}
use Rattle.flit_structure.specs.Lawful.{StandsFrom, IsBounded}
use Rattle.flit_table.specs.declared.views.Logged.{Logged}
use Rattle.flit_table.specs.declared.views.Made.{Made}
use Rattle.flit_table.specs.declared.views.Origin.{Origin}
use Rattle.flit_table.specs.declared.views.Post.{Post}
use Rattle.flit_table.specs.declared.views.View.{View}
use Rattle.flit_table.specs.Logs.{progress_of, Continues}
use Rattle.flit_table.specs.Moves.{HasNoneQueued}
use Rattle.flit_table.specs.Orders.{IsOneMore, StandBy}
use Rattle.flit_table.specs.Views.{opening_of, content_of, name_of, answered, updates_in, reads_in, entries_of, HasName, posts_of, used_of, all_workers, updates_seen, newcomer}

-- the words of the table behind word 0
abbrev pub laid_out : State → List ℕ
laid_out m = m.words ++ (m.shadows ++ (m.slots ++ m.counter ∷ []))

module _ {Op : Type 0} where
  -- the numbers of the calls that a name has finished are below this one
  abbrev pub next_number : ℕ → Doing Op → ℕ
  next_number number (Idle hand) = number + 1
  next_number number (Busy op call begun) = number
  next_number number (Evicting evict) = number + 1

  -- the entries of a worker's name among the settled updates are the updates of its calls in `mine`, each once and in
  -- order, and at most one more, of its unfinished call
  pub record Account (settled : List Entry) (mine : List Made) (u : Worker Op) : Type 0 where
    pub more : List Entry
    pub is : entries_of u.name settled ≡ entries_of u.name (updates_in mine) ++ more
    pub one : IsOneMore u more
    pub below : AllByRecursion (λ e. e.worker ≡ u.name → e.number < next_number u.number u.doing) (answered mine)

module _ {S Op : Type 0} where
  -- one of the views has the whole log
  abbrev pub HasWhole : List Logged → List (View S Op) → Type 0
  HasWhole log [] = ⊥
  HasWhole log (v ∷ vs) = (v.log ≡ log) ⊎ HasWhole log vs

  -- the moment of the table that was opened so
  abbrev pub moment_of : Origin S → State → List Logged → List (Worker Op) → Moment Op
  moment_of o m log us = record { opening = opening_of o; state = m; progress = progress_of log; workers = us }

module _ {Op : Type 0} (meaning : Meaning Op) where
  -- an operation under way is licensed
  abbrev pub IsLicensedIn : Moment Op → Post Op → Doing Op → Type 0
  IsLicensedIn M p (Idle hand) = Unit {0}
  IsLicensedIn M p (Busy op call begun) = meaning.licensed M op p.start p.tried
  IsLicensedIn M p (Evicting evict) = Unit {0}

  abbrev pub IsLicensed : Moment Op → Post Op → Type 0
  IsLicensed M p = IsLicensedIn M p p.worker.doing

  -- a call that was answered Full or Worn has its bound
  abbrev pub IsWithinBounds : Moment Op → Entry → Type 0
  IsWithinBounds M e = IsBounded meaning.layout meaning.room M.state M.progress.settled e.reply

module _ {S Op : Type 0} (meaning : Meaning Op) where
  -- what is true of a view at a moment with this log
  pub record Agrees (o : Origin S) (log : List Logged) (M : Moment Op) (v : View S Op) : Type 0 where
    pub opened : (p : Origin S) → v.origin ≡ Some p → p ≡ o
    -- what it has seen begins the log, and the note of its last join begins that
    pub begins : Continues v.log log
    pub notes : Continues v.note v.log
    -- a view without names, which is spent, has seen nothing
    pub bare : v.names ≡ 0 → v.log ≡ []
    -- each item and each event is under a name that has its worker here
    pub items : AllByRecursion (λ x. HasName (name_of x) (used_of v)) v.mine
    pub counted : AllByRecursion (λ n. HasName n (used_of v)) v.events
    -- what has been said to the callers: of each name
    pub accounts : AllByRecursion (λ p. Account M.progress.settled v.mine p.worker) (posts_of v)
    pub licensed : AllByRecursion (IsLicensed meaning M) (posts_of v)
    -- with one worker nothing is queued
    pub queued : meaning.layout.workers ≡ 1 → AllByRecursion (HasNoneQueued meaning) (posts_of v)
    -- and in order: each name's completed calls stand by a number of the updates that it has seen
    pub stand : AllByRecursion (λ p. StandBy meaning (updates_seen v) v.mine v.placed p.worker) (posts_of v)
    -- each update has been seen; each completed read has its place, where its reply is right; and each bound holds
    pub settled : AllByRecursion (StandsFrom 0 (updates_seen v)) (updates_in v.mine)
    pub reads : map (λ r. r.entry) v.placed ≡ reads_in v.mine
    pub right : AllByRecursion (IsRightAt (content_of o) (updates_seen v)) v.placed
    pub bounded : AllByRecursion (IsWithinBounds meaning M) (answered v.mine)

  -- the words, the log and the views belong together
  pub record Kept (o : Origin S) (m : State) (log : List Logged) (views : List (View S Op)) : Type 0 where
    pub holds : meaning.holds (moment_of o m log (all_workers views))
    pub each : AllByRecursion (Agrees o log (moment_of o m log (all_workers views))) views
    pub longest : HasWhole log views

  -- the rule of the table
  pub record IsRuled (o : Origin S) (t : table.State ℕ (View S Op)) : Type 0 where
    pub state : State
    pub log : List Logged
    pub laid : t.words ≡ 0 ∷ laid_out state
    pub kept : Kept o state log t.views

  abbrev pub first_view : Origin S → View S Op
  first_view o = newcomer o meaning.layout.workers
