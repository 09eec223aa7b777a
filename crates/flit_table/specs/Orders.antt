-- How the calls of a name stand in a history: all that are completed, each once, in their order, and at most one more.
use Rattle.std.specs.Prelude.{◌≡◌, ℕ, ◌≤◌, ◌||◌, List, [], ◌∷◌, ◌++◌, map, filter, take, length, Option, Some, None}
use Rattle.std.specs.List.{AllByRecursion}
use Rattle.flit_model.specs.Histories.{is_update, is_read, history_of}
use Rattle.flit_model.specs.declared.calls.Entry.{Entry}
use Rattle.flit_model.specs.declared.calls.Placed.{Placed}
use Rattle.flit_structure.specs.declared.workers.Doing.{Doing}
use Rattle.flit_structure.specs.declared.workers.Doing.TheVariants.{Idle, Busy, Evicting}
use Rattle.flit_structure.specs.declared.workers.Worker.{Worker}
use Rattle.flit_structure.specs.Moments.{update_of}
use Rattle.flit_structure.specs.Meanings.{Meaning, replied}
use Rattle.flit_table.specs.declared.views.Made.{Made}
use Rattle.flit_table.specs.declared.views.View.{View}
use Rattle.flit_table.specs.Views.{answered, updates_in, entries_of, posts_of, history_seen}

-- the completed calls among some items: the updates and the completed reads
abbrev pub entries_in : List Made → List Entry
entries_in items = filter (λ e. is_update e || is_read e) (answered items)

-- of the entries of a name none has a lower number than one before it
abbrev pub AreNumberedUp : ℕ → List Entry → Type 0
AreNumberedUp name [] = Unit {0}
AreNumberedUp name (e ∷ es) = (e.worker ≡ name → AllByRecursion (λ d. d.worker ≡ name → e.number ≤ d.number) es) × AreNumberedUp name es

module _ {Op : Type 0} where
  -- the entry is the update of the call under way
  abbrev pub IsUnderWayIn : ℕ → ℕ → Doing Op → Entry → Type 0
  IsUnderWayIn name number (Idle hand) e = ⊥
  IsUnderWayIn name number (Busy op call begun) e = e ≡ update_of name number call
  IsUnderWayIn name number (Evicting evict) e = ⊥

  -- at most one entry, of the worker's unfinished call
  abbrev pub IsOneMore : Worker Op → List Entry → Type 0
  IsOneMore u [] = Unit {0}
  IsOneMore u (e ∷ []) = IsUnderWayIn u.name u.number u.doing e
  IsOneMore u (e ∷ (d ∷ ds)) = ⊥

  -- the entries of a worker's name in a history are its completed calls in `mine`, each once, in order and under its number,
  -- and at most one more, the update of its unfinished call
  pub record StandInOrder (history : List Entry) (mine : List Made) (u : Worker Op) : Type 0 where
    pub more : List Entry
    pub is : entries_of u.name history ≡ entries_of u.name (entries_in mine) ++ more
    pub one : IsOneMore u more

module _ {Op : Type 0} (meaning : Meaning Op) where
  -- a call under way made its first event when no fewer updates were settled, or has none yet and no reply
  abbrev pub IsBegunFrom : ℕ → Op → Option ℕ → Type 0
  IsBegunFrom n op None = replied meaning op ≡ None
  IsBegunFrom n op (Some begun) = n ≤ begun

  abbrev pub IsDoneFrom : ℕ → Doing Op → Type 0
  IsDoneFrom n (Idle hand) = Unit {0}
  IsDoneFrom n (Busy op call begun) = IsBegunFrom n op begun
  IsDoneFrom n (Evicting evict) = Unit {0}

  -- what a worker has completed stands by a number of the seen updates, and its call under way began no earlier: its
  -- updates are among these, and its reads at their positions, and in the history of both they stand in order
  pub record StandBy (seen : List Entry) (mine : List Made) (placed : List Placed) (u : Worker Op) : Type 0 where
    pub number : ℕ
    pub within : number ≤ length seen
    pub begun : IsDoneFrom number u.doing
    pub updates : entries_of u.name (take number seen) ≡ entries_of u.name (updates_in mine)
    pub reads : AllByRecursion (λ r. r.entry.worker ≡ u.name → r.position ≤ number) placed
    pub rising : AreNumberedUp u.name (map (λ r. r.entry) placed)
    pub order : entries_of u.name (history_of (take number seen) placed) ≡ entries_of u.name (entries_in mine)

module _ {S Op : Type 0} where
  -- each name of a pass has its completed calls in order in the history that the pass has seen, and at most one more entry
  abbrev pub AreInOrder : View S Op → Type 0
  AreInOrder v = AllByRecursion (λ p. StandInOrder (history_seen v) v.mine p.worker) (posts_of v)
