-- A call of a pass, from its first event to its reply; and an evict.
use Rattle.std.specs.Prelude.{◌≡◌, ◌⊎◌, ℕ, ◌+◌, ◌<◌, ◌≤◌, List, [], ◌∷◌, ◌++◌, map, length, replicate, true, Option, Some, None}
use Rattle.std.specs.List.{AllByRecursion}
use Rattle.flit_model.specs.Histories.{is_update_by, IsRightAt}
use Rattle.flit_model.specs.Maps.{IsLegal}
use Rattle.flit_model.specs.States.{State}
use Rattle.flit_model.specs.declared.calls.Call.{Call}
use Rattle.flit_model.specs.declared.calls.Entry.{Entry}
use Rattle.flit_model.specs.declared.calls.Placed.{Placed}
use Rattle.flit_model.specs.declared.calls.Reply.{Reply}
use Rattle.flit_model.specs.declared.events.Event.{Event}
use Rattle.flit_pv.specs.declared.evicts.Evicting.TheVariants.{WritesBack}
use Rattle.flit_pv.specs.Hands.{with_persist}
use Rattle.flit_structure.specs.Moments.{update_of, idle, busy, sweeper}
use Rattle.flit_structure.specs.Meanings.{Meaning, MayTake, first_at, hand_of, replied, tally}
use Rattle.flit_structure.specs.Lawful.{StandsFrom, IsWithin, IsBounded, IsBelowTop, AreSearchesBounded, IsTryBounded, events_of_try}
use Rattle.flit_table.specs.declared.views.Made.TheVariants.{Answered, Evicted}
use Rattle.flit_table.specs.declared.views.Origin.{Origin}
use Rattle.flit_table.specs.declared.views.View.{View}
use Rattle.flit_table.specs.declared.views.Start.{Start}
use Rattle.flit_table.specs.declared.views.Start.TheVariants.{Go}
use Rattle.flit_table.specs.Logs.{Continues}
use Rattle.flit_table.specs.Orders.{AreInOrder}
use Rattle.flit_table.specs.Moves.{MayEnter, EntersUnqueued, entering}
use Rattle.flit_table.specs.Views.{content_of, reads_in, updates_seen, history_seen}

-- the call of a name, with its reply
abbrev pub entry_of : ℕ → ℕ → Call → Reply → Entry
entry_of name number call reply = record { worker = name; number = number; call = call; reply = reply }

module _ {S Op : Type 0} where
  -- the pass owns the same names at the same table, and has the same workers of ended names
  pub record IsSamePass (v w : View S Op) : Type 0 where
    pub origin : w.origin ≡ v.origin
    pub name : w.name ≡ v.name
    pub names : w.names ≡ v.names
    pub gone : w.gone ≡ v.gone
    pub note : w.note ≡ v.note

-- an operation that comes of another by so many events, each asked for by it and told its answer; so many of them were
-- made since its last search began
pub data Comes {Op : Type 0} (meaning : Meaning Op) (first : Op) : Op → ℕ → ℕ → Type 0 where
  at_first : Comes meaning first first 0 0
  further : {op : Op} {n tried : ℕ} (e : Event) (told : ℕ) → Comes meaning first op n tried → meaning.asked op ≡ Some e → MayTake meaning op told →
      Comes meaning first (meaning.taken op told) (n + 1) (events_of_try tried (tally meaning op) (tally meaning (meaning.taken op told)))

module _ {S Op : Type 0} (meaning : Meaning Op) (o : Origin S) where
  -- the call that began at the view v has made so many events, has no reply, and is at op; with one worker nothing is
  -- queued
  pub record Runs (call : Call) (v w : View S Op) (op : Op) (made : ℕ) : Type 0 where
    pub begun : Option ℕ
    pub comes : Comes meaning (meaning.begun (hand_of meaning v.post.worker) call) op made w.post.tried
    pub same : IsSamePass v w
    pub worker : w.post.worker ≡ busy v.post.worker.name (v.post.worker.number + 1) op call begun
    pub start : w.post.start ≡ (hand_of meaning v.post.worker).tally
    pub log : Continues v.log w.log
    pub mine : w.mine ≡ v.mine
    pub placed : w.placed ≡ v.placed
    pub events : w.events ≡ replicate made v.post.worker.name ++ v.events
    pub late : length (updates_seen v) ≤ first_at (length (updates_seen v)) begun
    pub order : 0 < made → AreInOrder w
    pub unreplied : replied meaning op ≡ None
    pub queued : meaning.layout.workers ≡ 1 → (tally meaning op).queued ≡ 0
    pub within : (e : Event) → meaning.asked op ≡ Some e → IsWithin meaning.layout e

  -- the call that began at the view v has its reply after so many events. An update stands in the new part of what has
  -- been seen; a completed read has its place there, and all placed reads are right. With one worker nothing is queued,
  -- nor is it as the next call begins
  pub record Ends (call : Call) (v w : View S Op) (op : Op) (reply : Reply) (made : ℕ) : Type 0 where
    pub comes : Comes meaning (meaning.begun (hand_of meaning v.post.worker) call) op made w.post.tried
    pub replied : replied meaning op ≡ Some reply
    pub same : IsSamePass v w
    pub worker : w.post.worker ≡ idle v.post.worker.name (v.post.worker.number + 1) (meaning.finished op)
    pub hand : ((meaning.finished op).name ≡ v.post.worker.name) × ((meaning.finished op).number ≡ v.post.worker.number + 1)
    pub log : Continues v.log w.log
    pub sees : (more : List Entry) × (updates_seen w ≡ updates_seen v ++ more)
    pub mine : w.mine ≡ v.mine ++ Answered (entry_of v.post.worker.name (v.post.worker.number + 1) call reply) ∷ []
    pub events : w.events ≡ replicate made v.post.worker.name ++ v.events
    pub update : is_update_by call reply ≡ true → StandsFrom (length (updates_seen v)) (updates_seen w)
        (update_of v.post.worker.name (v.post.worker.number + 1) call)
    pub reads : List Placed
    pub placed : w.placed ≡ v.placed ++ reads
    pub are : map (λ r. r.entry) reads ≡ reads_in (Answered (entry_of v.post.worker.name (v.post.worker.number + 1) call reply) ∷ [])
    pub late : AllByRecursion (λ r. length (updates_seen v) ≤ r.position) reads
    pub right : AllByRecursion (IsRightAt (content_of o) (updates_seen w)) w.placed
    pub legal : IsLegal (content_of o) (updates_seen w)
    pub history : IsLegal (content_of o) (history_seen w)
    pub order : AreInOrder w
    pub some : 0 < made
    pub state : State
    pub bounded : IsBounded meaning.layout meaning.room state (updates_seen w) reply
    pub trying : IsBelowTop (tally meaning op) →
        AreSearchesBounded meaning.layout.kind (hand_of meaning v.post.worker).tally (tally meaning op) × IsTryBounded meaning.bound w.post.tried None
    pub queued : meaning.layout.workers ≡ 1 → (tally meaning op).queued ≡ 0
    pub next : meaning.layout.workers ≡ 1 → EntersUnqueued meaning w.post

  -- the call that began at the view v is at op, after so many events: it has no reply, and its pass, which has the view
  -- w, begins this with its next event, which is nothing once there were events; or it has this reply
  abbrev pub IsUnderWayAt : Start → Call → View S Op → View S Op → Op → ℕ → Option Reply → Type 0
  IsUnderWayAt start call v w op made None = MayEnter meaning start w.post × Runs call v (entering meaning start w) op made × (0 < made → start ≡ Go)
  IsUnderWayAt start call v w op made (Some reply) = Ends call v w op reply made

  abbrev pub IsAtCall : Start → Call → View S Op → View S Op → Op → ℕ → Type 0
  IsAtCall start call v w op made = IsUnderWayAt start call v w op made (replied meaning op)

module _ {S Op : Type 0} (meaning : Meaning Op) (o : Origin S) where
  -- the evict of a word that began at the view v has made its first event, which found this
  pub record Sweeps (word : ℕ) (v w : View S Op) (found : ℕ) : Type 0 where
    pub same : IsSamePass v w
    pub worker : w.post.worker ≡ sweeper v.post.worker.name v.post.worker.number
        (record { hand = hand_of meaning v.post.worker; word = word; at = WritesBack found })
    pub log : Continues v.log w.log
    pub mine : w.mine ≡ v.mine
    pub placed : w.placed ≡ v.placed
    pub events : w.events ≡ v.post.worker.name ∷ v.events
    pub order : AreInOrder w
    pub queued : meaning.layout.workers ≡ 1 → EntersUnqueued meaning w.post

  -- it has made both, and is among the items made
  pub record Evicts (word : ℕ) (v w : View S Op) : Type 0 where
    pub same : IsSamePass v w
    pub worker : w.post.worker ≡ idle v.post.worker.name v.post.worker.number (with_persist (hand_of meaning v.post.worker))
    pub log : Continues v.log w.log
    pub sees : (more : List Entry) × (updates_seen w ≡ updates_seen v ++ more)
    pub mine : w.mine ≡ v.mine ++ Evicted v.post.worker.name word ∷ []
    pub placed : w.placed ≡ v.placed
    pub events : w.events ≡ replicate 2 v.post.worker.name ++ v.events
    pub order : AreInOrder w
    pub right : AllByRecursion (IsRightAt (content_of o) (updates_seen w)) w.placed
    pub legal : IsLegal (content_of o) (updates_seen w)
    pub queued : meaning.layout.workers ≡ 1 → EntersUnqueued meaning w.post

  -- an evict of a word that was stopped has made no event, and its pass is as it was; or one event, the load of this word
  abbrev pub IsCut : ℕ → ℕ → View S Op → View S Op → Type 0
  IsCut word steps v w = ((steps ≡ 0) × (w ≡ v)) ⊎ ((steps ≡ 1) × ((found : ℕ) × Sweeps word v w found))
