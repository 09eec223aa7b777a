-- How the entries of the values ahead come and go.
use Rattle.std.specs.Prelude.{◌≡◌, ◌≢◌, ℕ, ◌+◌, ◌==◌, nat_lt, slice_index, slice_set, List, [], ◌∷◌, ◌++◌, Option, Some, None, map, length, if◌then◌else◌}
use Rattle.std.specs.List.{AllByRecursion}
use Rattle.std.specs.FinMap as map_of
use Rattle.flit_model.specs.Maps.{Map, map_after}
use Rattle.flit_model.specs.declared.calls.Entry.{Entry}
use Rattle.flit_model.specs.declared.events.Event.{Event}
use Rattle.flit_model.specs.declared.events.Event.TheVariants.{Load, ReadTag, Raise, Lower, Exchange, Persist, Store, Draw}
use Rattle.flit_sched.specs.declared.players.Player.{Player}
use Rattle.flit_sched.specs.declared.players.Waiting.{Waiting}
use Rattle.flit_sched.specs.Kept.{pairs_waiting}

-- what waits of a worker after its event with this answer
abbrev pub waits_won : ℕ → ℕ → ℕ → Option Entry → Option Waiting → Option Waiting
waits_won word from told None w = w
waits_won word from told (Some e) w = if told == from then Some (record { word = word; entry = e }) else w

abbrev pub waits_after : Event → ℕ → Option Entry → Option Waiting → Option Waiting
waits_after (Load word) told effect w = w
waits_after (ReadTag slot) told effect w = w
waits_after (Raise slot) told effect w = w
waits_after (Lower slot) told effect w = w
waits_after (Exchange word from to) told effect w = waits_won word from told effect w
waits_after (Persist word kept) told effect w = w
waits_after (Store word to) told effect w = w
waits_after Draw told effect w = w

-- who waited last at each word, after an event of the worker of this name
abbrev pub waiters_won : ℕ → ℕ → ℕ → Option Entry → ℕ → List ℕ → List ℕ
waiters_won word from told None name waiters = waiters
waiters_won word from told (Some e) name waiters = if told == from then slice_set waiters word name else waiters

abbrev pub waiters_after : Event → ℕ → Option Entry → ℕ → List ℕ → List ℕ
waiters_after (Load word) told effect name waiters = waiters
waiters_after (ReadTag slot) told effect name waiters = waiters
waiters_after (Raise slot) told effect name waiters = waiters
waiters_after (Lower slot) told effect name waiters = waiters
waiters_after (Exchange word from to) told effect name waiters = waiters_won word from told effect name waiters
waiters_after (Persist word kept) told effect name waiters = waiters
waiters_after (Store word to) told effect name waiters = waiters
waiters_after Draw told effect name waiters = waiters

-- where an entry of one of the workers of these names waits, it was the last to wait there
abbrev pub AreLastFrom : {W : Type 0} → List ℕ → ℕ → List (Player W) → Type 0
AreLastFrom waiters name [] = Unit {0}
AreLastFrom waiters name (p ∷ ps) = AllByRecursion (λ w. slice_index waiters w.0 ≡ name) (pairs_waiting p.waiting) × AreLastFrom waiters (name + 1) ps

-- the word whose shadow an event with this answer raises
abbrev pub raised : Event → ℕ → Option ℕ
raised (Load word) told = None
raised (ReadTag slot) told = None
raised (Raise slot) told = None
raised (Lower slot) told = None
raised (Exchange word from to) told = None
raised (Persist word kept) told = if nat_lt told kept then Some word else None
raised (Store word to) told = None
raised Draw told = None

-- nothing waits at a word
abbrev pub NoneAt : {W : Type 0} → ℕ → List (Player W) → Type 0
NoneAt word players = AllByRecursion (λ p. AllByRecursion (λ w. w.0 ≢ word) (pairs_waiting p.waiting)) players

module _ {W : Type 0} where
  -- the first worker of which an entry waits at a word, and the entry
  pub record WaitsAt (word : ℕ) (players : List (Player W)) (place : ℕ) (entry : Entry) : Type 0 where
    pub before : List (Player W)
    pub player : Player W
    pub behind : List (Player W)
    pub is : players ≡ before ++ player ∷ behind
    pub long : length before ≡ place
    pub waits : player.waiting ≡ Some (record { word = word; entry = entry })
    pub first : NoneAt word before

  -- the entry that waits at a word is settled, and what stands for its key changes
  pub record SettlesEntry (keys : List ℕ) (word : ℕ) (players : List (Player W)) (settled : List Entry) (values : List (Option ℕ)) (later : List (Player W))
      (grown : List Entry) (changed : List (Option ℕ)) : Type 0 where
    pub before : List (Player W)
    pub player : Player W
    pub behind : List (Player W)
    pub entry : Entry
    pub is : players ≡ before ++ player ∷ behind
    pub waits : player.waiting ≡ Some (record { word = word; entry = entry })
    pub first : NoneAt word before
    pub becomes : later ≡ before ++ record player { waiting = None } ∷ behind
    pub grows : grown ≡ settled ++ entry ∷ []
    pub changes : (now : Map) → map (λ k. map_of.get now k) keys ≡ values → map (λ k. map_of.get (map_after now entry.call) k) keys ≡ changed

  pub record StaysSettled (players : List (Player W)) (settled : List Entry) (values : List (Option ℕ)) (later : List (Player W)) (grown : List Entry)
      (changed : List (Option ℕ)) : Type 0 where
    pub players_same : later ≡ players
    pub settled_same : grown ≡ settled
    pub values_same : changed ≡ values

  -- what the raising of a shadow settles
  pub data Settles (keys : List ℕ) (raised : Option ℕ) (players : List (Player W)) (settled : List Entry) (values : List (Option ℕ)) (later : List (Player W))
      (grown : List Entry) (changed : List (Option ℕ)) : Type 0 where
    nothing_raised : raised ≡ None → StaysSettled players settled values later grown changed → Settles keys raised players settled values later grown changed
    nothing_waits : (word : ℕ) → raised ≡ Some word → NoneAt word players → StaysSettled players settled values later grown changed →
        Settles keys raised players settled values later grown changed
    one_settles : (word : ℕ) → raised ≡ Some word → SettlesEntry keys word players settled values later grown changed →
        Settles keys raised players settled values later grown changed
