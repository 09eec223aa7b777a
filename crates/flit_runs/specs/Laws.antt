-- What holds of every run of the machines of the P-V Interface.
use Rattle.std.specs.Prelude.{◌≡◌, ◌≢◌, ◌⊎◌, ℕ, ◌+◌, ◌-◌, ◌<◌, ◌≤◌, ◌^◌, suc, Bool, false, List, Some, None, [], ◌∷◌, ◌++◌, length, count_by, Contains}
use Rattle.std.specs.List.{AllByRecursion}
use Rattle.flit_words.specs.Words.{version_of, is_tagged, bare_of}
use Rattle.flit_model.specs.States.{State, word_at, shadow_at, count_at, IsPersistent}
use Rattle.flit_model.specs.declared.events.Event.TheVariants.{Load, Exchange, Store}
use Rattle.flit_place.specs.Tags.{Place}
use Rattle.flit_place.specs.Covers.{holds_up, Shows}
use Rattle.flit_model.specs.Effects.{with_word}
use Rattle.flit_pv.specs.declared.hands.Hand.{Hand}
use Rattle.flit_pv.specs.declared.queues.Noted.{Noted}
use Rattle.flit_pv.specs.Hands.{with_pair}
use Rattle.flit_pv.specs.Loads.{HeldLoad, load_asked}
use Rattle.flit_pv.specs.Confirms.{HeldConfirm}
use Rattle.flit_pv.specs.Exchanges.{HeldExchange, exchange_asked}
use Rattle.flit_pv.specs.declared.exchanges.Exchanging.TheVariants.{Withdraws}
use Rattle.flit_pv.specs.Stores.{HeldStore, store_asked}
use Rattle.flit_runs.specs.Workings.{Dependency, Idles, Loads, Confirms, Exchanges, Stores, Task, asks, leaves as leaves_hand, writing_at, confirms, dependency, gains}
use Rattle.flit_runs.specs.Worlds.{Seen, Actor, World, world_of, begun, Step, Execution, IsFreshWorld, IsFreshActor, IsNobodys, writings}
use Rattle.flit_runs.specs.Soundness.{IsSound, IsStored, MayBeStored, owed}
use Rattle.flit_runs.specs.Rules.{IsDurable, KeepsRule, KeepsWords, AsksAllowed, LoadsPersistent, ConfirmsPersistent, ConfirmedPersistent, LoadsSettled, IsAccounted}
use Rattle.flit_runs.specs.Witnesses.{beside}

-- A fresh world is sound, and each turn keeps a world sound; so each world of each run is sound. A worker that has done
-- nothing may join a sound world.
pub record WorldsAreSound : Type 0 where
  pub opens : (p : Place) (vs : ℕ → Bool) (w : World) → IsFreshWorld p w → IsSound p vs w
  pub keeps : (p : Place) (vs : ℕ → Bool) (w v : World) → Step p vs w v → IsSound p vs w → IsSound p vs v
  pub runs : (p : Place) (vs : ℕ → Bool) (first last : World) → IsFreshWorld p first → Execution p vs first last → IsSound p vs last
  pub joins : (p : Place) (vs : ℕ → Bool) (s : State) (me : Actor) (others : List Actor) → IsFreshActor me → length others + 1 < 2 ^ 64 - 1 →
      IsSound p vs (record { state = s; workers = others }) → IsSound p vs (record { state = s; workers = me ∷ others })

-- A sound world stays sound when a worker that has no exchange under way rests with a hand of the queue that it owes; when
-- a worker whose machine asks nothing more rests with the hand that the machine leaves, and depends on what it confirmed;
-- when a worker at rest stores the next version of one of its private words, which was persistent, and owes and depends on
-- that; when a worker is hired that has done nothing; and when stretches of the list of workers change places.
pub record WorldsStaySound : Type 0 where
  pub rests : (p : Place) (vs : ℕ → Bool) (s : State) (before : List Actor) (me : Actor) (behind : List Actor) (hand : Hand) → writing_at me.at ≡ None →
      owed me.at ≡ hand.queue → IsSound p vs (world_of s before me behind) → IsSound p vs (world_of s before (record me { at = Idles hand }) behind)
  pub leaves : (p : Place) (vs : ℕ → Bool) (s : State) (before : List Actor) (me : Actor) (behind : List Actor) → asks p me.at ≡ None →
      IsSound p vs (world_of s before me behind) →
      IsSound p vs (world_of s before (record me { at = Idles (leaves_hand me.at); needs = confirms me.at ++ me.needs }) behind)
  pub stores : (p : Place) (vs : ℕ → Bool) (s : State) (before : List Actor) (hand : Hand) (needs : List Dependency) (seen : List Seen) (private : List ℕ)
      (behind : List Actor) (next : Noted) → MayBeStored s private next →
      IsSound p vs (world_of s before (record { at = Idles hand; needs = needs; seen = seen; private = private }) behind) →
      IsSound p vs (world_of (with_word s next.word next.kept) before (record {
        at = Idles (with_pair hand next);
        needs = dependency next.word (version_of next.kept) ∷ needs;
        seen = seen;
        private = private;
      }) behind)
  pub hires : (p : Place) (vs : ℕ → Bool) (s : State) (workers : List Actor) (hand : Hand) → hand.queue ≡ [] → suc (length workers) < 2 ^ 64 - 1 →
      IsSound p vs (record { state = s; workers = workers }) →
      IsSound p vs (record { state = s; workers = (record { at = Idles hand; needs = []; seen = []; private = [] }) ∷ workers })
  pub order : (p : Place) (vs : ℕ → Bool) (s : State) (a x y b : List Actor) → IsSound p vs (record { state = s; workers = a ++ (x ++ (y ++ b)) }) →
      IsSound p vs (record { state = s; workers = a ++ (y ++ (x ++ b)) })

-- The P-V rule: all that a worker depends on is persistent at each Exchange of its PExchange, the second try and the
-- clearing one among them, and where its Fence or its Complete has ended. Then its private words are persistent too.
pub record PvRule : Type 0 where
  pub sound : (p : Place) (vs : ℕ → Bool) (w : World) → IsSound p vs w → AllByRecursion (KeepsRule p w.state) w.workers
  pub runs : (p : Place) (vs : ℕ → Bool) (first last : World) → IsFreshWorld p first → Execution p vs first last →
      AllByRecursion (KeepsRule p last.state) last.workers
  pub private : (p : Place) (vs : ℕ → Bool) (w : World) → IsSound p vs w → AllByRecursion (KeepsWords p w.state) w.workers

-- Each word that is no v-word is its shadow, its tag aside, or has the next version; no word is behind its shadow, and
-- no shadow is tagged.
pub record OneVersionAhead : Type 0 where
  pub ahead : (p : Place) (vs : ℕ → Bool) (first last : World) → IsFreshWorld p first → Execution p vs first last → (word : ℕ) → vs word ≡ false →
      (bare_of (word_at last.state word) ≡ shadow_at last.state word) ⊎ (version_of (word_at last.state word) ≡ version_of (shadow_at last.state word) + 1)
  pub behind : (p : Place) (vs : ℕ → Bool) (first last : World) → IsFreshWorld p first → Execution p vs first last → (word : ℕ) →
      version_of (shadow_at last.state word) ≤ version_of (word_at last.state word)
  pub untagged : (p : Place) (vs : ℕ → Bool) (first last : World) → IsFreshWorld p first → Execution p vs first last → (word : ℕ) →
      is_tagged (shadow_at last.state word) ≡ false

-- Covering and counts: a word that is ahead by an exchange shows a tag, and a slot's count is the number of exchanges
-- that have raised it and not yet lowered it. A word that is ahead otherwise is private to a worker that depends on it
-- and owes its write-back.
pub record Covering : Type 0 where
  pub shows : (p : Place) (vs : ℕ → Bool) (w : World) → IsSound p vs w → (word : ℕ) → vs word ≡ false → IsNobodys w.workers word →
      version_of (word_at w.state word) ≡ version_of (shadow_at w.state word) + 1 → Shows p w.state word
  pub counts : (p : Place) (vs : ℕ → Bool) (w : World) → IsSound p vs w → (slot : ℕ) → slot < length w.state.slots →
      count_at w.state slot ≡ count_by (holds_up p.slot slot) (writings w.workers)
  pub accounted : (p : Place) (vs : ℕ → Bool) (w : World) → IsSound p vs w → (word : ℕ) → vs word ≡ false → IsAccounted w.state w.workers word
  pub stored : (p : Place) (vs : ℕ → Bool) (w : World) → IsSound p vs w →
      AllByRecursion (λ me. AllByRecursion (IsStored w.state (owed me.at) me.needs) me.private) w.workers

-- Each event that a machine asks for may be made.
abbrev pub EventsAreAllowed : Type 0
EventsAreAllowed = (p : Place) (vs : ℕ → Bool) (w : World) → IsSound p vs w → AllByRecursion (AsksAllowed p w.state) w.workers

-- Where a PLoad or a Confirm ends and queues nothing, the version that it read is persistent.
pub record VersionReadPersists : Type 0 where
  pub loaded : (p : Place) (vs : ℕ → Bool) (w : World) → IsSound p vs w → AllByRecursion (LoadsPersistent p w.state) w.workers
  pub confirmed : (p : Place) (vs : ℕ → Bool) (w : World) → IsSound p vs w → AllByRecursion (ConfirmsPersistent p w.state) w.workers
  pub confirmed_at_once : (p : Place) (vs : ℕ → Bool) (w : World) → IsSound p vs w → AllByRecursion (ConfirmedPersistent p w.state) w.workers

-- Where a PLoad asks for its Load, its word isn't ahead by a Store.
abbrev pub LoadsAreSettled : Type 0
LoadsAreSettled = (p : Place) (vs : ℕ → Bool) (w : World) → IsSound p vs w → AllByRecursion (LoadsSettled p w.state w.workers) w.workers

-- No word's version and no shadow ever falls, and what is persistent stays so. What a word holds, but for a v-word, is
-- persistent before the word holds another.
pub record VersionsNeverFall : Type 0 where
  pub words : (p : Place) (vs : ℕ → Bool) (w v : World) → IsSound p vs w → Execution p vs w v → (word : ℕ) →
      version_of (word_at w.state word) ≤ version_of (word_at v.state word)
  pub shadows : (p : Place) (vs : ℕ → Bool) (w v : World) → IsSound p vs w → Execution p vs w v → (word : ℕ) →
      shadow_at w.state word ≤ shadow_at v.state word
  pub persistent : (p : Place) (vs : ℕ → Bool) (w v : World) → IsSound p vs w → Execution p vs w v → (word version : ℕ) →
      IsPersistent w.state word version → IsPersistent v.state word version
  pub replaced : (p : Place) (vs : ℕ → Bool) (w v : World) → IsSound p vs w → Execution p vs w v → (word : ℕ) → vs word ≡ false →
      (bare_of (word_at w.state word) ≤ shadow_at v.state word) ⊎ (bare_of (word_at w.state word) ≡ bare_of (word_at v.state word))

-- What a worker comes to depend on by an event: the version that its PLoad has loaded, that its PrivateStore has stored,
-- or that its PExchange has written; and, as it starts its next machine, the version that its Confirm has confirmed.
-- By the start of a machine after any other it comes to depend on nothing more.
pub record Dependencies : Type 0 where
  pub loaded : (p : Place) (m : HeldLoad) (word told : ℕ) → load_asked m ≡ Some (Load word) →
      gains p (Loads m) told ≡ dependency word (version_of told) ∷ []
  pub stored : (p : Place) (m : HeldStore) (word new told : ℕ) → store_asked m ≡ Some (Store word new) →
      gains p (Stores m) told ≡ dependency word (version_of new) ∷ []
  pub written : (p : Place) (m : HeldExchange) (word old new : ℕ) → exchange_asked p m ≡ Some (Exchange word old new) → m.at ≢ Withdraws →
      gains p (Exchanges m) old ≡ dependency word (version_of new) ∷ []
  pub confirmed : (me : Actor) (m : HeldConfirm) (task : Task) → me.at ≡ Confirms m → (begun task me).needs ≡ dependency m.word (version_of m.raw) ∷ me.needs
  pub started : (me : Actor) (task : Task) → ((m : HeldConfirm) → me.at ≡ Confirms m → ⊥) → (begun task me).needs ≡ me.needs

-- The rule isn't empty: there is a run, of a word with a slot beside it and two workers, after which one of them depends
-- on a version that isn't persistent; its next exchange is still to come.
abbrev pub LoadsMayOwe : Type 0
LoadsMayOwe =
    (first : World) × (last : World) × (me : Actor) × IsFreshWorld beside first × Execution beside (λ word. false) first last
    × Contains last.workers me × (IsDurable last.state me.needs → ⊥)
