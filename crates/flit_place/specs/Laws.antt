-- What each event leaves of covering, of counts and of nearness.
use Rattle.std.specs.Prelude.{◌≡◌, ℕ, ◌-◌, ◌^◌, ◌<◌, ◌≤◌, ◌++◌, ◌∷◌, [], List, length, true, Some, ◌≢◌, ◌+◌, None}
use Rattle.flit_words.specs.Words.{version_of}
use Rattle.flit_words.specs.declared.layouts.Layout.{Layout}
use Rattle.flit_model.specs.States.{State, word_at, shadow_at, count_at, IsPersistent, state_from}
use Rattle.flit_model.specs.Effects.{IsAllowed, after}
use Rattle.flit_model.specs.declared.events.Event.TheVariants.{ReadTag, Raise, Lower, Load, Exchange, Persist, Store, Draw}
use Rattle.flit_place.specs.Tags.{Place, dressed}
use Rattle.flit_place.specs.Covers.{Suits, Shows, IsAheadBy, is_past_before, Covers, AllNear, at_stage, IsNear}
use Rattle.flit_place.specs.declared.writings.Writing.{Writing}
use Rattle.flit_place.specs.declared.writings.Stage.TheVariants.{Raised, Won, Persisted, Before}
use Rattle.std.specs.List.{AllByRecursion}
use Rattle.flit_place.specs.declared.writings.Stage.{Stage}

-- A slot counts at least the exchange that holds it up, which may lower it, and at most all that are under way, so
-- one may be raised while they are fewer than 2^64 - 1.
pub record CountsAllow : Type 0 where
  pub held : (p : Place) (m : State) (before : List Writing) (w : Writing) (behind : List Writing) (s : ℕ) → Suits p m → Covers p m (before ++ w ∷ behind) →
      is_past_before w.stage ≡ true → p.slot w.word ≡ Some s → 1 ≤ count_at m s
  pub lower : (p : Place) (m : State) (before : List Writing) (w : Writing) (behind : List Writing) (s : ℕ) → Suits p m → Covers p m (before ++ w ∷ behind) →
      is_past_before w.stage ≡ true → p.slot w.word ≡ Some s → IsAllowed m (Lower s)
  pub most : (p : Place) (m : State) (ws : List Writing) (s : ℕ) → Covers p m ws → s < length m.slots → count_at m s ≤ length ws
  pub raise : (p : Place) (m : State) (ws : List Writing) (word s : ℕ) → Suits p m → Covers p m ws → word < length m.words → p.slot word ≡ Some s →
      length ws < 2 ^ 64 - 1 → IsAllowed m (Raise s)
  pub read_tag : (p : Place) (m : State) (word s : ℕ) → Suits p m → word < length m.words → p.slot word ≡ Some s → IsAllowed m (ReadTag s)

-- What the stage of an exchange tells of its word: while the word is ahead by it, it shows a tag, by its slot's count
-- or its tag bit; at Won its version is there; at Persisted it is persistent; and at Raised it has a slot.
pub record StagesTell : Type 0 where
  pub shows : (p : Place) (m : State) (before : List Writing) (w : Writing) (behind : List Writing) → Covers p m (before ++ w ∷ behind) → w.stage ≡ Won →
      IsAheadBy (word_at m w.word) (shadow_at m w.word) w.new → Shows p m w.word
  pub there : (p : Place) (m : State) (before : List Writing) (w : Writing) (behind : List Writing) → Covers p m (before ++ w ∷ behind) → w.stage ≡ Won →
      version_of w.new ≤ version_of (word_at m w.word)
  pub persistent : (p : Place) (m : State) (before : List Writing) (w : Writing) (behind : List Writing) → Covers p m (before ++ w ∷ behind) →
      w.stage ≡ Persisted → IsPersistent m w.word (version_of w.new)
  pub slotted : (p : Place) (m : State) (before : List Writing) (w : Writing) (behind : List Writing) → Covers p m (before ++ w ∷ behind) → w.stage ≡ Raised →
      p.counted ≡ true

-- A placement covers where no exchange is under way and nothing is counted.
abbrev pub NothingUnderWay : Type 0
NothingUnderWay = (p : Place) (l : Layout) (words : List ℕ) → Covers p (state_from l words) []

-- Each event that takes no exchange to another stage keeps covering: what only reads, a lost Exchange, a write-back
-- by anybody of any word and any version, and a Store or another Exchange of a word that no exchange under way is of.
pub record OthersCover : Type 0 where
  pub load : (p : Place) (m : State) (ws : List Writing) (word : ℕ) → Covers p m ws → Covers p (after m (Load word)) ws
  pub read_tag : (p : Place) (m : State) (ws : List Writing) (s : ℕ) → Covers p m ws → Covers p (after m (ReadTag s)) ws
  pub draw : (p : Place) (m : State) (ws : List Writing) → Covers p m ws → Covers p (after m Draw) ws
  pub lost : (p : Place) (m : State) (ws : List Writing) (word old new : ℕ) → Covers p m ws → word_at m word ≢ old →
      Covers p (after m (Exchange word old new)) ws
  pub write_back : (p : Place) (m : State) (ws : List Writing) (word kept : ℕ) → Suits p m → AllNear m ws → Covers p m ws → word < length m.words →
      Covers p (after m (Persist word kept)) ws
  pub store : (p : Place) (m : State) (ws : List Writing) (word new : ℕ) → Suits p m → Covers p m ws → word < length m.words →
      AllByRecursion (λ w. w.word ≢ word) ws → Covers p (after m (Store word new)) ws
  pub exchange : (p : Place) (m : State) (ws : List Writing) (word old new : ℕ) → Suits p m → Covers p m ws → word < length m.words →
      AllByRecursion (λ w. w.word ≢ word) ws → Covers p (after m (Exchange word old new)) ws

-- An exchange that has changed nothing comes and goes.
pub record ListsCover : Type 0 where
  pub begun : (p : Place) (m : State) (before : List Writing) (w : Writing) (behind : List Writing) → Covers p m (before ++ behind) → w.word < length m.words →
      w.stage ≡ Before → Covers p m (before ++ w ∷ behind)
  pub given_up : (p : Place) (m : State) (before : List Writing) (w : Writing) (behind : List Writing) → Covers p m (before ++ w ∷ behind) → w.stage ≡ Before →
      Covers p m (before ++ behind)

-- Each event that takes an exchange to its next stage keeps covering: the Raise of its slot; its won Exchange, which
-- writes the next version dressed, and without slots, also by its second try, comes right after Before; and its Persist.
pub record ExchangesCover : Type 0 where
  pub raised : (p : Place) (m : State) (before : List Writing) (w : Writing) (behind : List Writing) (s : ℕ) → Suits p m → Covers p m (before ++ w ∷ behind) →
      w.stage ≡ Before → p.slot w.word ≡ Some s → Covers p (after m (Raise s)) (before ++ at_stage w Raised ∷ behind)
  pub won : (p : Place) (m : State) (before : List Writing) (w : Writing) (behind : List Writing) (old : ℕ) → Suits p m → Covers p m (before ++ w ∷ behind) →
      w.stage ≡ Raised → word_at m w.word ≡ old → version_of w.new ≡ version_of old + 1 →
      Covers p (after m (Exchange w.word old (dressed p.counted w.new))) (before ++ at_stage w Won ∷ behind)
  pub won_without_slot : (p : Place) (m : State) (before : List Writing) (w : Writing) (behind : List Writing) (old : ℕ) → Suits p m →
      Covers p m (before ++ w ∷ behind) → w.stage ≡ Before → p.slot w.word ≡ None → word_at m w.word ≡ old → version_of w.new ≡ version_of old + 1 →
      Covers p (after m (Exchange w.word old (dressed p.counted w.new))) (before ++ at_stage w Won ∷ behind)
  pub persisted : (p : Place) (m : State) (before : List Writing) (w : Writing) (behind : List Writing) → Suits p m → AllNear m (before ++ w ∷ behind) →
      Covers p m (before ++ w ∷ behind) → w.stage ≡ Won → Covers p (after m (Persist w.word w.new)) (before ++ at_stage w Persisted ∷ behind)

-- Each event that ends an exchange keeps covering: after its Persist the Lower of its slot, or without slots the
-- Exchange that clears its tag bit, won or lost; and the Lower that follows a lost Exchange, after which it is at
-- Before again.
pub record EndsCover : Type 0 where
  pub lowered : (p : Place) (m : State) (before : List Writing) (w : Writing) (behind : List Writing) (s : ℕ) → Suits p m → Covers p m (before ++ w ∷ behind) →
      w.stage ≡ Persisted → p.slot w.word ≡ Some s → Covers p (after m (Lower s)) (before ++ behind)
  pub cleared : (p : Place) (m : State) (before : List Writing) (w : Writing) (behind : List Writing) → Suits p m → Covers p m (before ++ w ∷ behind) →
      w.stage ≡ Persisted → p.slot w.word ≡ None → Covers p (after m (Exchange w.word (dressed p.counted w.new) w.new)) (before ++ behind)
  pub lowered_after_loss : (p : Place) (m : State) (before : List Writing) (w : Writing) (behind : List Writing) (s : ℕ) → Suits p m →
      Covers p m (before ++ w ∷ behind) → w.stage ≡ Raised → p.slot w.word ≡ Some s → Covers p (after m (Lower s)) (before ++ at_stage w Before ∷ behind)

-- Events keep each word that has an exchange under way at its shadow's version or the next: those that write no word
-- and no shadow; a write-back of at most the word's version; an Exchange from a persistent version to the next, or to
-- the same version, as the one that clears a tag bit; a lost one; and what is written to a word of no exchange.
pub record WordsStayNear : Type 0 where
  pub load : (m : State) (ws : List Writing) (word : ℕ) → AllNear m ws → AllNear (after m (Load word)) ws
  pub read_tag : (m : State) (ws : List Writing) (s : ℕ) → AllNear m ws → AllNear (after m (ReadTag s)) ws
  pub raise : (m : State) (ws : List Writing) (s : ℕ) → AllNear m ws → AllNear (after m (Raise s)) ws
  pub lower : (m : State) (ws : List Writing) (s : ℕ) → AllNear m ws → AllNear (after m (Lower s)) ws
  pub draw : (m : State) (ws : List Writing) → AllNear m ws → AllNear (after m Draw) ws
  pub write_back : (m : State) (ws : List Writing) (word kept : ℕ) → AllNear m ws → word < length m.shadows → version_of kept ≤ version_of (word_at m word) →
      AllNear (after m (Persist word kept)) ws
  pub next : (m : State) (ws : List Writing) (word old new : ℕ) → AllNear m ws → word < length m.words → IsPersistent m word (version_of old) →
      version_of new ≡ version_of old + 1 → AllNear (after m (Exchange word old new)) ws
  pub cleared : (m : State) (ws : List Writing) (word old new : ℕ) → AllNear m ws → word < length m.words → version_of new ≡ version_of old →
      AllNear (after m (Exchange word old new)) ws
  pub lost : (m : State) (ws : List Writing) (word old new : ℕ) → AllNear m ws → word_at m word ≢ old → AllNear (after m (Exchange word old new)) ws
  pub store : (m : State) (ws : List Writing) (word new : ℕ) → AllNear m ws → word < length m.words → AllByRecursion (λ w. w.word ≢ word) ws →
      AllNear (after m (Store word new)) ws
  pub exchange : (m : State) (ws : List Writing) (word old new : ℕ) → AllNear m ws → word < length m.words → AllByRecursion (λ w. w.word ≢ word) ws →
      AllNear (after m (Exchange word old new)) ws

-- Stages play no part in nearness, and an exchange may begin on a word that is near.
pub record ListsNear : Type 0 where
  pub staged : (m : State) (before : List Writing) (w : Writing) (behind : List Writing) (stage : Stage) → AllNear m (before ++ w ∷ behind) →
      AllNear m (before ++ at_stage w stage ∷ behind)
  pub ended : (m : State) (before : List Writing) (w : Writing) (behind : List Writing) → AllNear m (before ++ w ∷ behind) → AllNear m (before ++ behind)
  pub begun : (m : State) (before : List Writing) (w : Writing) (behind : List Writing) → AllNear m (before ++ behind) →
      IsNear (word_at m w.word) (shadow_at m w.word) → AllNear m (before ++ w ∷ behind)
