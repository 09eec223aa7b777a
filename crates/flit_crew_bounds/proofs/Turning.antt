-- What an own event makes of an exchange and of a store: no word but theirs changes; and an exchange that was to be won still
-- is, or has won, or it shows that it was not.
use Rattle.std.proofs.Common.{◌≡◌, ◌≢◌, ℕ, ◌==◌, ◌&&◌, Bool, true, false, List, [], ◌∷◌, slice_index, Option, Some, None, is_none, refl, sym, ◌∙◌, ap, subst, if◌then◌else◌}
use Rattle.std.proofs.lemmas.Bool.{false≢true, eqb-true}
use Rattle.std.proofs.lemmas.Option.{none-some, same_Some}
use Rattle.std.proofs.lemmas.List.{get_or-set_other}
use Rattle.flit_words.specs.Words.{is_tagged, bare_of}
use Rattle.flit_model.specs.States.{State, word_at}
use Rattle.flit_model.specs.Effects.{after, answer, with_word}
use Rattle.flit_model.specs.declared.events.Event.{Event}
use Rattle.flit_model.specs.declared.events.Event.TheVariants.{Load, Lower, Exchange, Persist, Store}
use Rattle.flit_place.specs.Tags.{Place, dressed}
use Rattle.flit_pv.specs.declared.queues.Noted.{Noted}
use Rattle.flit_pv.specs.declared.exchanges.Exchanging.{Exchanging}
use Rattle.flit_pv.specs.declared.exchanges.Exchanging.TheVariants.{Ready, Tries, TriesBare, WritesBack, Withdraws, Lowers, Ended}
use Rattle.flit_pv.specs.declared.stores.Storing.{Storing}
use Rattle.flit_pv.specs.declared.stores.Storing.TheVariants.{Reads as Store_reads, MakesRoom as Store_makes_room, Writes, Ended as Store_ended}
use Rattle.flit_pv.specs.Queues.{is_full, first_persist, persist_of}
use Rattle.flit_pv.specs.Hands.{fenced_one}
use Rattle.flit_pv.specs.Stores.{HeldStore, store_asks}
use Rattle.flit_pv.specs.Exchanges.{HeldExchange, exchange_from, exchange_asks, exchange_asked, exchange_takes, exchange_taken, exchange_at, exchange_loses, tries_again, ready_asks, ready_takes, withdraw_asks}
use Rattle.flit_crew.specs.Machines.{exchange_part, ToWin, HasLost}
use Rattle.flit_crew_bounds.specs.Winning.{would_win, wins_at, wins_now}

-- ---- a word that is not the exchange's

module _ (p : Place) (s : State) (m : HeldExchange) (v : ℕ) (other : v ≢ m.word) where
  abbrev Keeps : Event → Type 0
  Keeps e = word_at (after s e) v ≡ word_at s v

  exchange_keeps : (old to : ℕ) → Keeps (Exchange m.word old to)
  exchange_keeps old to = by_test (word_at s m.word == old)
    where
      by_test : (b : Bool) → word_at (if b then with_word s m.word to else s) v ≡ word_at s v
      by_test true = get_or-set_other s.words m.word v to 0 other
      by_test false = refl

  ready_keeps : (queue : List Noted) (slot : Option ℕ) → Keeps (ready_asks p m queue slot)
  ready_keeps (n ∷ ns) slot = refl
  ready_keeps [] (Some slot) = refl
  ready_keeps [] None = exchange_keeps m.from (dressed p.counted m.to)

  withdraw_keeps : (slot : Option ℕ) → Keeps (withdraw_asks p m slot)
  withdraw_keeps (Some slot) = refl
  withdraw_keeps None = exchange_keeps (dressed p.counted m.to) m.to

  elsewhere_at : (x : Exchanging) (e : Event) → exchange_asks p x m ≡ Some e → Keeps e
  elsewhere_at Ready e q = subst Keeps (same_Some (ready_asks p m m.hand.queue (p.slot m.word)) e q) (ready_keeps m.hand.queue (p.slot m.word))
  elsewhere_at (Tries slot) e q = subst Keeps (same_Some (exchange_from p m m.from) e q) (exchange_keeps m.from (dressed p.counted m.to))
  elsewhere_at TriesBare e q = subst Keeps (same_Some (exchange_from p m (bare_of m.from)) e q) (exchange_keeps (bare_of m.from) (dressed p.counted m.to))
  elsewhere_at WritesBack e q = subst Keeps (same_Some (Persist m.word m.to) e q) refl
  elsewhere_at Withdraws e q = subst Keeps (same_Some (withdraw_asks p m (p.slot m.word)) e q) (withdraw_keeps (p.slot m.word))
  elsewhere_at (Lowers slot found) e q = subst Keeps (same_Some (Lower slot) e q) refl
  elsewhere_at (Ended how) e q = absurd (none-some e q)

pub exchange_elsewhere : (p : Place) (s : State) (m : HeldExchange) (e : Event) (v : ℕ) → exchange_asked p m ≡ Some e → v ≢ m.word →
    word_at (after s e) v ≡ word_at s v
exchange_elsewhere p s m e v q other = elsewhere_at p s m v other m.at e q

-- ---- an exchange that isn't won yet

-- what this event makes of it
pub data Turn (p : Place) (s : State) (m : HeldExchange) (e : Event) (n : HeldExchange) : Type 0 where
  waits : exchange_part n.at ≡ ToWin → (wins_now p s.words m ≡ true → wins_now p (after s e).words n ≡ true) → Turn p s m e n
  wins : n ≡ exchange_at m WritesBack → Turn p s m e n
  loses : (found : ℕ) → exchange_part n.at ≡ HasLost found → wins_now p s.words m ≡ false → Turn p s m e n

and_second : (a b : Bool) → (a && b) ≡ true → b ≡ true
and_second true b q = q
and_second false b q = absurd (false≢true q)

and_none : (a b : Bool) → b ≡ false → (a && b) ≡ false
and_none true b q = q
and_none false b q = refl

-- with a slot it is to be won just where its word is as it was read
slot_wins : (a b : Bool) → (if a then true else (false && b)) ≡ true → a ≡ true
slot_wins true b q = refl
slot_wins false b q = absurd (false≢true q)

module _ (p : Place) (s : State) (m : HeldExchange) where
  abbrev now : ℕ
  now = word_at s m.word

  abbrev exchange : ℕ → Event
  exchange old = exchange_from p m old

  -- an exchange that finds another word changes nothing
  words_stay : (old : ℕ) → (now == old) ≡ false → (after s (exchange old)).words ≡ s.words
  words_stay old q = ap (λ b. (if b then with_word s m.word (dressed p.counted m.to) else s).words) q

  again_turn : m.at ≡ Ready → p.slot m.word ≡ None → (now == m.from) ≡ false → (b : Bool) → (is_tagged m.from && (now == bare_of m.from)) ≡ b →
      Turn p s m (exchange m.from) (if b then exchange_at m TriesBare else exchange_loses m now)
  again_turn is none other true q = waits refl
      (λ won. ap (λ ws. slice_index ws m.word == bare_of m.from) (words_stay m.from other) ∙ and_second (is_tagged m.from) (now == bare_of m.from) q)
  again_turn is none other false q = loses now refl (ap (λ x. wins_at p s.words x m) is
      ∙ ap (λ b. if b then true else (is_none (p.slot m.word) && (is_tagged m.from && (now == bare_of m.from)))) other
      ∙ and_none (is_none (p.slot m.word)) (is_tagged m.from && (now == bare_of m.from)) q)

  ready_turn : (queue : List Noted) (slot : Option ℕ) → m.at ≡ Ready → p.slot m.word ≡ slot →
      Turn p s m (ready_asks p m queue slot) (ready_takes m (answer s (ready_asks p m queue slot)) queue slot)
  ready_turn (n ∷ ns) slot is has = waits (ap exchange_part is) (λ won.
      subst (λ x. wins_at p s.words x (record m { hand = fenced_one m.hand (n ∷ ns) }) ≡ true) (sym is) (sym (ap (λ x. wins_at p s.words x m) is) ∙ won))
  ready_turn [] (Some slot) is has = waits refl (λ won. slot_wins (now == m.from) (is_tagged m.from && (now == bare_of m.from))
      (subst (λ o. (if now == m.from then true else (is_none o && (is_tagged m.from && (now == bare_of m.from)))) ≡ true) has
      (sym (ap (λ x. wins_at p s.words x m) is) ∙ won)))
  ready_turn [] None is has = by_test (now == m.from) refl
    where
      by_test : (b : Bool) → (now == m.from) ≡ b → Turn p s m (exchange m.from) (if b then exchange_at m WritesBack else tries_again m now)
      by_test true q = wins refl
      by_test false q = again_turn is has q (is_tagged m.from && (now == bare_of m.from)) refl

  tries_turn : (slot : ℕ) → m.at ≡ Tries slot → (b : Bool) → (now == m.from) ≡ b →
      Turn p s m (exchange m.from) (exchange_at m (if b then WritesBack else Lowers slot now))
  tries_turn slot is true q = wins refl
  tries_turn slot is false q = loses now refl (ap (λ x. wins_at p s.words x m) is ∙ q)

  bare_turn : m.at ≡ TriesBare → (b : Bool) → (now == bare_of m.from) ≡ b →
      Turn p s m (exchange (bare_of m.from)) (if b then exchange_at m WritesBack else exchange_loses m now)
  bare_turn is true q = wins refl
  bare_turn is false q = loses now refl (ap (λ x. wins_at p s.words x m) is ∙ q)

  turn_at : (x : Exchanging) (e : Event) → m.at ≡ x → exchange_asks p x m ≡ Some e → exchange_part x ≡ ToWin →
      Turn p s m e (exchange_takes p x m (answer s e))
  turn_at Ready e is q part =
      subst (λ y. Turn p s m y (ready_takes m (answer s y) m.hand.queue (p.slot m.word))) (same_Some (ready_asks p m m.hand.queue (p.slot m.word)) e q)
      (ready_turn m.hand.queue (p.slot m.word) is refl)
  turn_at (Tries slot) e is q part = subst (λ y. Turn p s m y (exchange_takes p (Tries slot) m (answer s y))) (same_Some (exchange m.from) e q)
      (tries_turn slot is (now == m.from) refl)
  turn_at TriesBare e is q part = subst (λ y. Turn p s m y (exchange_takes p TriesBare m (answer s y))) (same_Some (exchange (bare_of m.from)) e q)
      (bare_turn is (now == bare_of m.from) refl)
  turn_at WritesBack e is q part = absurd (cc)
  turn_at Withdraws e is q part = absurd (cc)
  turn_at (Lowers slot found) e is q part = absurd (cc)
  turn_at (Ended how) e is q part = absurd (none-some e q)

pub exchange_turn : (p : Place) (s : State) (m : HeldExchange) (e : Event) → exchange_asked p m ≡ Some e → exchange_part m.at ≡ ToWin →
    Turn p s m e (exchange_taken p m (answer s e))
exchange_turn p s m e q part = turn_at p s m m.at e refl q part

-- ---- a store

-- it is not the word that is stored next
abbrev pub IsApart : ℕ → Storing → Type 0
IsApart v (Store_reads how) = Unit {0}
IsApart v (Writes next) = v ≢ next.word
IsApart v (Store_makes_room next first) = Unit {0}
IsApart v (Store_ended how) = Unit {0}

module _ (s : State) (v : ℕ) where
  abbrev Stays : Event → Type 0
  Stays e = word_at (after s e) v ≡ word_at s v

  write_stays : (queue : List Noted) (next : Noted) (b : Bool) (e : Event) → (if b then first_persist queue else Some (Store next.word next.kept)) ≡ Some e →
      v ≢ next.word → Stays e
  write_stays [] next true e q far = absurd (none-some e q)
  write_stays (n ∷ ns) next true e q far = subst Stays (same_Some (persist_of n) e q) refl
  write_stays queue next false e q far = subst Stays (same_Some (Store next.word next.kept) e q) (get_or-set_other s.words next.word v next.kept 0 far)

  pub store_elsewhere : (at : Storing) (m : HeldStore) (e : Event) → store_asks at m ≡ Some e → IsApart v at → Stays e
  store_elsewhere (Store_reads how) m e q far = subst Stays (same_Some (Load m.drafts.word) e q) refl
  store_elsewhere (Writes next) m e q far = write_stays m.hand.queue next (is_full m.hand.queue) e q far
  store_elsewhere (Store_makes_room next first) m e q far = subst Stays (same_Some (persist_of first) e q) refl
  store_elsewhere (Store_ended how) m e q far = absurd (none-some e q)
