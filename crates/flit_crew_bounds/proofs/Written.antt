-- What an exchange that has won finds in its word.
use Rattle.std.proofs.Common.{◌≡◌, ℕ, ◌+◌, ◌<◌, ◌==◌, ◌&&◌, Bool, true, false, List, [], ◌∷◌, length, slice_index, Option, Some, None, is_none, refl, sym, ◌∙◌, ap, subst, if◌then◌else◌}
use Rattle.std.proofs.lemmas.Bool.{false≢true, eqb-true, eq-eqb}
use Rattle.std.proofs.lemmas.Option.{none-some, same_Some}
use Rattle.std.proofs.lemmas.List.{get_or-set_same}
use Rattle.flit_words.specs.Words.{is_tagged, bare_of}
use Rattle.flit_model.specs.States.{State, word_at}
use Rattle.flit_model.specs.Effects.{after, answer, with_word}
use Rattle.flit_model.specs.declared.events.Event.{Event}
use Rattle.flit_model.specs.declared.events.Event.TheVariants.{Lower, Exchange}
use Rattle.flit_place.specs.Tags.{Place, IsSlot, dressed}
use Rattle.flit_place.proofs.WordTags.{bare-dressed, bare-untagged}
use Rattle.flit_pv.specs.declared.queues.Noted.{Noted}
use Rattle.flit_pv.specs.declared.exchanges.Exchanging.{Exchanging}
use Rattle.flit_pv.specs.declared.exchanges.Exchanging.TheVariants.{Ready, Tries, TriesBare, WritesBack, Withdraws, Lowers, Ended}
use Rattle.flit_pv.specs.Exchanges.{HeldExchange, exchange_asks, exchange_asked, exchange_takes, exchange_taken, exchange_at, exchange_loses, tries_again, ready_asks, ready_takes, withdraw_asks}
use Rattle.flit_crew.specs.Machines.{Part, exchange_part, ToWin, HasWon, HasLost}
use Rattle.flit_crew_bounds.specs.Winning.{would_win_at, would_win}
use Rattle.flit_crew_bounds.proofs.Progressing.{won_word}

not_won : ToWin ≡ HasWon → ⊥
not_won e = cc

not_lost : (found : ℕ) → HasLost found ≡ HasWon → ⊥
not_lost found e = cc

-- ---- an exchange that is won by this event

module _ (p : Place) (s : State) (m : HeldExchange) (below : m.word < length s.words) where
  abbrev Writes : Event → HeldExchange → Type 0
  Writes e n = exchange_part n.at ≡ HasWon → slice_index (after s e).words m.word ≡ dressed p.counted m.to

  abbrev exchange : ℕ → Event
  exchange old = Exchange m.word old (dressed p.counted m.to)

  found : (old : ℕ) → word_at s m.word ≡ old → slice_index (after s (exchange old)).words m.word ≡ dressed p.counted m.to
  found old is = won_word s m.word old (dressed p.counted m.to) below is

  again : (e : Event) (told : ℕ) (b : Bool) → Writes e (if b then exchange_at m TriesBare else exchange_loses m told)
  again e told true won = absurd (not_won won)
  again e told false won = absurd (not_lost told won)

  ready_writes : (queue : List Noted) (slot : Option ℕ) → m.at ≡ Ready →
      Writes (ready_asks p m queue slot) (ready_takes m (answer s (ready_asks p m queue slot)) queue slot)
  ready_writes (n ∷ ns) slot is won = absurd (not_won (ap exchange_part (sym is) ∙ won))
  ready_writes [] (Some slot) is won = absurd (not_won won)
  ready_writes [] None is won = by_test (word_at s m.word == m.from) refl won
    where
      by_test : (b : Bool) → (word_at s m.word == m.from) ≡ b →
          Writes (exchange m.from) (if b then exchange_at m WritesBack else tries_again m (word_at s m.word))
      by_test true q k = found m.from (eqb-true (word_at s m.word) m.from q)
      by_test false q k = again (exchange m.from) (word_at s m.word) (is_tagged m.from && (word_at s m.word == bare_of m.from)) k

  tries_writes : (slot : ℕ) (b : Bool) → (word_at s m.word == m.from) ≡ b →
      Writes (exchange m.from) (exchange_at m (if b then WritesBack else Lowers slot (word_at s m.word)))
  tries_writes slot true q won = found m.from (eqb-true (word_at s m.word) m.from q)
  tries_writes slot false q won = absurd (not_lost (word_at s m.word) won)

  bare_writes : (b : Bool) → (word_at s m.word == bare_of m.from) ≡ b →
      Writes (exchange (bare_of m.from)) (if b then exchange_at m WritesBack else exchange_loses m (word_at s m.word))
  bare_writes true q won = found (bare_of m.from) (eqb-true (word_at s m.word) (bare_of m.from) q)
  bare_writes false q won = absurd (not_lost (word_at s m.word) won)

  part_ready : (queue : List Noted) (slot : Option ℕ) (e : Event) → m.at ≡ Ready → Some (ready_asks p m queue slot) ≡ Some e →
      Writes e (ready_takes m (answer s e) queue slot)
  part_ready queue slot e is q = subst (λ x. Writes x (ready_takes m (answer s x) queue slot)) (same_Some (ready_asks p m queue slot) e q)
      (ready_writes queue slot is)

  writes_at : (x : Exchanging) (e : Event) → m.at ≡ x → exchange_asks p x m ≡ Some e → exchange_part x ≡ ToWin →
      Writes e (exchange_takes p x m (answer s e))
  writes_at Ready e is q part = part_ready m.hand.queue (p.slot m.word) e is q
  writes_at (Tries slot) e is q part = subst (λ x. Writes x (exchange_takes p (Tries slot) m (answer s x))) (same_Some (exchange m.from) e q)
      (tries_writes slot (word_at s m.word == m.from) refl)
  writes_at TriesBare e is q part = subst (λ x. Writes x (exchange_takes p TriesBare m (answer s x))) (same_Some (exchange (bare_of m.from)) e q)
      (bare_writes (word_at s m.word == bare_of m.from) refl)
  writes_at WritesBack e is q part = absurd (cc)
  writes_at Withdraws e is q part = absurd (cc)
  writes_at (Lowers slot found') e is q part = absurd (cc)
  writes_at (Ended how) e is q part = absurd (none-some e q)

pub won_writes : (p : Place) (s : State) (m : HeldExchange) (e : Event) → exchange_asked p m ≡ Some e → exchange_part m.at ≡ ToWin →
    exchange_part (exchange_taken p m (answer s e)).at ≡ HasWon → m.word < length s.words →
    slice_index (after s e).words m.word ≡ dressed p.counted m.to
won_writes p s m e q part won below = writes_at p s m below m.at e refl q part won

-- ---- the tag is withdrawn

-- it is as it was read
wins_same : (slot : Option ℕ) (now old : ℕ) → now ≡ old → would_win_at slot now old ≡ true
wins_same slot now old is = ap (λ b. if b then true else (is_none slot && (is_tagged old && (now == bare_of old)))) (eq-eqb now old is)

-- or it is that without its tag
and_right : (a b : Bool) → (a && b) ≡ true → b ≡ true
and_right true b q = q
and_right false b q = absurd (false≢true q)

wins_so : (slot : Option ℕ) (now old : ℕ) (b : Bool) → (now == old) ≡ b →
    (if b then true else (is_none slot && (is_tagged old && (now == bare_of old)))) ≡ true → (b ≡ false → now ≡ bare_of old)
wins_so slot now old true is q e = absurd (false≢true (sym e))
wins_so slot now old false is q e = eqb-true now (bare_of old) (and_right (is_tagged old) (now == bare_of old) (and_right (is_none slot)
    (is_tagged old && (now == bare_of old)) q))

module _ (p : Place) (s : State) (m : HeldExchange) (below : m.word < length s.words) (bare : is_tagged m.to ≡ false)
    (wins : would_win p s.words m.word (dressed p.counted m.to) ≡ true) where
  abbrev Wins : Event → Type 0
  Wins e = would_win p (after s e).words m.word m.to ≡ true

  by_slot : (slot : Option ℕ) → p.slot m.word ≡ slot → (slots : ℕ) (counted : Bool) → p.counted ≡ counted → IsSlot counted slots slot →
      Wins (withdraw_asks p m slot)
  by_slot (Some slot) has slots true is at = subst (λ b. would_win p s.words m.word (dressed b m.to) ≡ true) is wins
  by_slot (Some slot) has slots false is at = absurd (cc)
  by_slot None has slots true is at = absurd (none-some at.0 at.1)
  by_slot None has slots false is at = by_test (word_at s m.word == dressed p.counted m.to) refl
    where
      old : ℕ
      old = dressed p.counted m.to

      by_test : (b : Bool) → (word_at s m.word == old) ≡ b → would_win p (if b then with_word s m.word m.to else s).words m.word m.to ≡ true
      by_test true q = wins_same (p.slot m.word) (slice_index (with_word s m.word m.to).words m.word) m.to
          (get_or-set_same s.words m.word m.to 0 below)
      by_test false q = wins_same (p.slot m.word) (word_at s m.word) m.to
          (wins_so (p.slot m.word) (word_at s m.word) old (word_at s m.word == old) refl wins q ∙ bare-dressed p.counted m.to ∙ bare-untagged m.to bare)

pub cleared_wins : (p : Place) (s : State) (m : HeldExchange) (e : Event) (slots : ℕ) → exchange_asked p m ≡ Some e → m.at ≡ Withdraws →
    IsSlot p.counted slots (p.slot m.word) → is_tagged m.to ≡ false → m.word < length s.words →
    would_win p s.words m.word (dressed p.counted m.to) ≡ true → would_win p (after s e).words m.word m.to ≡ true
cleared_wins p s m e slots q is at bare below wins =
    subst (λ x. would_win p (after s x).words m.word m.to ≡ true)
    (same_Some (withdraw_asks p m (p.slot m.word)) e (sym (ap (λ x. exchange_asks p x m) is) ∙ q))
    (by_slot p s m below bare wins (p.slot m.word) refl slots p.counted refl at)
