-- How an exchange of a call has come to its end: a lost one wasn't to be won, and left the words as they are; a won one ends
-- where its tag is withdrawn.
use Rattle.std.proofs.Common.{◌≡◌, ◌⊎◌, inl, inr, ℕ, ◌==◌, ◌&&◌, slice_index, Bool, true, false, List, [], ◌∷◌, Option, Some, None, is_none, refl, sym, ◌∙◌, ap, subst, if◌then◌else◌}
use Rattle.std.proofs.lemmas.Bool.{false≢true, eq-eqb}
use Rattle.std.proofs.lemmas.Option.{none-some, same_Some}
use Rattle.flit_words.specs.Words.{is_tagged, bare_of}
use Rattle.flit_model.specs.States.{State, word_at}
use Rattle.flit_model.specs.Effects.{after, answer, with_word}
use Rattle.flit_model.specs.declared.events.Event.{Event}
use Rattle.flit_model.specs.declared.events.Event.TheVariants.{Lower, Persist}
use Rattle.flit_place.specs.Tags.{Place, dressed}
use Rattle.flit_pv.specs.declared.queues.Noted.{Noted}
use Rattle.flit_pv.specs.declared.exchanges.Exchanging.{Exchanging}
use Rattle.flit_pv.specs.declared.exchanges.Exchanging.TheVariants.{Ready, Tries, TriesBare, WritesBack, Withdraws, Lowers, Ended}
use Rattle.flit_pv.specs.declared.exchanges.Exchanged.{Exchanged}
use Rattle.flit_pv.specs.declared.exchanges.Exchanged.TheVariants.{Won, Lost}
use Rattle.flit_pv.specs.Exchanges.{HeldExchange, exchange_from, exchange_asks, exchange_asked, exchange_takes, exchange_taken, exchange_at, exchange_loses, tries_again, ready_asks, ready_takes}
use Rattle.flit_runs.specs.Workings.{Exchanges}
use Rattle.flit_crew.specs.Machines.{Works, has_ended, exchange_part, ToWin, HasLost}
use Rattle.flit_crew_bounds.specs.Winning.{wins_at, wins_now, would_win}
use Rattle.flit_crew_bounds.proofs.Turning.{Turn, waits, wins, loses, exchange_turn}
use Rattle.flit_crew_bounds.proofs.MachineFalls.{and_first}

-- ---- how an exchange has come to its end

module _ (p : Place) (s : State) (e : Event) (m : HeldExchange) where
  abbrev pub n : HeldExchange
  n = exchange_taken p m (answer s e)

  -- one that was still to be won hasn't ended won by this event; where it has ended lost, it wasn't to be won
  lost_turn : (found : ℕ) → n.at ≡ Ended (Lost found) → Turn p s m e n → wins_now p s.words m ≡ false
  lost_turn found is (waits part stays) = absurd (cc)
  lost_turn found is (wins so) = absurd (other (sym is ∙ ap (λ x. x.at) so))
    where
      other : Ended (Lost found) ≡ WritesBack → ⊥
      other q = cc
  lost_turn found is (loses found' part no_win) = no_win

  -- what this event makes of it from here
  pub becomes : (x : Exchanging) → m.at ≡ x → n ≡ exchange_takes p x m (answer s e)
  becomes x at = ap (λ y. exchange_takes p y m (answer s e)) at

  -- it was lost just now, or before, where its slot had still to be lowered
  pub record WasLost : Type 0 where
    pub no_win : wins_now p s.words m ≡ false
    pub part : (exchange_part m.at ≡ ToWin) ⊎ ((found : ℕ) × (exchange_part m.at ≡ HasLost found))

  lost_now : (found : ℕ) → exchange_asked p m ≡ Some e → n.at ≡ Ended (Lost found) → exchange_part m.at ≡ ToWin → WasLost
  lost_now found asked is part = record { no_win = lost_turn found is (exchange_turn p s m e asked part); part = inl part }

  lost_from : (found : ℕ) (x : Exchanging) → m.at ≡ x → exchange_asked p m ≡ Some e → n.at ≡ Ended (Lost found) → WasLost
  lost_from found Ready at asked is = lost_now found asked is (ap exchange_part at)
  lost_from found (Tries slot) at asked is = lost_now found asked is (ap exchange_part at)
  lost_from found TriesBare at asked is = lost_now found asked is (ap exchange_part at)
  lost_from found WritesBack at asked is = absurd (other (sym is ∙ ap (λ x. x.at) (becomes WritesBack at)))
    where
      other : Ended (Lost found) ≡ Withdraws → ⊥
      other q = cc
  lost_from found Withdraws at asked is = absurd (other (sym is ∙ ap (λ x. x.at) (becomes Withdraws at)))
    where
      other : Ended (Lost found) ≡ Ended Won → ⊥
      other q = cc
  lost_from found (Lowers slot found') at asked is = record { no_win = ap (λ x. wins_at p s.words x m) at; part = inr (found', ap exchange_part at) }
  lost_from found (Ended how) at asked is = absurd (none-some e (sym (ap (λ x. exchange_asks p x m) at) ∙ asked))

  pub was_lost : (found : ℕ) → exchange_asked p m ≡ Some e → n.at ≡ Ended (Lost found) → WasLost
  was_lost found asked is = lost_from found m.at refl asked is

  won_turn : n.at ≡ Ended Won → Turn p s m e n → ⊥
  won_turn is (waits part stays) = absurd (cc)
  won_turn is (wins so) = other (sym is ∙ ap (λ x. x.at) so)
    where
      other : Ended Won ≡ WritesBack → ⊥
      other q = cc
  won_turn is (loses found part no_win) = absurd (cc)

  won_from : (x : Exchanging) → m.at ≡ x → exchange_asked p m ≡ Some e → n.at ≡ Ended Won → m.at ≡ Withdraws
  won_from Ready at asked is = absurd (won_turn is (exchange_turn p s m e asked (ap exchange_part at)))
  won_from (Tries slot) at asked is = absurd (won_turn is (exchange_turn p s m e asked (ap exchange_part at)))
  won_from TriesBare at asked is = absurd (won_turn is (exchange_turn p s m e asked (ap exchange_part at)))
  won_from WritesBack at asked is = absurd (other (sym is ∙ ap (λ x. x.at) (becomes WritesBack at)))
    where
      other : Ended Won ≡ Withdraws → ⊥
      other q = cc
  won_from Withdraws at asked is = at
  won_from (Lowers slot found) at asked is = absurd (other (sym is ∙ ap (λ x. x.at) (becomes (Lowers slot found) at)))
    where
      other : Ended Won ≡ Ended (Lost found) → ⊥
      other q = cc
  won_from (Ended how) at asked is = absurd (none-some e (sym (ap (λ x. exchange_asks p x m) at) ∙ asked))

  -- it ends won where its tag is withdrawn
  pub won_withdraws : exchange_asked p m ≡ Some e → n.at ≡ Ended Won → m.at ≡ Withdraws
  won_withdraws asked is = won_from m.at refl asked is

  -- ---- a lost one has changed no word

  abbrev LeavesWords : Event → HeldExchange → ℕ → Type 0
  LeavesWords y x found = x.at ≡ Ended (Lost found) → (after s y).words ≡ s.words

  no_win_ends : (found : ℕ) → WritesBack ≡ Ended (Lost found) → ⊥
  no_win_ends found q = cc

  -- an exchange from this, which the word isn't
  by_found : (found old : ℕ) (other : HeldExchange) (b : Bool) → (word_at s m.word == old) ≡ b →
      LeavesWords (exchange_from p m old) (if b then exchange_at m WritesBack else other) found
  by_found found old other true q is = absurd (no_win_ends found is)
  by_found found old other false q is = ap (λ b. (if b then with_word s m.word (dressed p.counted m.to) else s).words) q

  by_queue : (found : ℕ) (queue : List Noted) (slot : Option ℕ) →
      LeavesWords (ready_asks p m queue slot) (ready_takes m (answer s (ready_asks p m queue slot)) queue slot) found
  by_queue found (n ∷ ns) slot is = refl
  by_queue found [] (Some slot) is = refl
  by_queue found [] None is = by_found found m.from (tries_again m (word_at s m.word)) (word_at s m.word == m.from) refl is

  leaves_at : (found : ℕ) (x : Exchanging) → exchange_asks p x m ≡ Some e → LeavesWords e (exchange_takes p x m (answer s e)) found
  leaves_at found Ready q is = subst (λ y. LeavesWords y (ready_takes m (answer s y) m.hand.queue (p.slot m.word)) found)
      (same_Some (ready_asks p m m.hand.queue (p.slot m.word)) e q) (by_queue found m.hand.queue (p.slot m.word)) is
  leaves_at found (Tries slot) q is = absurd (neither (answer s e == m.from) is)
    where
      neither : (b : Bool) → (exchange_at m (if b then WritesBack else Lowers slot (answer s e))).at ≡ Ended (Lost found) → ⊥
      neither true q = cc
      neither false q = cc
  leaves_at found TriesBare q is =
      subst (λ y. LeavesWords y (if answer s y == bare_of m.from then exchange_at m WritesBack else exchange_loses m (answer s y)) found)
      (same_Some (exchange_from p m (bare_of m.from)) e q)
      (by_found found (bare_of m.from) (exchange_loses m (word_at s m.word)) (word_at s m.word == bare_of m.from) refl) is
  leaves_at found WritesBack q is = subst (λ y. (after s y).words ≡ s.words) (same_Some (Persist m.word m.to) e q) refl
  leaves_at found Withdraws q is = absurd (cc)
  leaves_at found (Lowers slot found') q is = subst (λ y. (after s y).words ≡ s.words) (same_Some (Lower slot) e q) refl
  leaves_at found (Ended how) q is = absurd (none-some e q)

  pub lost_words : (found : ℕ) → exchange_asked p m ≡ Some e → n.at ≡ Ended (Lost found) → (after s e).words ≡ s.words
  lost_words found asked is = leaves_at found m.at asked is

-- one that asks nothing more has ended, somehow
ended_at : (p : Place) (n : HeldExchange) (x : Exchanging) → n.at ≡ x → is_none (exchange_asks p x n) ≡ true → (how : Exchanged) × (n.at ≡ Ended how)
ended_at p n Ready is none = absurd (false≢true none)
ended_at p n (Tries slot) is none = absurd (false≢true none)
ended_at p n TriesBare is none = absurd (false≢true none)
ended_at p n WritesBack is none = absurd (false≢true none)
ended_at p n Withdraws is none = absurd (false≢true none)
ended_at p n (Lowers slot found) is none = absurd (false≢true none)
ended_at p n (Ended how) is none = (how, is)

pub has_come : (p : Place) (n : HeldExchange) → has_ended p (Works (Exchanges n)) ≡ true → (how : Exchanged) × (n.at ≡ Ended how)
has_come p n ended = ended_at p n n.at refl (and_first (is_none (exchange_asked p n)) true ended)

-- an exchange from what its word holds would be won
pub wins_as_read : (p : Place) (words : List ℕ) (word old : ℕ) → slice_index words word ≡ old → would_win p words word old ≡ true
wins_as_read p words word old is =
    ap (λ b. if b then true else (is_none (p.slot word) && (is_tagged old && (slice_index words word == bare_of old)))) (eq-eqb (slice_index words word) old is)
