-- What an own event makes of an exchange that isn't won yet, and of the words; and how the number falls with it that a structure
-- of the tree's kind gives an exchange.
use Rattle.std.proofs.Common.{◌≡◌, ℕ, ◌+◌, ◌==◌, ◌&&◌, ◌≤◌, Bool, true, false, List, [], ◌∷◌, Option, Some, None, refl, sym, ◌∙◌, ap, subst, arith, if◌then◌else◌}
use Rattle.std.proofs.lemmas.Bool.{false≢true, eqb-true}
use Rattle.std.proofs.lemmas.Option.{none-some, same_Some}
use Rattle.flit_words.specs.declared.layouts.Layout.{Layout}
use Rattle.flit_words.specs.Words.{bare_of, is_tagged}
use Rattle.flit_place.proofs.WordTags.{bare-bare}
use Rattle.flit_model.specs.States.{State, word_at}
use Rattle.flit_model.specs.Effects.{after, answer, with_word}
use Rattle.flit_model.specs.declared.events.Event.{Event}
use Rattle.flit_model.specs.declared.events.Event.TheVariants.{Exchange, Persist}
use Rattle.flit_place.specs.Tags.{Place, dressed}
use Rattle.flit_pv.specs.declared.queues.Noted.{Noted}
use Rattle.flit_pv.specs.declared.exchanges.Exchanging.{Exchanging}
use Rattle.flit_pv.specs.declared.exchanges.Exchanging.TheVariants.{Ready, Tries, TriesBare, WritesBack, Withdraws, Lowers, Ended}
use Rattle.flit_pv.specs.Exchanges.{HeldExchange, exchange_from, exchange_asks, exchange_asked, exchange_takes, exchange_taken, exchange_at, exchange_loses, tries_again, ready_asks, ready_takes}
use Rattle.flit_runs.specs.Workings.{Exchanges}
use Rattle.flit_crew.specs.Machines.{Part, ToWin, HasWon, Works, exchange_part, has_ended}
use Rattle.flit_crew_bounds.specs.Winning.{wins_now}
use Rattle.flit_crew_bounds.proofs.Turning.{Turn, waits, wins, loses, exchange_turn}
use Rattle.flit_tree_limits.specs.TreeLimits.{all_inners, seeks_if, unless_lost}
use Rattle.flit_tree_limits.proofs.Starting.{seeks_most, seeks_fewer, and_first, and_second, and_both, and_none}

-- the words stay, and it isn't won; or it is won by this event, from what it finds, which is what it was to be but for a tag
pub data Moves (p : Place) (s : State) (m : HeldExchange) (e : Event) (n : HeldExchange) : Type 0 where
  stays : (after s e).words ≡ s.words → (exchange_part n.at ≡ HasWon → ⊥) → Moves p s m e n
  won : (old : ℕ) → n ≡ exchange_at m WritesBack → e ≡ Exchange m.word old (dressed p.counted m.to) → word_at s m.word ≡ old → bare_of old ≡ bare_of m.from →
      Moves p s m e n

module _ (p : Place) (s : State) (m : HeldExchange) where
  abbrev now : ℕ
  now = word_at s m.word

  abbrev exchange : ℕ → Event
  exchange old = exchange_from p m old

  words_stay : (old : ℕ) → (now == old) ≡ false → (after s (exchange old)).words ≡ s.words
  words_stay old q = ap (λ b. (if b then with_word s m.word (dressed p.counted m.to) else s).words) q

  again_moves : (now == m.from) ≡ false → (b : Bool) → Moves p s m (exchange m.from) (if b then exchange_at m TriesBare else exchange_loses m now)
  again_moves other true = stays (words_stay m.from other) (λ x. cc)
  again_moves other false = stays (words_stay m.from other) (λ x. cc)

  ready_moves : (queue : List Noted) (slot : Option ℕ) → m.at ≡ Ready →
      Moves p s m (ready_asks p m queue slot) (ready_takes m (answer s (ready_asks p m queue slot)) queue slot)
  ready_moves (n ∷ ns) slot is = stays refl (λ x. let y : ToWin ≡ HasWon = ap exchange_part (sym is) ∙ x in cc)
  ready_moves [] (Some slot) is = stays refl (λ x. cc)
  ready_moves [] None is = by_test (now == m.from) refl
    where
      by_test : (b : Bool) → (now == m.from) ≡ b → Moves p s m (exchange m.from) (if b then exchange_at m WritesBack else tries_again m now)
      by_test true q = won m.from refl refl (eqb-true now m.from q) refl
      by_test false q = again_moves q (is_tagged m.from && (now == bare_of m.from))

  tries_moves : (slot : ℕ) (b : Bool) → (now == m.from) ≡ b → Moves p s m (exchange m.from) (exchange_at m (if b then WritesBack else Lowers slot now))
  tries_moves slot true q = won m.from refl refl (eqb-true now m.from q) refl
  tries_moves slot false q = stays (words_stay m.from q) (λ x. cc)

  bare_moves : (b : Bool) → (now == bare_of m.from) ≡ b →
      Moves p s m (exchange (bare_of m.from)) (if b then exchange_at m WritesBack else exchange_loses m now)
  bare_moves true q = won (bare_of m.from) refl refl (eqb-true now (bare_of m.from) q) (bare-bare m.from)
  bare_moves false q = stays (words_stay (bare_of m.from) q) (λ x. cc)

  moves_at : (x : Exchanging) (e : Event) → m.at ≡ x → exchange_asks p x m ≡ Some e → exchange_part x ≡ ToWin →
      Moves p s m e (exchange_takes p x m (answer s e))
  moves_at Ready e is q part =
      subst (λ y. Moves p s m y (ready_takes m (answer s y) m.hand.queue (p.slot m.word))) (same_Some (ready_asks p m m.hand.queue (p.slot m.word)) e q)
      (ready_moves m.hand.queue (p.slot m.word) is)
  moves_at (Tries slot) e is q part = subst (λ y. Moves p s m y (exchange_takes p (Tries slot) m (answer s y))) (same_Some (exchange m.from) e q)
      (tries_moves slot (now == m.from) refl)
  moves_at TriesBare e is q part = subst (λ y. Moves p s m y (exchange_takes p TriesBare m (answer s y))) (same_Some (exchange (bare_of m.from)) e q)
      (bare_moves (now == bare_of m.from) refl)
  moves_at WritesBack e is q part = absurd (cc)
  moves_at Withdraws e is q part = absurd (cc)
  moves_at (Lowers slot found) e is q part = absurd (cc)
  moves_at (Ended how) e is q part = absurd (none-some e q)

pub exchange_moves : (p : Place) (s : State) (m : HeldExchange) (e : Event) → exchange_asked p m ≡ Some e → exchange_part m.at ≡ ToWin →
    Moves p s m e (exchange_taken p m (answer s e))
exchange_moves p s m e q part = moves_at p s m m.at e refl q part

-- ---- how the number falls

plus_le : (c a b : ℕ) → a ≤ b → c + a ≤ c + b
plus_le c a b i = omega (arith, i)

more_le : (c a b : ℕ) → a ≤ b → a ≤ c + b
more_le c a b i = omega (arith, i)

-- A number for an exchange that is lost where a word was exchanged: one more seek then, and else what its winning and another
-- test say, and behind a won one what the words say.
module _ (l : Layout) (p : Place) (key : ℕ) (s : State) (m : HeldExchange) (e : Event) (asked : exchange_asked p m ≡ Some e) (c : ℕ) (test : List ℕ → Bool)
    (behind : List ℕ → ℕ) where
  abbrev words_then : List ℕ
  words_then = (after s e).words

  abbrev n : HeldExchange
  n = exchange_taken p m (answer s e)

  abbrev number : List ℕ → HeldExchange → ℕ
  number ws x = c + seeks_if (test ws && wins_now p ws x) (all_inners l ws)

  abbrev Falls : HeldExchange → Part → Type 0
  Falls x part = unless_lost l p key words_then (number words_then x) (behind words_then) (exchange_part x.at)
      ≤ unless_lost l p key s.words (number s.words m) (behind s.words) part

  -- where its event wins it
  abbrev pub WonFalls : Type 0
  WonFalls = (old : ℕ) → e ≡ Exchange m.word old (dressed p.counted m.to) → word_at s m.word ≡ old → bare_of old ≡ bare_of m.from → exchange_part m.at ≡ ToWin →
      exchange_part n.at ≡ HasWon → behind words_then ≤ number s.words m

  by_turn : (after s e).words ≡ s.words → (exchange_part n.at ≡ HasWon → ⊥) → Turn p s m e n → Falls n ToWin
  by_turn same unwon (waits part goes) = subst (λ q. unless_lost l p key words_then (number words_then n) (behind words_then) q ≤ number s.words m) (sym part)
      (subst (λ ws. c + seeks_if (test ws && wins_now p ws n) (all_inners l ws) ≤ number s.words m) (sym same)
      (plus_le c (seeks_if (test s.words && wins_now p s.words n) (all_inners l s.words))
      (seeks_if (test s.words && wins_now p s.words m) (all_inners l s.words))
      (seeks_fewer (test s.words && wins_now p s.words n) (test s.words && wins_now p s.words m) (all_inners l s.words)
      (λ both. and_both (test s.words) (wins_now p s.words n) (and_first (test s.words) (wins_now p s.words m) both)
      (subst (λ ws. wins_now p ws n ≡ true) same (goes (and_second (test s.words) (wins_now p s.words m) both)))))))
  by_turn same unwon (wins is) = absurd (unwon (ap (λ x. exchange_part x.at) is))
  by_turn same unwon (loses found part lost) =
      subst (λ q. unless_lost l p key words_then (number words_then n) (behind words_then) q ≤ number s.words m) (sym part)
      (subst (λ ws. seeks_if false (all_inners l ws) ≤ number s.words m) (sym same)
      (subst (λ b. seeks_if false (all_inners l s.words) ≤ c + seeks_if b (all_inners l s.words)) (sym (and_none (test s.words) (wins_now p s.words m) lost))
      (more_le c (seeks_if false (all_inners l s.words)) (seeks_if false (all_inners l s.words))
      (seeks_most false (all_inners l s.words)))))

  to_win : WonFalls → exchange_part m.at ≡ ToWin → Falls n ToWin
  to_win falls part = by_move (exchange_moves p s m e asked part)
    where
      by_move : Moves p s m e n → Falls n ToWin
      by_move (stays same unwon) = by_turn same unwon (exchange_turn p s m e asked part)
      by_move (won old is event found bare) = subst (λ x. Falls x ToWin) (sym is) (falls old event found bare part (ap (λ x. exchange_part x.at) is))

  persist_words : m.at ≡ WritesBack → words_then ≡ s.words
  persist_words is = subst (λ y. (after s y).words ≡ s.words)
      (same_Some (Persist m.word m.to) e (sym (ap (λ x. exchange_asks p x m) is) ∙ asked)) refl

  abbrev Goes : Exchanging → Type 0
  Goes x = Falls (exchange_takes p x m (answer s e)) (exchange_part x)

  goes_at : WonFalls → (x : Exchanging) → m.at ≡ x → has_ended p (Works (Exchanges n)) ≡ false → Goes m.at
  goes_at falls Ready is going = subst (Falls n) (sym (ap exchange_part is)) (to_win falls (ap exchange_part is))
  goes_at falls (Tries slot) is going = subst (Falls n) (sym (ap exchange_part is)) (to_win falls (ap exchange_part is))
  goes_at falls TriesBare is going = subst (Falls n) (sym (ap exchange_part is)) (to_win falls (ap exchange_part is))
  goes_at falls WritesBack is going = subst Goes (sym is) (subst (λ ws. behind ws ≤ behind s.words) (sym (persist_words is)) (even (behind s.words)))
    where
      even : (a : ℕ) → a ≤ a
      even a = omega arith
  goes_at falls Withdraws is going = absurd (false≢true (sym going ∙ ap (λ x. has_ended p (Works (Exchanges (exchange_takes p x m (answer s e))))) is))
  goes_at falls (Lowers slot found) is going =
      absurd (false≢true (sym going ∙ ap (λ x. has_ended p (Works (Exchanges (exchange_takes p x m (answer s e))))) is))
  goes_at falls (Ended how) is going = absurd (none-some e (sym (ap (λ x. exchange_asks p x m) is) ∙ asked))

  pub exchange_falls : WonFalls → has_ended p (Works (Exchanges n)) ≡ false → Falls n (exchange_part m.at)
  exchange_falls falls going = goes_at falls m.at refl going
