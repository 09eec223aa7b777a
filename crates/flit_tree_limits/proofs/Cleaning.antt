-- A call goes on from the exchanges of a clean-up: behind a freeze that was won comes the swing, behind its own clean-up the
-- call ends, and behind a help a seek begins again, which was among what might follow.
use Rattle.std.proofs.Common.{◌≡◌, ℕ, ◌+◌, ◌≤◌, ◌&&◌, Bool, true, false, List, length, refl, sym, ap, subst, arith}
use Rattle.flit_words.specs.declared.layouts.Layout.{Layout}
use Rattle.flit_model.specs.States.{State}
use Rattle.flit_model.specs.Effects.{after, answer}
use Rattle.flit_model.specs.declared.events.Event.{Event}
use Rattle.flit_model.specs.declared.calls.Call.{Call}
use Rattle.flit_model.specs.declared.calls.Reply.{Reply}
use Rattle.flit_place.specs.Tags.{Place}
use Rattle.flit_pv.specs.declared.exchanges.Exchanging.{Exchanging}
use Rattle.flit_pv.specs.declared.exchanges.Exchanging.TheVariants.{Withdraws, Ended}
use Rattle.flit_pv.specs.declared.exchanges.Exchanged.{Exchanged}
use Rattle.flit_pv.specs.declared.exchanges.Exchanged.TheVariants.{Won, Lost, Worn}
use Rattle.flit_pv.specs.Exchanges.{HeldExchange, exchange_taken}
use Rattle.flit_structure.specs.Meanings.{key_of}
use Rattle.flit_runs.specs.Workings.{Exchanges}
use Rattle.flit_crew.specs.Machines.{Works, has_ended, exchange_part}
use Rattle.flit_crew.specs.Crews.{Who}
use Rattle.flit_crew_bounds.specs.Winning.{would_win, wins_now}
use Rattle.flit_tree_heap.specs.Views.{TreeHeap}
use Rattle.flit_tree_steps.specs.declared.operations.Path.{Path}
use Rattle.flit_tree_steps.specs.declared.operations.CleanUp.{CleanUp}
use Rattle.flit_tree_steps.specs.declared.operations.CleanUp.TheVariants.{Own as Own_kind, Help as Help_kind}
use Rattle.flit_tree_steps.specs.Operations.{At, Freeze, Swing, HeldOp}
use Rattle.flit_tree_steps.specs.Steps.{Carried, seeks, with_helped, with_sibling, swings, freeze_by, swing_by}
use Rattle.flit_tree_laws.specs.Knowing.{IfTried, FreezesTo, Frozen}
use Rattle.flit_tree_limits.specs.TreeLimits.{all_inners, seeks_if, again, unless_lost, tree_behind}
use Rattle.flit_tree_limits.proofs.Starting.{total, same_le, seeks_fewer, to_seek, to_swing, and_none}
use Rattle.flit_tree_limits.proofs.Resuming.{on, op_at, m_at, next_at, Own, Resumes}
use Rattle.flit_crew_bounds.proofs.ExchangeEnds.{was_lost, lost_words, won_withdraws, has_come}
use Rattle.flit_tree_limits.proofs.Linking.{goes_by, lost_resumes, lost_behind}
use Rattle.flit_tree_limits.proofs.Withdrawing.{inners_stay, wins_on}

module _ (l : Layout) (p : Place) (free : List ℕ) (s : State) (e : Event) (h k : TreeHeap) (me you : Who) (call : Call) (reply : Reply) (path : Path) where
  abbrev it : Carried
  it = on l p free s e h k me you call reply path

  abbrev Mine : At → Type 0
  Mine at = Own l p free s e h k me you call reply path at

  abbrev Goal : At → Type 0
  Goal at = Resumes l p free s e h k me you call reply path at

  abbrev HasEnded : At → Type 0
  HasEnded at = has_ended p (m_at l p free s e h k me you call reply path at) ≡ true

  abbrev behind : At → ℕ
  behind at = tree_behind l p s.words (op_at l p free s e h k me you call reply path at)

  abbrev then_words : List ℕ
  then_words = (after s e).words

  abbrev then_m : HeldExchange → HeldExchange
  then_m m = exchange_taken p m (answer s e)

  abbrev key : ℕ
  key = key_of call

  abbrev goes : (at : At) (n : HeldExchange) (how : Exchanged) (next : Exchanging → HeldOp) →
      m_at l p free s e h k me you call reply path at ≡ Works (Exchanges n) →
      next_at l p free s e h k me you call reply path at ≡ next n.at → n.at ≡ Ended how →
      total l p free then_words (next (Ended how)) ≤ 0 + length n.hand.queue + behind at → Goal at
  goes = goes_by l p free s e h k me you call reply path

  -- it goes on to an answer
  answered : (q b : ℕ) → 0 + q + 0 ≤ 0 + q + b
  answered q b = omega arith

  -- one more seek is among so many events and seeks
  one_within : (o a x : ℕ) → o ≡ a → o ≤ x + a
  one_within o a x is = omega (arith, is)

  -- ---- the sibling is frozen, and the ancestor is to be swung

  abbrev ancestor_wins : List ℕ → Bool
  ancestor_wins words = would_win p words path.ancestor.word path.ancestor.raw

  freeze_part : (c : CleanUp) (m : HeldExchange) → Mine (Freeze c m) → m.at ≡ Withdraws → Frozen l free h me path m
  freeze_part c m own is = subst (λ x. IfTried (FreezesTo l free h me path m) (Frozen l free h me path m) (exchange_part x)) is own.knows.at.2

  -- with the tag withdrawn, no more seeks follow than before
  again_stays : (c : CleanUp) (m : HeldExchange) → Mine (Freeze c m) → m.at ≡ Withdraws →
      again l p key then_words (ancestor_wins then_words) ≤ again l p key s.words (ancestor_wins s.words)
  again_stays c m own is = subst (λ n. seeks_if (ancestor_wins then_words) n ≤ seeks_if (ancestor_wins s.words) (all_inners l s.words))
      (sym (inners_stay p s m l e own.asks is))
      (seeks_fewer (ancestor_wins then_words) (ancestor_wins s.words) (all_inners l s.words)
      (wins_on p s m (freeze_part c m own is).bare path.ancestor.raw e own.asks is path.ancestor.word))

  freeze_won : (m : HeldExchange) → Mine (Freeze Help_kind m) → m.at ≡ Withdraws →
      total l p free then_words (swings l Help_kind (record it { path = with_sibling path path.sibling.word (then_m m).to }) (then_m m).hand)
      ≤ 0 + length (then_m m).hand.queue + behind (Freeze Help_kind m)
  freeze_won m own is =
      let next : Carried = record it { path = with_sibling path path.sibling.word (then_m m).to } in
      subst (λ x. total l p free then_words (swings l Help_kind next (then_m m).hand) ≤ 0 + length (then_m m).hand.queue
      + unless_lost l p key s.words (4 + again l p key s.words (ancestor_wins s.words && wins_now p s.words m))
      (4 + again l p key s.words (ancestor_wins s.words)) x)
      (sym (ap exchange_part is))
      (up (total l p free then_words (swings l Help_kind next (then_m m).hand)) (length (then_m m).hand.queue)
      (again l p key then_words (ancestor_wins then_words)) (again l p key s.words (ancestor_wins s.words))
      (to_swing l p free then_words Help_kind next (then_m m).hand) (again_stays Help_kind m own is))
    where
      up : (t q a b : ℕ) → t ≤ q + (4 + a) → a ≤ b → t ≤ 0 + q + (4 + b)
      up t q a b i j = omega (arith, i, j)

  freeze_own : (m : HeldExchange) → Mine (Freeze Own_kind m) → (how : Exchanged) → (then_m m).at ≡ Ended how → Goal (Freeze Own_kind m)
  freeze_own m own Won is = goes (Freeze Own_kind m) (then_m m) Won (λ x. freeze_by l Own_kind it (then_m m) x) refl refl is
      (up (total l p free then_words (swings l Own_kind (record it { path = with_sibling path path.sibling.word (then_m m).to }) (then_m m).hand))
      (length (then_m m).hand.queue)
      (to_swing l p free then_words Own_kind (record it { path = with_sibling path path.sibling.word (then_m m).to }) (then_m m).hand))
    where
      up : (t q : ℕ) → t ≤ q + (4 + 0) → t ≤ 0 + q + 4
      up t q i = omega (arith, i)
  freeze_own m own (Lost found) is = goes (Freeze Own_kind m) (then_m m) (Lost found) (λ x. freeze_by l Own_kind it (then_m m) x) refl refl is
      (answered (length (then_m m).hand.queue) 4)
  freeze_own m own (Worn word version) is = goes (Freeze Own_kind m) (then_m m) (Worn word version) (λ x. freeze_by l Own_kind it (then_m m) x) refl refl is
      (answered (length (then_m m).hand.queue) 4)

  freeze_help : (m : HeldExchange) → Mine (Freeze Help_kind m) → (how : Exchanged) → (then_m m).at ≡ Ended how → Goal (Freeze Help_kind m)
  freeze_help m own Won is = goes (Freeze Help_kind m) (then_m m) Won (λ x. freeze_by l Help_kind it (then_m m) x) refl refl is
      (freeze_won m own (won_withdraws p s e m own.asks is))
  freeze_help m own (Lost found) is = lost_resumes l p free s e h k me you call reply path (Freeze Help_kind m) m found
      (λ x. freeze_by l Help_kind it (then_m m) x) own refl refl is refl (lost_words p s e m found own.asks is)
      (let lost = was_lost p s e m found own.asks is in
      lost_behind l p free s e h k me you call reply path m (4 + again l p key s.words (ancestor_wins s.words && wins_now p s.words m))
      (4 + again l p key s.words (ancestor_wins s.words)) lost
      (one_within (again l p key s.words false) (again l p key s.words (ancestor_wins s.words && wins_now p s.words m)) 4
      (ap (λ b. again l p key s.words b) (sym (and_none (ancestor_wins s.words) (wins_now p s.words m) lost.no_win)))))
  freeze_help m own (Worn word version) is = goes (Freeze Help_kind m) (then_m m) (Worn word version) (λ x. freeze_by l Help_kind it (then_m m) x) refl refl is
      (answered (length (then_m m).hand.queue) (behind (Freeze Help_kind m)))

  freeze_how : (c : CleanUp) (m : HeldExchange) → Mine (Freeze c m) → (how : Exchanged) → (then_m m).at ≡ Ended how → Goal (Freeze c m)
  freeze_how Own_kind m own how is = freeze_own m own how is
  freeze_how Help_kind m own how is = freeze_help m own how is

  pub freeze_ends : (c : CleanUp) (m : HeldExchange) → Mine (Freeze c m) → HasEnded (Freeze c m) → Goal (Freeze c m)
  freeze_ends c m own ended = let x = has_come p (then_m m) ended in freeze_how c m own x.0 x.1

  -- ---- the ancestor is swung

  -- a seek begins behind the swing, with nothing queued
  swing_won : (m : HeldExchange) → Mine (Swing Help_kind m) → (then_m m).at ≡ Ended Won → m.at ≡ Withdraws →
      total l p free then_words (seeks it (with_helped (then_m m).hand)) ≤ 0 + length (then_m m).hand.queue + behind (Swing Help_kind m)
  swing_won m own is withdraws =
      subst (λ x. total l p free then_words (seeks it (with_helped (then_m m).hand)) ≤ 0 + length (then_m m).hand.queue
      + unless_lost l p key s.words (again l p key s.words (wins_now p s.words m)) (again l p key s.words false) x) (sym (ap exchange_part withdraws))
      (up (total l p free then_words (seeks it (with_helped (then_m m).hand))) (again l p key then_words false) (length (then_m m).hand.queue)
      (again l p key s.words false) (to_seek l p free then_words it (with_helped (then_m m).hand) (own.unqueued (then_m m) Won refl is))
      (ap (λ n. seeks_if false n) (inners_stay p s m l e own.asks withdraws)))
    where
      up : (t a q b : ℕ) → t ≤ a → a ≡ b → t ≤ 0 + q + b
      up t a q b i j = omega (arith, i, j)

  swing_help : (m : HeldExchange) → Mine (Swing Help_kind m) → (how : Exchanged) → (then_m m).at ≡ Ended how → Goal (Swing Help_kind m)
  swing_help m own Won is = goes (Swing Help_kind m) (then_m m) Won (λ x. swing_by Help_kind it (then_m m) x) refl refl is
      (swing_won m own is (won_withdraws p s e m own.asks is))
  swing_help m own (Lost found) is = lost_resumes l p free s e h k me you call reply path (Swing Help_kind m) m found
      (λ x. swing_by Help_kind it (then_m m) x) own refl refl is refl (lost_words p s e m found own.asks is)
      (let lost = was_lost p s e m found own.asks is in
      lost_behind l p free s e h k me you call reply path m (again l p key s.words (wins_now p s.words m)) (again l p key s.words false) lost
      (same_le (again l p key s.words false) (again l p key s.words (wins_now p s.words m))
      (ap (λ b. again l p key s.words b) (sym lost.no_win))))
  swing_help m own (Worn word version) is = goes (Swing Help_kind m) (then_m m) (Worn word version) (λ x. swing_by Help_kind it (then_m m) x) refl refl is
      (answered (length (then_m m).hand.queue) (behind (Swing Help_kind m)))

  swing_how : (c : CleanUp) (m : HeldExchange) → Mine (Swing c m) → (how : Exchanged) → (then_m m).at ≡ Ended how → Goal (Swing c m)
  swing_how Own_kind m own how is = goes (Swing Own_kind m) (then_m m) how (λ x. swing_by Own_kind it (then_m m) x) refl refl is
      (answered (length (then_m m).hand.queue) 0)
  swing_how Help_kind m own how is = swing_help m own how is

  pub swing_ends : (c : CleanUp) (m : HeldExchange) → Mine (Swing c m) → HasEnded (Swing c m) → Goal (Swing c m)
  swing_ends c m own ended = let x = has_come p (then_m m) ended in swing_how c m own x.0 x.1
