-- A call goes on from the exchange by which it takes effect: one that was lost wasn't to be won, and changed no word, so one
-- more seek was among what might follow.
use Rattle.std.proofs.Common.{◌≡◌, ⊎_elim, ℕ, ◌+◌, ◌≤◌, true, false, List, length, refl, sym, ◌∙◌, ap, subst, arith}
use Rattle.flit_words.specs.declared.layouts.Layout.{Layout}
use Rattle.flit_model.specs.States.{State}
use Rattle.flit_model.specs.Effects.{after, answer}
use Rattle.flit_model.specs.declared.events.Event.{Event}
use Rattle.flit_model.specs.declared.calls.Call.{Call}
use Rattle.flit_model.specs.declared.calls.Reply.{Reply}
use Rattle.flit_place.specs.Tags.{Place}
use Rattle.flit_pv.specs.declared.exchanges.Exchanging.{Exchanging}
use Rattle.flit_pv.specs.declared.exchanges.Exchanging.TheVariants.{Withdraws, Ended}
use Rattle.flit_pv.specs.declared.exchanges.Exchanged.{Exchanged}
use Rattle.flit_pv.specs.declared.exchanges.Exchanged.TheVariants.{Won, Lost, Worn}
use Rattle.flit_pv.specs.Exchanges.{HeldExchange, exchange_taken}
use Rattle.flit_structure.specs.Meanings.{key_of}
use Rattle.flit_runs.specs.Workings.{Exchanges}
use Rattle.flit_crew.specs.Machines.{Machine, Works, has_ended, exchange_part}
use Rattle.flit_crew.specs.Crews.{Who}
use Rattle.flit_crew_bounds.specs.Left.{machine_left, exchange_left}
use Rattle.flit_crew_bounds.specs.Winning.{wins_now}
use Rattle.flit_tree_heap.specs.Views.{TreeHeap}
use Rattle.flit_tree_steps.specs.declared.operations.Path.{Path}
use Rattle.flit_tree_steps.specs.declared.operations.CleanUp.TheVariants.{Own as To_own}
use Rattle.flit_tree_steps.specs.Operations.{At, Link, Flag, HeldOp}
use Rattle.flit_tree_steps.specs.Steps.{Carried, seeks, cleans, with_edge, link_by, flag_by}
use Rattle.flit_tree_limits.specs.TreeLimits.{again, unless_lost, tree_behind}
use Rattle.flit_tree_limits.proofs.Starting.{total, same_le, to_seek, to_clean}
use Rattle.flit_tree_limits.proofs.Resuming.{on, op_at, m_at, next_at, Own, Resumes}
use Rattle.flit_crew_bounds.proofs.ExchangeEnds.{WasLost, was_lost, lost_words, won_withdraws, has_come}

module _ (l : Layout) (p : Place) (free : List ℕ) (s : State) (e : Event) (h k : TreeHeap) (me you : Who) (call : Call) (reply : Reply) (path : Path) where
  abbrev it : Carried
  it = on l p free s e h k me you call reply path

  abbrev Mine : At → Type 0
  Mine at = Own l p free s e h k me you call reply path at

  abbrev Goal : At → Type 0
  Goal at = Resumes l p free s e h k me you call reply path at

  abbrev then_at : At → Machine
  then_at at = m_at l p free s e h k me you call reply path at

  abbrev next_of : At → HeldOp
  next_of at = next_at l p free s e h k me you call reply path at

  abbrev behind : At → ℕ
  behind at = tree_behind l p s.words (op_at l p free s e h k me you call reply path at)

  abbrev then_words : List ℕ
  then_words = (after s e).words

  abbrev then_m : HeldExchange → HeldExchange
  then_m m = exchange_taken p m (answer s e)

  -- one more seek, as the words stood
  abbrev pub one_more : ℕ
  one_more = again l p (key_of call) s.words false

  -- it goes on by how it has ended
  pub goes_by : (at : At) (n : HeldExchange) (how : Exchanged) (next : Exchanging → HeldOp) → then_at at ≡ Works (Exchanges n) →
      next_of at ≡ next n.at → n.at ≡ Ended how → total l p free then_words (next (Ended how)) ≤ 0 + length n.hand.queue + behind at → Goal at
  goes_by at n how next is next_is ended goes =
      subst (λ m. total l p free then_words (next_of at) ≤ machine_left m + behind at) (sym is)
      (subst (λ y. total l p free then_words y ≤ exchange_left n.at + length n.hand.queue + behind at) (sym (next_is ∙ ap next ended))
      (subst (λ x. total l p free then_words (next (Ended how)) ≤ exchange_left x + length n.hand.queue + behind at) (sym ended) goes))

  -- ---- a lost exchange begins a seek, with nothing queued

  pub lost_resumes : (at : At) (m : HeldExchange) (found : ℕ) (next : Exchanging → HeldOp) → Mine at → then_at at ≡ Works (Exchanges (then_m m)) →
      next_of at ≡ next (then_m m).at → (then_m m).at ≡ Ended (Lost found) → next (Ended (Lost found)) ≡ seeks it (then_m m).hand →
      then_words ≡ s.words → one_more ≤ behind at → Goal at
  lost_resumes at m found next own is next_is ended seek words most = goes_by at (then_m m) (Lost found) next is next_is ended
      (subst (λ y. total l p free then_words y ≤ 0 + length (then_m m).hand.queue + behind at) (sym seek)
      (subst (λ ws. total l p free ws (seeks it (then_m m).hand) ≤ 0 + length (then_m m).hand.queue + behind at) (sym words)
      (up (total l p free s.words (seeks it (then_m m).hand)) one_more (length (then_m m).hand.queue) (behind at)
      (to_seek l p free s.words it (then_m m).hand (own.unqueued (then_m m) (Lost found) is ended)) most)))
    where
      up : (t o q b : ℕ) → t ≤ o → o ≤ b → t ≤ 0 + q + b
      up t o q b i j = omega (arith, i, j)

  -- it was among what might follow
  pub lost_behind : (m : HeldExchange) (before won : ℕ) → WasLost p s e m → one_more ≤ before →
      one_more ≤ unless_lost l p (key_of call) s.words before won (exchange_part m.at)
  lost_behind m before won lost most = ⊎_elim
      (λ part. subst (λ x. one_more ≤ unless_lost l p (key_of call) s.words before won x) (sym part) most)
      (λ x. subst (λ y. one_more ≤ unless_lost l p (key_of call) s.words before won y) (sym x.1) (omega arith)) lost.part

  -- where it wasn't to be won
  pub unwon : (m : HeldExchange) → wins_now p s.words m ≡ false → one_more ≡ again l p (key_of call) s.words (wins_now p s.words m)
  unwon m no_win = ap (λ b. again l p (key_of call) s.words b) (sym no_win)

  -- it goes on to an answer
  answered : (q b : ℕ) → 0 + q + 0 ≤ 0 + q + b
  answered q b = omega arith

  -- ---- an insert's rows are linked

  link_how : (m : HeldExchange) → Mine (Link m) → (how : Exchanged) → (then_m m).at ≡ Ended how → Goal (Link m)
  link_how m own (Lost found) is = lost_resumes (Link m) m found (λ x. link_by it (then_m m) x) own refl refl is refl
      (lost_words p s e m found own.asks is)
      (let lost = was_lost p s e m found own.asks is in
      lost_behind m (again l p (key_of call) s.words (wins_now p s.words m)) 0 lost
      (same_le one_more (again l p (key_of call) s.words (wins_now p s.words m)) (unwon m lost.no_win)))
  link_how m own Won is = goes_by (Link m) (then_m m) Won (λ x. link_by it (then_m m) x) refl refl is
      (answered (length (then_m m).hand.queue) (behind (Link m)))
  link_how m own (Worn word version) is = goes_by (Link m) (then_m m) (Worn word version) (λ x. link_by it (then_m m) x) refl refl is
      (answered (length (then_m m).hand.queue) (behind (Link m)))

  pub link_ends : (m : HeldExchange) → Mine (Link m) → has_ended p (then_at (Link m)) ≡ true → Goal (Link m)
  link_ends m own ended = let x = has_come p (then_m m) ended in link_how m own x.0 x.1

  -- ---- a leaf is flagged, and is to be cleaned up

  flag_won : (m : HeldExchange) → exchange_part m.at ≡ exchange_part Withdraws →
      total l p free then_words (cleans l To_own (record it { path = with_edge path (then_m m).to }) (then_m m).hand)
      ≤ 0 + length (then_m m).hand.queue + behind (Flag m)
  flag_won m part = subst (λ x. total l p free then_words (cleans l To_own (record it { path = with_edge path (then_m m).to }) (then_m m).hand)
      ≤ 0 + length (then_m m).hand.queue
      + unless_lost l p (key_of call) s.words (11 + again l p (key_of call) s.words (wins_now p s.words m)) 11 x) (sym part)
      (up (total l p free then_words (cleans l To_own (record it { path = with_edge path (then_m m).to }) (then_m m).hand))
      (length (then_m m).hand.queue) (to_clean l p free then_words To_own (record it { path = with_edge path (then_m m).to }) (then_m m).hand))
    where
      up : (t q : ℕ) → t ≤ q + (11 + 0) → t ≤ 0 + q + 11
      up t q i = omega (arith, i)

  above : (o a x : ℕ) → o ≡ a → o ≤ x + a
  above o a x is = omega (arith, is)

  flag_how : (m : HeldExchange) → Mine (Flag m) → (how : Exchanged) → (then_m m).at ≡ Ended how → Goal (Flag m)
  flag_how m own (Lost found) is = lost_resumes (Flag m) m found (λ x. flag_by l it (then_m m) x) own refl refl is refl
      (lost_words p s e m found own.asks is)
      (let lost = was_lost p s e m found own.asks is in
      lost_behind m (11 + again l p (key_of call) s.words (wins_now p s.words m)) 11 lost
      (above one_more (again l p (key_of call) s.words (wins_now p s.words m)) 11 (unwon m lost.no_win)))
  flag_how m own Won is = goes_by (Flag m) (then_m m) Won (λ x. flag_by l it (then_m m) x) refl refl is
      (flag_won m (ap exchange_part (won_withdraws p s e m own.asks is)))
  flag_how m own (Worn word version) is = goes_by (Flag m) (then_m m) (Worn word version) (λ x. flag_by l it (then_m m) x) refl refl is
      (answered (length (then_m m).hand.queue) (behind (Flag m)))

  pub flag_ends : (m : HeldExchange) → Mine (Flag m) → has_ended p (then_at (Flag m)) ≡ true → Goal (Flag m)
  flag_ends m own ended = let x = has_come p (then_m m) ended in flag_how m own x.0 x.1
