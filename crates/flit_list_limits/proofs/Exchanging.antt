-- A call goes on from its exchange that has ended: one that was lost wasn't to be won, so one more search was among what might
-- follow; and behind a marked row that was unlinked there are fewer keys.
use Rattle.std.proofs.Common.{◌≡◌, ◌⊎◌, inl, inr, ⊎_elim, ℕ, ◌+◌, ◌*◌, ◌^◌, ◌<◌, ◌≤◌, true, false, List, length, Option, Some, None, is_none, refl, sym, ◌∙◌, ap, subst, arith}
use Rattle.std.proofs.lemmas.Bool.{false≢true}
use Rattle.std.proofs.lemmas.Option.{none-some}
use Rattle.flit_words.specs.declared.layouts.Layout.{Layout}
use Rattle.flit_words.specs.Layouts.{words_of}
use Rattle.flit_model.specs.States.{State}
use Rattle.flit_model.specs.Effects.{after, answer}
use Rattle.flit_model.specs.declared.events.Event.{Event}
use Rattle.flit_model.specs.declared.calls.Call.{Call}
use Rattle.flit_model.specs.declared.calls.Reply.{Reply}
use Rattle.flit_place.specs.Tags.{Place, dressed}
use Rattle.flit_place.proofs.WordTags.{bare-untagged}
use Rattle.flit_pv.specs.declared.exchanges.Exchanging.{Exchanging}
use Rattle.flit_pv.specs.declared.exchanges.Exchanging.TheVariants.{Ready, Tries, TriesBare, WritesBack, Withdraws, Lowers, Ended}
use Rattle.flit_pv.specs.declared.exchanges.Exchanged.{Exchanged}
use Rattle.flit_pv.specs.declared.exchanges.Exchanged.TheVariants.{Won, Lost, Worn}
use Rattle.flit_pv.specs.Exchanges.{HeldExchange, exchange_asks, exchange_asked, exchange_takes, exchange_taken}
use Rattle.flit_runs.specs.Workings.{Exchanges}
use Rattle.flit_crew.specs.Machines.{Works, has_ended, exchange_part, ToWin, HasLost}
use Rattle.flit_crew.specs.Crews.{Who}
use Rattle.flit_crew_bounds.specs.Left.{machine_left, exchange_left}
use Rattle.flit_crew_bounds.specs.Winning.{would_win, wins_at, wins_now}
use Rattle.flit_crew_bounds.proofs.ExchangeEnds.{WasLost, was_lost, becomes, won_withdraws, has_come}
use Rattle.flit_crew_bounds.proofs.Written.{cleared_wins}
use Rattle.flit_list_steps.specs.declared.operations.LinkWord.{LinkWord as PathWord}
use Rattle.flit_list_steps.specs.declared.operations.Path.{Path}
use Rattle.flit_list_steps.specs.Operations.{At, Help, Link, Mark, HeldOp}
use Rattle.flit_list_steps.specs.Steps.{Carried, row_at, with_helped, unlinked, searches, tidies, mark_by, link_by, help_by, looks}
use Rattle.flit_list_heap.specs.Links.{row_of}
use Rattle.flit_list_heap.specs.Keeping.{ListHeap}
use Rattle.flit_list_heap.proofs.Places.{place_below}
use Rattle.flit_list_laws.specs.Walks.{Loaded, Walk}
use Rattle.flit_list_laws.specs.Knowing.{row_after, IsBackSure, Helped, HelpAt}
use Rattle.flit_list_laws.specs.ListCrew.{IsBack, FollowsTo}
use Rattle.flit_list_laws.proofs.Raws.{raw_row}
use Rattle.flit_list_limits.specs.ListLimits.{most_search, keys_from, keys_ahead, cost, back_cost, rest_at, unless, still, help_again, again_at}
use Rattle.flit_list_limits.proofs.Arriving.{total, to_tidy, to_looks}
use Rattle.flit_list_limits.proofs.Again.{again, nothing, tidy_again, looks_again}
use Rattle.flit_list_limits.proofs.Keys.{keys_fewer}
use Rattle.flit_list_limits.proofs.Running.{unless_less, link_below, keys_stay}
use Rattle.flit_list_limits.proofs.Resuming.{through, and_left, row_is, on, m_at, next_at, Own, GoesOn, IsQuiet, Resumes, quiet_resumes, from_queue}

-- all links of a walk are confirmed, so its path's too
back_free : (l : Layout) (me : Who) (x : Option PathWord) (q : Option Loaded) → IsBack l x q → IsBackSure l me q → back_cost x ≡ 0
back_free l me None q is sure = refl
back_free l me (Some x) None is sure = absurd is
back_free l me (Some x) (Some q) is sure = ap cost (is.sure ∙ sure)

module _ (l : Layout) (p : Place) (free : List ℕ) (s : State) (e : Event) (h k : ListHeap) (me you : Who) (call : Call) (reply : Reply) (path : Path) where
  abbrev it : Carried
  it = on l p free s e h k me you call reply path

  abbrev Mine : At → Type 0
  Mine at = Own l p free s e h k me you call reply path at

  abbrev Quiet : At → Type 0
  Quiet at = IsQuiet l p free s e h k me you call reply path at

  abbrev Goes : At → ℕ → HeldOp → Type 0
  Goes at left next = GoesOn l p free s e h k me you call reply path (after s e).words at left next

  abbrev Goal : At → Type 0
  Goal at = Resumes l p free s e h k me you call reply path at

  abbrev next_of : At → HeldOp
  next_of at = next_at l p free s e h k me you call reply path at

  -- it goes on to an answer
  answered : (q b : ℕ) → 0 + q + 0 ≤ 0 + q + b
  answered q b = omega arith

  -- ---- a lost exchange begins a search, with nothing queued

  pub lost_resumes : (at : At) (n : HeldExchange) (found : ℕ) → Mine at → m_at l p free s e h k me you call reply path at ≡ Works (Exchanges n) →
      n.at ≡ Ended (Lost found) → next_of at ≡ searches l it n.hand → again_at p s.words path at ≡ most_search → Goal at
  lost_resumes at n found own is ended next_is most = subst (λ x. machine_left (Rattle.flit_list_laws.specs.ListAnatomy.machine_at x.at)
      + Rattle.flit_list_limits.specs.ListLimits.list_behind l p (after s e).words x
      ≤ machine_left (m_at l p free s e h k me you call reply path at) + (rest_at l s.words path at + again_at p s.words path at)) (sym next_is)
      (all (length n.hand.queue) (machine_left (m_at l p free s e h k me you call reply path at)) (rest_at l s.words path at) (again_at p s.words path at)
      (ap length (own.unqueued n (Lost found) is ended)) most)
    where
      all : (q m r a : ℕ) → q ≡ 0 → a ≡ 7 * 2 ^ 32 + 18 → 1 + q + (7 * 2 ^ 32 + 17 + 0) ≤ m + (r + a)
      all q m r a e f = omega (arith, e, f)

  abbrev then_m : HeldExchange → HeldExchange
  then_m m = exchange_taken p m (answer s e)

  -- it goes on within its search, by how it has ended
  quiet : (at : At) (n : HeldExchange) (how : Exchanged) (next : Exchanging → HeldOp) →
      m_at l p free s e h k me you call reply path at ≡ Works (Exchanges n) →
      next_of at ≡ next n.at → n.at ≡ Ended how → Goes at (0 + length n.hand.queue) (next (Ended how)) → Goal at
  quiet at n how next is next_is ended goes = quiet_resumes l p free s e h k me you call reply path at
      (subst (λ m. Goes at (machine_left m) (next_of at)) (sym is)
      (subst (λ y. Goes at (exchange_left n.at + length n.hand.queue) y) (sym (next_is ∙ ap next ended))
      (subst (λ x. Goes at (exchange_left x + length n.hand.queue) (next (Ended how))) (sym ended) goes)))

  -- ---- an insert's row is linked

  link_how : (m : HeldExchange) → Mine (Link m) → (how : Exchanged) → (then_m m).at ≡ Ended how → Goal (Link m)
  link_how m own (Lost found) is =
      lost_resumes (Link m) (then_m m) found own refl is (ap (λ x. link_by l it (then_m m) x) is) (ap unless (was_lost p s e m found own.asks is).no_win)
  link_how m own Won is = quiet (Link m) (then_m m) Won (λ x. link_by l it (then_m m) x) refl refl is
      (record { within = answered (length (then_m m).hand.queue) 0; again = nothing (unless (wins_now p s.words m)) })
  link_how m own (Worn word version) is = quiet (Link m) (then_m m) (Worn word version) (λ x. link_by l it (then_m m) x) refl refl is
      (record { within = answered (length (then_m m).hand.queue) 0; again = nothing (unless (wins_now p s.words m)) })

  pub link_ends : (m : HeldExchange) → Mine (Link m) → has_ended p (m_at l p free s e h k me you call reply path (Link m)) ≡ true → Goal (Link m)
  link_ends m own ended = let x = has_come p (then_m m) ended in link_how m own x.0 x.1

  -- ---- a row is marked, and is to be unlinked

  mark_how : (m : HeldExchange) → Mine (Mark m) → (how : Exchanged) → (then_m m).at ≡ Ended how → Goal (Mark m)
  mark_how m own (Lost found) is =
      lost_resumes (Mark m) (then_m m) found own refl is (ap (λ x. mark_by l it (then_m m) x) is) (ap unless (was_lost p s e m found own.asks is).no_win)
  mark_how m own Won is =
      let next : HeldOp = tidies l it (then_m m).hand in
      quiet (Mark m) (then_m m) Won (λ x. mark_by l it (then_m m) x) refl refl is (record {
        within = from_queue l p free s e h k me you call reply path (total l p free (after s e).words next) (length (then_m m).hand.queue) 4 4
            (to_tidy l p free (after s e).words it (then_m m).hand) (omega arith);
        again = tidy_again l p free (after s e).words it (then_m m).hand (unless (wins_now p s.words m));
      })
  mark_how m own (Worn word version) is = quiet (Mark m) (then_m m) (Worn word version) (λ x. mark_by l it (then_m m) x) refl refl is
      (record { within = answered (length (then_m m).hand.queue) 4; again = nothing (unless (wins_now p s.words m)) })

  pub mark_ends : (m : HeldExchange) → Mine (Mark m) → has_ended p (m_at l p free s e h k me you call reply path (Mark m)) ≡ true → Goal (Mark m)
  mark_ends m own ended = let x = has_come p (then_m m) ended in mark_how m own x.0 x.1

  -- ---- a marked row is unlinked

  -- its tag is withdrawn from the link behind which the search stands
  module _ (m : HeldExchange) (own : Mine (Help m)) (w : Walk) (n : Loaded) (follows : FollowsTo l path w n) (f : Helped l h me w m)
      (is : m.at ≡ Withdraws) where
    word_is : path.pred.word ≡ m.word
    word_is = follows.walk.link.word ∙ sym f.word

    below : m.word < words_of l
    below = subst (λ v. v < words_of l) (sym f.word) (place_below l free h own.kept w.link.word f.saw.link)

    abbrev then_path : Path
    then_path = unlinked path m.to

    row_then : row_at then_path ≡ row_of m.to
    row_then = raw_row m.to ∙ ap row_of (bare-untagged m.to f.bare)

    -- behind the row there are fewer keys, and the keys stay
    fewer : keys_ahead l (after s e).words then_path + 1 ≤ keys_ahead l s.words path
    fewer = subst (λ x. x + 1 ≤ keys_ahead l s.words path)
        (sym (keys_stay l p free s e h k me you call reply path m w.link.word own.asks own.kept f.saw.link f.word (row_at then_path)))
        (subst (λ r. keys_from l s.words (row_at then_path) + 1 ≤ keys_from l s.words r) (sym (row_is l path w follows.walk))
        (subst (λ r. keys_from l s.words r + 1 ≤ keys_from l s.words (row_after w)) (sym row_then)
        (keys_fewer l s.words h.words own.words (row_after w) (row_of m.to) (own.kept.chained.real (row_after w) f.linked)
        (own.kept.small (row_after w) f.linked) (⊎_elim (λ none. inl none) (λ more. inr more.1) f.further))))

    still_wins : would_win p s.words m.word (dressed p.counted m.to) ≡ true → still p (after s e).words then_path.pred ≡ true
    still_wins wins_then = ap (λ v. would_win p (after s e).words v m.to) word_is
        ∙ cleared_wins p s m e l.slots own.asks is (own.slots m.word below) f.bare
        (link_below l p free s e h k me you call reply path w.link.word m.word own.kept own.words f.saw.link f.word) wins_then

    help_goes : Goes (Help m) (0 + length (then_m m).hand.queue) (help_by l p free it (then_m m) (Ended Won))
    help_goes = subst (λ y. Goes (Help m) (0 + length y.hand.queue) (help_by l p free it y (Ended Won))) (sym (becomes p s e m Withdraws is)) (record {
      within = up (total l p free (after s e).words next) (length m.hand.queue) (keys_ahead l (after s e).words then_path) (keys_ahead l s.words path)
          (back_cost path.back) (back_free l me path.back w.back follows.walk.back f.back_sure) fewer
          (to_looks l p free (after s e).words (record it { path = then_path }) (with_helped m.hand));
      again = through (again l p free (after s e).words next) (unless (still p (after s e).words then_path.pred)) (help_again p s.words m (exchange_part m.at))
          (looks_again l p free (after s e).words (record it { path = then_path }) (with_helped m.hand))
          (subst (λ x. unless (still p (after s e).words then_path.pred) ≤ help_again p s.words m (exchange_part x)) (sym is)
          (unless_less (would_win p s.words m.word (dressed p.counted m.to)) (still p (after s e).words then_path.pred) still_wins));
    })
      where
        next : HeldOp
        next = looks l p free (record it { path = then_path }) (with_helped m.hand)

        up : (t q f k c : ℕ) → c ≡ 0 → f + 1 ≤ k → t ≤ q + (7 * f + (c + 0) + 15) → t ≤ 0 + q + (7 * k + 8)
        up t q f k c z less h = omega (arith, z, less, h)

  help_lost : (m : HeldExchange) → WasLost p s e m → help_again p s.words m (exchange_part m.at) ≡ most_search
  help_lost m lost = ⊎_elim
      (λ part. ap (help_again p s.words m) part ∙ ap unless lost.no_win)
      (λ x. ap (help_again p s.words m) x.1) lost.part

  help_how : (m : HeldExchange) → Mine (Help m) → (how : Exchanged) → (then_m m).at ≡ Ended how → Goal (Help m)
  help_how m own (Lost found) is =
      lost_resumes (Help m) (then_m m) found own refl is (ap (λ x. help_by l p free it (then_m m) x) is) (help_lost m (was_lost p s e m found own.asks is))
  help_how m own Won is =
      let at : m.at ≡ Withdraws = won_withdraws p s e m own.asks is in
      quiet (Help m) (then_m m) Won (λ x. help_by l p free it (then_m m) x) refl refl is
      (help_goes m own own.knows.walk own.knows.next own.knows.at.0
      (subst (λ x. HelpAt l h me own.knows.walk own.knows.next m (exchange_part x)) at own.knows.at.2) at)
  help_how m own (Worn word version) is = quiet (Help m) (then_m m) (Worn word version) (λ x. help_by l p free it (then_m m) x) refl refl is
      (record {
        within = answered (length (then_m m).hand.queue) (7 * keys_ahead l s.words path + 8);
        again = nothing (help_again p s.words m (exchange_part m.at));
      })

  pub help_ends : (m : HeldExchange) → Mine (Help m) → has_ended p (m_at l p free s e h k me you call reply path (Help m)) ≡ true → Goal (Help m)
  help_ends m own ended = let x = has_come p (then_m m) ended in help_how m own x.0 x.1
