-- Turns of lines, one after another.
use Rattle.std.proofs.Common.{◌≡◌, inl, inr, ℕ, suc, ◌+◌, ◌<◌, ◌≤◌, Bool, true, false, cond, List, [], ◌∷◌, ◌++◌, length, refl, sym, ◌∙◌, ap, subst, arith, append_assoc, append-nil, Some, None}
use Rattle.std.proofs.lemmas.List.{length-append}
use Rattle.flit_model.specs.declared.events.Event.{Event}
use Rattle.flit_report.specs.declared.content.Shown.{Shown}
use Rattle.flit_structure.specs.Meanings.{Meaning}
use Rattle.flit_structure.proofs.Names.{all_both}
use Rattle.flit_sched.specs.declared.runs.Turn.{Turn}
use Rattle.flit_sched.specs.declared.runs.Turn.TheVariants.{Event as Event_turn, Idle as Idle_turn}
use Rattle.flit_sched.specs.Runs.{Run}
use Rattle.flit_sched.specs.Turns.{IsOut, IsTurn, Turned, GoesDown, left_at, to_go_at}
use Rattle.flit_sched.specs.Views.{OfWorker}
use Rattle.flit_sched.proofs.AloneLaws.{turn_idle}
use Rattle.flit_histories.specs.Following.{Given, Follows}
use Rattle.flit_histories.proofs.LedParts.{follows_joined, follows_long}
use Rattle.flit_turns.specs.Lines.{Line, shown_by, shown_of, shown_if, IsEventBy, AreMadeBy, IsLine, FollowsLines, ShowsLine, ShowsLines, ShowsSome, ShowsOne, FallsBy, last_lines}

shown_of_joined : (ts us : List Given) → shown_of (ts ++ us) ≡ shown_of ts ++ shown_of us
shown_of_joined [] us = refl
shown_of_joined (t ∷ ts) us = ap (λ w. shown_by t.worker t.turn ++ w) (shown_of_joined ts us)
    ∙ sym (append_assoc (shown_by t.worker t.turn) (shown_of ts) (shown_of us))

shown_joined : (kept : Bool) (ts us : List Given) → shown_if kept (ts ++ us) ≡ shown_if kept ts ++ shown_if kept us
shown_joined true ts us = shown_of_joined ts us
shown_joined false ts us = refl

shown_none : (kept : Bool) → shown_if kept [] ≡ []
shown_none true = refl
shown_none false = refl

-- what is shown of turns, and then of others, is what is shown of both
pub shown_both : (kept : Bool) (ts us : List Given) (a b c : List Shown) → b ≡ a ++ shown_if kept ts → c ≡ b ++ shown_if kept us → c ≡ a ++ shown_if kept (ts ++ us)
shown_both kept ts us a b c h k = k ∙ ap (λ w. w ++ shown_if kept us) h ∙ append_assoc a (shown_if kept ts) (shown_if kept us)
    ∙ ap (λ w. a ++ w) (sym (shown_joined kept ts us))

module _ {Op : Type 0} (meaning : Meaning Op) where
  made_joined : (worker : ℕ) (r n o : Run Op) (ts us : List Given) → AreMadeBy meaning worker r ts n → AreMadeBy meaning worker n us o →
      AreMadeBy meaning worker r (ts ++ us) o
  made_joined worker r n o ts us h k = record {
    follows = follows_joined meaning r n o ts us h.follows k.follows;
    own = all_both (IsEventBy worker) ts us h.own k.own;
  }

  pub none_shown : (worker : ℕ) (r : Run Op) (kept : Bool) (a : List Shown) → ShowsSome meaning worker 0 r r kept a a
  none_shown worker r kept a = ([], record { follows = refl; own = tt }, refl, sym (ap (λ w. a ++ w) (shown_none kept) ∙ append-nil a))

  pub some_joined : (worker made more : ℕ) (r n o : Run Op) (kept : Bool) (a b c : List Shown) → ShowsSome meaning worker made r n kept a b →
      ShowsSome meaning worker more n o kept b c → ShowsSome meaning worker (made + more) r o kept a c
  some_joined worker made more r n o kept a b c h k = (
    h.0 ++ k.0,
    made_joined worker r n o h.0 k.0 h.1 k.1,
    (let x = h.2 in let y = k.2 in let e = length-append h.0 k.0 in omega (arith, x, y, e)),
    shown_both kept h.0 k.0 a b c h.3 k.3,
  )

  pub some_long : (worker made : ℕ) (r n : Run Op) (kept : Bool) (a b : List Shown) → ShowsSome meaning worker made r n kept a b →
      length n.parts ≡ length r.parts
  some_long worker made r n kept a b h = follows_long meaning r n h.0 h.1.follows

  -- a turn by which a worker made an event, which is shown
  pub one_shown : (worker : ℕ) (r n : Run Op) (t : Turn) (kept : Bool) (a b : List Shown) → IsTurn meaning r worker t n → IsEventBy worker (record { worker = worker; turn = t }) →
      b ≡ a ++ shown_if kept (record { worker = worker; turn = t } ∷ []) → ShowsSome meaning worker 1 r n kept a b
  one_shown worker r n t kept a b h is shown =
      (record { worker = worker; turn = t } ∷ [], record { follows = (n, h, refl); own = (is, tt) }, refl, shown)

  pub event_shown : (worker : ℕ) (r n : Run Op) (e : Event) (told : ℕ) (kept : Bool) (a b : List Shown) → Turned meaning r worker e told n →
      b ≡ a ++ cond kept (record { worker = worker; event = e; answer = told } ∷ []) [] → ShowsSome meaning worker 1 r n kept a b
  event_shown worker r n e told kept a b h shown =
      one_shown worker r n (Event_turn e told) kept a b h (refl, tt) (shown ∙ ap (λ w. a ++ w) (by_kept kept))
    where
      by_kept : (k : Bool) → cond k (record { worker = worker; event = e; answer = told } ∷ []) []
          ≡ shown_if k (record { worker = worker; turn = Event_turn e told } ∷ [])
      by_kept true = refl
      by_kept false = refl

  -- and an idle one
  pub idle_shown : (worker : ℕ) (r n : Run Op) (t : Turn) (kept : Bool) (a : List Shown) → IsTurn meaning r worker t n → t ≡ Idle_turn →
      ShowsOne meaning worker false r n kept a a
  idle_shown worker r n (Event_turn e told) kept a h is = absurd (cc)
  idle_shown worker r n Idle_turn kept a h is =
      (subst (λ o. ShowsSome meaning worker 0 r o kept a a) (sym h.same) (none_shown worker r kept a), turn_idle meaning worker r n Idle_turn h refl)

  pub falls : (worker : ℕ) (r n : Run Op) (t : Turn) → GoesDown meaning r worker t n → (t ≡ Idle_turn → ⊥) → FallsBy meaning worker true r n
  falls worker r n (Event_turn e told) h going = h
  falls worker r n Idle_turn h going = absurd (going refl)

  -- ---- lines

  pub line_behind : (r n o : Run Op) (ls : List Line) (l : Line) (ts us : List Given) → FollowsLines meaning r ls ts n → IsLine meaning l n us o →
      FollowsLines meaning r (ls ++ l ∷ []) (ts ++ us) o
  line_behind r n o [] l ts us h k =
      (o, us, [], ap (λ x. x ++ us) h.0 ∙ sym (append-nil us), subst (λ q. IsLine meaning l q us o) h.1 k, (refl, refl))
  line_behind r n o (m ∷ ls) l ts us h k =
      (h.0, h.1, h.2 ++ us, ap (λ x. x ++ us) h.3 ∙ append_assoc h.1 h.2 us, h.4, line_behind h.0 n o ls l h.2 us h.5 k)

  pub lines_follow : (r next : Run Op) (ls : List Line) (ts : List Given) → FollowsLines meaning r ls ts next → Follows meaning r ts next
  lines_follow r next [] ts h = subst (λ x. Follows meaning r x next) (sym h.0) h.1
  lines_follow r next (l ∷ ls) ts h =
      subst (λ x. Follows meaning r x next) (sym h.3)
      (follows_joined meaning r h.0 next h.1 h.2 h.4.made.follows (lines_follow h.0 next ls h.2 h.5))

  pub one_line_more : (r n o : Run Op) (ls : List Line) (l : Line) (kept : Bool) (a b c : List Shown) → ShowsLines meaning ls r n kept a b →
      ShowsLine meaning l n o kept b c → ShowsLines meaning (ls ++ l ∷ []) r o kept a c
  one_line_more r n o ls l kept a b c h k =
      (h.0 ++ k.0, line_behind r n o ls l h.0 k.0 h.1 k.1, shown_both kept h.0 k.0 a b c h.2 k.2)

  pub no_lines : (r : Run Op) (kept : Bool) (a : List Shown) → ShowsLines meaning [] r r kept a a
  no_lines r kept a = ([], (refl, refl), sym (ap (λ w. a ++ w) (shown_none kept) ∙ append-nil a))

  pub line_long : (l : Line) (r n : Run Op) (kept : Bool) (a b : List Shown) → ShowsLine meaning l r n kept a b → length n.parts ≡ length r.parts
  line_long l r n kept a b h = follows_long meaning r n h.0 h.1.made.follows

module _ {Op : Type 0} (meaning : Meaning Op) (worker made : ℕ) (r n o : Run Op) (x kept k : Bool) (a b c : List Shown) where
  -- one more turn, by which the worker made an event, or was out
  pub more_shown : x ≡ true → k ≡ kept → ShowsSome meaning worker made r n kept a b → ShowsOne meaning worker x n o k b c →
      ShowsSome meaning worker (made + 1) r o kept a c
  more_shown is same h one = some_joined meaning worker made 1 r n o kept a b c h
      (subst (λ y. ShowsOne meaning worker y n o kept b c) is (subst (λ y. ShowsOne meaning worker x n o y b c) same one))

  pub none_more : x ≡ false → k ≡ kept → ShowsSome meaning worker made r n kept a b → ShowsOne meaning worker x n o k b c →
      ShowsSome meaning worker made r o kept a c × OfWorker o worker IsOut
  none_more is same h one =
      let idle = subst (λ y. ShowsOne meaning worker y n o kept b c) is (subst (λ y. ShowsOne meaning worker x n o y b c) same one) in
      (subst (λ m. ShowsSome meaning worker m r o kept a c) (omega arith) (some_joined meaning worker made 0 r n o kept a b c h idle.0), idle.1)

  -- where the worker is out before it has made as many as its line asks for
  pub out_before : (most : ℕ) → made < most → x ≡ false → k ≡ kept → ShowsSome meaning worker made r n kept a b → ShowsOne meaning worker x n o k b c →
      ShowsLine meaning (record { worker = worker; most = Some most }) r o kept a c
  out_before most less is same h one =
      let g = none_more is same h one in
      (g.0.0, record { made = g.0.1; enough = inr ((let e = g.0.2 in omega (arith, e, less)), g.1) }, g.0.3)

module _ {Op : Type 0} (meaning : Meaning Op) (worker made : ℕ) (r n : Run Op) (kept : Bool) (a b : List Shown) where
  -- as many events as the line asks for; and all, where the worker is out
  pub all_made : (most : ℕ) → made ≡ most → ShowsSome meaning worker made r n kept a b → ShowsLine meaning (record { worker = worker; most = Some most }) r n kept a b
  all_made most is h = (h.0, record { made = h.1; enough = inl (h.2 ∙ is) }, h.3)

  pub all_alone : OfWorker n worker IsOut → ShowsSome meaning worker made r n kept a b → ShowsLine meaning (record { worker = worker; most = None }) r n kept a b
  all_alone out h = (h.0, record { made = h.1; enough = out }, h.3)

module _ {Op : Type 0} (meaning : Meaning Op) where
  -- where no item is over by an event, there is less to go at the item
  pub at_same_item : (worker : ℕ) (x : Bool) (r n : Run Op) → x ≡ true → left_at r worker ≤ left_at n worker → FallsBy meaning worker x r n →
      (left_at n worker ≡ left_at r worker) × (to_go_at meaning n worker < to_go_at meaning r worker)
  at_same_item worker false r n is le h = absurd (cc)
  at_same_item worker true r n is le (inl less) = absurd (omega (arith, less, le))
  at_same_item worker true r n is le (inr same) = same

  -- the line of one more worker
  pub one_worker_more : (r n o : Run Op) (before worker : ℕ) (kept k : Bool) (a b c : List Shown) → worker ≡ before + 1 → k ≡ kept →
      ShowsLines meaning (last_lines before) r n kept a b → ShowsLine meaning (record { worker = worker; most = None }) n o k b c →
      ShowsLines meaning (last_lines worker) r o kept a c
  one_worker_more r n o before worker kept k a b c is same h line =
      let next : worker ≡ suc before = omega (arith, is) in
      subst (λ w. ShowsLine meaning (record { worker = w; most = None }) n o kept b c → ShowsLines meaning (last_lines w) r o kept a c) (sym next)
      (one_line_more meaning r n o (last_lines before) (record { worker = suc before; most = None }) kept a b c h)
      (subst (λ y. ShowsLine meaning (record { worker = worker; most = None }) n o y b c) same line)

  pub some_after : (worker made : ℕ) (r n o : Run Op) (kept k : Bool) (a b c : List Shown) → k ≡ kept → ShowsSome meaning worker made r n kept a b →
      (more : ℕ) × ShowsSome meaning worker more n o k b c → (all : ℕ) × ShowsSome meaning worker all r o kept a c
  some_after worker made r n o kept k a b c same h more =
      (made + more.0, some_joined meaning worker made more.0 r n o kept a b c h (subst (λ y. ShowsSome meaning worker more.0 n o y b c) same more.1))
