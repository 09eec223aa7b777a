-- A worker of a run before and after a turn, and after any number of turns.
use Rattle.std.proofs.Common.{◌≡◌, ◌≢◌, ◌⊎◌, inl, inr, ℕ, suc, ◌+◌, ◌<◌, ◌≤◌, List, [], ◌∷◌, ◌++◌, length, refl, sym, ◌∙◌, ap, subst, arith, Option, Some, None, slice_get}
use Rattle.std.proofs.lemmas.Bool.{cases_lt}
use Rattle.std.specs.List.{AllByRecursion}
use Rattle.flit_model.specs.declared.calls.Item.{Item}
use Rattle.flit_model.specs.declared.calls.Item.TheVariants.{Call as Call_item, Evict as Evict_item}
use Rattle.flit_model.specs.declared.calls.Outcome.{Outcome}
use Rattle.flit_model.specs.declared.calls.Outcome.TheVariants.{Replied}
use Rattle.flit_model.specs.declared.calls.Reply.{Reply}
use Rattle.flit_model.specs.declared.events.Event.{Event}
use Rattle.flit_pv.specs.declared.hands.Hand.{Hand}
use Rattle.flit_structure.specs.declared.workers.Doing.{Doing}
use Rattle.flit_structure.specs.declared.workers.Doing.TheVariants.{Idle, Busy, Evicting}
use Rattle.flit_structure.specs.declared.workers.Worker.{Worker}
use Rattle.flit_structure.specs.Meanings.{Meaning}
use Rattle.flit_structure.proofs.Names.{all_both}
use Rattle.flit_sched.specs.declared.runs.Turn.{Turn}
use Rattle.flit_sched.specs.declared.runs.Turn.TheVariants.{Event as Event_turn, Idle as Idle_turn}
use Rattle.flit_sched.specs.Runs.{Part, Run, IsPart}
use Rattle.flit_sched.specs.Turns.{IsOut, IsTurn, Turned, Alone, no_turn, one_more, enters, entered, hand_over, over_after, reply_in, outcomes_after}
use Rattle.flit_histories.specs.Following.{Given, Follows}
use Rattle.flit_sched.specs.Views.{OfWorker}
use Rattle.flit_sched.proofs.SplitLists.{same_split}
use Rattle.flit_sched.proofs.AloneLaws.{turn_long}
use Rattle.flit_histories.specs.Reached.{Leads, here, turn}
use Rattle.flit_histories.specs.TurnLaws.{IsLater, HasLater}
use Rattle.flit_histories.proofs.ToldCalls.{set_other}
use Rattle.flit_histories.proofs.TurnedRuns.{part_made, doing_made}

-- one that stands elsewhere stays, where another takes the place of one
pub elsewhere : {X : Type 0} (a b c d : List X) (p x y : X) → a ++ p ∷ b ≡ c ++ x ∷ d → length a ≢ length c →
    (front : List X) × (back : List X) × (c ++ y ∷ d ≡ front ++ p ∷ back) × (length front ≡ length a)
elsewhere [] b [] d p x y e ne = absurd (ne refl)
elsewhere [] b (z ∷ c) d p x y e ne = let same : p ≡ z = cc in ([], c ++ y ∷ d, ap (λ v. v ∷ (c ++ y ∷ d)) (sym same), refl)
elsewhere (z ∷ a) b [] d p x y e ne = let rest : a ++ p ∷ b ≡ d = cc in (y ∷ a, b, ap (λ v. y ∷ v) (sym rest), refl)
elsewhere (z ∷ a) b (v ∷ c) d p x y e ne =
    let rest : a ++ p ∷ b ≡ c ++ x ∷ d = cc in
    let r = elsewhere a b c d p x y rest (λ k. ne (ap suc k)) in
    (v ∷ r.0, r.1, ap (λ w. v ∷ w) r.2, ap suc r.3)

same_place : {Op : Type 0} (r : Run Op) (w : ℕ) (a b c d : List (Part Op)) (p q : Part Op) → IsPart r w a p b → IsPart r w c q d → length a ≡ length c
same_place r w a b c d p q h k = let x = h.number in let y = k.number in omega (arith, x, y)

pub same_part : {Op : Type 0} (r : Run Op) (w : ℕ) (a b c d : List (Part Op)) (p q : Part Op) → IsPart r w a p b → IsPart r w c q d → p ≡ q
same_part r w a b c d p q h k = (same_split a b c d p q (sym h.is ∙ k.is) (same_place r w a b c d p q h k)).here

pub later_same : {Op : Type 0} (p : Part Op) → IsLater p p
later_same p = record { items = refl; over = omega arith; told = λ k less. refl; number = omega arith; out = λ o. refl }

pub later_joined : {Op : Type 0} (p q s : Part Op) → IsLater p q → IsLater q s → IsLater p s
later_joined p q s h k = record {
  items = k.items ∙ h.items;
  over = (let x = h.over in let y = k.over in omega (arith, x, y));
  told = λ i less. k.told i (let x = h.over in omega (arith, x, less)) ∙ h.told i less;
  number = (let x = h.number in let y = k.number in omega (arith, x, y));
  out = λ o. k.out (subst IsOut (sym (h.out o)) o) ∙ h.out o;
}

-- a worker that is later on has begun no more calls, or one more, which it began from idle
pub record IsNext {Op : Type 0} (p q : Part Op) : Type 0 where
  pub later : IsLater p q
  pub rises : (q.worker.number ≡ p.worker.number) ⊎ ((q.worker.number ≡ p.worker.number + 1) × ((hand : Hand) × (p.worker.doing ≡ Idle hand)))

-- the worker of this number in a run, and what it is to another
pub record HasPart {Op : Type 0} (r : Run Op) (w : ℕ) (P : Part Op → Type 0) : Type 0 where
  pub before : List (Part Op)
  pub part : Part Op
  pub behind : List (Part Op)
  pub is : IsPart r w before part behind
  pub so : P part

module _ {Op : Type 0} (meaning : Meaning Op) where
  pub over_up : (over : ℕ) (o : Option Hand) → over ≤ over_after meaning over o
  over_up over None = omega arith
  over_up over (Some hand) = omega arith

  told_kept : (outcomes : List (Option Outcome)) (over : ℕ) (o : Option Reply) (k : ℕ) → k < over →
      slice_get (outcomes_after meaning outcomes over o) k ≡ slice_get outcomes k
  told_kept outcomes over None k less = refl
  told_kept outcomes over (Some reply) k less = set_other outcomes over k (Some (Replied reply)) (λ e. omega (arith, e, less))

  enters_number : (u : Worker Op) (doing : Doing Op) (item : Option Item) → u.doing ≡ doing →
      ((enters meaning u doing item).number ≡ u.number)
      ⊎ (((enters meaning u doing item).number ≡ u.number + 1) × ((hand : Hand) × (u.doing ≡ Idle hand)))
  enters_number u (Idle hand) None is = inl refl
  enters_number u (Idle hand) (Some (Call_item call)) is = inr (refl, (hand, is))
  enters_number u (Idle hand) (Some (Evict_item word)) is = inl refl
  enters_number u (Busy op call begun) item is = inl refl
  enters_number u (Evicting evict) item is = inl refl

  number_up : (m n : ℕ) (X : Type 0) → (n ≡ m) ⊎ ((n ≡ m + 1) × X) → m ≤ n
  number_up m n X (inl e) = omega (arith, e)
  number_up m n X (inr e) = let k = e.0 in omega (arith, k)

  made_next : (r : Run Op) (p : Part Op) (e : Event) → ¬ (IsOut p) → IsNext p (part_made meaning r p e)
  made_next r p e on =
      let rises = enters_number p.worker p.worker.doing (slice_get p.items p.over) refl in
      record {
        later = record {
          items = refl;
          over = over_up p.over (hand_over meaning (doing_made meaning r p e));
          told = λ k less. told_kept p.outcomes p.over (reply_in meaning (doing_made meaning r p e)) k less;
          number = number_up p.worker.number (entered meaning p).number _ rises;
          out = λ o. absurd (on o);
        };
        rises = rises;
      }

  next_same : (p : Part Op) → IsNext p p
  next_same p = record { later = later_same p; rises = inl refl }

  module _ (q o : Run Op) (v : ℕ) (e : Event) (told : ℕ) (t : Turned meaning q v e told o) (w : ℕ) where
    -- after a turn
    pub part_turned : (a : List (Part Op)) (p : Part Op) (b : List (Part Op)) → IsPart q w a p b → HasPart o w (IsNext p)
    part_turned a p b is = by_place (cases_lt (length a) (length t.before)) (cases_lt (length t.before) (length a))
      where
        other : length a ≢ length t.before → HasPart o w (IsNext p)
        other ne =
            let x = elsewhere a b t.before t.behind p t.part (part_made meaning q t.part e) (sym is.is ∙ t.is.is) ne in
            record {
              before = x.0;
              part = p;
              behind = x.1;
              is = record { is = t.parts ∙ x.2; number = is.number ∙ ap (λ n. n + 1) (sym x.3) };
              so = next_same p;
            }

        by_place : (length a < length t.before) ⊎ (length t.before ≤ length a) → (length t.before < length a) ⊎ (length a ≤ length t.before) →
            HasPart o w (IsNext p)
        by_place (inl less) y = other (λ k. omega (arith, k, less))
        by_place (inr le) (inl less) = other (λ k. omega (arith, k, less))
        by_place (inr le) (inr ge) =
            let at : length a ≡ length t.before = omega (arith, le, ge) in
            let same = (same_split a b t.before t.behind p t.part (sym is.is ∙ t.is.is) at).here in
            record {
              before = t.before;
              part = part_made meaning q t.part e;
              behind = t.behind;
              is = record { is = t.parts; number = is.number ∙ ap (λ n. n + 1) at };
              so = subst (λ x. IsNext x (part_made meaning q t.part e)) (sym same) (made_next q t.part e t.on);
            }

    -- before a turn
    pub part_before : (a : List (Part Op)) (p : Part Op) (b : List (Part Op)) → IsPart o w a p b → HasPart q w (λ x. IsNext x p)
    part_before a p b is = by_place (cases_lt (length a) (length t.before)) (cases_lt (length t.before) (length a))
      where
        other : length a ≢ length t.before → HasPart q w (λ x. IsNext x p)
        other ne =
            let x = elsewhere a b t.before t.behind p (part_made meaning q t.part e) t.part (sym is.is ∙ t.parts) ne in
            record {
              before = x.0;
              part = p;
              behind = x.1;
              is = record { is = t.is.is ∙ x.2; number = is.number ∙ ap (λ n. n + 1) (sym x.3) };
              so = next_same p;
            }

        by_place : (length a < length t.before) ⊎ (length t.before ≤ length a) → (length t.before < length a) ⊎ (length a ≤ length t.before) →
            HasPart q w (λ x. IsNext x p)
        by_place (inl less) y = other (λ k. omega (arith, k, less))
        by_place (inr le) (inl less) = other (λ k. omega (arith, k, less))
        by_place (inr le) (inr ge) =
            let at : length a ≡ length t.before = omega (arith, le, ge) in
            let same = (same_split a b t.before t.behind p (part_made meaning q t.part e) (sym is.is ∙ t.parts) at).here in
            record {
              before = t.before;
              part = t.part;
              behind = t.behind;
              is = record { is = t.is.is; number = is.number ∙ ap (λ n. n + 1) at };
              so = subst (λ x. IsNext t.part x) (sym same) (made_next q t.part e t.on);
            }

  pub part_led : (r next : Run Op) → Leads meaning r next → (w : ℕ) (a : List (Part Op)) (p : Part Op) (b : List (Part Op)) → IsPart r w a p b →
      HasLater next w p
  part_led r next here w a p b is = record { before = a; part = p; behind = b; is = is; later = later_same p }
  part_led r next (turn {q = q} {worker = worker} {e = e} {told = told} h t) w a p b is =
      let x = part_led r q h w a p b is in
      let y = part_turned q next worker e told t w x.before x.part x.behind x.is in
      record { before = y.before; part = y.part; behind = y.behind; is = y.is; later = later_joined p x.part y.part x.later y.so.later }

  -- ---- turns that are given

  pub follows_joined : (r n o : Run Op) (ts us : List Given) → Follows meaning r ts n → Follows meaning n us o → Follows meaning r (ts ++ us) o
  follows_joined r n o [] us h k = subst (λ q. Follows meaning q us o) h k
  follows_joined r n o (t ∷ ts) us h k = (h.0, h.1, follows_joined h.0 n o ts us h.2 k)

  one_led : (first r next : Run Op) (w : ℕ) (t : Turn) → IsTurn meaning r w t next → Leads meaning first r → Leads meaning first next
  one_led first r next w (Event_turn e told) h led = turn led h
  one_led first r next w Idle_turn h led = subst (Leads meaning first) (sym h.same) led

  pub follows_led : (first r next : Run Op) (ts : List Given) → Follows meaning r ts next → Leads meaning first r → Leads meaning first next
  follows_led first r next [] h led = subst (Leads meaning first) (sym h) led
  follows_led first r next (t ∷ ts) h led = follows_led first h.0 next ts h.2 (one_led first r h.0 t.worker t.turn h.1 led)

  pub led_follows : (r next : Run Op) → Leads meaning r next → (ts : List Given) × Follows meaning r ts next
  led_follows r next here = ([], refl)
  led_follows r next (turn {q = q} {worker = worker} {e = e} {told = told} h t) =
      let x = led_follows r q h in
      let g : Given = record { worker = worker; turn = Event_turn e told } in
      (x.0 ++ g ∷ [], follows_joined r q next x.0 (g ∷ []) x.1 (next, t, refl))

  pub alone_follows : (worker : ℕ) (r next : Run Op) → Alone meaning worker r next →
      (ts : List Given) × Follows meaning r ts next × AllByRecursion (λ t. t.worker ≡ worker) ts
  alone_follows worker r next no_turn = ([], refl, tt)
  alone_follows worker r next (one_more {n = n} e told h t) =
      let x = alone_follows worker r n h in
      let g : Given = record { worker = worker; turn = Event_turn e told } in
      (x.0 ++ g ∷ [], follows_joined r n next x.0 (g ∷ []) x.1 (next, t, refl), all_both (λ u. u.worker ≡ worker) x.0 (g ∷ []) x.2 (refl, tt))

  pub follows_parted : (r next : Run Op) (ts us : List Given) → Follows meaning r (ts ++ us) next →
      (q : Run Op) × Follows meaning r ts q × Follows meaning q us next
  follows_parted r next [] us h = (r, refl, h)
  follows_parted r next (t ∷ ts) us h = let x = follows_parted h.0 next ts us h.2 in (x.0, (h.0, h.1, x.1), x.2)

  pub follows_long : (r next : Run Op) (ts : List Given) → Follows meaning r ts next → length next.parts ≡ length r.parts
  follows_long r next [] h = ap (λ q. length q.parts) h
  follows_long r next (t ∷ ts) h = follows_long h.0 next ts h.2 ∙ turn_long meaning t.worker r h.0 t.turn h.1

  turn_content : (r next : Run Op) (w : ℕ) (t : Turn) → IsTurn meaning r w t next → next.content ≡ r.content
  turn_content r next w (Event_turn e told) h = h.content
  turn_content r next w Idle_turn h = ap (λ q. q.content) h.same

  pub follows_content : (r next : Run Op) (ts : List Given) → Follows meaning r ts next → next.content ≡ r.content
  follows_content r next [] h = ap (λ q. q.content) h
  follows_content r next (t ∷ ts) h = follows_content h.0 next ts h.2 ∙ turn_content r h.0 t.worker t.turn h.1

  pub idle_out : (r next : Run Op) (w : ℕ) (t : Turn) → OfWorker r w IsOut → IsTurn meaning r w t next → (t ≡ Idle_turn) × (next ≡ r)
  idle_out r next w (Event_turn e told) out h = absurd (h.on (out h.before h.part h.behind h.is))
  idle_out r next w Idle_turn out h = (refl, h.same)

  out_turned : (r next : Run Op) (v : ℕ) (t : Turn) (w : ℕ) → IsTurn meaning r v t next → OfWorker r w IsOut → OfWorker next w IsOut
  out_turned r next v (Event_turn e told) w h out a p b is =
      let x = part_before r next v e told h w a p b is in
      let o = out x.before x.part x.behind x.is in
      subst IsOut (sym (x.so.later.out o)) o
  out_turned r next v Idle_turn w h out a p b is = out a p b (subst (λ q. IsPart q w a p b) h.same is)

  pub out_follows : (r next : Run Op) (ts : List Given) (w : ℕ) → Follows meaning r ts next → OfWorker r w IsOut → OfWorker next w IsOut
  out_follows r next [] w h out = λ a p b is. out a p b (subst (λ q. IsPart q w a p b) h is)
  out_follows r next (t ∷ ts) w h out = out_follows h.0 next ts w h.2 (out_turned r h.0 t.worker t.turn w h.1 out)
