-- What a stop has left after some turns.
use Rattle.std.proofs.Common.{◌≡◌, ◌≢◌, inr, ℕ, zero, suc, ◌+◌, ◌-◌, eqb, Bool, true, false, cond, List, [], ◌∷◌, length, refl, sym, ◌∙◌, ap, subst, arith, Option, Some, None}
use Rattle.std.proofs.lemmas.Bool.{false≢true, eqb-true, eq-eqb}
use Rattle.flit_model.specs.declared.events.Event.{Event}
use Rattle.flit_structure.specs.Meanings.{Meaning}
use Rattle.flit_sched.specs.declared.runs.Turn.{Turn}
use Rattle.flit_sched.specs.declared.runs.Turn.TheVariants.{Event as Event_turn, Idle as Idle_turn}
use Rattle.flit_sched.specs.Runs.{Part, Run, IsPart}
use Rattle.flit_sched.specs.Turns.{IsTurn, Turned, left_after}
use Rattle.flit_histories.specs.Following.{Given, Follows}
use Rattle.flit_histories.specs.TurnLaws.{one_if_event, events_by, IsLeftBy}
use Rattle.flit_histories.proofs.LedParts.{elsewhere, same_part, HasPart, part_turned}
use Rattle.flit_histories.proofs.TurnedRuns.{part_made}

left_none : (left : Option ℕ) → IsLeftBy 0 left left
left_none None = refl
left_none (Some n) = (omega arith, ap Some (omega arith))

left_joined : (m n : ℕ) (a b c : Option ℕ) → IsLeftBy m a b → IsLeftBy n b c → IsLeftBy (m + n) a c
left_joined m n None None c h k = k
left_joined m n None (Some y) c h k = absurd (cc)
left_joined m n (Some x) None c h k = absurd (let e = h.1 in cc)
left_joined m n (Some x) (Some y) c h k =
    let e : y ≡ x - m = let w = h.1 in cc in
    let le = h.0 in
    let lk = k.0 in
    (omega (arith, e, le, lk), k.1 ∙ ap Some (omega (arith, e, le, lk)))

one_left : (left : Option ℕ) → (left ≡ Some 0 → ⊥) → IsLeftBy 1 left (left_after left)
one_left None some = refl
one_left (Some zero) some = absurd (some refl)
one_left (Some (suc n)) some = (omega arith, refl)

module _ {Op : Type 0} (meaning : Meaning Op) (q o : Run Op) (v : ℕ) (e : Event) (told : ℕ) (t : Turned meaning q v e told o) (w : ℕ) where
  left_own : v ≡ w → (a b c d : List (Part Op)) (p x : Part Op) → IsPart q w a p b → IsPart o w c x d → IsLeftBy 1 p.left x.left
  left_own is a b c d p x h k =
      let made : IsPart o w t.before (part_made meaning q t.part e) t.behind = record { is = t.parts; number = sym is ∙ t.is.number } in
      let own : IsPart q w t.before t.part t.behind = record { is = t.is.is; number = sym is ∙ t.is.number } in
      let same_x = same_part o w t.before t.behind c d (part_made meaning q t.part e) x made k in
      let same_p = same_part q w t.before t.behind a b t.part p own h in
      subst (λ y. IsLeftBy 1 p.left y.left) same_x
      (subst (λ y. IsLeftBy 1 y.left (left_after t.part.left)) same_p (one_left t.part.left (λ none. t.on (inr none))))

  left_other : v ≢ w → (a b c d : List (Part Op)) (p x : Part Op) → IsPart q w a p b → IsPart o w c x d → x ≡ p
  left_other ne a b c d p x h k =
      let far : length a ≢ length t.before = λ same. ne (t.is.number ∙ ap (λ n. n + 1) (sym same) ∙ sym h.number) in
      let y = elsewhere a b t.before t.behind p t.part (part_made meaning q t.part e) (sym h.is ∙ t.is.is) far in
      sym (same_part o w y.0 y.1 c d p x (record { is = t.parts ∙ y.2; number = h.number ∙ ap (λ n. n + 1) (sym y.3) }) k)

module _ {Op : Type 0} (meaning : Meaning Op) where
  left_turned : (q o : Run Op) (v : ℕ) (t : Turn) → IsTurn meaning q v t o → (w : ℕ) (a b c d : List (Part Op)) (p x : Part Op) →
      IsPart q w a p b → IsPart o w c x d → IsLeftBy (cond (eqb v w) (one_if_event t) 0) p.left x.left
  left_turned q o v (Event_turn e told) h w a b c d p x at now = by_test (eqb v w) refl
    where
      by_test : (s : Bool) → eqb v w ≡ s → IsLeftBy (cond s 1 0) p.left x.left
      by_test true is = left_own meaning q o v e told h w (eqb-true v w is) a b c d p x at now
      by_test false is = subst (λ y. IsLeftBy 0 p.left y.left) (sym (left_other meaning q o v e told h w (λ same. false≢true (sym is ∙ eq-eqb v w same))
          a b c d p x at now)) (left_none p.left)
  left_turned q o v Idle_turn h w a b c d p x at now = by_test (eqb v w)
    where
      same : x ≡ p
      same = same_part q w c d a b x p (subst (λ r. IsPart r w c x d) h.same now) at

      by_test : (s : Bool) → IsLeftBy (cond s 0 0) p.left x.left
      by_test true = subst (λ y. IsLeftBy 0 p.left y.left) (sym same) (left_none p.left)
      by_test false = subst (λ y. IsLeftBy 0 p.left y.left) (sym same) (left_none p.left)

  has_part : (q o : Run Op) (v : ℕ) (t : Turn) → IsTurn meaning q v t o → (w : ℕ) (a b : List (Part Op)) (p : Part Op) → IsPart q w a p b →
      HasPart o w (λ x. Unit {0})
  has_part q o v (Event_turn e told) h w a b p at = let x = part_turned meaning q o v e told h w a p b at in
      record { before = x.before; part = x.part; behind = x.behind; is = x.is; so = tt }
  has_part q o v Idle_turn h w a b p at =
      record { before = a; part = p; behind = b; is = subst (λ r. IsPart r w a p b) (sym h.same) at; so = tt }

  pub left_led : (r next : Run Op) (ts : List Given) (w : ℕ) (p q : Part Op) (a b c d : List (Part Op)) → Follows meaning r ts next →
      IsPart r w a p b → IsPart next w c q d → IsLeftBy (events_by w ts) p.left q.left
  left_led r next [] w p q a b c d h at now =
      let same = same_part r w c d a b q p (subst (λ o. IsPart o w c q d) h now) at in
      subst (λ y. IsLeftBy 0 p.left y.left) (sym same) (left_none p.left)
  left_led r next (t ∷ ts) w p q a b c d h at now =
      let x = has_part r h.0 t.worker t.turn h.1 w a b p at in
      left_joined (cond (eqb t.worker w) (one_if_event t.turn) 0) (events_by w ts) p.left x.part.left q.left
      (left_turned r h.0 t.worker t.turn h.1 w a b x.before x.behind p x.part at x.is)
      (left_led h.0 next ts w x.part q x.before x.behind c d h.2 x.is now)
