-- Two logs that one log continues: one of them continues the other.
use Rattle.std.proofs.Common.{◌≡◌, ℕ, suc, ◌+◌, ◌≤◌, nat_lt, Bool, true, false, cond, List, [], ◌∷◌, ◌++◌, length, refl, sym, ◌∙◌, ap, subst, arith, append-nil}
use Rattle.std.proofs.lemmas.List.{length-append}
use Rattle.std.proofs.lemmas.Bool.Decides.{nat_tests}
use Rattle.flit_table.specs.declared.views.Logged.{Logged}
use Rattle.flit_table.specs.Logs.{Continues, longer_log, shorter_log}
use Rattle.flit_table.proofs.LogLaws.{continues_same}

-- of two fronts of one list the shorter is a front of the longer
fronts : (a b log x y : List Logged) → log ≡ a ++ x → log ≡ b ++ y → length a ≤ length b → Continues a b
fronts [] b log x y p q l = (b, refl)
fronts (z ∷ a) [] log x y p q l = absurd (omega arith)
fronts (z ∷ a) (w ∷ b) [] x y p q l = absurd (cc)
fronts (z ∷ a) (w ∷ b) (u ∷ log) x y p q l =
    let left : log ≡ a ++ x = cc in
    let right : log ≡ b ++ y = cc in
    let same : w ≡ z = cc in
    let r = fronts a b log x y left right (omega arith) in
    (r.0, λ i. same i ∷ r.1 i)

-- a log that continues one that continues it is the same
both_ways : (a b : List Logged) → Continues a b → Continues b a → b ≡ a
both_ways a b h k = nothing_more h.0 h.1
  where
    nothing_more : (more : List Logged) → b ≡ a ++ more → b ≡ a
    nothing_more [] e = e ∙ append-nil a
    nothing_more (x ∷ more) e =
        let one : length b ≡ length a + suc (length more) = ap length e ∙ length-append a (x ∷ more) in
        let two : length a ≡ length b + length k.0 = ap length k.1 ∙ length-append b k.0 in
        absurd (omega arith)

pub record AreJoined (a b log longer shorter : List Logged) : Type 0 where
  pub begins : Continues longer log
  pub notes : Continues shorter longer
  pub first : Continues a longer
  pub second : Continues b longer
  pub whole_first : a ≡ log → longer ≡ log
  pub whole_second : b ≡ log → longer ≡ log

whole_of : (a longer log : List Logged) → Continues a longer → Continues longer log → a ≡ log → longer ≡ log
whole_of a longer log h k e = sym (both_ways longer log k (subst (λ l. Continues l longer) e h))

pub logs_joined : (a b log : List Logged) → Continues a log → Continues b log → AreJoined a b log (longer_log a b) (shorter_log a b)
logs_joined a b log h k = by_test (nat_lt (length a) (length b)) refl
  where
    less : (x y : ℕ) → nat_lt x y ≡ true → x ≤ y
    less x y e = grind (arith, nat_tests)

    not_less : (x y : ℕ) → nat_lt x y ≡ false → y ≤ x
    not_less x y e = grind (arith, nat_tests)

    by_test : (t : Bool) → nat_lt (length a) (length b) ≡ t → AreJoined a b log (cond t b a) (cond t a b)
    by_test true e =
        let f = fronts a b log h.0 k.0 h.1 k.1 (less (length a) (length b) e) in
        record { begins = k; notes = f; first = f; second = continues_same b; whole_first = whole_of a b log f k; whole_second = λ q. q }
    by_test false e =
        let f = fronts b a log k.0 h.0 k.1 h.1 (not_less (length a) (length b) e) in
        record { begins = h; notes = f; first = continues_same a; second = f; whole_first = λ q. q; whole_second = whole_of b a log f h }
