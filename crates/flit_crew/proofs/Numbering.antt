-- Each name's numbers go on rising when an update comes to wait at a word and when one that waits is settled, whatever
-- else waits.
use Rattle.std.proofs.Common.{◌≡◌, ◌≢◌, ℕ, suc, ◌<◌, ◌≤◌, ◌==◌, Bool, true, false, cond, List, [], ◌∷◌, ◌++◌, map, filter, Some, None, refl, sym, ◌∙◌, ap, subst, arith, append_assoc}
use Rattle.std.proofs.lemmas.Bool.{eqb-true, eq-eqb}
use Rattle.std.specs.List.{AllByRecursion}
use Rattle.std.specs.Ordering.{nat_cmp, eq_by_cmp, is_eq}
use Rattle.std.specs.declared.cmp.Ordering.{Ordering}
use Rattle.std.specs.declared.cmp.Ordering.TheVariants.{Less, Equal, Greater}
use Rattle.std.specs.FinMap.{find, put}
use Rattle.flit_model.specs.Lists.{IsRisingFrom}
use Rattle.flit_model.specs.declared.calls.Entry.{Entry}
use Rattle.flit_structure.specs.Moments.{numbers_of}

abbrev values : List (ℕ × Entry) → List Entry
values es = map (λ p. p.1) es

some_none : (e : Entry) → Some e ≡ None → ⊥
some_none e q = cc

-- an entry comes to stand between what waits before it and behind it
pub record Between (es : List (ℕ × Entry)) (now : List (ℕ × Entry)) (v : Entry) : Type 0 where
  pub front : List Entry
  pub back : List Entry
  pub was : values es ≡ front ++ back
  pub is : values now ≡ front ++ v ∷ back

pub put_between : (es : List (ℕ × Entry)) (k : ℕ) (v : Entry) → find nat_cmp k es ≡ None → Between es (put nat_cmp k v es) v
put_between [] k v h = record { front = []; back = []; was = refl; is = refl }
put_between (e ∷ es) k v h = by_order (nat_cmp k e.0) refl (put_between es k v)
  where
    by_order : (o : Ordering) → nat_cmp k e.0 ≡ o → (find nat_cmp k es ≡ None → Between es (put nat_cmp k v es) v) →
        Between (e ∷ es) (put nat_cmp k v (e ∷ es)) v
    by_order Less q rec = record {
      front = [];
      back = values (e ∷ es);
      was = refl;
      is =
          ap (λ o. values (Rattle.std.specs.FinMap.Entries.by_order o ((k, v) ∷ e ∷ es) ((e.0, v) ∷ es) (e ∷ put nat_cmp k v es))) q;
    }
    by_order Equal q rec = absurd (some_none e.1 (sym (ap (λ o. cond (is_eq o) (Some e.1) (find nat_cmp k es)) q) ∙ h))
    by_order Greater q rec =
        let r = rec (sym (ap (λ o. cond (is_eq o) (Some e.1) (find nat_cmp k es)) q) ∙ h) in
        record {
          front = e.1 ∷ r.front;
          back = r.back;
          was = ap (λ xs. e.1 ∷ xs) r.was;
          is =
              ap (λ o. values (Rattle.std.specs.FinMap.Entries.by_order o ((k, v) ∷ e ∷ es) ((e.0, v) ∷ es) (e ∷ put nat_cmp k v es))) q
              ∙ ap (λ xs. e.1 ∷ xs) r.is;
        }

-- ---- numbers of a name

abbrev pub IsOther : ℕ → Entry → Type 0
IsOther name e = e.worker ≢ name

test_false : (a b : ℕ) → a ≢ b → (a == b) ≡ false
test_false a b h = by_test (a == b) refl
  where
    by_test : (t : Bool) → (a == b) ≡ t → t ≡ false
    by_test true q = absurd (h (eqb-true a b q))
    by_test false q = refl

pub numbers_skip : (name : ℕ) (e : Entry) (es : List Entry) → IsOther name e → numbers_of name (e ∷ es) ≡ numbers_of name es
numbers_skip name e es other = ap (λ t. map (λ x. x.number) (cond t (e ∷ filter (λ x. x.worker == name) es) (filter (λ x. x.worker == name) es)))
    (test_false e.worker name other)

pub numbers_take : (name : ℕ) (e : Entry) (es : List Entry) → e.worker ≡ name → numbers_of name (e ∷ es) ≡ e.number ∷ numbers_of name es
numbers_take name e es same = ap (λ t. map (λ x. x.number) (cond t (e ∷ filter (λ x. x.worker == name) es) (filter (λ x. x.worker == name) es)))
    (eq-eqb e.worker name same)

pub numbers_none : (name : ℕ) (es : List Entry) → AllByRecursion (IsOther name) es → numbers_of name es ≡ []
numbers_none name [] h = refl
numbers_none name (e ∷ es) h = numbers_skip name e es h.0 ∙ numbers_none name es h.1

pub numbers-append : (name : ℕ) (xs ys : List Entry) → numbers_of name (xs ++ ys) ≡ numbers_of name xs ++ numbers_of name ys
numbers-append name [] ys = refl
numbers-append name (e ∷ xs) ys = by_test (e.worker == name) refl (numbers-append name xs ys)
  where
    by_test : (t : Bool) → (e.worker == name) ≡ t → numbers_of name (xs ++ ys) ≡ numbers_of name xs ++ numbers_of name ys →
        numbers_of name (e ∷ xs ++ ys) ≡ numbers_of name (e ∷ xs) ++ numbers_of name ys
    by_test true q rec = let same = eqb-true e.worker name q in numbers_take name e (xs ++ ys) same ∙ ap (λ ns. e.number ∷ ns) rec
        ∙ ap (λ ns. ns ++ numbers_of name ys) (sym (numbers_take name e xs same))
    by_test false q rec = let other : IsOther name e = λ s. absurd (clash (e.worker == name) (eq-eqb e.worker name s) q) in numbers_skip name e (xs ++ ys) other
        ∙ rec ∙ ap (λ ns. ns ++ numbers_of name ys) (sym (numbers_skip name e xs other))
      where
        clash : (b : Bool) → b ≡ true → b ≡ false → ⊥
        clash b s f = cc

-- an entry of another name changes nothing, wherever it stands
pub numbers_other : (name : ℕ) (xs ys : List Entry) (e : Entry) → IsOther name e → numbers_of name (xs ++ e ∷ ys) ≡ numbers_of name (xs ++ ys)
numbers_other name xs ys e other = numbers-append name xs (e ∷ ys) ∙ ap (λ ns. numbers_of name xs ++ ns) (numbers_skip name e ys other)
    ∙ sym (numbers-append name xs ys)

-- the only entry of its name that waits stands last among those of its name, wherever it stands
pub numbers_own : (name : ℕ) (settled front back : List Entry) (e : Entry) → e.worker ≡ name → AllByRecursion (IsOther name) front →
    AllByRecursion (IsOther name) back →
    numbers_of name (settled ++ (front ++ e ∷ back)) ≡ numbers_of name settled ++ e.number ∷ []
numbers_own name settled front back e same f b =
    numbers-append name settled (front ++ e ∷ back) ∙ ap (λ ns. numbers_of name settled ++ ns)
    (numbers-append name front (e ∷ back) ∙ ap (λ ns. ns ++ numbers_of name (e ∷ back)) (numbers_none name front f) ∙ numbers_take name e back same
    ∙ ap (λ ns. e.number ∷ ns) (numbers_none name back b))

rises_last : (low n : ℕ) (ns : List ℕ) → IsRisingFrom low ns → low ≤ n → AllByRecursion (λ m. m < n) ns → IsRisingFrom low (ns ++ n ∷ [])
rises_last low n [] h le all = (le, tt)
rises_last low n (m ∷ ns) h le all = (h.0, rises_last (suc m) n ns h.1 (omega (arith, all.0)) all.1)

-- a new update of a name that has none waiting, with a number above all of its own
pub won_rises : (name : ℕ) (settled front back : List Entry) (e : Entry) → AllByRecursion (IsOther e.worker) front → AllByRecursion (IsOther e.worker) back →
    AllByRecursion (λ m. m < e.number) (numbers_of e.worker settled) →
    IsRisingFrom 0 (numbers_of e.worker settled) → IsRisingFrom 0 (numbers_of name (settled ++ (front ++ back))) →
    IsRisingFrom 0 (numbers_of name (settled ++ (front ++ e ∷ back)))
won_rises name settled front back e f b below own rising = by_name (e.worker == name) refl
  where
    least : (n : ℕ) → 0 ≤ n
    least n = omega arith

    clash : (b : Bool) → b ≡ true → b ≡ false → ⊥
    clash b s f = cc

    by_name : (t : Bool) → (e.worker == name) ≡ t → IsRisingFrom 0 (numbers_of name (settled ++ (front ++ e ∷ back)))
    by_name true q =
        let same = eqb-true e.worker name q in
        subst (λ n. IsRisingFrom 0 (numbers_of n (settled ++ (front ++ e ∷ back)))) same
        (subst (IsRisingFrom 0) (sym (numbers_own e.worker settled front back e refl f b))
        (rises_last 0 e.number (numbers_of e.worker settled) own (least e.number) below))
    by_name false q = subst (IsRisingFrom 0) (sym (ap (λ xs. numbers_of name xs) (sym (append_assoc settled front (e ∷ back)))
        ∙ numbers_other name (settled ++ front) back e (λ s. absurd (clash (e.worker == name) (eq-eqb e.worker name s) q))
        ∙ ap (λ xs. numbers_of name xs) (append_assoc settled front back))) rising

-- the only update of its name that waits is settled: nobody's numbers change
pub settled_same : (name : ℕ) (settled front back : List Entry) (e : Entry) → AllByRecursion (IsOther e.worker) front → AllByRecursion (IsOther e.worker) back →
    numbers_of name ((settled ++ e ∷ []) ++ (front ++ back)) ≡ numbers_of name (settled ++ (front ++ e ∷ back))
settled_same name settled front back e f b = by_name (e.worker == name) refl
  where
    clash : (b : Bool) → b ≡ true → b ≡ false → ⊥
    clash b s f = cc

    by_name : (t : Bool) → (e.worker == name) ≡ t → numbers_of name ((settled ++ e ∷ []) ++ (front ++ back)) ≡ numbers_of name (settled ++ (front ++ e ∷ back))
    by_name true q =
        let same = eqb-true e.worker name q in
        subst (λ n. numbers_of n ((settled ++ e ∷ []) ++ (front ++ back)) ≡ numbers_of n (settled ++ (front ++ e ∷ back))) same
        (ap (λ xs. numbers_of e.worker xs) (append_assoc settled (e ∷ []) (front ++ back)) ∙ numbers-append e.worker settled (e ∷ (front ++ back))
        ∙ ap (λ ns. numbers_of e.worker settled ++ ns) (numbers_take e.worker e (front ++ back) refl
        ∙ ap (λ ns. e.number ∷ ns) (numbers-append e.worker front back ∙ ap (λ ns. ns ++ numbers_of e.worker back) (numbers_none e.worker front f)
        ∙ numbers_none e.worker back b))
        ∙ sym (numbers_own e.worker settled front back e refl f b))
    by_name false q =
        let other : IsOther name e = λ s. absurd (clash (e.worker == name) (eq-eqb e.worker name s) q) in
        ap (λ xs. numbers_of name xs) (append_assoc settled (e ∷ []) (front ++ back)) ∙ numbers_other name settled (front ++ back) e other
        ∙ sym (ap (λ xs. numbers_of name xs) (sym (append_assoc settled front (e ∷ back))) ∙ numbers_other name (settled ++ front) back e other
        ∙ ap (λ xs. numbers_of name xs) (append_assoc settled front back))
