-- The map of a list of rows under the edits of a list.
use Rattle.std.proofs.Common.{◌≡◌, ◌≢◌, ℕ, ◌+◌, ◌≤◌, ◌==◌, Bool, true, false, List, [], ◌∷◌, ◌++◌, Option, Some, None, refl, sym, ap, ◌∙◌, inl, inr, arith, subst, Contains}
use Rattle.flit_model.proofs.Membership.{contains_cases, contains_none}
use Rattle.std.specs.List.{AllByRecursion}
use Rattle.std.proofs.lemmas.Bool.{cases_eq, eq-eqb, ne_eqb}
use Rattle.flit_list_heap.specs.Links.{LinkWord, Next, Rows}
use Rattle.flit_list_heap.specs.Paths.{Path, pick, found}
use Rattle.flit_list_heap.proofs.PathLaws.{all-rows, all-in, path-above}

pub found-same : (c : Rows) (marked now : ℕ → Bool) (k : ℕ) (p : List ℕ) → AllByRecursion (λ r. now r ≡ marked r) p → found c now p k ≡ found c marked p k
found-same c marked now k [] h = refl
found-same c marked now k (r ∷ p) h = rw (h.0, found-same c marked now k p h.1) refl

-- no row with the key
pub found-none : (c : Rows) (marked : ℕ → Bool) (k : ℕ) (p : List ℕ) → AllByRecursion (λ r. c.key r ≢ k) p → found c marked p k ≡ None
found-none c marked k [] h = refl
found-none c marked k (r ∷ p) h = rw (ne_eqb (c.key r) k h.0, found-none c marked k p h.1) refl

pub found-here : (c : Rows) (marked : ℕ → Bool) (r : ℕ) (p : List ℕ) → marked r ≡ false → found c marked (r ∷ p) (c.key r) ≡ Some (c.value r)
found-here c marked r p h = rw (eq-eqb (c.key r) (c.key r) refl, h) refl

pub found-past : (c : Rows) (marked : ℕ → Bool) (r : ℕ) (p : List ℕ) (k : ℕ) → c.key r ≢ k → found c marked (r ∷ p) k ≡ found c marked p k
found-past c marked r p k h = rw (ne_eqb (c.key r) k h) refl

pick-marked : (b : Bool) (m : Bool) (here there : Option ℕ) → m ≡ true → pick b m here there ≡ there
pick-marked true true here there e = refl
pick-marked true false here there e = absurd (cc)
pick-marked false true here there e = refl
pick-marked false false here there e = refl

pub found-marked : (c : Rows) (marked : ℕ → Bool) (r : ℕ) (p : List ℕ) (k : ℕ) → marked r ≡ true → found c marked (r ∷ p) k ≡ found c marked p k
found-marked c marked r p k h = pick-marked (c.key r == k) (marked r) (Some (c.value r)) (found c marked p k) h

-- behind rows of other keys
pub found-behind : (c : Rows) (marked : ℕ → Bool) (k : ℕ) (p q : List ℕ) → AllByRecursion (λ r. c.key r ≢ k) p → found c marked (p ++ q) k ≡ found c marked q k
found-behind c marked k [] q h = refl
found-behind c marked k (r ∷ p) q h = found-past c marked r (p ++ q) k h.0 ∙ found-behind c marked k p q h.1

-- the same behind the same rows
pub found-under : (c : Rows) (marked : ℕ → Bool) (k : ℕ) (p q s : List ℕ) → found c marked q k ≡ found c marked s k →
    found c marked (p ++ q) k ≡ found c marked (p ++ s) k
found-under c marked k [] q s e = e
found-under c marked k (r ∷ p) q s e = ap (λ o. pick (c.key r == k) (marked r) (Some (c.value r)) o) (found-under c marked k p q s e)

-- an unmarked row on a path gives its pair
pub found-in : (c : Rows) (img : LinkWord → ℕ) (marked : ℕ → Bool) (x : LinkWord) (p : List ℕ) (r : ℕ) → Path c img x p → Contains p r → marked r ≡ false →
    found c marked p (c.key r) ≡ Some (c.value r)
found-in c img marked x [] r h i m = absurd (contains_none r i)
found-in c img marked x (s ∷ p) r h i m = elim (contains_cases s p r i) [
  | inl e ↦ subst (λ q. found c marked (q ∷ p) (c.key r) ≡ Some (c.value r)) (sym e) (found-here c marked r p m)
  | inr j ↦
      let a : c.key s + 1 ≤ c.key r = all-in (λ q. c.key s + 1 ≤ c.key q) p (path-above c img (Next s) p h.2) r j in
      found-past c marked s p (c.key r) (λ e. absurd (omega arith)) ∙ found-in c img marked (Next s) p r h.2 j m
]

-- a row becomes marked: other keys keep their pairs, and its own has none
pub found-but : (c : Rows) (marked now : ℕ → Bool) (r k : ℕ) (p : List ℕ) → c.key r ≢ k → ((q : ℕ) → q ≢ r → now q ≡ marked q) →
    found c now p k ≡ found c marked p k
found-but c marked now r k [] ne f = refl
found-but c marked now r k (s ∷ p) ne f = elim (cases_eq s r) [
  | inl e ↦
      let ne' : c.key s ≢ k = subst (λ q. c.key q ≢ k) (sym e) ne in
      found-past c now s p k ne' ∙ found-but c marked now r k p ne f ∙ sym (found-past c marked s p k ne')
  | inr o ↦ rw (f s o, found-but c marked now r k p ne f) refl
]

pub found-gone : (c : Rows) (img : LinkWord → ℕ) (now : ℕ → Bool) (x : LinkWord) (p : List ℕ) (r : ℕ) → Path c img x p → Contains p r → now r ≡ true →
    found c now p (c.key r) ≡ None
found-gone c img now x [] r h i m = absurd (contains_none r i)
found-gone c img now x (s ∷ p) r h i m = elim (contains_cases s p r i) [
  | inl e ↦
      let a : AllByRecursion (λ q. c.key r + 1 ≤ c.key q) p = subst (λ t. AllByRecursion (λ q. c.key t + 1 ≤ c.key q) p) e (path-above c img (Next s) p h.2) in
      found-marked c now s p (c.key r) (subst (λ q. now q ≡ true) (sym e) m)
      ∙ found-none c now (c.key r) p (all-rows (λ q. c.key r + 1 ≤ c.key q) (λ q. c.key q ≢ c.key r) (λ q l z. absurd (omega arith)) p a)
  | inr j ↦
      let a : c.key s + 1 ≤ c.key r = all-in (λ q. c.key s + 1 ≤ c.key q) p (path-above c img (Next s) p h.2) r j in
      found-past c now s p (c.key r) (λ e. absurd (omega arith)) ∙ found-gone c img now (Next s) p r h.2 j m
]

-- the same with the same keys and values
pub found-rows : (c d : Rows) (marked : ℕ → Bool) (k : ℕ) (p : List ℕ) → AllByRecursion (λ r. (d.key r ≡ c.key r) × (d.value r ≡ c.value r)) p →
    found d marked p k ≡ found c marked p k
found-rows c d marked k [] h = refl
found-rows c d marked k (r ∷ p) h = rw (h.0.0, h.0.1, found-rows c d marked k p h.1) refl
