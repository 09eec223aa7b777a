-- Paths: a function, sorted, framed, cut and spliced.
use Rattle.std.proofs.Common.{◌≡◌, ◌≢◌, ℕ, ◌+◌, ◌<◌, ◌≤◌, List, [], ◌∷◌, ◌++◌, refl, sym, ap, ◌∙◌, inl, inr, ◌⊎◌, arith, subst, Contains}
use Rattle.flit_model.proofs.Elements.{all_contained}
use Rattle.flit_model.proofs.Membership.{contains_first, contains_later, contains_cases, contains_none}
use Rattle.std.specs.List.{AllByRecursion}
use Rattle.flit_list_heap.specs.Links.{LinkWord, Next, Rows, low, bucket_of, row_of, Changed}
use Rattle.flit_list_heap.specs.Paths.{Follows, Path}
use Rattle.flit_list_heap.proofs.Base.{lower-apart, bucket-apart}

pub all-rows : (P Q : ℕ → Type 0) → ((r : ℕ) → P r → Q r) → (p : List ℕ) → AllByRecursion P p → AllByRecursion Q p
all-rows P Q f [] h = tt
all-rows P Q f (r ∷ p) h = (f r h.0, all-rows P Q f p h.1)

pub all-of : (P : ℕ → Type 0) → ((r : ℕ) → P r) → (p : List ℕ) → AllByRecursion P p
all-of P f [] = tt
all-of P f (r ∷ p) = (f r, all-of P f p)

pub all-in : (P : ℕ → Type 0) (p : List ℕ) → AllByRecursion P p → (r : ℕ) → Contains p r → P r
all-in P p h r i = all_contained P p r h i

-- a word has one path
pub path-one : (c : Rows) (img : LinkWord → ℕ) (x : LinkWord) (p q : List ℕ) → Path c img x p → Path c img x q → p ≡ q
path-one c img x [] [] g h = refl
path-one c img x [] (s ∷ q) g h = absurd (omega (arith, h.1.real))
path-one c img x (r ∷ p) [] g h = absurd (omega (arith, g.1.real))
path-one c img x (r ∷ p) (s ∷ q) g h =
    let e : r ≡ s = sym g.0 ∙ h.0 in
    let t : Path c img (Next r) q = subst (λ n. Path c img (Next n) q) (sym e) h.2 in
    let l : p ≡ q = path-one c img (Next r) p q g.2 t in
    cc

-- the keys along a path rise
pub path-above : (c : Rows) (img : LinkWord → ℕ) (x : LinkWord) (p : List ℕ) → Path c img x p → AllByRecursion (λ r. low c x ≤ c.key r) p
path-above c img x [] h = tt
path-above c img x (r ∷ p) h =
    (h.1.above, all-rows (λ q. c.key r + 1 ≤ c.key q) (λ q. low c x ≤ c.key q) (λ q l. omega (arith, h.1.above)) p (path-above c img (Next r) p h.2))

pub path-follows : (c : Rows) (img : LinkWord → ℕ) (x : LinkWord) (p : List ℕ) → Path c img x p →
    AllByRecursion (λ r. (1 ≤ r) × (c.linked r) × (c.bucket (c.key r) ≡ bucket_of c x)) p
path-follows c img x [] h = tt
path-follows c img x (r ∷ p) h = (
  (h.1.real, h.1.linked, h.1.bucket),
  all-rows (λ q. (1 ≤ q) × (c.linked q) × (c.bucket (c.key q) ≡ c.bucket (c.key r)))
      (λ q. (1 ≤ q) × (c.linked q) × (c.bucket (c.key q) ≡ bucket_of c x)) (λ q l. (l.0, l.1, l.2 ∙ h.1.bucket)) p (path-follows c img (Next r) p h.2),
)

-- a change before a path, or in another bucket, leaves it
pub path-lower : (c : Rows) (img new : LinkWord → ℕ) (y : LinkWord) (u : ℕ) → Changed img new y u → (x : LinkWord) (p : List ℕ) → low c y < low c x →
    Path c img x p → Path c new x p
path-lower c img new y u d x [] b h = ap row_of (d.off x (λ e. lower-apart c y x b (sym e))) ∙ h
path-lower c img new y u d x (r ∷ p) b h = (
  ap row_of (d.off x (λ e. lower-apart c y x b (sym e)))
      ∙ h.0,
  h.1,
  path-lower c img new y u d (Next r) p (omega (arith, h.1.above)) h.2,
)

pub path-other : (c : Rows) (img new : LinkWord → ℕ) (y : LinkWord) (u : ℕ) → Changed img new y u → (x : LinkWord) (p : List ℕ) →
    bucket_of c x ≢ bucket_of c y → Path c img x p → Path c new x p
path-other c img new y u d x [] b h = ap row_of (d.off x (bucket-apart c x y b)) ∙ h
path-other c img new y u d x (r ∷ p) b h = (
  ap row_of (d.off x (bucket-apart c x y b))
      ∙ h.0,
  h.1,
  path-other c img new y u d (Next r) p (λ e. b (sym h.1.bucket ∙ e)) h.2,
)

-- a path is cut at a word on it, and another path put in from there on
pub record Cut (c : Rows) (img new : LinkWord → ℕ) (x y : LinkWord) (p : List ℕ) : Type 0 where
  pub front : List ℕ
  pub rest : List ℕ
  pub parts : p ≡ front ++ rest
  pub tail : Path c img y rest
  pub splice : (q : List ℕ) → Path c new y q → Path c new x (front ++ q)
  pub below : AllByRecursion (λ r. c.key r < low c y) front

abbrev pub IsOn : LinkWord → LinkWord → List ℕ → Type 0
IsOn y x p = (y ≡ x) ⊎ ((r : ℕ) × (y ≡ Next r) × Contains p r)

pub on-above : (c : Rows) (img : LinkWord → ℕ) (x y : LinkWord) (p : List ℕ) → Path c img x p → IsOn y x p → low c x ≤ low c y
on-above c img x y p h (inl e) = let l : low c y ≡ low c x = ap (low c) e in omega arith
on-above c img x y p h (inr i) =
    let a : low c x ≤ c.key i.0 = all-in (λ r. low c x ≤ c.key r) p (path-above c img x p h) i.0 i.2 in
    let l : low c y ≡ c.key i.0 + 1 = ap (low c) i.1 in
    omega arith

pub cut : (c : Rows) (img new : LinkWord → ℕ) (u : ℕ) (x y : LinkWord) (p : List ℕ) → Changed img new y u → Path c img x p → IsOn y x p → Cut c img new x y p
cut c img new u x y p d h (inl e) = record {
  front = [];
  rest = p;
  parts = refl;
  tail = subst (λ z. Path c img z p) (sym e) h;
  splice = λ q g. subst (λ z. Path c new z q) e g;
  below = tt;
}
cut c img new u x y [] d h (inr i) = absurd (contains_none i.0 i.2)
cut c img new u x y (s ∷ p) d h (inr i) =
    let on : IsOn y (Next s) p = elim (contains_cases s p i.0 i.2) [ inl e ↦ inl (i.1 ∙ ap Next (sym e)) | inr j ↦ inr (i.0, i.1, j) ] in
    let k : Cut c img new (Next s) y p = cut c img new u (Next s) y p d h.2 on in
    let a : c.key s + 1 ≤ low c y = on-above c img (Next s) y p h.2 on in
    record {
      front = s ∷ k.front;
      rest = k.rest;
      parts = ap (λ q. s ∷ q) k.parts;
      tail = k.tail;
      splice = λ q g. (ap row_of (d.off x (lower-apart c x y (omega (arith, h.1.above)))) ∙ h.0, h.1, k.splice q g);
      below = (omega arith, k.below);
    }

-- a path from a word that leads where another does
pub path-move : (c : Rows) (img : LinkWord → ℕ) (x y : LinkWord) (p : List ℕ) → row_of (img x) ≡ row_of (img y) → (row_of (img x) ≡ 0)
    ⊎ Follows c x (row_of (img x)) → Path c img y p → Path c img x p
path-move c img x y [] e f h = e ∙ h
path-move c img x y (r ∷ p) e (inl z) h = absurd (omega (arith, h.1.real, e ∙ h.0))
path-move c img x y (r ∷ p) e (inr f) h = (e ∙ h.0, subst (λ q. Follows c x q) (e ∙ h.0) f, h.2)

pub path-same : (c : Rows) (img new : LinkWord → ℕ) (y : LinkWord) (u : ℕ) (p : List ℕ) → Changed img new y u → row_of u ≡ row_of (img y) → Path c img y p →
    Path c new y p
path-same c img new y u [] d e h = ap row_of d.here ∙ e ∙ h
path-same c img new y u (r ∷ p) d e h = (ap row_of d.here ∙ e ∙ h.0, h.1, path-lower c img new y u d (Next r) p (omega (arith, h.1.above)) h.2)

pub in-more : (r t : ℕ) (p q : List ℕ) → Contains (p ++ q) r → Contains (p ++ t ∷ q) r
in-more r t [] q i = contains_later t q r i
in-more r t (s ∷ p) q i = elim (contains_cases s (p ++ q) r i) [
  | inl e ↦ subst (λ z. Contains (s ∷ (p ++ t ∷ q)) z) e (contains_first s (p ++ t ∷ q))
  | inr j ↦ contains_later s (p ++ t ∷ q) r (in-more r t p q j)
]

pub in-mid : (t : ℕ) (p q : List ℕ) → Contains (p ++ t ∷ q) t
in-mid t [] q = contains_first t q
in-mid t (s ∷ p) q = contains_later s (p ++ t ∷ q) t (in-mid t p q)

pub in-less : (r t : ℕ) (p q : List ℕ) → r ≢ t → Contains (p ++ t ∷ q) r → Contains (p ++ q) r
in-less r t [] q ne i = elim (contains_cases t q r i) [ inl e ↦ absurd (ne (sym e)) | inr j ↦ j ]
in-less r t (s ∷ p) q ne i = elim (contains_cases s (p ++ t ∷ q) r i) [
  | inl e ↦ subst (λ z. Contains (s ∷ (p ++ q)) z) e (contains_first s (p ++ q))
  | inr j ↦ contains_later s (p ++ q) r (in-less r t p q ne j)
]
