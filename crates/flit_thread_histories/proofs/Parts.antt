-- Parts of a list, each under its own name; and lists that go along with each other.
use Rattle.std.proofs.Common.{◌≡◌, ◌≢◌, ℕ, suc, ◌+◌, ◌<◌, ◌≤◌, ◌==◌, true, false, List, [], ◌∷◌, ◌++◌, filter, flat_map, count_by, length, map, refl, sym, ◌∙◌, ap, arith, append_assoc, append-nil, ne_eqb}
use Rattle.std.proofs.lemmas.Bool.{eq-eqb}
use Rattle.std.proofs.lemmas.List.Elements.{filter-append}
use Rattle.std.specs.List.{AllByRecursion}
use Rattle.flit_model.proofs.Counting.{count_by-cons_no, count_by-append}
use Rattle.flit_model.proofs.Elements.{filter-all}
use Rattle.flit_model.proofs.HistoryLaws.{filter_none}
use Rattle.flit_structure.proofs.Names.{all_both, all_map}
use Rattle.flit_workers.specs.Ends.{AllInOrder}

module _ {X Y : Type 0} where
  pub along : (P Q : ℕ → X → Y → Type 0) (n : ℕ) (xs : List X) (ys : List Y) → ((k : ℕ) (x : X) (y : Y) → n ≤ k → P k x y → Q k x y) → AllInOrder P n xs ys →
      AllInOrder Q n xs ys
  along P Q n [] [] f h = tt
  along P Q n [] (y ∷ ys) f h = absurd h
  along P Q n (x ∷ xs) [] f h = absurd h
  along P Q n (x ∷ xs) (y ∷ ys) f h = (f n x y (omega arith) h.0, along P Q (suc n) xs ys (λ k a b le. f k a b (omega (arith, le))) h.1)

  pub along_both : (P Q : ℕ → X → Y → Type 0) (n : ℕ) (xs : List X) (ys : List Y) → AllInOrder P n xs ys → AllInOrder Q n xs ys →
      AllInOrder (λ k x y. P k x y × Q k x y) n xs ys
  along_both P Q n [] [] h k = tt
  along_both P Q n [] (y ∷ ys) h k = absurd h
  along_both P Q n (x ∷ xs) [] h k = absurd h
  along_both P Q n (x ∷ xs) (y ∷ ys) h k = ((h.0, k.0), along_both P Q (suc n) xs ys h.1 k.1)

  -- what is true of each of the second list
  pub along_second : (P : ℕ → X → Y → Type 0) (Q : Y → Type 0) (n : ℕ) (xs : List X) (ys : List Y) → ((k : ℕ) (x : X) (y : Y) → P k x y → Q y) →
      AllInOrder P n xs ys → AllByRecursion Q ys
  along_second P Q n [] [] f h = tt
  along_second P Q n [] (y ∷ ys) f h = absurd h
  along_second P Q n (x ∷ xs) [] f h = absurd h
  along_second P Q n (x ∷ xs) (y ∷ ys) f h = (f n x y h.0, along_second P Q (suc n) xs ys f h.1)

-- counted from the next number, and with the second list mapped
pub along_mapped : {X Y Z : Type 0} (Q : ℕ → X → Z → Type 0) (f : Y → Z) (n : ℕ) (xs : List X) (ys : List Y) → AllInOrder (λ k x y. Q (suc k) x (f y)) n xs ys →
    AllInOrder Q (suc n) xs (map f ys)
along_mapped Q f n [] [] h = tt
along_mapped Q f n [] (y ∷ ys) h = absurd h
along_mapped Q f n (x ∷ xs) [] h = absurd h
along_mapped Q f n (x ∷ xs) (y ∷ ys) h = (h.0, along_mapped Q f (suc n) xs ys h.1)

module _ {X : Type 0} (key : X → ℕ) where
  abbrev NotUnder : ℕ → X → Type 0
  NotUnder name x = key x ≢ name

  -- a stretch of a list, around which nothing is under a name
  pub record StandsApart (name : ℕ) (part all : List X) : Type 0 where
    pub front : List X
    pub back : List X
    pub is : all ≡ front ++ (part ++ back)
    pub before : AllByRecursion (λ x. key x ≢ name) front
    pub behind : AllByRecursion (λ x. key x ≢ name) back

  pub own_test : (name : ℕ) (xs : List X) → AllByRecursion (λ x. key x ≡ name) xs → AllByRecursion (λ x. (key x == name) ≡ true) xs
  own_test name xs h = all_map (λ x. key x ≡ name) (λ x. (key x == name) ≡ true) (λ x e. eq-eqb (key x) name e) xs h

  pub other_test : (name : ℕ) (xs : List X) → AllByRecursion (NotUnder name) xs → AllByRecursion (λ x. (key x == name) ≡ false) xs
  other_test name xs h = all_map (NotUnder name) (λ x. (key x == name) ≡ false) (λ x e. ne_eqb (key x) name e) xs h

  pub none_under : (name : ℕ) (xs : List X) → AllByRecursion (NotUnder name) xs → filter (λ x. key x == name) xs ≡ []
  none_under name xs h = filter_none (λ x. key x == name) xs (other_test name xs h)

  -- so what is under the name is in the stretch
  pub under_apart : (name : ℕ) (part all : List X) → StandsApart name part all → filter (λ x. key x == name) all ≡ filter (λ x. key x == name) part
  under_apart name part all s =
      ap (filter (λ x. key x == name)) s.is ∙ filter-append (λ x. key x == name) s.front (part ++ s.back)
      ∙ ap (λ l. l ++ filter (λ x. key x == name) (part ++ s.back)) (none_under name s.front s.before)
      ∙ filter-append (λ x. key x == name) part s.back
      ∙ ap (λ l. filter (λ x. key x == name) part ++ l) (none_under name s.back s.behind)
      ∙ append-nil (filter (λ x. key x == name) part)

  pub under_own : (name : ℕ) (part all : List X) → AllByRecursion (λ x. key x ≡ name) part → StandsApart name part all → filter (λ x. key x == name) all ≡ part
  under_own name part all own s = under_apart name part all s ∙ filter-all (λ x. key x == name) part (own_test name part own)

  -- one list of parts, the first under a name, and each other under the next
  module _ {W E : Type 0} (part : E → List X) where
    abbrev pub OwnPart : ℕ → W → E → Type 0
    OwnPart k w e = AllByRecursion (λ x. key x ≡ suc k) (part e)

    pub parts_within : (n : ℕ) (ws : List W) (es : List E) → AllInOrder OwnPart n ws es →
        AllByRecursion (λ x. (n < key x) × (key x ≤ n + length ws)) (flat_map part es)
    parts_within n [] [] h = tt
    parts_within n [] (e ∷ es) h = absurd h
    parts_within n (w ∷ ws) [] h = absurd h
    parts_within n (w ∷ ws) (e ∷ es) h =
        all_both (λ x. (n < key x) × (key x ≤ n + suc (length ws))) (part e) (flat_map part es)
        (all_map (λ x. key x ≡ suc n) (λ x. (n < key x) × (key x ≤ n + suc (length ws))) (λ x q. (omega (arith, q), omega (arith, q))) (part e) h.0)
        (all_map (λ x. (suc n < key x) × (key x ≤ suc n + length ws)) (λ x. (n < key x) × (key x ≤ n + suc (length ws)))
        (λ x q. (let a = q.0 in omega (arith, a), let b = q.1 in omega (arith, b)))
        (flat_map part es) (parts_within (suc n) ws es h.1))

    abbrev pub PartApart : List E → ℕ → W → E → Type 0
    PartApart es k w e = StandsApart (suc k) (part e) (flat_map part es)

    pub parts_apart : (n : ℕ) (ws : List W) (es : List E) → AllInOrder OwnPart n ws es → AllInOrder (PartApart es) n ws es
    parts_apart n [] [] h = tt
    parts_apart n [] (e ∷ es) h = absurd h
    parts_apart n (w ∷ ws) [] h = absurd h
    parts_apart n (w ∷ ws) (e ∷ es) h = (
      record {
        front = [];
        back = flat_map part es;
        is = refl;
        before = tt;
        behind = all_map (λ x. (suc n < key x) × (key x ≤ suc n + length ws)) (NotUnder (suc n)) (λ x q same. (let a = q.0 in omega (arith, a, same)))
            (flat_map part es) (parts_within (suc n) ws es h.1);
      },
      along (PartApart es) (PartApart (e ∷ es)) (suc n) ws es (λ k v d le s. further k d le s) (parts_apart (suc n) ws es h.1),
    )
      where
        further : (k : ℕ) (d : E) → suc n ≤ k → StandsApart (suc k) (part d) (flat_map part es) → StandsApart (suc k) (part d) (flat_map part (e ∷ es))
        further k d le s = record {
          front = part e ++ s.front;
          back = s.back;
          is = ap (λ l. part e ++ l) s.is ∙ sym (append_assoc (part e) s.front (part d ++ s.back));
          before = all_both (NotUnder (suc k)) (part e) s.front
              (all_map (λ x. key x ≡ suc n) (NotUnder (suc k)) (λ x q same. omega (arith, le, q, same)) (part e) h.0) s.before;
          behind = s.behind;
        }

-- how often a name stands in a list of names: as often as in the stretch around which it doesn't stand
pub count_none : (name : ℕ) (xs : List ℕ) → AllByRecursion (λ x. (x == name) ≡ false) xs → count_by (λ x. x == name) xs ≡ 0
count_none name [] h = refl
count_none name (x ∷ xs) h = count_by-cons_no (λ y. y == name) x xs h.0 ∙ count_none name xs h.1

pub count_apart : (name : ℕ) (part all : List ℕ) → StandsApart (λ x. x) name part all → count_by (λ x. x == name) all ≡ count_by (λ x. x == name) part
count_apart name part all s =
    let whole = ap (count_by (λ x. x == name)) s.is ∙ count_by-append (λ x. x == name) s.front (part ++ s.back) in
    let rest = count_by-append (λ x. x == name) part s.back in
    let front = count_none name s.front (other_test (λ x. x) name s.front s.before) in
    let back = count_none name s.back (other_test (λ x. x) name s.back s.behind) in
    omega (arith, whole, rest, front, back)
