-- How many workers and how many rows there are at most.
use Rattle.std.proofs.Common.{◌≡◌, ◌≢◌, ◌⊎◌, inl, inr, ℕ, zero, suc, ◌+◌, ◌-◌, ◌<◌, ◌≤◌, Bool, true, false, cond, List, [], ◌∷◌, length, count_by, subst, arith}
use Rattle.std.specs.List.{AllByRecursion}
use Rattle.flit_words.specs.declared.layouts.Layout.{Layout}
use Rattle.flit_words.specs.declared.layouts.Kind.{Kind}
use Rattle.flit_words.specs.declared.layouts.Kind.TheVariants.{List as List_kind, Hash, Tree}
use Rattle.flit_words.specs.Layouts.{Accepted, last_row_of, first_row_of}
use Rattle.flit_model.specs.Lists.{IsRisingFrom}
use Rattle.flit_model.proofs.Counting.{count_by-cons}
use Rattle.flit_model.proofs.Elements.{all_weaker, all_zip}
use Rattle.flit_place.specs.Tags.{Place}
use Rattle.flit_runs.specs.Worlds.{Actor}
use Rattle.flit_structure.specs.declared.workers.Worker.{Worker}
use Rattle.flit_structure.specs.Moments.{IsNew, HaveDifferentNames}
use Rattle.flit_crew.specs.Heaps.{Heap}
use Rattle.flit_crew.specs.Accounts.{IsPool}
use Rattle.flit_crew.specs.Crews.{Crew, AllAct}

pub count_few : {X : Type 0} (P : X → Bool) (xs : List X) → count_by P xs ≤ length xs
count_few P [] = omega arith
count_few P (x ∷ xs) = by_test (P x) (count_by P xs) (length xs) (count_by P (x ∷ xs)) (count_by-cons P x xs) (count_few P xs)
  where
    by_test : (t : Bool) (n l m : ℕ) → m ≡ cond t 1 0 + n → n ≤ l → m ≤ suc l
    by_test true n l m e le = omega (arith, e, le)
    by_test false n l m e le = omega (arith, e, le)

-- ---- numbers that rise

rising_few : (low high : ℕ) (xs : List ℕ) → IsRisingFrom low xs → AllByRecursion (λ x. x ≤ high) xs → low ≤ suc high → length xs + low ≤ suc high
rising_few low high [] rising all le = zero_first low high le
  where
    zero_first : (x y : ℕ) → x ≤ suc y → 0 + x ≤ suc y
    zero_first x y h = omega (arith, h)
rising_few low high (x ∷ xs) rising all le = longer (length xs) low x high rising.0 (rising_few (suc x) high xs rising.1 all.1 (step x high all.0))
  where
    step : (x h : ℕ) → x ≤ h → suc x ≤ suc h
    step x h i = omega (arith, i)

    longer : (n low x high : ℕ) → low ≤ x → n + suc x ≤ suc high → suc n + low ≤ suc high
    longer n low x high i h = omega (arith, i, h)

pub pool_few : (l : Layout) (free : List ℕ) → IsPool l free → length free ≤ last_row_of l
pool_few l free pool = less (length free) (last_row_of l) (rising_few 1 (last_row_of l) free pool.rising pool.fit (one (last_row_of l)))
  where
    one : (n : ℕ) → 1 ≤ suc n
    one n = omega arith

    less : (n m : ℕ) → n + 1 ≤ suc m → n ≤ m
    less n m h = omega (arith, h)

pub last_row_small : (l : Layout) → Accepted l → last_row_of l ≤ 1048580
last_row_small l a = by_kind l.kind
  where
    few : l.rows ≤ 1048575
    few = a.most_row

    by_kind : (k : Kind) → l.rows + (first_row_of k - 1) ≤ 1048580
    by_kind List_kind = omega (arith, few)
    by_kind Hash = omega (arith, few)
    by_kind Tree = omega (arith, few)

-- ---- different names

-- the name that is the greatest possible stands once at most
record Parts {Op : Type 0} (us : List (Worker Op)) (n : ℕ) : Type 0 where
  others : List (Worker Op)
  long : length us ≤ suc (length others)
  different : HaveDifferentNames others
  below : AllByRecursion (λ u. u.name ≤ n) others
  new : (m : ℕ) → IsNew m us → IsNew m others

module _ {Op : Type 0} where
  all_below : (n : ℕ) (us : List (Worker Op)) → AllByRecursion (λ u. u.name ≤ suc n) us → IsNew (suc n) us → AllByRecursion (λ u. u.name ≤ n) us
  all_below n us all new = all_zip (λ u. u.name ≤ suc n) (λ u. u.name ≢ suc n) (λ u. u.name ≤ n) (λ u i ne. less u.name n i ne) us all new
    where
      less : (x n : ℕ) → x ≤ suc n → x ≢ suc n → x ≤ n
      less x n i ne = omega (arith, i, ne)

  without : (n : ℕ) (us : List (Worker Op)) → HaveDifferentNames us → AllByRecursion (λ u. u.name ≤ suc n) us → Parts us n
  without n [] different all = record { others = []; long = omega arith; different = tt; below = tt; new = λ m k. tt }
  without n (u ∷ us) different all = by_name (without n us different.1 all.1) (cases u.name n all.0)
    where
      cases : (x n : ℕ) → x ≤ suc n → (x ≡ suc n) ⊎ (x ≤ n)
      cases x n i = by_test (Rattle.std.proofs.lemmas.Bool.cases_lt n x)
        where
          by_test : (n < x) ⊎ (x ≤ n) → (x ≡ suc n) ⊎ (x ≤ n)
          by_test (inl a) = inl (omega (arith, a, i))
          by_test (inr b) = inr b

      by_name : Parts us n → (u.name ≡ suc n) ⊎ (u.name ≤ n) → Parts (u ∷ us) n
      by_name rest (inl e) = record {
        others = us;
        long = omega arith;
        different = different.1;
        below =
            all_below n us all.1 (subst (λ m. IsNew m us) e different.0);
        new = λ m k. k.1;
      }
      by_name rest (inr le) = record {
        others = u ∷ rest.others;
        long = longer (length us) (length rest.others) rest.long;
        different = (rest.new u.name different.0, rest.different);
        below = (le, rest.below);
        new = λ m k. (k.0, rest.new m k.1);
      }
        where
          longer : (x y : ℕ) → x ≤ suc y → suc x ≤ suc (suc y)
          longer x y h = omega (arith, h)

  pub workers_few : (n : ℕ) (us : List (Worker Op)) → HaveDifferentNames us → AllByRecursion (λ u. (1 ≤ u.name) × (u.name ≤ n)) us → length us ≤ n
  workers_few n us different all = up n us different (all_weaker (λ u. (1 ≤ u.name) × (u.name ≤ n)) (λ u. u.name ≤ n) (λ u k. k.1) us all)
      (all_weaker (λ u. (1 ≤ u.name) × (u.name ≤ n)) (λ u. u.name ≢ 0) (λ u k. positive u.name k.0) us all)
    where
      positive : (x : ℕ) → 1 ≤ x → x ≢ 0
      positive x i e = omega (arith, i, e)

      up : (n : ℕ) (us : List (Worker Op)) → HaveDifferentNames us → AllByRecursion (λ u. u.name ≤ n) us → IsNew 0 us → length us ≤ n
      up zero [] different all new = omega arith
      up zero (u ∷ us) different all new = absurd (new.0 (zero_is u.name all.0))
        where
          zero_is : (x : ℕ) → x ≤ 0 → x ≡ 0
          zero_is x i = omega (arith, i)
      up (suc n) us different all new = let r = without n us different all in
          through (length us) (length r.others) n r.long (up n r.others r.different r.below (r.new 0 new))
        where
          through : (a b n : ℕ) → a ≤ suc b → b ≤ n → a ≤ suc n
          through a b n i j = omega (arith, i, j)

pub names_within : {G Op : Type 0} (c : Crew G Op) (l : Layout) (p : Place) (free : List ℕ) (h : Heap G) (us : List (Worker Op)) (gs : List Actor) →
    AllAct c l p free h us gs → AllByRecursion (λ u. (1 ≤ u.name) × (u.name ≤ l.workers)) us
names_within c l p free h [] gs m = tt
names_within c l p free h (u ∷ us) [] m = absurd m
names_within c l p free h (u ∷ us) (g ∷ gs) m = ((m.0.least, m.0.most), names_within c l p free h us gs m.1)
