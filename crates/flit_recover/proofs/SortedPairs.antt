-- Pairs of which each key stands once, sorted by their keys, are the entries of the map of the pairs.
use Rattle.std.proofs.Common.{◌≡◌, ◌≢◌, ℕ, suc, ◌<◌, ◌≤◌, ◌==◌, true, cond, T, List, [], ◌∷◌, length, map, get_or, count_by, Option, Some, None, nat_cmp, refl, sym, ap, ◌∙◌, subst, arith, eq-eqb}
use Rattle.std.specs.Ordering.{is_lt}
use Rattle.std.specs.FinMap as finite
use Rattle.std.specs.FinMap.Entries.{below_all}
use Rattle.std.specs.List.Sorted.{IsPermutation, IsNonDecreasingBy}
use Rattle.std.proofs.lemmas.Bool.{and_from, lt-ltb}
use Rattle.std.proofs.lemmas.Cmp.{nat_cmp_total}
use Rattle.std.proofs.lemmas.List.Sorted.{IsPermutation-sym, Contains-permutation, sum_by-IsPermutation}
use Rattle.flit_model.specs.Lists.{IsRisingFrom}
use Rattle.flit_model.proofs.Counting.{count_by-cons_yes, count_by-cons, counted}
use Rattle.flit_model.proofs.Rising.{rising_once}
use Rattle.flit_model.proofs.Membership.{find-contains, contains-find}

-- each key stands once
abbrev pub HasKeysOnce : List (ℕ × ℕ) → Type 0
HasKeysOnce pairs = (key : ℕ) → count_by (λ p. p.0 == key) pairs ≤ 1

-- ---- keys that rise are sorted

below_rising : (x low : ℕ) (es : List (ℕ × ℕ)) → x < low → IsRisingFrom low (map (λ e. e.0) es) → below_all nat_cmp x es ≡ true
below_rising x low [] less h = refl
below_rising x low (e ∷ es) less h =
    let below : x < e.0 = omega (arith, less, h.0) in
    and_from (is_lt (nat_cmp x e.0)) (below_all nat_cmp x es) (rw (lt-ltb x e.0 below) refl) (below_rising x (suc e.0) es (omega arith) h.1)

sorted_rising : (low : ℕ) (es : List (ℕ × ℕ)) → IsRisingFrom low (map (λ e. e.0) es) → finite.is_sorted nat_cmp es ≡ true
sorted_rising low [] h = refl
sorted_rising low (e ∷ es) h = and_from (below_all nat_cmp e.0 es) (finite.is_sorted nat_cmp es) (below_rising e.0 (suc e.0) es (omega arith) h.1)
    (sorted_rising (suc e.0) es h.1)

-- ---- keys that don't fall and stand once rise

rising_sorted : (low : ℕ) (es : List (ℕ × ℕ)) → ((k : ℕ) (d : ℕ × ℕ) → k < length es → low ≤ (get_or es k d).0) → IsNonDecreasingBy (λ e. e.0) es →
    HasKeysOnce es → IsRisingFrom low (map (λ e. e.0) es)
rising_sorted low [] from up once = tt
rising_sorted low (e ∷ es) from up once = (
  from 0 e (omega arith),
  rising_sorted (suc e.0) es above
      (λ i j d le below. up (suc i) (suc j) d (omega arith) (omega arith)) (λ key. omega (arith, once key, count_by-cons (λ p. p.0 == key) e es)),
)
  where
    above : (k : ℕ) (d : ℕ × ℕ) → k < length es → suc e.0 ≤ (get_or es k d).0
    above k d below =
        let le : e.0 ≤ (get_or es k d).0 = up 0 (suc k) d (omega arith) (omega arith) in
        let apart : (get_or es k d).0 ≢ e.0 = λ same. absurd (omega (
          arith,
          once e.0,
          count_by-cons_yes (λ p. p.0 == e.0) e es (eq-eqb e.0 e.0 refl),
          counted (λ p. p.0 == e.0) es k d below (eq-eqb (get_or es k d).0 e.0 same),
        )) in
        omega arith

-- ---- the map of the pairs

one_side : (key : ℕ) (xs ys : List (ℕ × ℕ)) → HasKeysOnce ys → IsPermutation xs ys → (value : ℕ) → finite.find nat_cmp key xs ≡ Some value →
    finite.find nat_cmp key ys ≡ Some value
one_side key xs ys once moved value h = contains-find key value ys (once key) (Contains-permutation xs ys (key, value) moved (find-contains key value xs h))

agree : (a b : Option ℕ) → ((value : ℕ) → a ≡ Some value → b ≡ Some value) → ((value : ℕ) → b ≡ Some value → a ≡ Some value) → a ≡ b
agree None None f g = refl
agree None (Some y) f g = g y refl
agree (Some x) b f g = sym (f x refl)

pub keys_once_moved : (xs ys : List (ℕ × ℕ)) → IsPermutation xs ys → HasKeysOnce xs → HasKeysOnce ys
keys_once_moved xs ys moved once key = omega (arith, once key, sum_by-IsPermutation (λ p. cond (p.0 == key) 1 0) xs ys moved)

pub find_moved : (key : ℕ) (xs ys : List (ℕ × ℕ)) → HasKeysOnce xs → IsPermutation xs ys → finite.find nat_cmp key xs ≡ finite.find nat_cmp key ys
find_moved key xs ys once moved = agree (finite.find nat_cmp key xs) (finite.find nat_cmp key ys)
    (one_side key xs ys (keys_once_moved xs ys moved once) moved)
    (one_side key ys xs once (IsPermutation-sym xs ys moved))

-- the entries of the map of pairs are the pairs in the order of their keys
pub entries_of_rising : (low : ℕ) (pairs rising : List (ℕ × ℕ)) → IsPermutation pairs rising → IsRisingFrom low (map (λ e. e.0) rising) →
    finite.entries (finite.from_entries {R = nat_cmp} pairs) ≡ rising
entries_of_rising low pairs rising moved up =
    let sorted : T (finite.is_sorted nat_cmp rising) = subst T (sym (sorted_rising low rising up)) tt in
    let once = keys_once_moved rising pairs (IsPermutation-sym pairs rising moved) (λ key. rising_once (λ p. p.0) key low rising up) in
    ap finite.entries (finite.same_map nat_cmp_total finite.nat_cmp-IsAntisymmetric (finite.from_entries pairs) (finite.from_sorted rising)
    (λ key. finite.get-from_entries nat_cmp_total pairs key ∙ find_moved key pairs rising once moved ∙ sym (finite.get-from_sorted nat_cmp rising key sorted)))
    ∙ finite.entries-from_sorted nat_cmp rising sorted

pub entries_of_sorted : (pairs sorted : List (ℕ × ℕ)) → HasKeysOnce pairs → IsPermutation pairs sorted → IsNonDecreasingBy (λ p. p.0) sorted →
    finite.entries (finite.from_entries {R = nat_cmp} pairs) ≡ sorted
entries_of_sorted pairs sorted once moved up = entries_of_rising 0 pairs sorted moved
    (rising_sorted 0 sorted (λ k d below. omega arith) up (keys_once_moved pairs sorted moved once))
