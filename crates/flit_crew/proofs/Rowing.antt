-- How the rows stay dealt, and that nobody has another's.
use Rattle.std.proofs.Common.{◌≡◌, ℕ, suc, ◌+◌, ◌*◌, ◌<◌, ◌≤◌, ◌==◌, cond, min, List, [], ◌∷◌, ◌++◌, length, take, slice_get, Some, sym, ◌∙◌, ap, subst, arith}
use Rattle.std.proofs.Math.Seq.{take-suc}
use Rattle.std.proofs.lemmas.Bool.{eq-eqb}
use Rattle.std.proofs.lemmas.List.{length-append, map-id}
use Rattle.std.proofs.lemmas.List.Sums.{sum_by-take-le}
use Rattle.std.proofs.lemmas.Option.{slice_get_within, get_or_from_slice_get}
use Rattle.std.specs.Prelude.{Contains}
use Rattle.flit_model.specs.Lists.{IsRisingFrom}
use Rattle.flit_model.proofs.Counting.{count_by-cons, count_by-append, counted}
use Rattle.flit_model.proofs.Rising.{rising_row_once}
use Rattle.flit_crew.specs.Rows.{times, own_times, own_many, IsDealt}

module _ {X : Type 0} (own : X → List ℕ) where
  pub times_split : (row : ℕ) (a : List X) (u : X) (b : List X) → own_times own row (a ++ u ∷ b) ≡ times own row (own u)
      + (own_times own row a + own_times own row b)
  times_split row [] u b = omega arith
  times_split row (x ∷ a) u b = ap (λ n. times own row (own x) + n) (times_split row a u b)
      ∙ turned (times own row (own x)) (times own row (own u)) (own_times own row a) (own_times own row b)
    where
      turned : (x u a b : ℕ) → x + (u + (a + b)) ≡ u + (x + a + b)
      turned x u a b = omega arith

  many_split : (a : List X) (u : X) (b : List X) → own_many own (a ++ u ∷ b) ≡ length (own u) + (own_many own a + own_many own b)
  many_split [] u b = omega arith
  many_split (x ∷ a) u b = ap (λ n. length (own x) + n) (many_split a u b) ∙ turned (length (own x)) (length (own u)) (own_many own a) (own_many own b)
    where
      turned : (x u a b : ℕ) → x + (u + (a + b)) ≡ u + (x + a + b)
      turned x u a b = omega arith

  -- a worker links all its own rows
  pub linked : (free : List ℕ) (counter : ℕ) (given : List ℕ) (a : List X) (u w : X) (b : List X) → own w ≡ [] → IsDealt own free counter given (a ++ u ∷ b) →
      IsDealt own free counter (own u ++ given) (a ++ w ∷ b)
  linked free counter given a u w b none h = record {
    rows = λ row. sums (own_times own row (a ++ w ∷ b)) (own_times own row (a ++ u ∷ b)) (times own row (own w)) (times own row (own u))
        (own_times own row a + own_times own row b) (times own row given) (times own row (own u ++ given)) (times own row (take counter free))
        (times_split row a w b) (times_split row a u b) (ap (λ xs. times own row xs) none) (count_by-append (λ r. r == row) (own u) given) (h.rows row);
    many = sums (own_many own (a ++ w ∷ b)) (own_many own (a ++ u ∷ b)) (length (own w)) (length (own u)) (own_many own a + own_many own b) (length given)
        (length (own u ++ given)) (min counter (length free))
        (many_split a w b) (many_split a u b) (ap length none) (length-append (own u) given) h.many;
  }
    where
      sums : (s r w u x g j t : ℕ) → s ≡ w + x → r ≡ u + x → w ≡ 0 → j ≡ u + g → r + g ≡ t → s + j ≡ t
      sums s r w u x g j t e d z i h = omega (arith, e, d, z, i, h)

  -- a worker goes on with the same rows
  pub followed : (free : List ℕ) (counter : ℕ) (given : List ℕ) (a : List X) (u w : X) (b : List X) → own w ≡ own u →
      IsDealt own free counter given (a ++ u ∷ b) → IsDealt own free counter given (a ++ w ∷ b)
  followed free counter given a u w b same h = record {
    rows = λ row. ap (λ n. n + times own row given) (times_split row a w b ∙ ap (λ xs. times own row xs + (own_times own row a + own_times own row b)) same
        ∙ sym (times_split row a u b)) ∙ h.rows row;
    many = ap (λ n. n + length given) (many_split a w b ∙ ap (λ xs. length xs + (own_many own a + own_many own b)) same ∙ sym (many_split a u b)) ∙ h.many;
  }

  -- a worker draws the next row of the pool
  pub drawn : (free : List ℕ) (counter : ℕ) (given : List ℕ) (a : List X) (u w : X) (b : List X) (row : ℕ) → slice_get free counter ≡ Some row →
      ((r : ℕ) → times own r (own w) ≡ times own r (row ∷ own u)) → length (own w) ≡ suc (length (own u)) → IsDealt own free counter given (a ++ u ∷ b) →
      IsDealt own free (suc counter) given (a ++ w ∷ b)
  drawn free counter given a u w b row has more longer h =
      let below : counter < length free = slice_get_within free counter row has in
      let taken : take (suc counter) free ≡ take counter free ++ row ∷ [] = take-suc free counter row below
      ∙ ap (λ r. take counter free ++ r ∷ []) (get_or_from_slice_get free counter row row has) in
      record {
        rows = λ r. sums (own_times own r (a ++ w ∷ b)) (own_times own r (a ++ u ∷ b)) (times own r (own w)) (times own r (own u))
            (own_times own r a + own_times own r b) (times own r given) (cond (row == r) 1 0) (times own r (take counter free))
            (times own r (take (suc counter) free)) (times own r (row ∷ []))
            (times_split r a w b) (times_split r a u b) (more r ∙ count_by-cons (λ x. x == r) row (own u)) (ap (λ xs. times own r xs) taken
            ∙ count_by-append (λ x. x == r) (take counter free) (row ∷ [])) (count_by-cons (λ x. x == r) row []) (h.rows r);
        many = lengths (own_many own (a ++ w ∷ b)) (own_many own (a ++ u ∷ b)) (length (own w)) (length (own u)) (own_many own a + own_many own b)
            (length given) counter (length free) (many_split a w b) (many_split a u b) longer below h.many;
      }
    where
      sums : (s r w u x g c t n o : ℕ) → s ≡ w + x → r ≡ u + x → w ≡ c + u → n ≡ t + o → o ≡ c + 0 → r + g ≡ t → s + g ≡ n
      sums s r w u x g c t n o e d i j k h = omega (arith, e, d, i, j, k, h)

      lengths : (s r w u x g c n : ℕ) → s ≡ w + x → r ≡ u + x → w ≡ suc u → c < n → r + g ≡ min c n → s + g ≡ min (suc c) n
      lengths s r w u x g c n e d i lt h = omega (arith, e, d, i, lt, h)

  -- ---- nobody has another's row, or one that was linked

  pub contained : (row : ℕ) (xs : List ℕ) → Contains xs row → 1 ≤ times own row xs
  contained row xs h = counted (λ r. r == row) xs h.0 row h.1 (eq-eqb _ row h.2)

  pub once : (free : List ℕ) (counter row : ℕ) → IsRisingFrom 0 free → times own row (take counter free) ≤ 1
  once free counter row rising = through (times own row (take counter free)) (times own row free) (sum_by-take-le (λ r. cond (r == row) 1 0) free counter)
      (rising_row_once (λ r. r) row 0 free (subst (IsRisingFrom 0) (sym (map-id free)) rising))
    where
      through : (a b : ℕ) → a ≤ b → b ≤ 1 → a ≤ 1
      through a b i j = omega (arith, i, j)

  others : (row : ℕ) (a : List X) (v : X) (b : List X) → Contains (own v) row → 1 ≤ own_times own row (a ++ v ∷ b)
  others row a v b has = more (own_times own row (a ++ v ∷ b)) (times own row (own v)) (own_times own row a + own_times own row b) (times_split row a v b)
      (contained row (own v) has)
    where
      more : (s v x : ℕ) → s ≡ v + x → 1 ≤ v → 1 ≤ s
      more s v x e i = omega (arith, e, i)

  -- of one among others: u's row isn't v's, and none of theirs was linked
  pub apart_left : (free : List ℕ) (counter : ℕ) (given : List ℕ) (x : List X) (v : X) (y : List X) (u : X) (b : List X) (row : ℕ) → IsRisingFrom 0 free →
      IsDealt own free counter given ((x ++ v ∷ y) ++ u ∷ b) →
      Contains (own v) row → (Contains (own u) row → ⊥) × (Contains given row → ⊥)
  apart_left free counter given x v y u b row rising h has = (
    λ mine. twice (own_times own row ((x ++ v ∷ y) ++ u ∷ b)) (times own row (own u)) (own_times own row (x ++ v ∷ y)) (own_times own row b)
        (times own row given) (times own row (take counter free))
        (times_split row (x ++ v ∷ y) u b) (contained row (own u) mine) (others row x v y has) (h.rows row) (once free counter row rising),
    λ linked. again (own_times own row ((x ++ v ∷ y) ++ u ∷ b)) (times own row (own u)) (own_times own row (x ++ v ∷ y)) (own_times own row b)
        (times own row given) (times own row (take counter free))
        (times_split row (x ++ v ∷ y) u b) (contained row given linked) (others row x v y has) (h.rows row) (once free counter row rising),
  )
    where
      twice : (s u v b g t : ℕ) → s ≡ u + (v + b) → 1 ≤ u → 1 ≤ v → s + g ≡ t → t ≤ 1 → ⊥
      twice s u v b g t e i j h o = omega (arith, e, i, j, h, o)

      again : (s u v b g t : ℕ) → s ≡ u + (v + b) → 1 ≤ g → 1 ≤ v → s + g ≡ t → t ≤ 1 → ⊥
      again s u v b g t e i j h o = omega (arith, e, i, j, h, o)

-- ---- no more workers without a row than there are inserts: the bound on Full

pub bound : (own given inserts need workers room counter others : ℕ) → own + given ≡ min counter room → given ≡ need * inserts → room ≤ counter →
    own < need + others → others ≤ need * workers → need + need * workers ≡ need * suc workers → room < need * inserts + need * suc workers
bound own given inserts need workers room counter others h g le own_few others_few split = omega (arith, h, g, le, own_few, others_few, split)
