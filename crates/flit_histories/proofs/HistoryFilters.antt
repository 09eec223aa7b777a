-- What a filter keeps of a history of which it keeps one update, one read or nothing.
use Rattle.std.proofs.Common.{◌≡◌, ◌≢◌, ℕ, suc, ◌+◌, ◌<◌, ◌≤◌, ◌==◌, eqb, Bool, true, false, cond, List, [], ◌∷◌, ◌++◌, length, map, filter, refl, sym, ◌∙◌, ap, subst, arith}
use Rattle.std.proofs.lemmas.Bool.{false≢true, eqb-true}
use Rattle.std.proofs.lemmas.Bool.Decides.{nat_tests}
use Rattle.std.proofs.lemmas.List.Elements.{filter-append}
use Rattle.std.specs.List.{AllByRecursion}
use Rattle.flit_model.specs.Histories.{stands_before, put_in_order, in_order, reads_at, history_from}
use Rattle.flit_model.specs.declared.calls.Entry.{Entry}
use Rattle.flit_model.specs.declared.calls.Placed.{Placed}
use Rattle.flit_model.proofs.HistoryLaws.{all-reads_at, filter_none}
use Rattle.flit_structure.proofs.Names.{all_map}

same_position : (k n : ℕ) → k ≡ n → eqb k n ≡ true
same_position k n h = grind (arith, nat_tests)

other_position : (k n : ℕ) → k ≢ n → eqb k n ≡ false
other_position k n h = grind (arith, nat_tests)

-- what a filter passes is none, or one and the others
pub filter_split : {X : Type 0} (p : X → Bool) (xs : List X) (y : X) (ys : List X) → filter p xs ≡ y ∷ ys → (f : List X) × (g : List X) × (xs ≡ f ++ y ∷ g)
    × (p y ≡ true)
filter_split p [] y ys h = absurd (cc)
filter_split {X} p (x ∷ xs) y ys h = by_test (p x) refl (filter_split p xs y ys) h
  where
    by_test : (t : Bool) → p x ≡ t → (filter p xs ≡ y ∷ ys → (f : List X) × (g : List X) × (xs ≡ f ++ y ∷ g) × (p y ≡ true)) →
        cond t (x ∷ filter p xs) (filter p xs) ≡ y ∷ ys →
        (f : List X) × (g : List X) × (x ∷ xs ≡ f ++ y ∷ g) × (p y ≡ true)
    by_test true is rest k = let same : x ≡ y = cc in ([], xs, ap (λ z. z ∷ xs) same, subst (λ z. p z ≡ true) same is)
    by_test false is rest k = let o = rest k in (x ∷ o.0, o.1, ap (λ zs. x ∷ zs) o.2, o.3)

-- where at most one passes, one that stands there and passes is what passes
pub filter_only : {X : Type 0} (p : X → Bool) (f g : List X) (x : X) → p x ≡ true → length (filter p (f ++ x ∷ g)) ≤ 1 → filter p (f ++ x ∷ g) ≡ x ∷ []
filter_only p f g x is most = whole ∙ alone (filter p f) (filter p g) (subst (λ ys. length ys ≤ 1) whole most)
  where
    whole : filter p (f ++ x ∷ g) ≡ filter p f ++ x ∷ filter p g
    whole = filter-append p f (x ∷ g) ∙ ap (λ t. filter p f ++ cond t (x ∷ filter p g) (filter p g)) is

    alone : (us vs : List _) → length (us ++ x ∷ vs) ≤ 1 → us ++ x ∷ vs ≡ x ∷ []
    alone [] [] h = refl
    alone [] (v ∷ vs) h = absurd (omega arith)
    alone (u ∷ us) vs h = absurd (too_long us vs h)
      where
        too_long : (us vs : List _) → length (u ∷ (us ++ x ∷ vs)) ≤ 1 → ⊥
        too_long [] vs h = omega arith
        too_long (w ∷ us) vs h = omega arith

module _ (p : Entry → Bool) where
  -- putting one more in order
  put_out : (x : Entry) (ds : List Entry) → p x ≡ false → filter p (put_in_order x ds) ≡ filter p ds
  put_out x [] h = ap (λ t. cond t (x ∷ []) []) h
  put_out x (d ∷ ds) h = by_test (put_out x ds h) (stands_before x d)
    where
      by_test : filter p (put_in_order x ds) ≡ filter p ds → (t : Bool) → filter p (cond t (x ∷ d ∷ ds) (d ∷ put_in_order x ds)) ≡ filter p (d ∷ ds)
      by_test rest true = ap (λ t. cond t (x ∷ filter p (d ∷ ds)) (filter p (d ∷ ds))) h
      by_test rest false = ap (λ ys. cond (p d) (d ∷ ys) ys) rest

  none_first : (d : Entry) (ds : List Entry) → filter p (d ∷ ds) ≡ [] → (p d ≡ false) × (filter p ds ≡ [])
  none_first d ds h = by_test (p d) refl h
    where
      by_test : (t : Bool) → p d ≡ t → cond t (d ∷ filter p ds) (filter p ds) ≡ [] → (p d ≡ false) × (filter p ds ≡ [])
      by_test true is k = absurd (cc)
      by_test false is k = (is, k)

  put_in : (x : Entry) (ds : List Entry) → p x ≡ true → filter p ds ≡ [] → filter p (put_in_order x ds) ≡ x ∷ []
  put_in x [] h none = ap (λ t. cond t (x ∷ []) []) h
  put_in x (d ∷ ds) h none = by_test (put_in x ds h (none_first d ds none).1) (stands_before x d)
    where
      by_test : filter p (put_in_order x ds) ≡ x ∷ [] → (t : Bool) → filter p (cond t (x ∷ d ∷ ds) (d ∷ put_in_order x ds)) ≡ x ∷ []
      by_test rest true = ap (λ t. cond t (x ∷ filter p (d ∷ ds)) (filter p (d ∷ ds))) h ∙ ap (λ ys. x ∷ ys) none
      by_test rest false = ap (λ t. cond t (d ∷ filter p (put_in_order x ds)) (filter p (put_in_order x ds))) (none_first d ds none).0 ∙ rest

  none_at : (n : ℕ) (reads : List Placed) → AllByRecursion (λ q. p q.entry ≡ false) reads → filter p (reads_at n reads) ≡ []
  none_at n reads h = filter_none p (reads_at n reads) (all-reads_at (λ x. p x ≡ false) n reads
      (all_map (λ q. p q.entry ≡ false) (λ q. q.position ≡ n → p q.entry ≡ false) (λ q k i. k) reads h))

  -- where no read passes, the updates that pass
  pub filter_updates : (n : ℕ) (us : List Entry) (reads : List Placed) → AllByRecursion (λ q. p q.entry ≡ false) reads →
      filter p (history_from n us reads) ≡ filter p us
  filter_updates n [] reads h = none_at n reads h
  filter_updates n (u ∷ us) reads h =
      filter-append p (reads_at n reads) (u ∷ history_from (suc n) us reads)
      ∙ ap (λ xs. xs ++ filter p (u ∷ history_from (suc n) us reads)) (none_at n reads h)
      ∙ ap (λ ys. cond (p u) (u ∷ ys) ys) (filter_updates (suc n) us reads h)

  module _ (front back : List Placed) (q : Placed) (is : p q.entry ≡ true) (f : AllByRecursion (λ x. p x.entry ≡ false) front)
      (g : AllByRecursion (λ x. p x.entry ≡ false) back) where
    at_front : (n : ℕ) (xs : List Placed) → AllByRecursion (λ x. p x.entry ≡ false) xs →
        filter p (reads_at n (xs ++ q ∷ back)) ≡ cond (q.position == n) (q.entry ∷ []) []
    at_front n [] h = by_test (q.position == n)
      where
        by_test : (t : Bool) → filter p (in_order (map (λ r. r.entry) (cond t (q ∷ filter (λ r. r.position == n) back) (filter (λ r. r.position == n) back)))) ≡
            cond t (q.entry ∷ []) []
        by_test true = put_in q.entry (reads_at n back) is (none_at n back g)
        by_test false = none_at n back g
    at_front n (x ∷ xs) h = by_test (at_front n xs h.1) (x.position == n)
      where
        by_test : filter p (reads_at n (xs ++ q ∷ back)) ≡ cond (q.position == n) (q.entry ∷ []) [] → (t : Bool) →
            filter p (in_order (map (λ r. r.entry) (cond t (x ∷ filter (λ r. r.position == n) (xs ++ q ∷ back))
            (filter (λ r. r.position == n) (xs ++ q ∷ back))))) ≡ cond (q.position == n) (q.entry ∷ []) []
        by_test rest true = put_out x.entry (reads_at n (xs ++ q ∷ back)) h.0 ∙ rest
        by_test rest false = rest

    abbrev reads : List Placed
    reads = front ++ q ∷ back

    behind_all : (n : ℕ) (us : List Entry) → q.position < n → AllByRecursion (λ u. p u ≡ false) us → filter p (history_from n us reads) ≡ []
    behind_all n [] less h = at_front n front f ∙ ap (λ t. cond t (q.entry ∷ []) []) (other_position q.position n (λ e. omega (arith, e, less)))
    behind_all n (u ∷ us) less h =
        filter-append p (reads_at n reads) (u ∷ history_from (suc n) us reads)
        ∙ ap (λ xs. xs ++ filter p (u ∷ history_from (suc n) us reads)) (at_front n front f
        ∙ ap (λ t. cond t (q.entry ∷ []) []) (other_position q.position n (λ e. omega (arith, e, less))))
        ∙ ap (λ t. cond t (u ∷ filter p (history_from (suc n) us reads)) (filter p (history_from (suc n) us reads))) h.0
        ∙ behind_all (suc n) us (omega arith) h.1

    -- where one read passes and no update, this read
    pub filter_read : (n : ℕ) (us : List Entry) → n ≤ q.position → q.position ≤ n + length us → AllByRecursion (λ u. p u ≡ false) us →
        filter p (history_from n us reads) ≡ q.entry ∷ []
    filter_read n [] low high h = at_front n front f ∙ ap (λ t. cond t (q.entry ∷ []) []) (same_position q.position n (omega arith))
    filter_read n (u ∷ us) low high h =
        filter-append p (reads_at n reads) (u ∷ history_from (suc n) us reads)
        ∙ ap (λ t. filter p (reads_at n reads) ++ cond t (u ∷ filter p (history_from (suc n) us reads)) (filter p (history_from (suc n) us reads))) h.0
        ∙ by_test (λ apart. filter_read (suc n) us (later q.position n low apart) (omega arith) h.1) (eqb q.position n) refl
      where
        by_test : (q.position ≢ n → filter p (history_from (suc n) us reads) ≡ q.entry ∷ []) → (t : Bool) → eqb q.position n ≡ t →
            filter p (reads_at n reads) ++ filter p (history_from (suc n) us reads) ≡ q.entry ∷ []
        by_test rest true e =
            let same = eqb-true q.position n e in
            ap (λ xs. xs ++ filter p (history_from (suc n) us reads)) (at_front n front f ∙ ap (λ t. cond t (q.entry ∷ []) []) e)
            ∙ ap (λ ys. q.entry ∷ ys) (behind_all (suc n) us (omega (arith, same)) h.1)
        by_test rest false e =
            let apart : q.position ≢ n = λ k. false≢true (sym e ∙ same_position q.position n k) in
            ap (λ xs. xs ++ filter p (history_from (suc n) us reads)) (at_front n front f ∙ ap (λ t. cond t (q.entry ∷ []) []) e)
            ∙ rest apart

        later : (k m : ℕ) → m ≤ k → k ≢ m → suc m ≤ k
        later k m le ne = omega (arith, ne)
