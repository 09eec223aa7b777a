-- What a call does to the map at its own key and at others, and the book of keys and values.
use Rattle.std.proofs.Common.{◌≡◌, ◌≢◌, ℕ, zero, suc, ◌<◌, ◌≤◌, eqb, Bool, true, false, cond, List, [], ◌∷◌, length, map, get_or, is_some, refl, sym, ◌∙◌, ap, arith, Option, Some, None, Ok, Err, ◌⊎◌, inl, inr, zip}
use Rattle.std.proofs.Math.ListN.{set}
use Rattle.std.proofs.lemmas.Bool.{eqb-true, eq-eqb}
use Rattle.std.specs.Ordering.{nat_cmp, eq_by_cmp}
use Rattle.std.specs.Cmp.{nat_cmp_total, unsigned_tied}
use Rattle.std.specs.FinMap as fin
use Rattle.std.specs.FinMap.{get-insert, get-remove, find}
use Rattle.std.specs.List.Sorted.{IsStrictlyIncreasing, IsBinarySearchResult}
use Rattle.std.specs.List.{Contains as ListContains}
use Rattle.std.proofs.lemmas.List.Sorted.{searched}
use Rattle.std.proofs.lemmas.List.Kept.{AllPairs-from_increasing}
use Rattle.std.proofs.lemmas.Bool.{cases_lt}
use Rattle.flit_model.specs.Maps.{Map, reply_of, map_after}
use Rattle.flit_model.specs.declared.calls.Call.{Call}
use Rattle.flit_model.specs.declared.calls.Call.TheVariants.{Insert, Remove, Contains, Get}
use Rattle.flit_model.specs.declared.calls.Reply.TheVariants.{Yes, No}
use Rattle.flit_structure.specs.Meanings.{key_of}
use Rattle.flit_sched.proofs.SplitLists.{any_default}
use Rattle.flit_sched.specs.Books.{value_after, reply_at, yes_if_some, yes_if_none}

tied : (q w : ℕ) → q ≡ w → eq_by_cmp nat_cmp q w ≡ true
tied q w h = unsigned_tied q w ∙ eq-eqb q w h

not_tied : (q w : ℕ) → q ≢ w → eq_by_cmp nat_cmp q w ≡ false
not_tied q w h = by_test (eqb q w) refl
  where
    by_test : (b : Bool) → eqb q w ≡ b → eq_by_cmp nat_cmp q w ≡ false
    by_test true e = absurd (h (eqb-true q w e))
    by_test false e = unsigned_tied q w ∙ e

-- the map's answer rests on what it has at the key
pub reply_here : (m : Map) (call : Call) → reply_of m call ≡ reply_at call (fin.get m (key_of call))
reply_here m (Insert k v) = by_value (fin.get m k)
  where
    by_value : (o : Option ℕ) → cond (is_some o) No Yes ≡ yes_if_none o
    by_value None = refl
    by_value (Some w) = refl
reply_here m (Remove k) = by_value (fin.get m k)
  where
    by_value : (o : Option ℕ) → cond (is_some o) Yes No ≡ yes_if_some o
    by_value None = refl
    by_value (Some w) = refl
reply_here m (Contains k) = by_value (fin.get m k)
  where
    by_value : (o : Option ℕ) → cond (is_some o) Yes No ≡ yes_if_some o
    by_value None = refl
    by_value (Some w) = refl
reply_here m (Get k) = refl

-- what the map has at the key after the call
pub value_here : (m : Map) (call : Call) (q : ℕ) → q ≡ key_of call → fin.get (map_after m call) q ≡ value_after call (fin.get m q)
value_here m (Insert k v) q e = by_value (fin.get m k) refl
  where
    by_value : (o : Option ℕ) → fin.get m k ≡ o → fin.get (map_after m (Insert k v)) q ≡ value_after (Insert k v) (fin.get m q)
    by_value None is =
        ap (λ b. fin.get (cond b m (fin.insert m k v)) q) (ap is_some is)
        ∙ get-insert nat_cmp_total m k v q
        ∙ ap (λ b. cond b (Some v) (fin.get m q)) (tied q k e)
        ∙ sym (ap (λ o. value_after (Insert k v) o) (ap (λ x. fin.get m x) e ∙ is))
    by_value (Some w) is =
        ap (λ b. fin.get (cond b m (fin.insert m k v)) q) (ap is_some is)
        ∙ (ap (λ x. fin.get m x) e ∙ is)
        ∙ sym (ap (λ o. value_after (Insert k v) o) (ap (λ x. fin.get m x) e ∙ is))
value_here m (Remove k) q e = get-remove nat_cmp_total m k q ∙ ap (λ b. cond b None (fin.get m q)) (tied q k e)
value_here m (Contains k) q e = refl
value_here m (Get k) q e = refl

-- and at another key
pub value_there : (m : Map) (call : Call) (q : ℕ) → q ≢ key_of call → fin.get (map_after m call) q ≡ fin.get m q
value_there m (Insert k v) q e = by_value (is_some (fin.get m k))
  where
    by_value : (b : Bool) → fin.get (cond b m (fin.insert m k v)) q ≡ fin.get m q
    by_value true = refl
    by_value false = get-insert nat_cmp_total m k v q ∙ ap (λ b. cond b (Some v) (fin.get m q)) (not_tied q k e)
value_there m (Remove k) q e = get-remove nat_cmp_total m k q ∙ ap (λ b. cond b None (fin.get m q)) (not_tied q k e)
value_there m (Contains k) q e = refl
value_there m (Get k) q e = refl

-- what the book has at a place
pub book_at : (m : Map) (keys : List ℕ) (values : List (Option ℕ)) (i : ℕ) → map (λ k. fin.get m k) keys ≡ values → i < length keys → (d : Option ℕ) →
    get_or values i d ≡ fin.get m (get_or keys i 0)
book_at m [] values i e h d = absurd (omega arith)
book_at m (k ∷ keys) values zero e h d = ap (λ vs. get_or vs 0 d) (sym e)
book_at m (k ∷ keys) values (suc i) e h d = ap (λ vs. get_or vs (suc i) d) (sym e) ∙ book_at m keys (map (λ x. fin.get m x) keys) i refl (omega arith) d

-- the book of another map that differs at one place alone
pub book_put : (m n : Map) (keys : List ℕ) (i : ℕ) (v : Option ℕ) → i < length keys → fin.get n (get_or keys i 0) ≡ v →
    ((j : ℕ) → j < length keys → j ≢ i → fin.get n (get_or keys j 0) ≡ fin.get m (get_or keys j 0)) →
    map (λ k. fin.get n k) keys ≡ set (map (λ k. fin.get m k) keys) i v
book_put m n [] i v h here there = absurd (omega arith)
book_put m n (k ∷ keys) zero v h here there =
    ap (λ x. x ∷ map (λ k. fin.get n k) keys) here ∙ ap (λ xs. v ∷ xs) (others keys (λ j l. there (suc j) (omega arith) (omega arith)))
  where
    others : (ks : List ℕ) → ((j : ℕ) → j < length ks → fin.get n (get_or ks j 0) ≡ fin.get m (get_or ks j 0)) →
        map (λ k. fin.get n k) ks ≡ map (λ k. fin.get m k) ks
    others [] same = refl
    others (x ∷ ks) same =
        ap (λ y. y ∷ map (λ k. fin.get n k) ks) (same 0 (omega arith)) ∙ ap (λ ys. fin.get m x ∷ ys) (others ks (λ j l. same (suc j) (omega arith)))
book_put m n (k ∷ keys) (suc i) v h here there =
    ap (λ x. x ∷ map (λ k. fin.get n k) keys) (there 0 (omega arith) (omega arith))
    ∙ ap (λ xs. fin.get m k ∷ xs) (book_put m n keys i v (omega arith) here (λ j l ne. there (suc j) (omega arith) (λ e. ne (omega arith))))

pub rises : (xs : List ℕ) → IsStrictlyIncreasing xs → (i j : ℕ) → i ≤ j → j < length xs → get_or xs i 0 ≤ get_or xs j 0
rises xs up i j h l = by_cases (cases_lt i j)
  where
    by_cases : (i < j) ⊎ (j ≤ i) → get_or xs i 0 ≤ get_or xs j 0
    by_cases (inl less) = let p : get_or xs i 0 < get_or xs j 0 = AllPairs-from_increasing xs up i j 0 less l in omega arith
    by_cases (inr le) = let e : i ≡ j = omega arith in let q : get_or xs i 0 ≡ get_or xs j 0 = ap (λ n. get_or xs n 0) e in omega arith

-- a key that the search finds, and one that it can't miss
pub found_at : (xs : List ℕ) (x i : ℕ) → IsBinarySearchResult (λ y. nat_cmp y x) xs (Ok i) → IsStrictlyIncreasing xs → (i < length xs) × (get_or xs i 0 ≡ x)
found_at xs x i r up = searched xs x (Ok i) r (rises xs up)

pub not_missing : (xs : List ℕ) (x i : ℕ) → IsBinarySearchResult (λ y. nat_cmp y x) xs (Err i) → IsStrictlyIncreasing xs → ListContains xs x → ⊥
not_missing xs x i r up has =
    let s = searched xs x (Err i) r (rises xs up) in
    let here : get_or xs has.0 0 ≡ x = any_default xs has.0 0 x has.1 ∙ has.2 in
    by_cases s.1 s.2 here (cases_lt has.0 i)
  where
    by_cases : ((k : ℕ) → k < i → get_or xs k 0 < x) → ((k : ℕ) → i ≤ k → k < length xs → x < get_or xs k 0) → get_or xs has.0 0 ≡ x → (has.0 < i)
        ⊎ (i ≤ has.0) → ⊥
    by_cases low high here (inl less) = let p = low has.0 less in omega arith
    by_cases low high here (inr le) = let p = high has.0 le has.1 in omega arith

-- the book after a call
pub changed : (m : Map) (call : Call) (keys : List ℕ) (values : List (Option ℕ)) (i : ℕ) (v d : Option ℕ) →
    map (λ k. fin.get m k) keys ≡ values → i < length keys → get_or keys i 0 ≡ key_of call → IsStrictlyIncreasing keys →
    v ≡ value_after call (get_or values i d) →
    map (λ k. fin.get (map_after m call) k) keys ≡ set values i v
changed m call keys values i v d e h here up is =
    book_put m (map_after m call) keys i v h
    (value_here m call (get_or keys i 0) here ∙ ap (λ o. value_after call o) (sym (book_at m keys values i e h d)) ∙ sym is)
    (λ j l ne. value_there m call (get_or keys j 0) (λ same. apart j l ne (same ∙ sym here)))
    ∙ ap (λ vs. set vs i v) e
  where
    apart : (j : ℕ) → j < length keys → j ≢ i → get_or keys j 0 ≡ get_or keys i 0 → ⊥
    apart j l ne same = by_cases (cases_lt j i)
      where
        by_cases : (j < i) ⊎ (i ≤ j) → ⊥
        by_cases (inl less) = let p : get_or keys j 0 < get_or keys i 0 = AllPairs-from_increasing keys up j i 0 less h in omega arith
        by_cases (inr le) = let less : i < j = omega arith in let p : get_or keys i 0 < get_or keys j 0 = AllPairs-from_increasing keys up i j 0 less l in
            omega arith

-- what the map of some keys and values has at a key
pub found_value : (keys values : List ℕ) (i : ℕ) → length values ≡ length keys → i < length keys → IsStrictlyIncreasing keys → (d : ℕ) →
    find nat_cmp (get_or keys i 0) (zip keys values) ≡ Some (get_or values i d)
found_value keys values i same h up d = walk keys values i same h (λ j l. AllPairs-from_increasing keys up j i 0 l h)
  where
    walk : (ks vs : List ℕ) (n : ℕ) → length vs ≡ length ks → n < length ks → ((j : ℕ) → j < n → get_or ks j 0 < get_or ks n 0) →
        find nat_cmp (get_or ks n 0) (zip ks vs) ≡ Some (get_or vs n d)
    walk [] vs n l h low = absurd (omega arith)
    walk (k ∷ ks) [] n l h low = absurd (omega arith)
    walk (k ∷ ks) (v ∷ vs) zero l h low = ap (λ b. cond b (Some v) (find nat_cmp k (zip ks vs))) (tied k k refl)
    walk (k ∷ ks) (v ∷ vs) (suc n) l h low =
        ap (λ b. cond b (Some v) (find nat_cmp (get_or ks n 0) (zip ks vs)))
        (not_tied (get_or ks n 0) k (λ e. not_self (get_or ks n 0) k e (low 0 (omega arith))))
        ∙ walk ks vs n (omega arith) (omega arith) (λ j less. low (suc j) (omega arith))
      where
        not_self : (a b : ℕ) → a ≡ b → b < a → ⊥
        not_self a b e less = omega arith

pub missing_value : (keys values : List ℕ) (q : ℕ) → ((j : ℕ) → j < length keys → get_or keys j 0 ≢ q) → find nat_cmp q (zip keys values) ≡ None
missing_value [] values q h = refl
missing_value (k ∷ keys) [] q h = refl
missing_value (k ∷ keys) (v ∷ values) q h =
    ap (λ b. cond b (Some v) (find nat_cmp q (zip keys values))) (not_tied q k (λ e. h 0 (omega arith) (sym e)))
    ∙ missing_value keys values q (λ j l. h (suc j) (omega arith))
