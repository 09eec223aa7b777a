-- The entries of one name in a history, as updates and reads are added.
use Rattle.std.proofs.Common.{◌≡◌, ◌≢◌, ℕ, zero, suc, ◌+◌, ◌<◌, ◌≤◌, ◌==◌, ◌&&◌, ◌||◌, eqb, nat_le, Bool, true, false, cond, List, [], ◌∷◌, ◌++◌, length, map, filter, take, refl, sym, ◌∙◌, ap, arith, append_assoc, append-nil, ne_eqb}
use Rattle.std.proofs.lemmas.Bool.{false≢true, eqb-true, eq-eqb}
use Rattle.std.proofs.lemmas.Bool.Decides.{nat_tests}
use Rattle.std.proofs.lemmas.List.{map-append}
use Rattle.std.proofs.lemmas.List.Elements.{filter-append}
use Rattle.std.specs.List.{AllByRecursion}
use Rattle.flit_model.specs.Histories.{stands_before, put_in_order, in_order, reads_at, history_from}
use Rattle.flit_model.specs.declared.calls.Entry.{Entry}
use Rattle.flit_model.specs.declared.calls.Placed.{Placed}
use Rattle.flit_model.proofs.HistoryLaws.{all-in_order}
use Rattle.flit_model.proofs.Elements.{all-map, all_mapped}
use Rattle.flit_structure.proofs.Names.{all_both, all_map}
use Rattle.flit_table.specs.Views.{entries_of}
use Rattle.flit_table.specs.Orders.{AreNumberedUp}
use Rattle.flit_table.proofs.Accounts.{entries-append, entries_own, NoneOf, filter_all}

or_true : (a b c : Bool) → b ≡ true → c ≡ true → (a || (b && c)) ≡ false → ⊥
or_true true b c p q h = false≢true (sym h)
or_true false true true p q h = false≢true (sym h)
or_true false true false p q h = false≢true q
or_true false false c p q h = false≢true p

le_true : (a b : ℕ) → a ≤ b → nat_le a b ≡ true
le_true a b h = grind (arith, nat_tests)

pub take_front : {X : Type 0} (xs ys : List X) (n : ℕ) → n ≤ length xs → take n (xs ++ ys) ≡ take n xs
take_front [] ys zero h = refl
take_front [] ys (suc n) h = absurd (omega (arith, h))
take_front (x ∷ xs) ys zero h = refl
take_front (x ∷ xs) ys (suc n) h = ap (λ l. x ∷ l) (take_front xs ys n (omega (arith, h)))

pub cancel : {X : Type 0} (xs ys zs : List X) → xs ++ ys ≡ xs ++ zs → ys ≡ zs
cancel [] ys zs h = h
cancel (x ∷ xs) ys zs h = let rest : xs ++ ys ≡ xs ++ zs = cc in cancel xs ys zs rest

pub none_front : {X : Type 0} (xs ys : List X) → xs ++ ys ≡ [] → xs ≡ []
none_front [] ys h = refl
none_front (x ∷ xs) ys h = absurd (cc)

module _ (name : ℕ) where
  -- in order, numbers that rise stay as they are
  abbrev Below : Entry → Entry → Type 0
  Below e d = d.worker ≡ name → e.number ≤ d.number

  not_before : (e d : Entry) → e.worker ≡ name → d.worker ≡ name → e.number ≤ d.number → stands_before e d ≡ false → ⊥
  not_before e d own same low = or_true _ (eqb e.worker d.worker) (nat_le e.number d.number) (eq-eqb e.worker d.worker (own ∙ sym same))
      (le_true e.number d.number low)

  put_own : (e : Entry) (ds : List Entry) → e.worker ≡ name → AllByRecursion (Below e) ds → entries_of name (put_in_order e ds) ≡ e ∷ entries_of name ds
  put_own e [] own h = entries_own name e own
  put_own e (d ∷ ds) own h = by_test (stands_before e d) refl (put_own e ds own h.1)
    where
      by_test : (b : Bool) → stands_before e d ≡ b → entries_of name (put_in_order e ds) ≡ e ∷ entries_of name ds →
          entries_of name (cond b (e ∷ d ∷ ds) (d ∷ put_in_order e ds)) ≡ e ∷ entries_of name (d ∷ ds)
      by_test true is rest = ap (λ t. cond t (e ∷ entries_of name (d ∷ ds)) (entries_of name (d ∷ ds))) (eq-eqb e.worker name own)
      by_test false is rest =
          let other : eqb d.worker name ≡ false = ne_eqb d.worker name (λ same. not_before e d own same (h.0 same) is) in
          ap (λ t. cond t (d ∷ entries_of name (put_in_order e ds)) (entries_of name (put_in_order e ds))) other ∙ rest
          ∙ ap (λ ys. e ∷ ys) (sym (ap (λ t. cond t (d ∷ entries_of name ds) (entries_of name ds)) other))

  put_other : (e : Entry) (ds : List Entry) → eqb e.worker name ≡ false → entries_of name (put_in_order e ds) ≡ entries_of name ds
  put_other e [] other = ap (λ t. cond t (e ∷ []) []) other
  put_other e (d ∷ ds) other = by_test (stands_before e d) (put_other e ds other)
    where
      by_test : (b : Bool) → entries_of name (put_in_order e ds) ≡ entries_of name ds →
          entries_of name (cond b (e ∷ d ∷ ds) (d ∷ put_in_order e ds)) ≡ entries_of name (d ∷ ds)
      by_test true rest = ap (λ t. cond t (e ∷ entries_of name (d ∷ ds)) (entries_of name (d ∷ ds))) other
      by_test false rest = ap (λ ys. cond (eqb d.worker name) (d ∷ ys) ys) rest

  in_order_own : (es : List Entry) → AreNumberedUp name es → entries_of name (in_order es) ≡ entries_of name es
  in_order_own [] h = refl
  in_order_own (e ∷ es) h = by_test (eqb e.worker name) refl (in_order_own es h.1)
    where
      by_test : (b : Bool) → eqb e.worker name ≡ b → entries_of name (in_order es) ≡ entries_of name es →
          entries_of name (put_in_order e (in_order es)) ≡ cond b (e ∷ entries_of name es) (entries_of name es)
      by_test true is rest =
          let own = eqb-true e.worker name is in
          put_own e (in_order es) own (all-in_order (Below e) es (h.0 own)) ∙ ap (λ ys. e ∷ ys) rest
      by_test false is rest = put_other e (in_order es) is ∙ rest

  up_filtered : (p : Placed → Bool) (ps : List Placed) → AreNumberedUp name (map (λ r. r.entry) ps) → AreNumberedUp name (map (λ r. r.entry) (filter p ps))
  up_filtered p [] h = tt
  up_filtered p (r ∷ ps) h = by_test (p r) (up_filtered p ps h.1)
    where
      by_test : (b : Bool) → AreNumberedUp name (map (λ q. q.entry) (filter p ps)) → AreNumberedUp name (map (λ q. q.entry) (cond b (r ∷ filter p ps) (filter p ps)))
      by_test true rest = (
        λ own. all-map (Below r.entry) (λ (q : Placed). q.entry) (filter p ps)
            (filter_all (λ q. Below r.entry q.entry) p ps (all_mapped (Below r.entry) (λ (q : Placed). q.entry) ps (h.0 own))),
        rest,
      )
      by_test false rest = rest

  up_none : (ys : List Entry) → NoneOf name ys → AreNumberedUp name ys
  up_none [] h = tt
  up_none (y ∷ ys) h = (λ own. absurd (h.0 own), up_none ys h.1)

  pub up_behind : (xs ys : List Entry) → AreNumberedUp name xs → NoneOf name ys → AreNumberedUp name (xs ++ ys)
  up_behind [] ys h none = up_none ys none
  up_behind (x ∷ xs) ys h none = (
    λ own. all_both (Below x) xs ys (h.0 own) (all_map (λ d. d.worker ≢ name) (Below x) (λ d n same. absurd (n same)) ys none),
    up_behind xs ys h.1 none,
  )

  pub up_before : (ys xs : List Entry) → AreNumberedUp name xs → NoneOf name ys → AreNumberedUp name (ys ++ xs)
  up_before [] xs h none = h
  up_before (y ∷ ys) xs h none = (λ own. absurd (none.0 own), up_before ys xs h none.1)

  pub up_more : (xs : List Entry) (e : Entry) → AreNumberedUp name xs → AllByRecursion (λ d. d.worker ≡ name → d.number ≤ e.number) xs →
      AreNumberedUp name (xs ++ e ∷ [])
  up_more [] e h low = (λ own. tt, tt)
  up_more (x ∷ xs) e h low = (λ own. all_both (Below x) xs (e ∷ []) (h.0 own) (λ same. low.0 own, tt), up_more xs e h.1 low.1)

  -- the reads of the name at a position
  abbrev at : ℕ → List Placed → List Entry
  at n ps = entries_of name (map (λ r. r.entry) (filter (λ r. r.position == n) ps))

  at-append : (n : ℕ) (ps qs : List Placed) → at n (ps ++ qs) ≡ at n ps ++ at n qs
  at-append n ps qs =
      ap (λ (l : List Placed). entries_of name (map (λ r. r.entry) l)) (filter-append (λ r. r.position == n) ps qs)
      ∙ ap (entries_of name) (map-append (λ r. r.entry) (filter (λ r. r.position == n) ps) (filter (λ r. r.position == n) qs))
      ∙ entries-append name (map (λ r. r.entry) (filter (λ r. r.position == n) ps)) (map (λ r. r.entry) (filter (λ r. r.position == n) qs))

  at_none : (n : ℕ) (ps : List Placed) → AllByRecursion (λ r. r.entry.worker ≡ name → r.position ≡ n → ⊥) ps → at n ps ≡ []
  at_none n [] h = refl
  at_none n (r ∷ ps) h = by_test (eqb r.position n) refl (at_none n ps h.1)
    where
      by_test : (b : Bool) → eqb r.position n ≡ b → at n ps ≡ [] →
          entries_of name (map (λ q. q.entry) (cond b (r ∷ filter (λ q. q.position == n) ps) (filter (λ q. q.position == n) ps))) ≡ []
      by_test true e rest = ap (λ t. cond t (r.entry ∷ at n ps) (at n ps)) (ne_eqb r.entry.worker name (λ own. h.0 own (eqb-true r.position n e))) ∙ rest
      by_test false e rest = rest

  at_one : (n : ℕ) (r : Placed) → r.entry.worker ≡ name → r.position ≡ n → at n (r ∷ []) ≡ r.entry ∷ []
  at_one n r own here = ap (λ b. entries_of name (map (λ q. q.entry) (cond b (r ∷ []) []))) (eq-eqb r.position n here) ∙ entries_own name r.entry own

  -- the entries of the name in a history, put together without any order of reads
  pub simple : ℕ → List Entry → List Placed → List Entry
  simple n [] ps = at n ps
  simple n (u ∷ us) ps = at n ps ++ (entries_of name (u ∷ []) ++ simple (suc n) us ps)

  pub history_simple : (n : ℕ) (us : List Entry) (ps : List Placed) → AreNumberedUp name (map (λ r. r.entry) ps) →
      entries_of name (history_from n us ps) ≡ simple n us ps
  unfolding simple
  history_simple n [] ps up = in_order_own (map (λ r. r.entry) (filter (λ r. r.position == n) ps)) (up_filtered (λ r. r.position == n) ps up)
  history_simple n (u ∷ us) ps up =
      entries-append name (reads_at n ps) (u ∷ history_from (suc n) us ps)
      ∙ ap (λ xs. xs ++ entries_of name (u ∷ history_from (suc n) us ps))
      (in_order_own (map (λ r. r.entry) (filter (λ r. r.position == n) ps)) (up_filtered (λ r. r.position == n) ps up))
      ∙ ap (λ xs. at n ps ++ xs) (entries-append name (u ∷ []) (history_from (suc n) us ps)
      ∙ ap (λ ys. entries_of name (u ∷ []) ++ ys) (history_simple (suc n) us ps up))

  simple_same : (ps qs : List Placed) → ((n : ℕ) → at n ps ≡ at n qs) → (n : ℕ) (us : List Entry) → simple n us ps ≡ simple n us qs
  unfolding simple
  simple_same ps qs h n [] = h n
  simple_same ps qs h n (u ∷ us) =
      ap (λ xs. xs ++ (entries_of name (u ∷ []) ++ simple (suc n) us ps)) (h n)
      ∙ ap (λ ys. at n qs ++ (entries_of name (u ∷ []) ++ ys)) (simple_same ps qs h (suc n) us)

  abbrev pub NoReadOf : List Placed → Type 0
  NoReadOf ps = AllByRecursion (λ r. r.entry.worker ≢ name) ps

  at_other : (n : ℕ) (qs : List Placed) → NoReadOf qs → at n qs ≡ []
  at_other n qs h = at_none n qs (all_map (λ r. r.entry.worker ≢ name) (λ r. r.entry.worker ≡ name → r.position ≡ n → ⊥) (λ r k own e. k own) qs h)

  -- reads of other names, behind or before
  pub simple_behind : (n : ℕ) (us : List Entry) (ps qs : List Placed) → NoReadOf qs → simple n us (ps ++ qs) ≡ simple n us ps
  simple_behind n us ps qs h =
      simple_same (ps ++ qs) ps (λ k. at-append k ps qs ∙ ap (λ xs. at k ps ++ xs) (at_other k qs h) ∙ append-nil (at k ps)) n us

  pub simple_before : (n : ℕ) (us : List Entry) (qs ps : List Placed) → NoReadOf qs → simple n us (qs ++ ps) ≡ simple n us ps
  simple_before n us qs ps h = simple_same (qs ++ ps) ps (λ k. at-append k qs ps ∙ ap (λ xs. xs ++ at k ps) (at_other k qs h)) n us

  regroup : (a e s x : List Entry) → a ++ (e ++ (s ++ x)) ≡ (a ++ (e ++ s)) ++ x
  regroup a e s x = ap (λ ys. a ++ ys) (sym (append_assoc e s x)) ∙ sym (append_assoc a (e ++ s) x)

  not_here : (p n k : ℕ) → p ≡ n + suc k → p ≡ n → ⊥
  not_here p n k e f = omega (arith, e, f)

  -- a read of the name behind all updates
  pub simple_read : (n : ℕ) (us : List Entry) (ps : List Placed) (r : Placed) → r.entry.worker ≡ name → r.position ≡ n + length us →
      simple n us (ps ++ r ∷ []) ≡ simple n us ps ++ r.entry ∷ []
  unfolding simple
  simple_read n [] ps r own here = at-append n ps (r ∷ []) ∙ ap (λ xs. at n ps ++ xs) (at_one n r own (omega (arith, here)))
  simple_read n (u ∷ us) ps r own here =
      ap (λ xs. xs ++ (entries_of name (u ∷ []) ++ simple (suc n) us (ps ++ r ∷ [])))
      (at-append n ps (r ∷ []) ∙ ap (λ xs. at n ps ++ xs) (at_none n (r ∷ []) (λ w e. not_here r.position n (length us) here e, tt)) ∙ append-nil (at n ps))
      ∙ ap (λ xs. at n ps ++ (entries_of name (u ∷ []) ++ xs)) (simple_read (suc n) us ps r own (omega (arith, here)))
      ∙ regroup (at n ps) (entries_of name (u ∷ [])) (simple (suc n) us ps) (r.entry ∷ [])

  -- updates behind all reads of the name
  simple_past : (n : ℕ) (us : List Entry) (ps : List Placed) → AllByRecursion (λ r. r.entry.worker ≡ name → r.position < n) ps →
      simple n us ps ≡ entries_of name us
  unfolding simple
  simple_past n [] ps h = at_none n ps (all_map (λ r. r.entry.worker ≡ name → r.position < n) (λ r. r.entry.worker ≡ name → r.position ≡ n → ⊥)
      (λ r k own e. below r.position n (k own) e) ps h)
    where
      below : (p n : ℕ) → p < n → p ≡ n → ⊥
      below p n k e = omega (arith, k, e)
  simple_past n (u ∷ us) ps h =
      ap (λ xs. xs ++ (entries_of name (u ∷ []) ++ simple (suc n) us ps)) (at_none n ps
      (all_map (λ r. r.entry.worker ≡ name → r.position < n) (λ r. r.entry.worker ≡ name → r.position ≡ n → ⊥)
      (λ r k own e. below r.position n (k own) e) ps h))
      ∙ ap (λ ys. entries_of name (u ∷ []) ++ ys) (simple_past (suc n) us ps
      (all_map (λ r. r.entry.worker ≡ name → r.position < n) (λ r. r.entry.worker ≡ name → r.position < suc n) (λ r k own. later r.position n (k own)) ps h))
      ∙ sym (entries-append name (u ∷ []) us)
    where
      below : (p n : ℕ) → p < n → p ≡ n → ⊥
      below p n k e = omega (arith, k, e)

      later : (p n : ℕ) → p < n → p < suc n
      later p n k = omega (arith, k)

  pub simple_more : (n : ℕ) (us vs : List Entry) (ps : List Placed) → AllByRecursion (λ r. r.entry.worker ≡ name → r.position ≤ n + length us) ps →
      simple n (us ++ vs) ps ≡ simple n us ps ++ entries_of name vs
  unfolding simple
  simple_more n [] [] ps h = sym (append-nil (at n ps))
  simple_more n [] (v ∷ vs) ps h =
      ap (λ ys. at n ps ++ (entries_of name (v ∷ []) ++ ys)) (simple_past (suc n) vs ps
      (all_map (λ r. r.entry.worker ≡ name → r.position ≤ n + 0) (λ r. r.entry.worker ≡ name → r.position < suc n) (λ r k own. next r.position n (k own)) ps h))
      ∙ ap (λ xs. at n ps ++ xs) (sym (entries-append name (v ∷ []) vs))
    where
      next : (p n : ℕ) → p ≤ n + 0 → p < suc n
      next p n k = omega (arith, k)
  simple_more n (u ∷ us) vs ps h =
      ap (λ ys. at n ps ++ (entries_of name (u ∷ []) ++ ys)) (simple_more (suc n) us vs ps
      (all_map (λ r. r.entry.worker ≡ name → r.position ≤ n + suc (length us)) (λ r. r.entry.worker ≡ name → r.position ≤ suc n + length us)
      (λ r k own. moved r.position n (length us) (k own)) ps h))
      ∙ regroup (at n ps) (entries_of name (u ∷ [])) (simple (suc n) us ps) (entries_of name vs)
    where
      moved : (p n k : ℕ) → p ≤ n + suc k → p ≤ suc n + k
      moved p n k l = omega (arith, l)
