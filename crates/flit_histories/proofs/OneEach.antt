-- A name and number stands at most once among the settled updates and those that are taken.
use Rattle.std.proofs.Common.{◌≡◌, ℕ, suc, ◌<◌, ◌≤◌, ◌&&◌, eqb, Bool, true, false, cond, T, List, [], ◌∷◌, ◌++◌, length, map, filter, refl, sym, ◌∙◌, ap, subst, arith, Option, Some, None, append-nil}
use Rattle.std.proofs.lemmas.Bool.{false≢true, eqb-true, eq-eqb}
use Rattle.std.proofs.lemmas.List.Elements.{filter-append}
use Rattle.std.specs.List.{AllByRecursion}
use Rattle.std.specs.Ordering.{nat_cmp}
use Rattle.std.specs.FinMap as fin
use Rattle.std.specs.FinMap.{find, get-entries, get-retain_keys, entries_sorted, is_sorted, nat_cmp-IsAntisymmetric}
use Rattle.flit_model.specs.Lists.{IsRisingFrom}
use Rattle.flit_model.specs.Settling.{taken_updates}
use Rattle.flit_model.specs.declared.calls.Entry.{Entry}
use Rattle.flit_model.proofs.HistoryLaws.{filter_none}
use Rattle.flit_structure.specs.Moments.{Moment, made, numbers_of, waiting_updates}
use Rattle.flit_structure.specs.Meanings.{Meaning}
use Rattle.flit_structure.specs.Lawful.{Lawful}
use Rattle.flit_structure.proofs.Names.{all_map}
use Rattle.flit_structure.proofs.Ahead.{greater_behind, settled_below}
use Rattle.flit_structure.proofs.Taken.{all_taken}
use Rattle.flit_structure.proofs.Waiting.{one_each}
use Rattle.flit_histories.specs.Calls.{is_of}
use Rattle.flit_histories.proofs.MadeLaws.{all_values, all_above, all_entries, first, second}
use Rattle.flit_histories.proofs.HistoryFilters.{filter_split}
use Rattle.flit_histories.proofs.ToldCalls.{NotOf}

pub is_of_both : (name number : ℕ) (e : Entry) → is_of name number e ≡ true → (e.worker ≡ name) × (e.number ≡ number)
is_of_both name number e h = (
  eqb-true e.worker name (both (eqb e.worker name) (eqb e.number number) h).0,
  eqb-true e.number number
      (both (eqb e.worker name) (eqb e.number number) h).1,
)
  where
    both : (a b : Bool) → (a && b) ≡ true → (a ≡ true) × (b ≡ true)
    both true b k = (refl, k)
    both false b k = absurd (false≢true k)

pub is_of_it : (name number : ℕ) (e : Entry) → e.worker ≡ name → e.number ≡ number → is_of name number e ≡ true
is_of_it name number e w n = ap (λ t. t && eqb e.number number) (eq-eqb e.worker name w) ∙ eq-eqb e.number number n

pub not_of : (name number : ℕ) (e : Entry) → NotOf name number e → is_of name number e ≡ false
not_of name number e h = by_test (is_of name number e) refl
  where
    by_test : (t : Bool) → is_of name number e ≡ t → t ≡ false
    by_test true is = let k = is_of_both name number e is in absurd (h k.0 k.1)
    by_test false is = refl

pub none_of : (name number : ℕ) (es : List Entry) → AllByRecursion (NotOf name number) es → AllByRecursion (λ e. is_of name number e ≡ false) es
none_of name number es h = all_map (NotOf name number) (λ e. is_of name number e ≡ false) (not_of name number) es h

rest_rises : (name low : ℕ) (e : Entry) (es : List Entry) → IsRisingFrom low (numbers_of name (e ∷ es)) → (next : ℕ) × IsRisingFrom next (numbers_of name es)
rest_rises name low e es h = by_test (eqb e.worker name) refl h
  where
    by_test : (b : Bool) → eqb e.worker name ≡ b → IsRisingFrom low (map (λ d. d.number)
        (cond b (e ∷ filter (λ d. eqb d.worker name) es) (filter (λ d. eqb d.worker name) es))) → (next : ℕ) × IsRisingFrom next (numbers_of name es)
    by_test true is k = (suc e.number, k.1)
    by_test false is k = (low, k)

-- numbers that rise stand once
once_rising : (name number low : ℕ) (es : List Entry) → IsRisingFrom low (numbers_of name es) → length (filter (is_of name number) es) ≤ 1
once_rising name number low [] h = omega arith
once_rising name number low (e ∷ es) h = by_test (let k = rest_rises name low e es h in once_rising name number k.0 es k.1) (is_of name number e) refl
  where
    by_test : length (filter (is_of name number) es) ≤ 1 → (t : Bool) → is_of name number e ≡ t →
        length (cond t (e ∷ filter (is_of name number) es) (filter (is_of name number) es)) ≤ 1
    by_test rest false is = rest
    by_test rest true is =
        let k = is_of_both name number e is in
        let behind = greater_behind low [] e es (subst (λ n. IsRisingFrom low (numbers_of n (e ∷ es))) (sym k.0) h) in
        let none = filter_none (is_of name number) es (none_of name number es
        (all_map (λ d. d.worker ≡ e.worker → suc e.number ≤ d.number) (NotOf name number)
        (λ d g w n. (let x = g (w ∙ sym k.0) in let y = k.1 in omega (arith, x, y, n))) es behind)) in
        ap_short none
      where
        ap_short : filter (is_of name number) es ≡ [] → length (e ∷ filter (is_of name number) es) ≤ 1
        ap_short none = subst (λ xs. length (e ∷ xs) ≤ 1) (sym none) (omega arith)

-- keys that tell their names
once_keyed : (name number : ℕ) (P : ℕ → Entry → Type 0) (es : List (ℕ × Entry)) → T (is_sorted nat_cmp es) →
    ((v w : ℕ) (d e : Entry) → P v d → P w e → d.worker ≡ e.worker → v ≡ w) → AllByRecursion (λ e. P e.0 e.1) es →
    length (filter (is_of name number) (map (λ e. e.1) es)) ≤ 1
once_keyed name number P [] sorted one h = omega arith
once_keyed name number P (e ∷ es) sorted one h = by_test (once_keyed name number P es (second _ _ sorted) one h.1) (is_of name number e.1) refl
  where
    others : (xs : List (ℕ × Entry)) → is_of name number e.1 ≡ true → AllByRecursion (λ x. e.0 < x.0) xs → AllByRecursion (λ x. P x.0 x.1) xs →
        AllByRecursion (λ x. is_of name number x ≡ false) (map (λ x. x.1) xs)
    others [] is above k = tt
    others (x ∷ xs) is above k = (
      not_of name number x.1 (λ w n. (let same = one e.0 x.0 e.1 x.1 h.0 k.0 ((is_of_both name number e.1 is).0 ∙ sym w) in let lt = above.0 in
          omega (arith, same, lt))),
      others xs is above.1 k.1,
    )

    by_test : length (filter (is_of name number) (map (λ x. x.1) es)) ≤ 1 → (t : Bool) → is_of name number e.1 ≡ t →
        length (cond t (e.1 ∷ filter (is_of name number) (map (λ x. x.1) es)) (filter (is_of name number) (map (λ x. x.1) es))) ≤ 1
    by_test rest false is = rest
    by_test rest true is = subst (λ xs. length (e.1 ∷ xs) ≤ 1) (sym (filter_none (is_of name number) (map (λ x. x.1) es)
        (others es is (all_above e.0 es (first _ _ sorted)) h.1))) (omega arith)

picked : (b : Bool) (o : Option Entry) (e : Entry) → cond b o None ≡ Some e → o ≡ Some e
picked true o e h = h
picked false o e h = absurd (cc)

module _ {Op : Type 0} (meaning : Meaning Op) (l : Lawful meaning) (M : Moment Op) (h : meaning.holds M) (name number : ℕ) (picks : ℕ → Bool) where
  abbrev taken : List Entry
  taken = taken_updates M.progress picks

  settled_once : length (filter (is_of name number) M.progress.settled) ≤ 1
  settled_once = front M.progress.settled (waiting_updates M.progress) (once_rising name number 0 (made M.progress) ((l.entries M h).rises name))
    where
      front : (us vs : List Entry) → length (filter (is_of name number) (us ++ vs)) ≤ 1 → length (filter (is_of name number) us) ≤ 1
      front us vs most = shorter (filter (is_of name number) us) (filter (is_of name number) vs)
          (subst (λ xs. length xs ≤ 1) (filter-append (is_of name number) us vs) most)
        where
          shorter : (xs ys : List Entry) → length (xs ++ ys) ≤ 1 → length xs ≤ 1
          shorter [] ys k = omega arith
          shorter (x ∷ []) ys k = omega arith
          shorter (x ∷ y ∷ xs) ys k = absurd (omega arith)

  taken_once : length (filter (is_of name number) taken) ≤ 1
  taken_once =
      once_keyed name number (λ w e. fin.get M.progress.waiting w ≡ Some e) (fin.entries (fin.retain_keys M.progress.waiting picks))
      (entries_sorted (fin.retain_keys M.progress.waiting picks))
      (λ v w d e dv ew names. one_each meaning l M h v w d e dv ew names)
      (all_map (λ e. find nat_cmp e.0 (fin.entries (fin.retain_keys M.progress.waiting picks)) ≡ Some e.1) (λ e. fin.get M.progress.waiting e.0 ≡ Some e.1)
      (λ e is. picked (picks e.0) (fin.get M.progress.waiting e.0) e.1 (sym
      (get-retain_keys M.progress.waiting picks e.0 (λ x t. ap picks (sym (nat_cmp-IsAntisymmetric e.0 x t))))
      ∙ get-entries (fin.retain_keys M.progress.waiting picks) e.0 ∙ is))
      (fin.entries (fin.retain_keys M.progress.waiting picks)) (all_entries (fin.entries (fin.retain_keys M.progress.waiting picks))
      (entries_sorted (fin.retain_keys M.progress.waiting picks))))

  none_taken : (x : Entry) (xs : List Entry) → filter (is_of name number) M.progress.settled ≡ x ∷ xs → filter (is_of name number) taken ≡ []
  none_taken x xs is =
      let w = filter_split (is_of name number) M.progress.settled x xs is in
      let k = is_of_both name number x w.3 in
      filter_none (is_of name number) taken
      (none_of name number taken
      (all_taken (NotOf name number) M.progress picks
      (all_values (NotOf name number) M.progress.waiting
      (λ v d dv dw dn. (let below = settled_below M.progress w.0 w.1 x v d w.2 dv (dw ∙ sym k.0) ((l.entries M h).rises x.worker) in let xn = k.1 in
      omega (arith, below, xn, dn))))))

  pub made_once : length (filter (is_of name number) (M.progress.settled ++ taken)) ≤ 1
  made_once = subst (λ xs. length xs ≤ 1) (sym (filter-append (is_of name number) M.progress.settled taken))
      (by_settled (filter (is_of name number) M.progress.settled) refl)
    where
      by_settled : (xs : List Entry) → filter (is_of name number) M.progress.settled ≡ xs → length (xs ++ filter (is_of name number) taken) ≤ 1
      by_settled [] is = taken_once
      by_settled (x ∷ xs) is = subst (λ ys. length ((x ∷ xs) ++ ys) ≤ 1) (sym (none_taken x xs is))
          (subst (λ ys. length ys ≤ 1) (sym (append-nil (x ∷ xs))) (subst (λ ys. length ys ≤ 1) is settled_once))
