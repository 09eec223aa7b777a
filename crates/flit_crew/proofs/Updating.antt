-- Where the updates of a moment go: what comes to wait, and what is settled, leaves each call's update in its place.
use Rattle.std.proofs.Common.{◌≡◌, ◌≢◌, ◌⊎◌, inl, inr, ⊎_elim, ℕ, ◌+◌, ◌≤◌, eqb, Bool, true, false, cond, List, [], ◌∷◌, ◌++◌, length, Option, Some, None, refl, sym, ◌∙◌, ap, subst, arith}
use Rattle.std.proofs.lemmas.Bool.{eqb-true, eq-eqb}
use Rattle.std.proofs.lemmas.List.{append-nil}
use Rattle.std.specs.List.{AllByRecursion}
use Rattle.std.specs.Ordering.{nat_cmp}
use Rattle.std.specs.Cmp.{nat_cmp_total, unsigned_tied}
use Rattle.std.specs.FinMap as fin
use Rattle.std.specs.FinMap.{FinMap, find, put, entries-insert, get-entries, same_map, nat_cmp-IsAntisymmetric}
use Rattle.flit_model.specs.Settling.{settles, takes_effect}
use Rattle.flit_model.specs.declared.calls.Call.{Call}
use Rattle.flit_model.specs.declared.calls.Entry.{Entry}
use Rattle.flit_model.proofs.Elements.{all-append, all_front, all_behind, all_weaker}
use Rattle.flit_structure.specs.Moments.{made, update_of}
use Rattle.flit_structure.specs.Lawful.{StandsFrom}
use Rattle.flit_structure.proofs.Growing.{get_put, get_gone}
use Rattle.flit_structure.proofs.Positions.{stands_later}
use Rattle.flit_crew.specs.Machines.{Deed, Fresh, Making, Made}
use Rattle.flit_crew.specs.Heaps.{Heap, at_word, waits_at}
use Rattle.flit_crew.specs.Accounts.{IsAny, IsUnmade, HasUpdate}
use Rattle.flit_crew.proofs.Numbering.{Between, put_between}

-- ---- elements

module _ {X : Type 0} (P : X → Type 0) where
  pub any_left : (xs ys : List X) → IsAny P xs → IsAny P (xs ++ ys)
  any_left [] ys h = absurd h
  any_left (x ∷ xs) ys h = ⊎_elim (λ k. inl k) (λ k. inr (any_left xs ys k)) h

  pub any_right : (xs ys : List X) → IsAny P ys → IsAny P (xs ++ ys)
  any_right [] ys h = h
  any_right (x ∷ xs) ys h = inr (any_right xs ys h)

  pub any_put : (a b : List X) (u w : X) → (P u → P w) → IsAny P (a ++ u ∷ b) → IsAny P (a ++ w ∷ b)
  any_put [] b u w f h = ⊎_elim (λ k. inl (f k)) (λ k. inr k) h
  any_put (x ∷ a) b u w f h = ⊎_elim (λ k. inl k) (λ k. inr (any_put a b u w f k)) h

  pub any_at : (a b : List X) (u : X) → P u → IsAny P (a ++ u ∷ b)
  any_at [] b u h = inl h
  any_at (x ∷ a) b u h = inr (any_at a b u h)

  pub any_weaker : (Q : X → Type 0) → ((x : X) → P x → Q x) → (xs : List X) → IsAny P xs → IsAny Q xs
  any_weaker Q f [] h = absurd h
  any_weaker Q f (x ∷ xs) h = ⊎_elim (λ k. inl (f x k)) (λ k. inr (any_weaker Q f xs k)) h

  -- one of them is such, and all of them are not: absurd
  pub any_none : (xs : List X) → AllByRecursion (λ x. P x → ⊥) xs → IsAny P xs → ⊥
  any_none [] n h = h
  any_none (x ∷ xs) n h = ⊎_elim (λ k. n.0 k) (λ k. any_none xs n.1 k) h

pub all_from : {X : Type 0} (P : X → Type 0) (xs : List X) (e : X) → AllByRecursion P xs → IsAny (λ d. e ≡ d) xs → P e
all_from P [] e h i = absurd i
all_from P (x ∷ xs) e h (inl q) = subst P (sym q) h.0
all_from P (x ∷ xs) e h (inr k) = all_from P xs e h.1 k

pub all_self : {X : Type 0} (xs : List X) → AllByRecursion (λ e. IsAny (λ d. e ≡ d) xs) xs
all_self [] = tt
all_self (x ∷ xs) = (inl refl, all_weaker (λ e. IsAny (λ d. e ≡ d) xs) (λ e. IsAny (λ d. e ≡ d) (x ∷ xs)) (λ e k. inr k) xs (all_self xs))

-- ---- what waits, as a list

abbrev Waiting : Type 0
Waiting = FinMap nat_cmp Entry

-- an entry comes to wait at a word at which none waits
pub waits_between : (m : Waiting) (w : ℕ) (e : Entry) → fin.get m w ≡ None → Between (fin.entries m) (fin.entries (fin.insert m w e)) e
waits_between m w e none = subst (λ es. Between (fin.entries m) es e) (sym (entries-insert nat_cmp_total m w e))
    (put_between (fin.entries m) w e (sym (get-entries m w) ∙ none))

put_back : (m : Waiting) (w : ℕ) (e : Entry) → fin.get m w ≡ Some e → fin.insert (fin.remove m w) w e ≡ m
put_back m w e is = same_map nat_cmp_total nat_cmp-IsAntisymmetric (fin.insert (fin.remove m w) w e) m
    (λ q. get_put (fin.remove m w) w e q ∙ ap (λ o. cond (eqb q w) (Some e) o) (get_gone m w q) ∙ by_test q (eqb q w) refl)
  where
    by_test : (q : ℕ) (t : Bool) → eqb q w ≡ t → cond t (Some e) (cond t None (fin.get m q)) ≡ fin.get m q
    by_test q true s = sym is ∙ ap (λ x. fin.get m x) (sym (eqb-true q w s))
    by_test q false s = refl

pub gone_now : (m : Waiting) (w : ℕ) → fin.get (fin.remove m w) w ≡ None
gone_now m w = get_gone m w w ∙ ap (λ b. cond b None (fin.get m w)) (eq-eqb w w refl)

-- an entry that waits is settled
pub gone_between : (m : Waiting) (w : ℕ) (e : Entry) → fin.get m w ≡ Some e → Between (fin.entries (fin.remove m w)) (fin.entries m) e
gone_between m w e is = subst (λ x. Between (fin.entries (fin.remove m w)) (fin.entries x) e) (put_back m w e is)
    (waits_between (fin.remove m w) w e (gone_now m w))

-- what is found at a word is among those that wait
pub any_waiting : (m : Waiting) (w : ℕ) (e : Entry) → fin.get m w ≡ Some e → IsAny (λ d. e ≡ d) (fin.values m)
any_waiting m w e is = let r = gone_between m w e is in subst (IsAny (λ d. e ≡ d)) (sym r.is) (any_at (λ d. e ≡ d) r.front r.back e refl)

-- ---- what one event leaves of the updates

pub record Follows {G : Type 0} (who : Option ℕ) (h k : Heap G) : Type 0 where
  pub settled : (more : List Entry) × (k.progress.settled ≡ h.progress.settled ++ more)
  -- what waited waits in the same word, or is settled now
  pub waiting : (w : ℕ) (e : Entry) → waits_at h w ≡ Some e → ((waits_at k w ≡ Some e) × (at_word k w ≡ at_word h w))
      ⊎ StandsFrom (length h.progress.settled) k.progress.settled e
  -- each update was there, or is of the one who made the event
  pub entries : AllByRecursion (λ e. IsAny (λ d. e ≡ d) (made h.progress) ⊎ (Some e.worker ≡ who)) (made k.progress)

least_length : (n : ℕ) → n ≤ n
least_length n = omega arith

-- the same updates, while no word changes at which one waits
pub follows_same : {G : Type 0} (who : Option ℕ) (h k : Heap G) → k.progress ≡ h.progress →
    ((w : ℕ) (e : Entry) → waits_at h w ≡ Some e → at_word k w ≡ at_word h w) → Follows who h k
follows_same who h k same words = record {
  settled = ([], ap (λ q. q.settled) same ∙ sym (append-nil h.progress.settled));
  waiting = λ w e is. inl (ap (λ q. fin.get q.waiting w) same ∙ is, words w e is);
  entries = subst (λ q. AllByRecursion (λ e. IsAny (λ d. e ≡ d) (made h.progress) ⊎ (Some e.worker ≡ who)) (made q)) (sym same)
      (all_weaker (λ e. IsAny (λ d. e ≡ d) (made h.progress)) (λ e. IsAny (λ d. e ≡ d) (made h.progress) ⊎ (Some e.worker ≡ who)) (λ e k. inl k)
      (made h.progress) (all_self (made h.progress)));
}

-- what waits at a word is settled
pub follows_settled : {G : Type 0} (h k : Heap G) (w : ℕ) → k.progress ≡ settles h.progress w (waits_at h w) → k.words ≡ h.words → Follows None h k
follows_settled {G} h k w same words = by_case (waits_at h w) refl same
  where
    by_case : (o : Option Entry) → waits_at h w ≡ o → k.progress ≡ settles h.progress w o → Follows None h k
    by_case None is q = follows_same None h k q (λ x e i. ap (λ ws. Rattle.std.specs.Prelude.slice_index ws x) words)
    by_case (Some e) is q =
        let r = gone_between h.progress.waiting w e is in
        let old : List Entry = made h.progress in
        let Old : Entry → Type 0 = λ x. IsAny (λ d. x ≡ d) old in
        let waited : AllByRecursion Old (fin.values h.progress.waiting) = all_behind Old h.progress.settled (fin.values h.progress.waiting) (all_self old) in
        let parts : AllByRecursion Old (r.front ++ e ∷ r.back) = subst (AllByRecursion Old) r.is waited in
        let rest : AllByRecursion Old (fin.values (fin.remove h.progress.waiting w)) =
        subst (AllByRecursion Old) (sym r.was) (all-append Old r.front r.back (all_front Old r.front (e ∷ r.back) parts)
        (all_behind Old r.front (e ∷ r.back) parts).1) in
        let all : AllByRecursion Old (made (settles h.progress w (Some e))) =
        all-append Old (h.progress.settled ++ e ∷ []) (fin.values (fin.remove h.progress.waiting w))
        (all-append Old h.progress.settled (e ∷ []) (all_front Old h.progress.settled (fin.values h.progress.waiting) (all_self old))
        ((all_behind Old r.front (e ∷ r.back) parts).0, tt)) rest in
        record {
          settled = (e ∷ [], ap (λ x. x.settled) q);
          waiting = λ x d i. by_word x d i (eqb x w) refl;
          entries = subst (λ x. AllByRecursion (λ d. Old d ⊎ (Some d.worker ≡ None)) (made x)) (sym q)
              (all_weaker Old (λ d. Old d ⊎ (Some d.worker ≡ None)) (λ d i. inl i) (made (settles h.progress w (Some e))) all);
        }
      where
        same_entry : (a b : Entry) → Some a ≡ Some b → a ≡ b
        same_entry a b i = cc

        by_word : (x : ℕ) (d : Entry) → waits_at h x ≡ Some d → (t : Bool) → eqb x w ≡ t → ((waits_at k x ≡ Some d) × (at_word k x ≡ at_word h x))
            ⊎ StandsFrom (length h.progress.settled) k.progress.settled d
        by_word x d i true s =
            let one : e ≡ d = same_entry e d (sym is ∙ ap (λ y. waits_at h y) (sym (eqb-true x w s)) ∙ i) in
            inr (h.progress.settled, [], ap (λ y. y.settled) q ∙ ap (λ y. h.progress.settled ++ y ∷ []) one, least_length (length h.progress.settled))
        by_word x d i false s = inl (
          ap (λ y. fin.get y.waiting x) q ∙ get_gone h.progress.waiting w x ∙ ap (λ b. cond b None (fin.get h.progress.waiting x)) s
              ∙ i,
          ap (λ ws. Rattle.std.specs.Prelude.slice_index ws x) words,
        )

-- one comes to wait at a word at which none waits
pub follows_won : {G : Type 0} (name : ℕ) (h k : Heap G) (w : ℕ) (o : Option Entry) → k.progress ≡ takes_effect h.progress w o → waits_at h w ≡ None →
    ((e : Entry) → o ≡ Some e → e.worker ≡ name) →
    ((x : ℕ) → x ≢ w → at_word k x ≡ at_word h x) → Follows (Some name) h k
follows_won {G} name h k w o same none own words = by_case o refl same
  where
    other : (x : ℕ) (e : Entry) → waits_at h x ≡ Some e → x ≢ w
    other x e is same = some_none e (sym is ∙ ap (λ y. waits_at h y) same ∙ none)
      where
        some_none : (e : Entry) → Some e ≡ None → ⊥
        some_none e q = cc

    by_case : (x : Option Entry) → o ≡ x → k.progress ≡ takes_effect h.progress w x → Follows (Some name) h k
    by_case None i q = follows_same (Some name) h k q (λ x e is. words x (other x e is))
    by_case (Some e) i q =
        let r = waits_between h.progress.waiting w e none in
        let old : List Entry = made h.progress in
        let Old : Entry → Type 0 = λ x. IsAny (λ d. x ≡ d) old ⊎ (Some x.worker ≡ Some name) in
        let all : AllByRecursion Old old = all_weaker (λ x. IsAny (λ d. x ≡ d) old) Old (λ x j. inl j) old (all_self old) in
        let waited : AllByRecursion Old (r.front ++ r.back) = subst (AllByRecursion Old) r.was
        (all_behind Old h.progress.settled (fin.values h.progress.waiting) all) in
        record {
          settled = ([], ap (λ x. x.settled) q ∙ sym (append-nil h.progress.settled));
          waiting = λ x d is. inl (
            ap (λ y. fin.get y.waiting x) q ∙ get_put h.progress.waiting w e x
                ∙ ap (λ b. cond b (Some e) (fin.get h.progress.waiting x)) (test_false x (other x d is)) ∙ is,
            words x (other x d is),
          );
          entries = subst (λ y. AllByRecursion Old (made y)) (sym q) (all-append Old h.progress.settled (fin.values (fin.insert h.progress.waiting w e))
              (all_front Old h.progress.settled (fin.values h.progress.waiting) all)
              (subst (AllByRecursion Old) (sym r.is) (all-append Old r.front (e ∷ r.back) (all_front Old r.front r.back waited)
              (inr (ap Some (own e i)), all_behind Old r.front r.back waited))));
        }
      where
        test_false : (x : ℕ) → x ≢ w → eqb x w ≡ false
        test_false x ne = by_test (eqb x w) refl
          where
            by_test : (t : Bool) → eqb x w ≡ t → t ≡ false
            by_test true s = absurd (ne (eqb-true x w s))
            by_test false s = refl

-- ---- each call's update lasts

stands_weaker : (n m : ℕ) (es : List Entry) (e : Entry) → n ≤ m → StandsFrom m es e → StandsFrom n es e
stands_weaker n m es e le h = (h.0, h.1, h.2, through n m (length h.0) le h.3)
  where
    through : (a b c : ℕ) → a ≤ b → b ≤ c → a ≤ c
    through a b c i j = omega (arith, i, j)

pub unmade_lasts : {G : Type 0} (who : Option ℕ) (h k : Heap G) (name number : ℕ) → Follows who h k → who ≢ Some name → IsUnmade h.progress name number →
    IsUnmade k.progress name number
unmade_lasts who h k name number f other none = all_weaker (λ e. IsAny (λ d. e ≡ d) (made h.progress) ⊎ (Some e.worker ≡ who))
    (λ e. e.worker ≡ name → e.number ≡ number → ⊥)
    (λ e s. ⊎_elim (λ was. all_from (λ d. d.worker ≡ name → d.number ≡ number → ⊥) (made h.progress) e none was) (λ is same num. other (sym is ∙ ap Some same))
    s) (made k.progress) f.entries

pub update_lasts : {G : Type 0} (who : Option ℕ) (h k : Heap G) (name number : ℕ) (call : Call) (first : ℕ) (deed : Deed) → Follows who h k → who ≢ Some name →
    first ≤ length h.progress.settled →
    HasUpdate h name number call first deed → HasUpdate k name number call first deed
update_lasts who h k name number call first Fresh f other le u = unmade_lasts who h k name number f other u
update_lasts who h k name number call first (Making word to) f other le (inl x) = ⊎_elim
    (λ y. inl (y.0, y.1 ∙ x.1)) (λ y. inr (stands_weaker first (length h.progress.settled) k.progress.settled (update_of name number call) le y))
    (f.waiting word (update_of name number call) x.0)
update_lasts who h k name number call first (Making word to) f other le (inr x) = inr (settled_stands who h k first f (update_of name number call) x)
  where
    settled_stands : {G : Type 0} (who : Option ℕ) (h k : Heap G) (n : ℕ) → Follows who h k → (e : Entry) → StandsFrom n h.progress.settled e →
        StandsFrom n k.progress.settled e
    settled_stands who h k n f e s = subst (λ es. StandsFrom n es e) (sym f.settled.1) (stands_later n h.progress.settled f.settled.0 e s)
update_lasts who h k name number call first Made f other le x = subst (λ es. StandsFrom first es (update_of name number call)) (sym f.settled.1)
    (stands_later first h.progress.settled f.settled.0 (update_of name number call) x)

-- the longer list of settled updates
pub settled_longer : {G : Type 0} (who : Option ℕ) (h k : Heap G) → Follows who h k → length h.progress.settled ≤ length k.progress.settled
settled_longer who h k f = longer (length h.progress.settled) (length f.settled.0) (length k.progress.settled)
    (ap length f.settled.1 ∙ Rattle.std.proofs.lemmas.List.length-append h.progress.settled f.settled.0)
  where
    longer : (a b n : ℕ) → n ≡ a + b → a ≤ n
    longer a b n e = omega (arith, e)
