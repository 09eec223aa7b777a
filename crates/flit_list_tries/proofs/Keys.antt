-- How many keys are known, and how many of them are before that of a row: no fewer as more is made, more of them the greater
-- the row's key is, and all of them no more than the rows of the layout.
use Rattle.std.proofs.Common.{◌≡◌, ◌⊎◌, inl, inr, ℕ, ◌+◌, ◌-◌, ◌*◌, ◌<◌, ◌≤◌, ◌==◌, ◌&&◌, ◌||◌, nat_lt, not, Bool, true, false, List, length, count_by, Contains, refl, sym, ◌∙◌, ap, subst, arith, ne_eqb, eq-eqb}
use Rattle.std.specs.List.{range_with_len}
use Rattle.std.proofs.lemmas.Bool.{lt-ltb, le-ltb, ltb-true, false≢true}
use Rattle.std.proofs.lemmas.List.Sums.{count_by-le-length, length-filter}
use Rattle.flit_words.specs.declared.layouts.Layout.{Layout}
use Rattle.flit_words.specs.Layouts.{last_row_of}
use Rattle.flit_model.specs.Maps.{key_of}
use Rattle.flit_model.specs.Lists.{key_in, stands_in}
use Rattle.flit_model.specs.declared.calls.Entry.{Entry}
use Rattle.flit_model.proofs.Counting.{count_by-le}
use Rattle.flit_model.proofs.Elements.{all_weaker}
use Rattle.flit_model.proofs.Membership.{contains-filter, contains-range, list_any-contains}
use Rattle.flit_structure.specs.Moments.{made}
use Rattle.flit_structure.specs.Lawful.{is_insert, rows_needed}
use Rattle.flit_crew.specs.Accounts.{inserts_in}
use Rattle.flit_crew_bounds.specs.Bounding.{View, view_of}
use Rattle.flit_list_heap.specs.Keeping.{ListHeap, IsReached, IsLinked, HasInsert, Kept}
use Rattle.flit_list_heap.proofs.Places.{last-row, row_most, row_fits}
use Rattle.flit_list_laws.specs.ListCrew.{IsOfLists}
use Rattle.flit_list_laws.proofs.Cohering.{one_row}
use Rattle.flit_list_tries.specs.ListTries.{rows_beside, is_insert_of, is_before, keys_known, all_known, keys_left}
use Rattle.flit_list_tries.proofs.Known.{one_more, beside_few}

-- ---- tests of keys

and_weaker : (a b c : Bool) → (b ≡ true → c ≡ true) → (a && b) ≡ true → (a && c) ≡ true
and_weaker true b c f h = f h
and_weaker false b c f h = h

or_none : (a b : Bool) → a ≡ false → (a || b) ≡ b
or_none true b e = absurd (false≢true (sym e))
or_none false b e = refl

or_first : (a b : Bool) → a ≡ true → (a || b) ≡ true
or_first true b e = refl
or_first false b e = absurd (false≢true e)

-- a link passes over a row's key: it leads to no row, or to one with a greater key
abbrev pub IsBeyond : Layout → List ℕ → ℕ → ℕ → Type 0
IsBeyond l words r q = (q ≡ 0) ⊎ (key_in l words r < key_in l words q)

module _ (l : Layout) (words : List ℕ) where
  none_first : (r : ℕ) → 1 ≤ r → (r == 0) ≡ false
  none_first r some = ne_eqb r 0 (more r some)
    where
      more : (r : ℕ) → 1 ≤ r → r ≡ 0 → ⊥
      more r h e = omega (arith, h, e)

  before_own : (r : ℕ) → 1 ≤ r → is_before l words r (key_in l words r) ≡ false
  unfolding is_before
  before_own r some = or_none (r == 0) (nat_lt (key_in l words r) (key_in l words r)) (none_first r some)
      ∙ le-ltb (key_in l words r) (key_in l words r) (same (key_in l words r))
    where
      same : (n : ℕ) → n ≤ n
      same n = omega arith

  before_beyond : (r q key : ℕ) → IsBeyond l words r q → key ≤ key_in l words r → is_before l words q key ≡ true
  unfolding is_before
  before_beyond r q key (inl none) le = or_first (q == 0) (nat_lt key (key_in l words q)) (eq-eqb q 0 none)
  before_beyond r q key (inr less) le = by_none (q == 0) (lt-ltb key (key_in l words q) (through key (key_in l words r) (key_in l words q) le less))
    where
      through : (a b c : ℕ) → a ≤ b → b < c → a < c
      through a b c h i = omega (arith, h, i)

      by_none : (b : Bool) → nat_lt key (key_in l words q) ≡ true → (b || nat_lt key (key_in l words q)) ≡ true
      by_none true e = refl
      by_none false e = e

  before_less : (r key : ℕ) → 1 ≤ r → is_before l words r key ≡ true → key ≤ key_in l words r
  unfolding is_before
  before_less r key some h = below key (key_in l words r) (ltb-true key (key_in l words r)
      (sym (or_none (r == 0) (nat_lt key (key_in l words r)) (none_first r some)) ∙ h))
    where
      below : (a b : ℕ) → a < b → a ≤ b
      below a b h = omega (arith, h)

-- the same where the row has the same key, or is none
pub before_same : (l : Layout) (a b : List ℕ) (row key : ℕ) → (row ≡ 0) ⊎ (key_in l a row ≡ key_in l b row) → is_before l a row key ≡ true →
    is_before l b row key ≡ true
unfolding is_before
before_same l a b row key (inl none) h = or_first (row == 0) (nat_lt key (key_in l b row)) (eq-eqb row 0 none)
before_same l a b row key (inr same) h = subst (λ n. ((row == 0) || nat_lt key n) ≡ true) same h

-- ---- how many keys are known

sums : (a b c d : ℕ) → a ≤ c → b ≤ d → a + b ≤ c + d
sums a b c d h i = omega (arith, h, i)

module _ (l : Layout) (free : List ℕ) where
  abbrev opened : View → (ℕ → Bool) → ℕ
  opened v test = count_by (λ row. test (key_in l v.opening.words row)) (rows_beside l free)

  abbrev inserted : View → (ℕ → Bool) → ℕ
  inserted v test = count_by (is_insert_of test) (made v.progress)

  pub weaker : (v : View) (test other : ℕ → Bool) → ((key : ℕ) → test key ≡ true → other key ≡ true) → keys_known l free v test ≤ keys_known l free v other
  unfolding keys_known
  weaker v test other more = sums (opened v test) (inserted v test) (opened v other) (inserted v other)
      (count_by-le (λ row. test (key_in l v.opening.words row)) (λ row. other (key_in l v.opening.words row))
      (λ row. more (key_in l v.opening.words row)) (rows_beside l free))
      (count_by-le (is_insert_of test) (is_insert_of other)
      (λ e. and_weaker (is_insert e.call) (test (key_of e.call)) (other (key_of e.call)) (more (key_of e.call))) (made v.progress))

  pub all_most : (v : View) (test : ℕ → Bool) → keys_known l free v test ≤ all_known l free v
  all_most v test = weaker v test (λ key. true) (λ key h. refl)

  pub known_grows : (v w : View) (test : ℕ → Bool) → w.opening ≡ v.opening →
      ((P : Entry → Bool) → count_by P (made v.progress) ≤ count_by P (made w.progress)) → keys_known l free v test ≤ keys_known l free w test
  unfolding keys_known
  known_grows v w test same more = sums (opened v test) (inserted v test) (opened w test) (inserted w test)
      (same_le (opened v test) (opened w test) (ap (λ o. count_by (λ row. test (key_in l o.words row)) (rows_beside l free)) same))
      (more (is_insert_of test))
    where
      same_le : (a b : ℕ) → b ≡ a → a ≤ b
      same_le a b e = omega (arith, e)

  -- ---- the rows beside the pool

  module _ (lists : IsOfLists l) (h : ListHeap) (kept : Kept l free h) where
    beside : (row : ℕ) → IsReached l h.opening.words row → Contains (rows_beside l free) row
    unfolding rows_beside
    beside row a = contains-filter (λ r. not (stands_in free r)) (range_with_len 1 l.rows) row
        (contains-range 1 l.rows row (row_fits l free h kept row (inl a)).0 (below row l.rows (row_most l free h kept row (inl a))))
        (by_pool (stands_in free row) refl)
      where
        below : (r n : ℕ) → r ≤ n → r < 1 + n
        below r n i = omega (arith, i)

        by_pool : (b : Bool) → stands_in free row ≡ b → not b ≡ true
        by_pool false e = refl
        by_pool true e = absurd (kept.apart row (list_any-contains row free e) a)

    pub known_most : rows_needed l.kind * inserts_in (made h.progress) ≤ length free → all_known l free (view_of h) ≤ l.rows
    unfolding keys_known rows_beside
    known_most room = few (count_by (λ row. true) (rows_beside l free)) (length (rows_beside l free))
        (count_by (λ row. not (stands_in free row)) (range_with_len 1 l.rows)) (count_by (is_insert_of (λ key. true)) (made h.progress))
        (inserts_in (made h.progress)) (length free) l.rows
        (count_by-le-length (λ row. true) (rows_beside l free))
        (length-filter (λ row. not (stands_in free row)) (range_with_len 1 l.rows))
        (beside_few 1 l.rows free kept.pool.rising (all_weaker (λ row. row ≤ last_row_of l) (λ row. row < 1 + l.rows) (λ row i. below row i) free kept.pool.fit))
        (count_by-le (is_insert_of (λ key. true)) (λ e. is_insert e.call) (λ e. and_true (is_insert e.call)) (made h.progress))
        (one (rows_needed l.kind) (inserts_in (made h.progress)) (length free) (one_row l.kind lists.kind) room)
      where
        below : (row : ℕ) → row ≤ last_row_of l → row < 1 + l.rows
        below row i = less row (last_row_of l) l.rows i (last-row l lists.kind)
          where
            less : (r a n : ℕ) → r ≤ a → a ≡ n → r < 1 + n
            less r a n i e = omega (arith, i, e)

        and_true : (b : Bool) → (b && true) ≡ true → b ≡ true
        and_true true e = refl
        and_true false e = e

        one : (k n m : ℕ) → k ≡ 1 → k * n ≤ m → n ≤ m
        one k n m e i = by_one n m (subst (λ x. x * n ≤ m) e i)
          where
            by_one : (n m : ℕ) → 1 * n ≤ m → n ≤ m
            by_one n m h = omega (arith, h)

        few : (c k d x i f n : ℕ) → c ≤ k → k ≡ d → d + f ≤ n → x ≤ i → i ≤ f → c + x ≤ n
        few c k d x i f n a e b g j = omega (arith, a, e, b, g, j)

    -- the key of a linked row is known; so of a link that passes over it more are before
    module _ (r q : ℕ) (some : 1 ≤ r) (beyond : IsBeyond l h.words r q) where
      abbrev v : View
      v = view_of h

      abbrev test : ℕ → Bool
      test = is_before l h.words r

      abbrev other : ℕ → Bool
      other = is_before l h.words q

      more : (key : ℕ) → test key ≡ true → other key ≡ true
      more key t = before_beyond l h.words r q key beyond (before_less l h.words r key some t)

      own_no : test (key_in l h.words r) ≡ false
      own_no = before_own l h.words r some

      own_yes : other (key_in l h.words r) ≡ true
      own_yes = before_beyond l h.words r q (key_in l h.words r) beyond (same (key_in l h.words r))
        where
          same : (n : ℕ) → n ≤ n
          same n = omega arith

      more_inserts : (e : Entry) → is_insert_of test e ≡ true → is_insert_of other e ≡ true
      more_inserts e = and_weaker (is_insert e.call) (test (key_of e.call)) (other (key_of e.call)) (more (key_of e.call))

      and_both : (a b : Bool) → a ≡ true → (a && b) ≡ b
      and_both true b e = refl
      and_both false b e = absurd (false≢true e)

      of_insert : (tested : ℕ → Bool) (b : Bool) (i : HasInsert h.progress (key_in l h.words r)) → tested (key_in l h.words r) ≡ b → is_insert_of tested i.update ≡ b
      of_insert tested b i e = and_both (is_insert i.update.call) (tested (key_of i.update.call)) i.insert ∙ ap tested i.of_key ∙ e

      by_row : IsReached l h.opening.words r → opened v test + inserted v test + 1 ≤ opened v other + inserted v other
      by_row a = rows (opened v test) (inserted v test) (opened v other) (inserted v other)
          (one_more (λ row. test (key_in l h.opening.words row)) (λ row. other (key_in l h.opening.words row)) (λ row. more (key_in l h.opening.words row))
          (rows_beside l free) r (beside r a)
          (ap test (sym (kept.stays r a)) ∙ own_no) (ap other (sym (kept.stays r a)) ∙ own_yes))
          (count_by-le (is_insert_of test) (is_insert_of other) more_inserts (made h.progress))
        where
          rows : (a b c d : ℕ) → a + 1 ≤ c → b ≤ d → a + b + 1 ≤ c + d
          rows a b c d h i = omega (arith, h, i)

      by_insert : HasInsert h.progress (key_in l h.words r) → opened v test + inserted v test + 1 ≤ opened v other + inserted v other
      by_insert i = inserts (opened v test) (inserted v test) (opened v other) (inserted v other)
          (count_by-le (λ row. test (key_in l h.opening.words row)) (λ row. other (key_in l h.opening.words row)) (λ row. more (key_in l h.opening.words row))
          (rows_beside l free))
          (one_more (is_insert_of test) (is_insert_of other) more_inserts (made h.progress) i.update i.among
          (of_insert test false i own_no) (of_insert other true i own_yes))
        where
          inserts : (a b c d : ℕ) → a ≤ c → b + 1 ≤ d → a + b + 1 ≤ c + d
          inserts a b c d h i = omega (arith, h, i)

      pub known_more : IsLinked l h r → keys_known l free (view_of h) (is_before l h.words r) + 1 ≤ keys_known l free (view_of h) (is_before l h.words q)
      unfolding keys_known
      known_more (inl a) = by_row a
      known_more (inr g) = by_insert (kept.grown r g)

    pub left_falls : (r q : ℕ) → IsLinked l h r → 1 ≤ r → IsBeyond l h.words r q → keys_left l free (view_of h) q + 1 ≤ keys_left l free (view_of h) r
    left_falls r q linked some beyond = falls (all_known l free (view_of h)) (keys_known l free (view_of h) (is_before l h.words r))
        (keys_known l free (view_of h) (is_before l h.words q)) (known_more r q some beyond linked) (all_most (view_of h) (is_before l h.words q))
      where
        falls : (n a b : ℕ) → a + 1 ≤ b → b ≤ n → (n - b) + 1 ≤ n - a
        falls n a b h i = omega (arith, h, i)
