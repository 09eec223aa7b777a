-- The rows of a moment while a worker links its own, and while it draws one.
use Rattle.std.proofs.Common.{◌≡◌, ⊎_elim, ℕ, zero, suc, ◌+◌, ◌*◌, ◌≤◌, ◌==◌, Bool, true, false, cond, min, List, [], ◌∷◌, ◌++◌, length, drop, count_by, slice_get, Option, Some, None, refl, sym, ◌∙◌, ap, subst, arith}
use Rattle.std.proofs.lemmas.Bool.{false≢true, eq-eqb}
use Rattle.std.proofs.lemmas.List.{take_all}
use Rattle.std.specs.Prelude.{Contains}
use Rattle.std.specs.List.{AllByRecursion}
use Rattle.flit_words.specs.declared.layouts.Layout.{Layout}
use Rattle.flit_words.specs.declared.layouts.Kind.{Kind}
use Rattle.flit_words.specs.declared.layouts.Kind.TheVariants.{List as List_kind, Hash, Tree}
use Rattle.flit_model.specs.Lists.{IsRisingFrom}
use Rattle.flit_model.proofs.Counting.{count_by-cons, counted, none_or_at}
use Rattle.flit_model.proofs.Elements.{all_weaker}
use Rattle.flit_model.proofs.Rising.{rising_each}
use Rattle.flit_rows.specs.Shares.{rows_in}
use Rattle.flit_rows.specs.Taking.{lacks, is_past, filled, with_row}
use Rattle.flit_rows.proofs.TakeLaws.{past_lt, past_none, from_one}
use Rattle.flit_structure.specs.declared.workers.Worker.{Worker}
use Rattle.flit_structure.specs.Moments.{made}
use Rattle.flit_structure.specs.Lawful.{rows_needed}
use Rattle.flit_structure.proofs.Names.{all_put, all_at}
use Rattle.flit_crew.specs.Heaps.{Heap}
use Rattle.flit_crew.specs.Anatomies.{Anatomy, own_in, hand_at}
use Rattle.flit_crew.specs.Rows.{IsDealt}
use Rattle.flit_crew.specs.Accounts.{IsPool, Rows, IsTight, AreTight, inserts_in}
use Rattle.flit_crew.proofs.Owning.{contains_self}
use Rattle.flit_crew.proofs.Rowing.{linked, followed, drawn}
use Rattle.flit_crew.proofs.Accounting.{count_split, count_put}

-- ---- a row goes to the first place that has none

abbrev times_in : ℕ → List ℕ → ℕ
times_in row rows = count_by (λ r. r == row) rows

one_filled : (n row r x : ℕ) (rs : List ℕ) (b : Bool) → (r == 0) ≡ b → (row == 0) ≡ false → lacks (suc n) (r ∷ rs) ≡ true →
    (lacks n rs ≡ true → times_in x (rows_in (filled row rs)) ≡ times_in x (row ∷ rows_in rs)) →
    times_in x (rows_in (filled row (r ∷ rs))) ≡ times_in x (row ∷ rows_in (r ∷ rs))
one_filled n row r x rs true e ne l rec = rw (e, ne) refl
one_filled n row r x rs false e ne l rec =
    let l' : lacks n rs ≡ true = rw e at l in
    rw (e, e) (count_by-cons (λ y. y == x) r (rows_in (filled row rs)) ∙ ap (λ k. cond (r == x) 1 0 + k) (rec l' ∙ count_by-cons (λ y. y == x) row (rows_in rs))
    ∙ turned (cond (r == x) 1 0) (cond (row == x) 1 0) (times_in x (rows_in rs))
    ∙ sym (count_by-cons (λ y. y == x) row (r ∷ rows_in rs) ∙ ap (λ k. cond (row == x) 1 0 + k) (count_by-cons (λ y. y == x) r (rows_in rs))))
  where
    turned : (a b c : ℕ) → a + (b + c) ≡ b + (a + c)
    turned a b c = omega arith

filled_times : (n row x : ℕ) (spare : List ℕ) → (row == 0) ≡ false → lacks n spare ≡ true →
    times_in x (rows_in (filled row spare)) ≡ times_in x (row ∷ rows_in spare)
filled_times zero row x spare ne l = absurd (false≢true l)
filled_times (suc n) row x [] ne l = absurd (false≢true l)
filled_times (suc n) row x (r ∷ rs) ne l = one_filled n row r x rs (r == 0) refl ne l (filled_times n row x rs ne)

one_longer : (n row r : ℕ) (rs : List ℕ) (b : Bool) → (r == 0) ≡ b → (row == 0) ≡ false → lacks (suc n) (r ∷ rs) ≡ true →
    (lacks n rs ≡ true → length (rows_in (filled row rs)) ≡ suc (length (rows_in rs))) →
    length (rows_in (filled row (r ∷ rs))) ≡ suc (length (rows_in (r ∷ rs)))
one_longer n row r rs true e ne l rec = rw (e, ne) refl
one_longer n row r rs false e ne l rec = let l' : lacks n rs ≡ true = rw e at l in rw (e, e) (ap suc (rec l'))

filled_longer : (n row : ℕ) (spare : List ℕ) → (row == 0) ≡ false → lacks n spare ≡ true → length (rows_in (filled row spare)) ≡ suc (length (rows_in spare))
filled_longer zero row spare ne l = absurd (false≢true l)
filled_longer (suc n) row [] ne l = absurd (false≢true l)
filled_longer (suc n) row (r ∷ rs) ne l = one_longer n row r rs (r == 0) refl ne l (filled_longer n row rs ne)

beyond_one : (n row r : ℕ) (rs : List ℕ) (b : Bool) → (r == 0) ≡ b → lacks (suc n) (r ∷ rs) ≡ true → (lacks n rs ≡ true → drop n (filled row rs) ≡ drop n rs) →
    drop (suc n) (filled row (r ∷ rs)) ≡ drop (suc n) (r ∷ rs)
beyond_one n row r rs true e l rec = rw e refl
beyond_one n row r rs false e l rec = let l' : lacks n rs ≡ true = rw e at l in rw e (rec l')

filled_beyond : (n row : ℕ) (spare : List ℕ) → lacks n spare ≡ true → drop n (filled row spare) ≡ drop n spare
filled_beyond zero row spare l = absurd (false≢true l)
filled_beyond (suc n) row [] l = absurd (false≢true l)
filled_beyond (suc n) row (r ∷ rs) l = beyond_one n row r rs (r == 0) refl l (filled_beyond n row rs)

filled_length : (row : ℕ) (spare : List ℕ) → length (filled row spare) ≡ length spare
filled_length row [] = refl
filled_length row (r ∷ rs) = by_test (r == 0) refl (filled_length row rs)
  where
    by_test : (b : Bool) → (r == 0) ≡ b → length (filled row rs) ≡ length rs → length (filled row (r ∷ rs)) ≡ length (r ∷ rs)
    by_test true e rest = rw e refl
    by_test false e rest = rw e (ap suc rest)

-- and those that were there stay
pub filled_keeps : (n row x : ℕ) (spare : List ℕ) → (row == 0) ≡ false → lacks n spare ≡ true → Contains (rows_in spare) x →
    Contains (rows_in (filled row spare)) x
filled_keeps n row x spare ne l has = ⊎_elim (λ none. absurd (clash (times_in x (rows_in (filled row spare))) (times_in x (rows_in spare)) (cond (row == x) 1 0)
    none
    (filled_times n row x spare ne l ∙ count_by-cons (λ y. y == x) row (rows_in spare))
    (counted (λ y. y == x) (rows_in spare) has.0 x has.1 (eq-eqb _ x has.2))))
    (λ k. k) (none_or_at (Contains (rows_in (filled row spare))) x (rows_in (filled row spare)) (contains_self (rows_in (filled row spare))))
  where
    clash : (a b d : ℕ) → a ≡ 0 → a ≡ d + b → 1 ≤ b → ⊥
    clash a b d z e i = omega (arith, z, e, i)

pub from_pool : (free : List ℕ) (i row : ℕ) → IsRisingFrom 1 free → slice_get free i ≡ Some row → (row == 0) ≡ false
from_pool free i row rising q = from_one free i row (rising_each (λ r. r) 1 free
    (subst (IsRisingFrom 1) (sym (Rattle.std.proofs.lemmas.List.map-id free)) rising)) q

needed_suc : (k : Kind) (n : ℕ) → rows_needed k * suc n ≡ rows_needed k + rows_needed k * n
needed_suc List_kind n = omega arith
needed_suc Hash n = omega arith
needed_suc Tree n = omega arith

within_more : (free : List ℕ) (counter others : ℕ) (t : Bool) → is_past free counter ≡ t → counter ≤ length free + (0 + others) →
    suc counter ≤ length free + (cond t 1 0 + others)
within_more free counter others true e h = omega (arith, h)
within_more free counter others false e h = omega (arith, past_lt free counter e)

module _ {Op : Type 0} (A : Anatomy Op) (l : Layout) (free : List ℕ) where
  -- ---- a worker links all its rows

  pub rows_linked : {G : Type 0} (counter : ℕ) (h k : Heap G) (a : List (Worker Op)) (u w : Worker Op) (b : List (Worker Op)) → own_in A w.doing ≡ [] →
      k.given ≡ own_in A u.doing ++ h.given →
      length (own_in A u.doing) ≡ rows_needed l.kind → inserts_in (made k.progress) ≡ suc (inserts_in (made h.progress)) →
      (hand_at A w.doing).ticket ≡ (hand_at A u.doing).ticket → (IsTight A l u → IsTight A l w) →
      Rows A l free counter h (a ++ u ∷ b) → Rows A l free counter k (a ++ w ∷ b)
  rows_linked counter h k a u w b none given need inserts ticket tight r = record {
    dealt = subst (λ rows. IsDealt (λ x. own_in A x.doing) free counter rows (a ++ w ∷ b)) (sym given)
        (linked (λ x. own_in A x.doing) free counter h.given a u w b none r.dealt);
    linked = ap length given ∙ Rattle.std.proofs.lemmas.List.length-append (own_in A u.doing) h.given ∙ ap (λ n. n + length h.given) need
        ∙ ap (λ n. rows_needed l.kind + n) r.linked
        ∙ sym (needed_suc l.kind (inserts_in (made h.progress))) ∙ ap (λ n. rows_needed l.kind * n) (sym inserts);
    within = subst (λ n. counter ≤ length free + n) (sym (count_put (λ x. is_past free (hand_at A x.doing).ticket) a b u w (ap (λ t. is_past free t) ticket)))
        r.within;
    past = all_put (λ x. length free ≤ (hand_at A x.doing).ticket → length free ≤ counter) a b u w
        (λ le. all_at (λ x. length free ≤ (hand_at A x.doing).ticket → length free ≤ counter) a b u r.past (subst (λ t. length free ≤ t) ticket le)) r.past;
    tight = all_put (IsTight A l) a b u w (tight (all_at (IsTight A l) a b u r.tight)) r.tight;
  }

  -- ---- a worker draws

  past_later : (counter : ℕ) (us : List (Worker Op)) → AllByRecursion (λ x. length free ≤ (hand_at A x.doing).ticket → length free ≤ counter) us →
      AllByRecursion (λ x. length free ≤ (hand_at A x.doing).ticket → length free ≤ suc counter) us
  past_later counter us h = all_weaker (λ x. length free ≤ (hand_at A x.doing).ticket → length free ≤ counter) (λ x. length free ≤ (hand_at A x.doing).ticket →
      length free ≤ suc counter) (λ x k le. longer (length free) counter (k le)) us h
    where
      longer : (n c : ℕ) → n ≤ c → n ≤ suc c
      longer n c h = omega (arith, h)

  dealt_more : (counter : ℕ) (given : List ℕ) (a : List (Worker Op)) (u w : Worker Op) (b : List (Worker Op)) (spare : List ℕ) → IsPool l free →
      lacks (rows_needed l.kind) spare ≡ true →
      own_in A u.doing ≡ rows_in spare → own_in A w.doing ≡ rows_in (with_row (slice_get free counter) spare) →
      IsDealt (λ x. own_in A x.doing) free counter given (a ++ u ∷ b) → IsDealt (λ x. own_in A x.doing) free (suc counter) given (a ++ w ∷ b)
  dealt_more counter given a u w b spare pool missing was is d = by_row (slice_get free counter) refl is
    where
      ones : AllByRecursion (λ row. 1 ≤ row) free
      ones = rising_each (λ row. row) 1 free (subst (IsRisingFrom 1) (sym (Rattle.std.proofs.lemmas.List.map-id free)) pool.rising)

      same_min : (c n : ℕ) → n ≤ c → min (suc c) n ≡ min c n
      same_min c n le = omega (arith, le)

      longer : (n c : ℕ) → n ≤ c → n ≤ suc c
      longer n c h = omega (arith, h)

      by_row : (o : Option ℕ) → slice_get free counter ≡ o → own_in A w.doing ≡ rows_in (with_row o spare) →
          IsDealt (λ x. own_in A x.doing) free (suc counter) given (a ++ w ∷ b)
      by_row None q now =
          let past : length free ≤ counter = past_none free counter q in
          let same = followed (λ x. own_in A x.doing) free counter given a u w b (now ∙ sym was) d in
          record {
            rows = λ row. same.rows row ∙ ap (λ xs. times_in row xs) (take_all counter free past
                ∙ sym (take_all (suc counter) free (longer (length free) counter past)));
            many = same.many ∙ sym (same_min counter (length free) past);
          }
      by_row (Some row) q now =
          let ne : (row == 0) ≡ false = from_one free counter row ones q in
          drawn (λ x. own_in A x.doing) free counter given a u w b row q
          (λ r. ap (λ xs. times_in r xs) now ∙ filled_times (rows_needed l.kind) row r spare ne missing ∙ ap (λ xs. times_in r (row ∷ xs)) (sym was))
          (ap length now ∙ filled_longer (rows_needed l.kind) row spare ne missing ∙ ap (λ xs. suc (length xs)) (sym was)) d

  pub rows_drawn : {G : Type 0} (counter : ℕ) (h : Heap G) (a : List (Worker Op)) (u w : Worker Op) (b : List (Worker Op)) → IsPool l free →
      lacks (rows_needed l.kind) (hand_at A u.doing).spare ≡ true → is_past free (hand_at A u.doing).ticket ≡ false →
      own_in A u.doing ≡ rows_in (hand_at A u.doing).spare → own_in A w.doing ≡ rows_in (hand_at A w.doing).spare →
      (hand_at A w.doing).spare ≡ with_row (slice_get free counter) (hand_at A u.doing).spare → (hand_at A w.doing).ticket ≡ counter →
      Rows A l free counter h (a ++ u ∷ b) → Rows A l free (suc counter) h (a ++ w ∷ b)
  rows_drawn counter h a u w b pool missing below was is spare ticket r = record {
    dealt = dealt_more counter h.given a u w b (hand_at A u.doing).spare pool missing was (is ∙ ap rows_in spare) r.dealt;
    linked = r.linked;
    within = subst (λ n. suc counter ≤ length free + n) (sym (count_split (λ x. is_past free (hand_at A x.doing).ticket) a b w
        ∙ ap (λ t. cond (is_past free t) 1 0 + others) ticket))
        (within_more free counter others (is_past free counter) refl
        (subst (λ n. counter ≤ length free + n) (count_split (λ x. is_past free (hand_at A x.doing).ticket) a b u ∙ ap (λ t. cond t 1 0 + others) below)
        r.within));
    past = all_put (λ x. length free ≤ (hand_at A x.doing).ticket → length free ≤ suc counter) a b u w
        (λ le. longer (length free) counter (subst (λ t. length free ≤ t) ticket le)) (past_later counter (a ++ u ∷ b) r.past);
    tight = all_put (IsTight A l) a b u w (tight_now (slice_get free counter) spare (all_at (IsTight A l) a b u r.tight)) r.tight;
  }
    where
      others : ℕ
      others = count_by (λ x. is_past free (hand_at A x.doing).ticket) a + count_by (λ x. is_past free (hand_at A x.doing).ticket) b

      longer : (n c : ℕ) → n ≤ c → n ≤ suc c
      longer n c h = omega (arith, h)

      tight_now : (o : Option ℕ) → (hand_at A w.doing).spare ≡ with_row o (hand_at A u.doing).spare → IsTight A l u → IsTight A l w
      tight_now None q t = subst (AreTight l) (sym q) t
      tight_now (Some row) q t = subst (AreTight l) (sym q) (
        subst (λ n. rows_needed l.kind ≤ n) (sym (filled_length row (hand_at A u.doing).spare)) t.0,
        ap rows_in (filled_beyond (rows_needed l.kind) row (hand_at A u.doing).spare missing) ∙ t.1,
      )
