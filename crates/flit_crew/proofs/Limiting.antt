-- The bound on Full: while each row of the pool is drawn, the workers have fewer than they might have, as one lacks a row.
use Rattle.std.proofs.Common.{◌≡◌, ◌⊎◌, inl, inr, ⊎_elim, ℕ, zero, suc, ◌+◌, ◌*◌, ◌<◌, ◌≤◌, ◌==◌, ◌&&◌, cond, Bool, true, false, List, [], ◌∷◌, ◌++◌, length, drop, count_by, Option, Some, refl, sym, ◌∙◌, ap, subst, arith}
use Rattle.std.proofs.lemmas.Bool.{eq-eqb, eqb-true}
use Rattle.std.specs.List.{AllByRecursion}
use Rattle.std.specs.FinMap as fin
use Rattle.flit_words.specs.declared.layouts.Layout.{Layout}
use Rattle.flit_words.specs.declared.layouts.Kind.{Kind}
use Rattle.flit_words.specs.declared.layouts.Kind.TheVariants.{List as List_kind, Hash, Tree}
use Rattle.flit_model.specs.declared.calls.Call.{Call}
use Rattle.flit_model.specs.declared.calls.Entry.{Entry}
use Rattle.flit_model.proofs.Counting.{count_by-cons, count_by-append}
use Rattle.flit_model.proofs.Elements.{all_front, all_behind}
use Rattle.flit_rows.specs.Shares.{rows_in}
use Rattle.flit_rows.specs.Taking.{lacks}
use Rattle.flit_structure.specs.declared.workers.Doing.{Doing}
use Rattle.flit_structure.specs.declared.workers.Doing.TheVariants.{Idle, Busy, Evicting}
use Rattle.flit_structure.specs.declared.workers.Worker.{Worker}
use Rattle.flit_structure.specs.Moments.{HaveDifferentNames, busy}
use Rattle.flit_structure.specs.Lawful.{is_insert, rows_needed}
use Rattle.flit_crew.specs.Machines.{Deed, Fresh, Making, Made, MakesAt, has_linked, deed_of, hand_in}
use Rattle.flit_crew.specs.Heaps.{Heap}
use Rattle.flit_crew.specs.Rows.{own_many}
use Rattle.flit_crew.specs.Anatomies.{Anatomy, own, own_in, rows_but, deed_by, hand_at}
use Rattle.flit_crew.specs.Accounts.{IsAny, History, IsMaker, Makes, inserts_in}
use Rattle.flit_crew.proofs.Numbering.{IsOther}
use Rattle.flit_crew.proofs.Updating.{gone_between}
use Rattle.flit_crew.proofs.Recording.{all_found, maker_is, others_wait}

-- what is so of each by its place
pub all_placed : {X : Type 0} (P : X → Type 0) (us : List X) → ((a : List X) (u : X) (b : List X) → us ≡ a ++ u ∷ b → P u) → AllByRecursion P us
all_placed P [] f = tt
all_placed P (x ∷ xs) f = (f [] x xs refl, all_placed P xs (λ a u b e. f (x ∷ a) u b (ap (λ ys. x ∷ ys) e)))

-- ---- a hand that lacks a row

by_zero : (n r : ℕ) (rs : List ℕ) (b : Bool) → (r == 0) ≡ b → (lacks n rs ≡ true → length (rows_in rs) < n) →
    length (rows_in rs) ≤ n → lacks (suc n) (r ∷ rs) ≡ true → length (rows_in (r ∷ rs)) < suc n
by_zero n r rs true e rec le k = rw e (within (length (rows_in rs)) n le)
  where
    within : (a n : ℕ) → a ≤ n → a < suc n
    within a n i = omega (arith, i)
by_zero n r rs false e rec le k = let l : lacks n rs ≡ true = rw e at k in rw e (next (length (rows_in rs)) n (rec l))
  where
    next : (a n : ℕ) → a < n → suc a < suc n
    next a n i = omega (arith, i)

-- as many places as are filled have no more rows
pub rows_few : (n : ℕ) (spare : List ℕ) → rows_in (drop n spare) ≡ [] → length (rows_in spare) ≤ n
rows_few zero spare tight = subst (λ xs. length xs ≤ 0) (sym tight) (omega arith)
rows_few (suc n) [] tight = omega arith
rows_few (suc n) (r ∷ rs) tight = by_test (r == 0) refl (rows_few n rs tight)
  where
    by_test : (b : Bool) → (r == 0) ≡ b → length (rows_in rs) ≤ n → length (rows_in (r ∷ rs)) ≤ suc n
    by_test true e le = rw e (further (length (rows_in rs)) n le)
      where
        further : (a n : ℕ) → a ≤ n → a ≤ suc n
        further a n i = omega (arith, i)
    by_test false e le = rw e (next (length (rows_in rs)) n le)
      where
        next : (a n : ℕ) → a ≤ n → suc a ≤ suc n
        next a n i = omega (arith, i)

pub rows_lack : (n : ℕ) (spare : List ℕ) → rows_in (drop n spare) ≡ [] → lacks n spare ≡ true → length (rows_in spare) < n
rows_lack zero spare tight k = absurd (cc)
rows_lack (suc n) [] tight k = absurd (cc)
rows_lack (suc n) (r ∷ rs) tight k = by_zero n r rs (r == 0) refl (rows_lack n rs tight) (rows_few n rs tight) k

-- a hand that lacks none has as many as are needed
pub rows_full : (n : ℕ) (spare : List ℕ) → n ≤ length spare → rows_in (drop n spare) ≡ [] → lacks n spare ≡ false → length (rows_in spare) ≡ n
rows_full zero spare le tight k = ap length tight
rows_full (suc n) [] le tight k = absurd (short n le)
  where
    short : (n : ℕ) → suc n ≤ 0 → ⊥
    short n i = omega (arith, i)
rows_full (suc n) (r ∷ rs) le tight k = by_test (r == 0) refl (rows_full n rs (shorter n (length rs) le) tight)
  where
    shorter : (a b : ℕ) → suc a ≤ suc b → a ≤ b
    shorter a b i = omega (arith, i)

    by_test : (b : Bool) → (r == 0) ≡ b → (lacks n rs ≡ false → length (rows_in rs) ≡ n) → length (rows_in (r ∷ rs)) ≡ suc n
    by_test true e rest = absurd (clash (lacks n rs) (rw e at k))
      where
        clash : (b : Bool) → true ≡ false → ⊥
        clash b q = cc
    by_test false e rest = let l : lacks n rs ≡ false = rw e at k in rw e (ap suc (rest l))

pub need_small : (k : Kind) → (rows_needed k ≡ 1) ⊎ (rows_needed k ≡ 2)
need_small List_kind = inl refl
need_small Hash = inl refl
need_small Tree = inr refl

pub times_sum : (n x y : ℕ) → (n ≡ 1) ⊎ (n ≡ 2) → n * (x + y) ≡ n * x + n * y
times_sum n x y (inl e) = subst (λ m. m * (x + y) ≡ m * x + m * y) (sym e) (omega arith)
times_sum n x y (inr e) = subst (λ m. m * (x + y) ≡ m * x + m * y) (sym e) (omega arith)

-- ---- the inserts that wait, by worker

module _ {Op : Type 0} (A : Anatomy Op) where
  abbrev is_by : Worker Op → Entry → Bool
  is_by u e = is_insert e.call && (e.worker == u.name)

  abbrev pub inserts_by : List Entry → Worker Op → ℕ
  inserts_by es u = count_by (is_by u) es

  abbrev pub all_by : List Entry → List (Worker Op) → ℕ
  all_by es [] = 0
  all_by es (u ∷ us) = inserts_by es u + all_by es us

  abbrev ones : Entry → List (Worker Op) → ℕ
  ones e [] = 0
  ones e (u ∷ us) = cond (is_by u e) 1 0 + ones e us

  all_by-cons : (e : Entry) (es : List Entry) (us : List (Worker Op)) → all_by (e ∷ es) us ≡ ones e us + all_by es us
  all_by-cons e es [] = refl
  all_by-cons e es (u ∷ us) = sums (inserts_by (e ∷ es) u) (cond (is_by u e) 1 0) (inserts_by es u) (all_by (e ∷ es) us) (ones e us) (all_by es us)
      (count_by-cons (is_by u) e es) (all_by-cons e es us)
    where
      sums : (x a b y c d : ℕ) → x ≡ a + b → y ≡ c + d → x + y ≡ (a + c) + (b + d)
      sums x a b y c d i j = omega (arith, i, j)

  one_at_least : (e : Entry) (us : List (Worker Op)) → is_insert e.call ≡ true → IsAny (λ u. u.name ≡ e.worker) us → 1 ≤ ones e us
  one_at_least e [] is k = absurd k
  one_at_least e (u ∷ us) is (inl k) = subst (λ b. 1 ≤ cond b 1 0 + ones e us) (sym (both (is_insert e.call) (e.worker == u.name) is
      (eq-eqb e.worker u.name (sym k)))) (least (ones e us))
    where
      both : (a b : Bool) → a ≡ true → b ≡ true → (a && b) ≡ true
      both true b x y = y
      both false b x y = x

      least : (n : ℕ) → 1 ≤ 1 + n
      least n = omega arith
  one_at_least e (u ∷ us) is (inr k) = more (cond (is_by u e) 1 0) (ones e us) (one_at_least e us is k)
    where
      more : (a b : ℕ) → 1 ≤ b → 1 ≤ a + b
      more a b i = omega (arith, i)

  -- each is somebody's
  pub somebodys : (es : List Entry) (us : List (Worker Op)) → AllByRecursion (λ e. IsAny (λ u. u.name ≡ e.worker) us) es → inserts_in es ≤ all_by es us
  somebodys [] us all = omega arith
  somebodys (e ∷ es) us all = by_test (somebodys es us all.1) (is_insert e.call) refl
    where
      sums : (x i j y o z : ℕ) → x ≡ i + j → y ≡ o + z → i ≤ o → j ≤ z → x ≤ y
      sums x i j y o z a b c d = omega (arith, a, b, c, d)

      none : (n : ℕ) → 0 ≤ n
      none n = omega arith

      by_test : inserts_in es ≤ all_by es us → (b : Bool) → is_insert e.call ≡ b → inserts_in (e ∷ es) ≤ all_by (e ∷ es) us
      by_test rest true q = sums (inserts_in (e ∷ es)) 1 (inserts_in es) (all_by (e ∷ es) us) (ones e us) (all_by es us)
          (count_by-cons (λ d. is_insert d.call) e es ∙ ap (λ b. cond b 1 0 + inserts_in es) q) (all_by-cons e es us) (one_at_least e us q all.0)
          rest
      by_test rest false q = sums (inserts_in (e ∷ es)) 0 (inserts_in es) (all_by (e ∷ es) us) (ones e us) (all_by es us)
          (count_by-cons (λ d. is_insert d.call) e es ∙ ap (λ b. cond b 1 0 + inserts_in es) q) (all_by-cons e es us) (none (ones e us))
          rest

  -- ---- a worker whose insert waits has linked its rows

  some_counted : (P : Entry → Bool) (Q : Entry → Type 0) (es : List Entry) → AllByRecursion Q es → (count_by P es ≡ 0) ⊎ ((e : Entry) × (P e ≡ true) × Q e)
  some_counted P Q [] all = inl refl
  some_counted P Q (e ∷ es) all = by_test (some_counted P Q es all.1) (P e) refl
    where
      plain : (n : ℕ) → n ≡ 0 → 0 + n ≡ 0
      plain n e = omega (arith, e)

      by_test : (count_by P es ≡ 0) ⊎ ((d : Entry) × (P d ≡ true) × Q d) → (b : Bool) → P e ≡ b → (count_by P (e ∷ es) ≡ 0) ⊎ ((d : Entry) × (P d ≡ true) × Q d)
      by_test rest true q = inr (e, q, all.0)
      by_test rest false q = ⊎_elim (λ z. inl (count_by-cons P e es ∙ ap (λ b. cond b 1 0 + count_by P es) q ∙ plain (count_by P es) z)) (λ k. inr k) rest

  none_counted : (u : Worker Op) (name : ℕ) → name ≡ u.name → (es : List Entry) → AllByRecursion (IsOther name) es → inserts_by es u ≡ 0
  none_counted u name is [] all = refl
  none_counted u name is (e ∷ es) all =
      count_by-cons (is_by u) e es ∙ ap (λ b. cond b 1 0 + inserts_by es u) (by_test (is_insert e.call) (e.worker == u.name) refl)
      ∙ plain (inserts_by es u) (none_counted u name is es all.1)
    where
      plain : (n : ℕ) → n ≡ 0 → 0 + n ≡ 0
      plain n e = omega (arith, e)

      by_test : (a b : Bool) → (e.worker == u.name) ≡ b → (a && b) ≡ false
      by_test true true q = absurd (all.0 (eqb-true e.worker u.name q ∙ sym is))
      by_test true false q = refl
      by_test false b q = refl

  -- its operation is at its call
  abbrev pub IsAtCall : Doing Op → Type 0
  IsAtCall (Idle hand) = Unit {0}
  IsAtCall (Busy op call begun) = A.call op ≡ call
  IsAtCall (Evicting m) = Unit {0}

  linked_none : (t i past : Bool) (d : Deed) (word : ℕ) (rows : List ℕ) → i ≡ true → MakesAt (deed_by A t past d) word →
      rows_but A (t && (i && has_linked d)) rows ≡ []
  linked_none true i past Fresh word rows q m = absurd m
  linked_none true i past (Making x to) word rows q m = ap (λ b. rows_but A (b && true) rows) q
  linked_none true i past Made word rows q m = absurd m
  linked_none false i true d word rows q m = absurd m
  linked_none false i false d word rows q m = absurd m

  made_none : (word : ℕ) (e : Entry) (name number : ℕ) (d : Doing Op) → IsAtCall d → is_insert e.call ≡ true → Makes A word e name number d → own_in A d ≡ []
  made_none word e name number (Idle hand) at is m = absurd m
  made_none word e name number (Busy op call begun) at is m = linked_none (A.effects op) (is_insert (A.call op)) (A.past op) (deed_of (A.machine op)) word
      (hand_in (A.machine op)).spare (ap is_insert (at ∙ ap (λ x. x.call) (sym m.1)) ∙ is) m.0
  made_none word e name number (Evicting x) at is m = absurd m

  pub own_few : (d : Doing Op) (n : ℕ) → length (rows_in (hand_at A d).spare) ≤ n → length (own_in A d) ≤ n
  own_few (Idle hand) n le = le
  own_few (Busy op call begun) n le = by_test (A.effects op && (is_insert (A.call op) && has_linked (deed_of (A.machine op))))
    where
      by_test : (t : Bool) → length (rows_but A t (hand_in (A.machine op)).spare) ≤ n
      by_test true = omega arith
      by_test false = le
  own_few (Evicting m) n le = le

  module _ {G : Type 0} (l : Layout) (free : List ℕ) (h : Heap G) (need : ℕ) (small : (need ≡ 1) ⊎ (need ≡ 2)) where
    abbrev W : List Entry
    W = fin.values h.progress.waiting

    -- a worker's rows, and those that its insert has linked: no more than an insert needs
    pub term : (a : List (Worker Op)) (u : Worker Op) (b : List (Worker Op)) → HaveDifferentNames (a ++ u ∷ b) → History A l free h (a ++ u ∷ b) →
        IsAtCall u.doing →
        length (own_in A u.doing) ≤ need → length (own_in A u.doing) + need * inserts_by W u ≤ need
    term a u b different history at few = ⊎_elim
        (λ none. without (length (own_in A u.doing)) need (inserts_by W u) none few small)
        (λ k. let q = k.2 in
        let same : k.0.worker ≡ u.name = name_is k.0.worker u.name (is_insert k.0.call) (k.0.worker == u.name) refl k.1 in
        let maker : IsMaker A q.0 k.0 u = maker_is A q.0 k.0 a u b different same (history.waits q.0 k.0 q.1).2 in
        let between = gone_between h.progress.waiting q.0 k.0 q.1 in
        let others = subst (AllByRecursion (IsOther k.0.worker)) between.was (others_wait A l free h q.0 k.0 (a ++ u ∷ b) different history q.1) in
        one (length (own_in A u.doing)) need (inserts_by W u)
        (ap length (made_none q.0 k.0 u.name u.number u.doing at (insert_is (is_insert k.0.call) (k.0.worker == u.name) k.1) maker))
        (counts (count_by (is_by u) between.front) (cond (is_by u k.0) 1 0) (count_by (is_by u) between.back) (inserts_by W u)
        (ap (count_by (is_by u)) between.is ∙ count_by-append (is_by u) between.front (k.0 ∷ between.back)
        ∙ ap (λ n. count_by (is_by u) between.front + n) (count_by-cons (is_by u) k.0 between.back))
        (none_counted u k.0.worker same between.front (all_front (IsOther k.0.worker) between.front between.back others))
        (none_counted u k.0.worker same between.back (all_behind (IsOther k.0.worker) between.front between.back others))
        (at_most (is_by u k.0))) small)
        (some_counted (is_by u) (λ e. (word : ℕ) × (fin.get h.progress.waiting word ≡ Some e)) W (all_found h.progress.waiting))
      where
        without : (o n c : ℕ) → c ≡ 0 → o ≤ n → (n ≡ 1) ⊎ (n ≡ 2) → o + n * c ≤ n
        without o n c e le (inl q) = subst (λ m. o + m * c ≤ m) (sym q) (omega (arith, e, subst (λ m. o ≤ m) q le))
        without o n c e le (inr q) = subst (λ m. o + m * c ≤ m) (sym q) (omega (arith, e, subst (λ m. o ≤ m) q le))

        one : (o n c : ℕ) → o ≡ 0 → c ≤ 1 → (n ≡ 1) ⊎ (n ≡ 2) → o + n * c ≤ n
        one o n c e le (inl q) = subst (λ m. o + m * c ≤ m) (sym q) (omega (arith, e, le))
        one o n c e le (inr q) = subst (λ m. o + m * c ≤ m) (sym q) (omega (arith, e, le))

        counts : (x y z s : ℕ) → s ≡ x + (y + z) → x ≡ 0 → z ≡ 0 → y ≤ 1 → s ≤ 1
        counts x y z s e a b c = omega (arith, e, a, b, c)

        at_most : (t : Bool) → cond t 1 0 ≤ 1
        at_most true = omega arith
        at_most false = omega arith

        name_is : (m n : ℕ) (x y : Bool) → (m == n) ≡ y → (x && y) ≡ true → m ≡ n
        name_is m n true true e q = eqb-true m n e
        name_is m n true false e q = absurd (cc)
        name_is m n false y e q = absurd (cc)

        insert_is : (x y : Bool) → (x && y) ≡ true → x ≡ true
        insert_is true y q = refl
        insert_is false y q = q

    -- of one that gives its reply none waits
    pub none_waits : (a : List (Worker Op)) (name number : ℕ) (op : Op) (call : Call) (begun : Option ℕ) (b : List (Worker Op)) →
        HaveDifferentNames (a ++ busy name number op call begun ∷ b) → History A l free h (a ++ busy name number op call begun ∷ b) →
        deed_of (A.machine op) ≡ Fresh → length (own A op) < need →
        length (own A op) + need * inserts_by W (busy name number op call begun) < need
    none_waits a name number op call begun b different history fresh less = ⊎_elim
        (λ none. without (length (own A op)) need (inserts_by W (busy name number op call begun)) none less small)
        (λ k. absurd (no_make (A.effects op) (A.past op) k.2.0 (subst (λ d. MakesAt (deed_by A (A.effects op) (A.past op) d) k.2.0) fresh
        (maker_is A k.2.0 k.0 a (busy name number op call begun) b different (name_is k.0.worker name (is_insert k.0.call) (k.0.worker == name) refl k.1)
        (history.waits k.2.0 k.0 k.2.1).2).0)))
        (some_counted (is_by (busy name number op call begun)) (λ e. (word : ℕ) × (fin.get h.progress.waiting word ≡ Some e)) W (all_found h.progress.waiting))
      where
        without : (o n c : ℕ) → c ≡ 0 → o < n → (n ≡ 1) ⊎ (n ≡ 2) → o + n * c < n
        without o n c e le (inl q) = subst (λ m. o + m * c < m) (sym q) (omega (arith, e, subst (λ m. o < m) q le))
        without o n c e le (inr q) = subst (λ m. o + m * c < m) (sym q) (omega (arith, e, subst (λ m. o < m) q le))

        no_make : (t past : Bool) (word : ℕ) → MakesAt (deed_by A t past Fresh) word → ⊥
        no_make true past word y = y
        no_make false true word y = y
        no_make false false word y = y

        name_is : (m n : ℕ) (x y : Bool) → (m == n) ≡ y → (x && y) ≡ true → m ≡ n
        name_is m n true true e q = eqb-true m n e
        name_is m n true false e q = absurd (cc)
        name_is m n false y e q = absurd (cc)

    -- the same of several
    abbrev pub Few : Worker Op → Type 0
    Few u = length (own_in A u.doing) + need * inserts_by W u ≤ need

    one_more : (n x : ℕ) → (n ≡ 1) ⊎ (n ≡ 2) → n * suc x ≡ n + n * x
    one_more n x (inl e) = subst (λ m. m * suc x ≡ m + m * x) (sym e) (omega arith)
    one_more n x (inr e) = subst (λ m. m * suc x ≡ m + m * x) (sym e) (omega arith)

    all_few : (us : List (Worker Op)) → AllByRecursion Few us → own_many (λ u. own_in A u.doing) us + need * all_by W us ≤ need * length us
    all_few [] all = plain (need * 0)
      where
        plain : (x : ℕ) → 0 + x ≤ x
        plain x = omega arith
    all_few (u ∷ us) all = sums (length (own_in A u.doing)) (own_many (λ v. own_in A v.doing) us) (need * inserts_by W u) (need * all_by W us) need
        (need * length us) (need * (inserts_by W u + all_by W us)) (need * suc (length us)) (times_sum need (inserts_by W u) (all_by W us) small)
        (one_more need (length us) small) all.0 (all_few us all.1)
      where
        sums : (o m i j n k s t : ℕ) → s ≡ i + j → t ≡ n + k → o + i ≤ n → m + j ≤ k → (o + m) + s ≤ t
        sums o m i j n k s t a b c d = omega (arith, a, b, c, d)

    -- and one has fewer
    pub one_fewer : (a : List (Worker Op)) (u : Worker Op) (b : List (Worker Op)) → AllByRecursion Few a →
        length (own_in A u.doing) + need * inserts_by W u < need →
        AllByRecursion Few b → own_many (λ v. own_in A v.doing) (a ++ u ∷ b) + need * all_by W (a ++ u ∷ b) < need * length (a ++ u ∷ b)
    one_fewer [] u b left less right = sums (length (own_in A u.doing)) (own_many (λ v. own_in A v.doing) b) (need * inserts_by W u) (need * all_by W b) need
        (need * length b) (need * (inserts_by W u + all_by W b)) (need * suc (length b)) (times_sum need (inserts_by W u) (all_by W b) small)
        (one_more need (length b) small) less (all_few b right)
      where
        sums : (o m i j n k s t : ℕ) → s ≡ i + j → t ≡ n + k → o + i < n → m + j ≤ k → (o + m) + s < t
        sums o m i j n k s t a b c d = omega (arith, a, b, c, d)
    one_fewer (v ∷ a) u b left less right = sums (length (own_in A v.doing)) (own_many (λ w. own_in A w.doing) (a ++ u ∷ b)) (need * inserts_by W v)
        (need * all_by W (a ++ u ∷ b)) need (need * length (a ++ u ∷ b)) (need * (inserts_by W v + all_by W (a ++ u ∷ b))) (need * suc (length (a ++ u ∷ b)))
        (times_sum need (inserts_by W v) (all_by W (a ++ u ∷ b)) small) (one_more need (length (a ++ u ∷ b)) small) left.0 (one_fewer a u b left.1 less right)
      where
        sums : (o m i j n k s t : ℕ) → s ≡ i + j → t ≡ n + k → o + i ≤ n → m + j < k → (o + m) + s < t
        sums o m i j n k s t a b c d = omega (arith, a, b, c, d)
