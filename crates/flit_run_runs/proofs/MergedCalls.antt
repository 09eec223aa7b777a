-- Calls told worker by worker, and put in the order of their lines, are those of the trace, each worker's with its outcomes.
use Rattle.std.proofs.Common.{◌≡◌, ◌⊎◌, ℕ, zero, suc, ◌+◌, ◌≤◌, ◌<◌, ◌++◌, ◌==◌, ◌&&◌, Bool, true, false, cond, List, [], ◌∷◌, map, filter, flat_map, length, inl, inr, refl, sym, ◌∙◌, ap, subst, arith, ne_eqb}
use Rattle.std.proofs.lemmas.Bool.{eqb-true, eq-eqb, eqb-false, cases_lt}
use Rattle.std.proofs.lemmas.List.Elements.{filter-append}
use Rattle.std.specs.List.{AllByRecursion, range_with_len}
use Rattle.flit_words.specs.declared.layouts.Layout.{Layout}
use Rattle.flit_model.specs.Lists.{IsRisingFrom}
use Rattle.flit_model.specs.declared.calls.Call.{Call}
use Rattle.flit_model.specs.declared.calls.Item.{Item}
use Rattle.flit_model.specs.declared.calls.Item.TheVariants.{Call as Call_item, Evict as Evict_item}
use Rattle.flit_model.specs.declared.calls.Outcome.{Outcome}
use Rattle.flit_report.specs.declared.content.Line.{Line}
use Rattle.flit_trace.specs.Contents.{Content, ItemLine, script_of}
use Rattle.flit_trace.specs.Rights.{IsRightLine, lines_of_items}
use Rattle.flit_trace.specs.SeenTraces.{SeenTrace, Shows, script_at}
use Rattle.flit_workers.specs.Works.{calls_in}
use Rattle.flit_thread_runs.proofs.Ending.{mapped_twice}
use Rattle.flit_sched.proofs.StableOrders.{Below, Up, one_order, tie}
use Rattle.flit_step_runs.specs.Tellings.{IsInLineOrder}
use Rattle.flit_step_runs.proofs.MergedLines.{AreFrom, from_lower}
use Rattle.flit_step_runs.proofs.OrderedLines.{is_upto, upto_le, order, lines_rise, below_from}
use Rattle.flit_run_reports.specs.RunReports.{IsWorkerOf, call_in, calls_in_order, calls_printed, outcomes_by}
use Rattle.flit_run_runs.specs.Tellings.{first_of, others_of, numbered_calls, outcomes_at, calls_of_worker, TellsCalls}

-- ---- what a test keeps

module _ {X : Type 0} where
  kept_yes : (p : X → Bool) (x : X) (xs : List X) → p x ≡ true → filter p (x ∷ xs) ≡ x ∷ filter p xs
  kept_yes p x xs e = ap (λ b. cond b (x ∷ filter p xs) (filter p xs)) e

  kept_no : (p : X → Bool) (x : X) (xs : List X) → p x ≡ false → filter p (x ∷ xs) ≡ filter p xs
  kept_no p x xs e = ap (λ b. cond b (x ∷ filter p xs) (filter p xs)) e

  swap_if : (p q : X → Bool) (x : X) (xs : List X) (b c : Bool) → p x ≡ b → q x ≡ c → filter p (filter q xs) ≡ filter q (filter p xs) →
      filter p (filter q (x ∷ xs)) ≡ filter q (filter p (x ∷ xs))
  swap_if p q x xs true true e f h =
      ap (filter p) (kept_yes q x xs f) ∙ kept_yes p x (filter q xs) e ∙ ap (λ l. x ∷ l) h
      ∙ sym (kept_yes q x (filter p xs) f) ∙ sym (ap (filter q) (kept_yes p x xs e))
  swap_if p q x xs true false e f h =
      ap (filter p) (kept_no q x xs f) ∙ h ∙ sym (kept_no q x (filter p xs) f) ∙ sym (ap (filter q) (kept_yes p x xs e))
  swap_if p q x xs false true e f h =
      ap (filter p) (kept_yes q x xs f) ∙ kept_no p x (filter q xs) e ∙ h ∙ sym (ap (filter q) (kept_no p x xs e))
  swap_if p q x xs false false e f h = ap (filter p) (kept_no q x xs f) ∙ h ∙ sym (ap (filter q) (kept_no p x xs e))

  swapped : (p q : X → Bool) (xs : List X) → filter p (filter q xs) ≡ filter q (filter p xs)
  swapped p q [] = refl
  swapped p q (x ∷ xs) = swap_if p q x xs (p x) (q x) refl refl (swapped p q xs)

  kept_if : (P : X → Type 0) (x y : X) (xs l : List X) (b : Bool) → cond b (x ∷ xs) xs ≡ y ∷ l → P x → (xs ≡ y ∷ l → P y) → P y
  kept_if P x y xs l true e h k = let same : x ≡ y = cc in subst P same h
  kept_if P x y xs l false e h k = k e

  -- what is true of all is true of the first that is kept, and of all that are kept
  first_kept : (P : X → Type 0) (p : X → Bool) (xs : List X) (y : X) (l : List X) → AllByRecursion P xs → filter p xs ≡ y ∷ l → P y
  first_kept P p [] y l h e = absurd (let none : ⊥ = cc in none)
  first_kept P p (x ∷ xs) y l h e = kept_if P x y (filter p xs) l (p x) e h.0 (first_kept P p xs y l h.1)

  all_if : (P : X → Type 0) (x : X) (xs : List X) (b : Bool) → P x → AllByRecursion P xs → AllByRecursion P (cond b (x ∷ xs) xs)
  all_if P x xs true h k = (h, k)
  all_if P x xs false h k = k

  all_kept : (P : X → Type 0) (p : X → Bool) (xs : List X) → AllByRecursion P xs → AllByRecursion P (filter p xs)
  all_kept P p [] h = tt
  all_kept P p (x ∷ xs) h = all_if P x (filter p xs) (p x) h.0 (all_kept P p xs h.1)

  tail_if : (P : X → Type 0) (x : X) (xs : List X) (b : Bool) → AllByRecursion P (cond b (x ∷ xs) xs) → AllByRecursion P xs
  tail_if P x xs true h = h.1
  tail_if P x xs false h = h

  all_joined : (P : X → Type 0) (xs ys : List X) → AllByRecursion P xs → AllByRecursion P ys → AllByRecursion P (xs ++ ys)
  all_joined P [] ys h k = k
  all_joined P (x ∷ xs) ys h k = (h.0, all_joined P xs ys h.1 k)

mapped_if : {X Y : Type 0} (f : X → Y) (x : X) (xs : List X) (b : Bool) → cond b (f x ∷ map f xs) (map f xs) ≡ map f (cond b (x ∷ xs) xs)
mapped_if f x xs true = refl
mapped_if f x xs false = refl

mapped : {X Y : Type 0} (f : X → Y) (p : Y → Bool) (xs : List X) → filter p (map f xs) ≡ map f (filter (λ x. p (f x)) xs)
mapped f p [] = refl
mapped f p (x ∷ xs) = ap (λ l. cond (p (f x)) (f x ∷ l) l) (mapped f p xs) ∙ mapped_if f x (filter (λ y. p (f y)) xs) (p (f x))

-- ---- one worker's part

abbrev is_of : ℕ → ℕ × Line → Bool
is_of worker x = x.1.worker == worker

module _ (q : ℕ × Line → Bool) (f : ℕ → List (ℕ × Line)) (w : ℕ) (other : (v : ℕ) → (v == w) ≡ false → filter q (f v) ≡ []) where
  none_above : (a n : ℕ) → w < a → filter q (flat_map f (range_with_len a n)) ≡ []
  none_above a zero h = refl
  none_above a (suc n) h =
      filter-append q (f a) (flat_map f (range_with_len (a + 1) n))
      ∙ ap (λ xs. xs ++ filter q (flat_map f (range_with_len (a + 1) n))) (other a (ne_eqb a w (λ e. absurd (omega (arith, e, h)))))
      ∙ none_above (a + 1) n (omega (arith, h))

  no_more : (xs : List (ℕ × Line)) → xs ++ [] ≡ xs
  no_more [] = refl
  no_more (x ∷ xs) = ap (λ l. x ∷ l) (no_more xs)

  above : (a : ℕ) → a ≤ w → (a ≡ w → ⊥) → (a < w) ⊎ (w ≤ a) → a + 1 ≤ w
  above a low apart (inl less) = omega (arith, less)
  above a low apart (inr le) = absurd (apart (omega (arith, low, le)))

  part_if : (a n : ℕ) (b : Bool) → (a == w) ≡ b → a ≤ w → (a + 1 ≤ w → filter q (flat_map f (range_with_len (a + 1) n)) ≡ filter q (f w)) →
      filter q (flat_map f (range_with_len a (suc n))) ≡ filter q (f w)
  part_if a n true e low later =
      let is : a ≡ w = eqb-true a w e in
      filter-append q (f a) (flat_map f (range_with_len (a + 1) n))
      ∙ ap (λ xs. filter q (f a) ++ xs) (none_above (a + 1) n (omega (arith, is))) ∙ no_more (filter q (f a)) ∙ ap (λ v. filter q (f v)) is
  part_if a n false e low later =
      filter-append q (f a) (flat_map f (range_with_len (a + 1) n))
      ∙ ap (λ xs. xs ++ filter q (flat_map f (range_with_len (a + 1) n))) (other a e)
      ∙ later (above a low (eqb-false a w e) (cases_lt a w))

  one_part : (a n : ℕ) → a ≤ w → w < a + n → filter q (flat_map f (range_with_len a n)) ≡ filter q (f w)
  one_part a zero low high = absurd (omega (arith, low, high))
  one_part a (suc n) low high = part_if a n (a == w) refl low (λ le. one_part (a + 1) n le (omega (arith, high)))

own_kept : (w : ℕ) (os : List Outcome) (s : List (ℕ × Item)) → filter (is_of w) (numbered_calls w os s) ≡ numbered_calls w os s
own_kept w os [] = refl
own_kept w os ((n, Call_item call) ∷ s) =
    let x : ℕ × Line = (n, record { worker = w; call = call; outcome = first_of os }) in
    kept_yes (is_of w) x (numbered_calls w (others_of os) s) (eq-eqb w w refl) ∙ ap (λ l. x ∷ l) (own_kept w (others_of os) s)
own_kept w os ((n, Evict_item word) ∷ s) = own_kept w os s

others_left : (v w : ℕ) (os : List Outcome) (s : List (ℕ × Item)) → (v == w) ≡ false → filter (is_of w) (numbered_calls v os s) ≡ []
others_left v w os [] e = refl
others_left v w os ((n, Call_item call) ∷ s) e =
    kept_no (is_of w) (n, record { worker = v; call = call; outcome = first_of os }) (numbered_calls v (others_of os) s) e ∙ others_left v w (others_of os) s e
others_left v w os ((n, Evict_item word) ∷ s) e = others_left v w os s e

all_own : (Q : ℕ → Type 0) (w : ℕ) (os : List Outcome) (s : List (ℕ × Item)) → Q w → AllByRecursion (λ x. Q x.1.worker) (numbered_calls w os s)
all_own Q w os [] h = tt
all_own Q w os ((n, Call_item call) ∷ s) h = (h, all_own Q w (others_of os) s h)
all_own Q w os ((n, Evict_item word) ∷ s) h = all_own Q w os s h

all_parts : (Q : ℕ → Type 0) (f : ℕ → List (ℕ × Line)) (a n : ℕ) → ((v : ℕ) → a ≤ v → v < a + n → AllByRecursion (λ x. Q x.1.worker) (f v)) →
    AllByRecursion (λ x. Q x.1.worker) (flat_map f (range_with_len a n))
all_parts Q f a zero h = tt
all_parts Q f a (suc n) h =
    all_joined (λ x. Q x.1.worker) (f a) (flat_map f (range_with_len (a + 1) n)) (h a (omega arith) (omega arith))
    (all_parts Q f (a + 1) n (λ v low high. h v (omega (arith, low)) (omega (arith, high))))

-- the outcomes of as many calls are told
told_outcomes : (w : ℕ) (os : List Outcome) (s : List (ℕ × Item)) → length os ≡ length (calls_in (map (λ l. l.1) s)) →
    map (λ l. l.outcome) (map (λ x. x.1) (numbered_calls w os s)) ≡ os
told_outcomes w [] [] h = refl
told_outcomes w (o ∷ os) [] h = absurd (omega (arith, h))
told_outcomes w [] ((n, Call_item call) ∷ s) h = absurd (omega (arith, h))
told_outcomes w (o ∷ os) ((n, Call_item call) ∷ s) h = ap (λ l. o ∷ l) (told_outcomes w os s (omega (arith, h)))
told_outcomes w os ((n, Evict_item word) ∷ s) h = told_outcomes w os s h

-- ---- its part rises

module _ (w : ℕ) where
  abbrev Rises : ℕ → List (ℕ × Line) → Type 0
  Rises low xs = AreFrom low xs × Up is_upto xs

  item_rises : (low line : ℕ) (i : Item) (os : List Outcome) (s : List (ℕ × Item)) → low ≤ line →
      ((ps : List Outcome) → Rises (suc line) (numbered_calls w ps s)) → Rises low (numbered_calls w os ((line, i) ∷ s))
  item_rises low line (Call_item call) os s h rest =
      let x : ℕ × Line = (line, record { worker = w; call = call; outcome = first_of os }) in
      let others = numbered_calls w (others_of os) s in
      let r = rest (others_of os) in (
        (h, from_lower low (suc line) others (omega (arith, h)) r.0),
        (below_from x others (from_lower line (suc line) others (omega arith) r.0), r.1),
      )
  item_rises low line (Evict_item word) os s h rest =
      let r = rest os in (from_lower low (suc line) (numbered_calls w os s) (omega (arith, h)) r.0, r.1)

  part_rises_if : (low : ℕ) (l : ItemLine) (ls : List ItemLine) (os : List Outcome) (b : Bool) → low ≤ l.line →
      ((ps : List Outcome) → Rises (suc l.line) (numbered_calls w ps (map (λ i. (i.line, i.item)) ls))) →
      Rises low (numbered_calls w os (map (λ i. (i.line, i.item)) (cond b (l ∷ ls) ls)))
  part_rises_if low l ls os true h rest = item_rises low l.line l.item os (map (λ i. (i.line, i.item)) ls) h rest
  part_rises_if low l ls os false h rest =
      let r = rest os in (from_lower low (suc l.line) (numbered_calls w os (map (λ i. (i.line, i.item)) ls)) (omega (arith, h)) r.0, r.1)

  part_rises : (low : ℕ) (ls : List ItemLine) (os : List Outcome) → IsRisingFrom low (lines_of_items ls) → Rises low (numbered_calls w os (script_of ls w))
  part_rises low [] os h = (tt, tt)
  part_rises low (l ∷ ls) os h =
      part_rises_if low l (filter (λ i. i.worker == w) ls) os (l.worker == w) h.0 (λ ps. part_rises (suc l.line) ls ps h.1)

-- ---- kept parts of what is in order

below_kept_if : (p : ℕ × Line → Bool) (x y : ℕ × Line) (ys : List (ℕ × Line)) (b : Bool) → is_upto x y ≡ true → Below is_upto x (filter p ys) →
    Below is_upto x (cond b (y ∷ filter p ys) (filter p ys))
below_kept_if p x y ys true h k = (h, k)
below_kept_if p x y ys false h k = k

below_kept : (p : ℕ × Line → Bool) (x : ℕ × Line) (ys : List (ℕ × Line)) → Below is_upto x ys → Below is_upto x (filter p ys)
below_kept p x [] h = tt
below_kept p x (y ∷ ys) h = below_kept_if p x y ys (p y) h.0 (below_kept p x ys h.1)

up_kept_if : (p : ℕ × Line → Bool) (x : ℕ × Line) (xs : List (ℕ × Line)) (b : Bool) → Below is_upto x (filter p xs) → Up is_upto (filter p xs) →
    Up is_upto (cond b (x ∷ filter p xs) (filter p xs))
up_kept_if p x xs true h k = (h, k)
up_kept_if p x xs false h k = k

up_kept : (p : ℕ × Line → Bool) (xs : List (ℕ × Line)) → Up is_upto xs → Up is_upto (filter p xs)
up_kept p [] h = tt
up_kept p (x ∷ xs) h = up_kept_if p x xs (p x) (below_kept p x xs h.0) (up_kept p xs h.1)

-- what is true of all of some lines is true of these lines in order
own_tie : (x : ℕ × Line) → tie is_upto x x ≡ true
own_tie x = ap (λ b. b && b) (order.own x)

all_ties : (P : ℕ × Line → Type 0) (xs : List (ℕ × Line)) → ((z : ℕ × Line) → AllByRecursion P (filter (tie is_upto z) xs)) → AllByRecursion P xs
all_ties P [] h = tt
all_ties P (x ∷ xs) h = (
  (subst (AllByRecursion P) (kept_yes (tie is_upto x) x xs (own_tie x)) (h x)).0,
  all_ties P xs (λ z. tail_if P x (filter (tie is_upto z) xs) (tie is_upto z x) (h z)),
)

module _ (told : List (ℕ × Line)) (lines : List Line) (h : IsInLineOrder told lines) where
  all_ordered : (P : ℕ × Line → Type 0) → AllByRecursion P told → AllByRecursion P h.sorted
  all_ordered P k = all_ties P h.sorted (λ z. subst (AllByRecursion P) (sym (h.stable z)) (all_kept P (tie is_upto z) told k))

  -- a part of them that is in order stays as it is
  part_ordered : (q : ℕ × Line → Bool) → Up is_upto (filter q told) → filter q h.sorted ≡ filter q told
  part_ordered q k =
      one_order is_upto order (filter q h.sorted) (filter q told) (up_kept q h.sorted (lines_rise told lines h)) k
      (λ x. swapped (tie is_upto x) q h.sorted ∙ ap (filter q) (h.stable x) ∙ swapped q (tie is_upto x) told)

-- ---- the calls of a trace, with the numbers of their lines

abbrev Numbered : Type 0
Numbered = ℕ × (ℕ × Call)

abbrev seen_of : ℕ × Line → Numbered
seen_of x = (x.0, (x.1.worker, x.1.call))

abbrev by_worker : ℕ → Numbered → Bool
by_worker worker y = y.1.0 == worker

abbrev numbered_in : ℕ → ℕ → Item → List Numbered
numbered_in line worker i = map (λ c. (line, c)) (call_in worker i)

abbrev numbered_all : List ItemLine → List Numbered
numbered_all [] = []
numbered_all (l ∷ ls) = numbered_in l.line l.worker l.item ++ numbered_all ls

stripped_item : (line worker : ℕ) (i : Item) (rest : List Numbered) (cs : List (ℕ × Call)) → map (λ y. y.1) rest ≡ cs →
    map (λ y. y.1) (numbered_in line worker i ++ rest) ≡ call_in worker i ++ cs
stripped_item line worker (Call_item call) rest cs h = ap (λ l. (worker, call) ∷ l) h
stripped_item line worker (Evict_item word) rest cs h = h

stripped : (ls : List ItemLine) → map (λ y. y.1) (numbered_all ls) ≡ calls_in_order ls
stripped [] = refl
stripped (l ∷ ls) = stripped_item l.line l.worker l.item (numbered_all ls) (calls_in_order ls) (stripped ls)

-- those of a worker
own_item : (w : ℕ) (os : List Outcome) (line worker : ℕ) (i : Item) (ls : List ItemLine) → (worker == w) ≡ true →
    ((ps : List Outcome) → map seen_of (numbered_calls w ps (script_of ls w)) ≡ filter (by_worker w) (numbered_all ls)) →
    map seen_of (numbered_calls w os ((line, i) ∷ script_of ls w)) ≡ filter (by_worker w) (numbered_in line worker i ++ numbered_all ls)
own_item w os line worker (Call_item call) ls e rest =
    ap (λ (l : List Numbered). (line, (w, call)) ∷ l) (rest (others_of os))
    ∙ ap (λ v. (line, (v, call)) ∷ filter (by_worker w) (numbered_all ls)) (sym (eqb-true worker w e))
    ∙ sym (kept_yes (by_worker w) (line, (worker, call)) (numbered_all ls) e)
own_item w os line worker (Evict_item word) ls e rest = rest os

other_item : (w line worker : ℕ) (i : Item) (ls : List ItemLine) → (worker == w) ≡ false →
    filter (by_worker w) (numbered_all ls) ≡ filter (by_worker w) (numbered_in line worker i ++ numbered_all ls)
other_item w line worker (Call_item call) ls e = sym (kept_no (by_worker w) (line, (worker, call)) (numbered_all ls) e)
other_item w line worker (Evict_item word) ls e = refl

own_if : (w : ℕ) (os : List Outcome) (l : ItemLine) (ls : List ItemLine) (b : Bool) → (l.worker == w) ≡ b →
    ((ps : List Outcome) → map seen_of (numbered_calls w ps (script_of ls w)) ≡ filter (by_worker w) (numbered_all ls)) →
    map seen_of (numbered_calls w os (script_of (l ∷ ls) w)) ≡ filter (by_worker w) (numbered_all (l ∷ ls))
own_if w os l ls true e rest =
    let kept = filter (λ i. i.worker == w) ls in
    ap (λ b. map seen_of (numbered_calls w os (map (λ i. (i.line, i.item)) (cond b (l ∷ kept) kept)))) e
    ∙ own_item w os l.line l.worker l.item ls e rest
own_if w os l ls false e rest =
    let kept = filter (λ i. i.worker == w) ls in
    ap (λ b. map seen_of (numbered_calls w os (map (λ i. (i.line, i.item)) (cond b (l ∷ kept) kept)))) e
    ∙ rest os ∙ other_item w l.line l.worker l.item ls e

own_calls : (w : ℕ) (os : List Outcome) (ls : List ItemLine) → map seen_of (numbered_calls w os (script_of ls w)) ≡ filter (by_worker w) (numbered_all ls)
own_calls w os [] = refl
own_calls w os (l ∷ ls) = own_if w os l ls (l.worker == w) refl (λ ps. own_calls w ps ls)

-- ---- lists in order of which each worker's part is the same

abbrev Rising : List Numbered → Type 0
Rising [] = Unit {0}
Rising (x ∷ xs) = AllByRecursion (λ y. x.0 ≤ y.0) xs × Rising xs

abbrev Strict : List Numbered → Type 0
Strict [] = Unit {0}
Strict (x ∷ xs) = AllByRecursion (λ y. x.0 < y.0) xs × Strict xs

tails_if : (x : Numbered) (xs ys : List Numbered) (b : Bool) → cond b (x ∷ xs) xs ≡ cond b (x ∷ ys) ys → xs ≡ ys
tails_if x xs ys true e = cc
tails_if x xs ys false e = e

module _ (Q : ℕ → Type 0) where
  abbrev AreAlike : List Numbered → List Numbered → Type 0
  AreAlike xs ys = (w : ℕ) → Q w → filter (by_worker w) xs ≡ filter (by_worker w) ys

  own_first : (x : Numbered) (xs : List Numbered) → filter (by_worker x.1.0) (x ∷ xs) ≡ x ∷ filter (by_worker x.1.0) xs
  own_first x xs = kept_yes (by_worker x.1.0) x xs (eq-eqb x.1.0 x.1.0 refl)

  heads_if : (x z : Numbered) (xs zs : List Numbered) (b : Bool) → (x.1.0 == z.1.0) ≡ b → Q x.1.0 → Q z.1.0 → Rising (x ∷ xs) → Strict (z ∷ zs) →
      AreAlike (x ∷ xs) (z ∷ zs) → x ≡ z
  heads_if x z xs zs true e p r h k same =
      let is : x.1.0 ≡ z.1.0 = eqb-true x.1.0 z.1.0 e in
      let both : x ∷ filter (by_worker x.1.0) xs ≡ z ∷ filter (by_worker x.1.0) zs =
      sym (own_first x xs) ∙ same x.1.0 p ∙ kept_yes (by_worker x.1.0) z zs (eq-eqb z.1.0 x.1.0 (sym is)) in
      cc
  heads_if x z xs zs false e p r h k same =
      let apart = eqb-false x.1.0 z.1.0 e in
      let in_zs : filter (by_worker x.1.0) zs ≡ x ∷ filter (by_worker x.1.0) xs =
      sym (kept_no (by_worker x.1.0) z zs (ne_eqb z.1.0 x.1.0 (λ is. apart (sym is)))) ∙ sym (same x.1.0 p) ∙ own_first x xs in
      let in_xs : filter (by_worker z.1.0) xs ≡ z ∷ filter (by_worker z.1.0) zs =
      sym (kept_no (by_worker z.1.0) x xs e) ∙ same z.1.0 r ∙ own_first z zs in
      let low = first_kept (λ y. z.0 < y.0) (by_worker x.1.0) zs x (filter (by_worker x.1.0) xs) k.0 in_zs in
      let high = first_kept (λ y. x.0 ≤ y.0) (by_worker z.1.0) xs z (filter (by_worker z.1.0) zs) h.0 in_xs in
      absurd (omega (arith, low, high))

  same_calls : (xs zs : List Numbered) → Rising xs → Strict zs → AllByRecursion (λ y. Q y.1.0) xs → AllByRecursion (λ y. Q y.1.0) zs → AreAlike xs zs → xs ≡ zs
  same_calls [] [] h k p r same = refl
  same_calls [] (z ∷ zs) h k p r same =
      absurd (let e : [] ≡ z ∷ filter (by_worker z.1.0) zs = same z.1.0 r.0 ∙ own_first z zs in let none : ⊥ = cc in none)
  same_calls (x ∷ xs) [] h k p r same =
      absurd (let e : [] ≡ x ∷ filter (by_worker x.1.0) xs = sym (same x.1.0 p.0) ∙ own_first x xs in let none : ⊥ = cc in none)
  same_calls (x ∷ xs) (z ∷ zs) h k p r same =
      let first : x ≡ z = heads_if x z xs zs (x.1.0 == z.1.0) refl p.0 r.0 h k same in
      let rest : xs ≡ zs = same_calls xs zs h.1 k.1 p.1 r.1 (λ w q. tails_if x (filter (by_worker w) xs) (filter (by_worker w) zs) (by_worker w x)
      (same w q ∙ ap (λ y. cond (by_worker w y) (y ∷ filter (by_worker w) zs) (filter (by_worker w) zs)) (sym first))) in
      cc

from_low : (high low : ℕ) (xs : List Numbered) → low ≤ high → AllByRecursion (λ y. high ≤ y.0) xs → AllByRecursion (λ y. low ≤ y.0) xs
from_low high low [] le k = tt
from_low high low (y ∷ ys) le k = (let one = k.0 in omega (arith, le, one), from_low high low ys le k.1)

-- the calls of a trace are in order, each under a worker of the trace
strict_item : (low line worker : ℕ) (i : Item) (rest : List Numbered) → low ≤ line → AllByRecursion (λ y. suc line ≤ y.0) rest → Strict rest →
    AllByRecursion (λ y. low ≤ y.0) (numbered_in line worker i ++ rest) × Strict (numbered_in line worker i ++ rest)
strict_item low line worker (Call_item call) rest h k s = ((h, from_low (suc line) low rest (omega (arith, h)) k), (k, s))
strict_item low line worker (Evict_item word) rest h k s = (from_low (suc line) low rest (omega (arith, h)) k, s)

strict_all : (low : ℕ) (ls : List ItemLine) → IsRisingFrom low (lines_of_items ls) → AllByRecursion (λ y. low ≤ y.0) (numbered_all ls) × Strict (numbered_all ls)
strict_all low [] h = (tt, tt)
strict_all low (l ∷ ls) h =
    let r = strict_all (suc l.line) ls h.1 in
    strict_item low l.line l.worker l.item (numbered_all ls) h.0 r.0 r.1

named_item : (Q : ℕ → Type 0) (line worker : ℕ) (i : Item) (rest : List Numbered) → Q worker → AllByRecursion (λ y. Q y.1.0) rest →
    AllByRecursion (λ y. Q y.1.0) (numbered_in line worker i ++ rest)
named_item Q line worker (Call_item call) rest h k = (h, k)
named_item Q line worker (Evict_item word) rest h k = k

named_all : (l : Layout) (ls : List ItemLine) → AllByRecursion (IsRightLine l) ls → AllByRecursion (λ y. (1 ≤ y.1.0) × (y.1.0 ≤ l.workers)) (numbered_all ls)
named_all l [] h = tt
named_all l (i ∷ is) h =
    named_item (λ w. (1 ≤ w) × (w ≤ l.workers)) i.line i.worker i.item (numbered_all is) (h.0.0, h.0.1) (named_all l is h.1)

-- lines in order, seen as calls
rising_below : (x : ℕ × Line) (xs : List (ℕ × Line)) → Below is_upto x xs → AllByRecursion (λ y. x.0 ≤ y.0) (map seen_of xs)
rising_below x [] h = tt
rising_below x (y ∷ ys) h = (upto_le x y h.0, rising_below x ys h.1)

rising_seen : (xs : List (ℕ × Line)) → Up is_upto xs → Rising (map seen_of xs)
rising_seen [] h = tt
rising_seen (x ∷ xs) h = (rising_below x xs h.0, rising_seen xs h.1)

named_seen : (Q : ℕ → Type 0) (xs : List (ℕ × Line)) → AllByRecursion (λ x. Q x.1.worker) xs → AllByRecursion (λ y. Q y.1.0) (map seen_of xs)
named_seen Q [] h = tt
named_seen Q (x ∷ xs) h = (h.0, named_seen Q xs h.1)

-- ---- all of it

module _ (trace : SeenTrace) (t : Content) (outcomes : List (List Outcome)) (told : List (ℕ × Line)) (lines : List Line) (shows : Shows trace t)
    (rising : IsRisingFrom 1 (lines_of_items t.items)) (right : AllByRecursion (IsRightLine t.head.layout) t.items)
    (is : told ≡ flat_map (calls_of_worker trace outcomes) (range_with_len 1 trace.head.layout.workers)) (h : IsInLineOrder told lines) where
  abbrev parts : ℕ → List (ℕ × Line)
  parts = calls_of_worker trace outcomes

  -- a worker's part of what is told
  part_told : (w : ℕ) → IsWorkerOf t w → filter (is_of w) told ≡ numbered_calls w (outcomes_at outcomes w) (script_of t.items w)
  part_told w own =
      let least = own.0 in
      let most = own.1 in
      let workers = ap (λ x. x.layout.workers) shows.head in
      ap (filter (is_of w)) is
      ∙ one_part (is_of w) parts w (λ v e. others_left v w (outcomes_at outcomes v) (script_at trace v) e) 1 trace.head.layout.workers least
      (omega (arith, most, workers))
      ∙ own_kept w (outcomes_at outcomes w) (script_at trace w)
      ∙ ap (numbered_calls w (outcomes_at outcomes w)) (shows.scripts w (record { least = least; most = omega (arith, most, workers) }))

  part_sorted : (w : ℕ) → IsWorkerOf t w → filter (is_of w) h.sorted ≡ numbered_calls w (outcomes_at outcomes w) (script_of t.items w)
  part_sorted w own =
      part_ordered told lines h (is_of w)
      (subst (Up is_upto) (sym (part_told w own)) (part_rises w 1 t.items (outcomes_at outcomes w) rising).1) ∙ part_told w own

  all_named : AllByRecursion (λ x. IsWorkerOf t x.1.worker) told
  all_named =
      let workers = ap (λ x. x.layout.workers) shows.head in
      subst (AllByRecursion (λ x. IsWorkerOf t x.1.worker)) (sym is)
      (all_parts (IsWorkerOf t) parts 1 trace.head.layout.workers
      (λ v low high. all_own (IsWorkerOf t) v (outcomes_at outcomes v) (script_at trace v) (low, omega (arith, high, workers))))

  all_seen : map seen_of h.sorted ≡ numbered_all t.items
  all_seen =
      same_calls (IsWorkerOf t) (map seen_of h.sorted) (numbered_all t.items) (rising_seen h.sorted (lines_rise told lines h)) (strict_all 1 t.items rising).1
      (named_seen (IsWorkerOf t) h.sorted (all_ordered told lines h (λ x. IsWorkerOf t x.1.worker) (all_named)))
      (named_all t.head.layout t.items right)
      (λ w own. mapped seen_of (by_worker w) h.sorted ∙ ap (map seen_of) (part_sorted w own) ∙ own_calls w (outcomes_at outcomes w) t.items)

  pub tells_calls : TellsCalls t outcomes lines
  tells_calls = record {
    calls = ap calls_printed h.lines_are ∙ mapped_twice (λ x. x.1) (λ l. (l.worker, l.call)) h.sorted
        ∙ sym (mapped_twice seen_of (λ y. y.1) h.sorted) ∙ ap (map (λ y. y.1)) (all_seen) ∙ stripped t.items;
    each = λ w own long. ap (outcomes_by w) h.lines_are
        ∙ ap (map (λ l. l.outcome)) (mapped (λ x. x.1) (λ l. l.worker == w) h.sorted)
        ∙ ap (λ xs. map (λ l. l.outcome) (map (λ x. x.1) xs)) (part_sorted w own)
        ∙ told_outcomes w (outcomes_at outcomes w) (script_of t.items w) long;
  }
