-- Lines told worker by worker, and put in the order of their numbers, are told in the order of the trace.
use Rattle.std.proofs.Common.{◌≡◌, ◌⊎◌, ℕ, zero, suc, ◌+◌, ◌≤◌, ◌<◌, ◌++◌, ◌==◌, Bool, true, false, cond, List, [], ◌∷◌, map, filter, flat_map, inl, inr, refl, sym, ◌∙◌, ap, subst, arith}
use Rattle.std.proofs.lemmas.Bool.{eqb-true, eqb-false, eq-eqb, ne_eqb, cases_lt}
use Rattle.std.proofs.lemmas.List.{map-append}
use Rattle.std.proofs.lemmas.List.Elements.{filter-append}
use Rattle.std.specs.List.{AllByRecursion, range_with_len}
use Rattle.flit_model.specs.Lists.{IsRisingFrom}
use Rattle.flit_model.specs.declared.calls.Item.{Item}
use Rattle.flit_model.specs.declared.calls.Item.TheVariants.{Call as Call_item, Evict as Evict_item}
use Rattle.flit_model.proofs.Elements.{flat_map-none}
use Rattle.flit_model.proofs.Counting.{count_by-append, count_by-cons}
use Rattle.flit_report.specs.declared.content.Line.{Line}
use Rattle.flit_trace.specs.Contents.{ItemLine, script_of}
use Rattle.flit_trace.specs.Rights.{lines_of_items}
use Rattle.flit_sched.specs.Runs.{Run}
use Rattle.flit_step_reports.specs.StepReports.{lines_by, outcome_in, told_item, told_lines}
use Rattle.flit_step_runs.specs.Tellings.{numbered_item, numbered_script}
use Rattle.flit_step_runs.proofs.ToldLaws.{no_more}

-- ---- numbers from one on

abbrev pub AreFrom : ℕ → List (ℕ × Line) → Type 0
AreFrom low xs = AllByRecursion (λ x. low ≤ x.0) xs

from_joined : (low : ℕ) (xs ys : List (ℕ × Line)) → AreFrom low xs → AreFrom low ys → AreFrom low (xs ++ ys)
from_joined low [] ys h k = k
from_joined low (x ∷ xs) ys h k = (h.0, from_joined low xs ys h.1 k)

pub from_lower : (low high : ℕ) (xs : List (ℕ × Line)) → low ≤ high → AreFrom high xs → AreFrom low xs
from_lower low high [] le h = tt
from_lower low high (x ∷ xs) le h = (let first = h.0 in omega (arith, le, first), from_lower low high xs le h.1)

-- ---- a test that one number alone passes

module _ (p : ℕ × Line → Bool) (k : ℕ) (only : (x : ℕ × Line) → p x ≡ true → x.0 ≡ k) where
  fails : (x : ℕ × Line) (b : Bool) → p x ≡ b → k < x.0 → p x ≡ false
  fails x true e h = let same = only x e in absurd (omega (arith, same, h))
  fails x false e h = e

  none_from : (xs : List (ℕ × Line)) → AreFrom (suc k) xs → filter p xs ≡ []
  none_from [] h = refl
  none_from (x ∷ xs) h = ap (λ b. cond b (x ∷ filter p xs) (filter p xs)) (fails x (p x) refl h.0) ∙ none_from xs h.1

-- ---- a worker's part with something before it

module _ (p : ℕ × Line → Bool) (t : List (ℕ × Line)) (w : ℕ) (f g : ℕ → List (ℕ × Line))
    (other : (v : ℕ) → (v == w) ≡ false → f v ≡ g v) (own : f w ≡ t ++ g w) where
  -- where the test takes nothing of it
  part_same : filter p t ≡ [] → (v : ℕ) (b : Bool) → (v == w) ≡ b → filter p (f v) ≡ filter p (g v)
  part_same none v false e = ap (filter p) (other v e)
  part_same none v true e =
      let is : v ≡ w = eqb-true v w e in
      ap (λ n. filter p (f n)) is ∙ ap (filter p) own ∙ filter-append p t (g w) ∙ ap (λ xs. xs ++ filter p (g w)) none ∙ ap (λ n. filter p (g n)) (sym is)

  parts_same : filter p t ≡ [] → (a n : ℕ) → filter p (flat_map f (range_with_len a n)) ≡ filter p (flat_map g (range_with_len a n))
  parts_same none a zero = refl
  parts_same none a (suc n) =
      filter-append p (f a) (flat_map f (range_with_len (a + 1) n))
      ∙ ap (λ xs. xs ++ filter p (flat_map f (range_with_len (a + 1) n))) (part_same none a (a == w) refl)
      ∙ ap (λ xs. filter p (g a) ++ xs) (parts_same none (a + 1) n)
      ∙ sym (filter-append p (g a) (flat_map g (range_with_len (a + 1) n)))

  -- where the test takes nothing of the rest
  module _ (rest : (v : ℕ) → filter p (g v) ≡ []) where
    part_other : (v : ℕ) → (v == w) ≡ false → filter p (f v) ≡ []
    part_other v e = ap (filter p) (other v e) ∙ rest v

    part_own : filter p (f w) ≡ filter p t
    part_own = ap (filter p) own ∙ filter-append p t (g w) ∙ ap (λ xs. filter p t ++ xs) (rest w) ∙ no_more (filter p t)

    parts_others : (a n : ℕ) → w < a → filter p (flat_map f (range_with_len a n)) ≡ []
    parts_others a zero h = refl
    parts_others a (suc n) h =
        filter-append p (f a) (flat_map f (range_with_len (a + 1) n))
        ∙ ap (λ xs. xs ++ filter p (flat_map f (range_with_len (a + 1) n))) (part_other a (ne_eqb a w (λ e. absurd (omega (arith, e, h)))))
        ∙ parts_others (a + 1) n (omega (arith, h))

    above : (a : ℕ) → a ≤ w → (a ≡ w → ⊥) → (a < w) ⊎ (w ≤ a) → a + 1 ≤ w
    above a low apart (inl less) = omega (arith, less)
    above a low apart (inr le) = absurd (apart (omega (arith, low, le)))

    one_here : (a n : ℕ) → a ≡ w → filter p (flat_map f (range_with_len a (suc n))) ≡ filter p t
    one_here a n is =
        filter-append p (f a) (flat_map f (range_with_len (a + 1) n))
        ∙ ap (λ xs. filter p (f a) ++ xs) (parts_others (a + 1) n (omega (arith, is))) ∙ no_more (filter p (f a))
        ∙ ap (λ v. filter p (f v)) is ∙ part_own

    one_if : (a n : ℕ) (b : Bool) → (a == w) ≡ b → a ≤ w → (a + 1 ≤ w → filter p (flat_map f (range_with_len (a + 1) n)) ≡ filter p t) →
        filter p (flat_map f (range_with_len a (suc n))) ≡ filter p t
    one_if a n true e low later = one_here a n (eqb-true a w e)
    one_if a n false e low later =
        filter-append p (f a) (flat_map f (range_with_len (a + 1) n))
        ∙ ap (λ xs. xs ++ filter p (flat_map f (range_with_len (a + 1) n))) (part_other a e)
        ∙ later (above a low (eqb-false a w e) (cases_lt a w))

    parts_one : (a n : ℕ) → a ≤ w → w < a + n → filter p (flat_map f (range_with_len a n)) ≡ filter p t
    parts_one a zero low high = absurd (omega (arith, low, high))
    parts_one a (suc n) low high = one_if a n (a == w) refl low (λ le. parts_one (a + 1) n le (omega (arith, high)))

-- ---- the lines of all workers

module _ {Op : Type 0} (r : Run Op) where
  -- what is told of lines behind others, each with its number
  abbrev pub numbered_lines : List ItemLine → List ItemLine → List (ℕ × Line)
  numbered_lines front [] = []
  numbered_lines front (l ∷ ls) = numbered_item r l.line l.worker (lines_by l.worker front) l.item ++ numbered_lines (front ++ l ∷ []) ls

  -- and of those of a worker
  abbrev pub part : List ItemLine → List ItemLine → ℕ → List (ℕ × Line)
  part front ls v = numbered_script r v (lines_by v front) (script_of ls v)

  pub item_stripped : (number worker before : ℕ) (i : Item) → map (λ l. l.1) (numbered_item r number worker before i) ≡ told_item r worker before i
  item_stripped number worker before (Call_item call) = refl
  item_stripped number worker before (Evict_item word) = refl

  -- without their numbers these are the lines of the report
  pub lines_stripped : (front ls : List ItemLine) → map (λ l. l.1) (numbered_lines front ls) ≡ told_lines r front ls
  lines_stripped front [] = refl
  lines_stripped front (l ∷ ls) =
      map-append (λ x. x.1) (numbered_item r l.line l.worker (lines_by l.worker front) l.item) (numbered_lines (front ++ l ∷ []) ls)
      ∙ ap (λ xs. xs ++ map (λ x. x.1) (numbered_lines (front ++ l ∷ []) ls)) (item_stripped l.line l.worker (lines_by l.worker front) l.item)
      ∙ ap (λ xs. told_item r l.worker (lines_by l.worker front) l.item ++ xs) (lines_stripped (front ++ l ∷ []) ls)

  item_from : (low number worker before : ℕ) (i : Item) → low ≤ number → AreFrom low (numbered_item r number worker before i)
  item_from low number worker before (Call_item call) h = (h, tt)
  item_from low number worker before (Evict_item word) h = tt

  pub lines_from : (low : ℕ) (front ls : List ItemLine) → IsRisingFrom low (lines_of_items ls) → AreFrom low (numbered_lines front ls)
  lines_from low front [] h = tt
  lines_from low front (l ∷ ls) h =
      let first = h.0 in
      let rest = numbered_lines (front ++ l ∷ []) ls in
      from_joined low (numbered_item r l.line l.worker (lines_by l.worker front) l.item) rest
      (item_from low l.line l.worker (lines_by l.worker front) l.item first)
      (from_lower low (suc l.line) rest (omega (arith, first)) (lines_from (suc l.line) (front ++ l ∷ []) ls h.1))

  script_if : (low v n : ℕ) (l : ItemLine) (ls : List ItemLine) (b : Bool) → low ≤ l.line →
      ((m : ℕ) → AreFrom low (numbered_script r v m (map (λ i. (i.line, i.item)) ls))) →
      AreFrom low (numbered_script r v n (map (λ i. (i.line, i.item)) (cond b (l ∷ ls) ls)))
  script_if low v n l ls true h rest =
      from_joined low (numbered_item r l.line v n l.item) (numbered_script r v (n + 1) (map (λ i. (i.line, i.item)) ls)) (item_from low l.line v n l.item h)
      (rest (n + 1))
  script_if low v n l ls false h rest = rest n

  script_from : (low v n : ℕ) (ls : List ItemLine) → IsRisingFrom low (lines_of_items ls) → AreFrom low (numbered_script r v n (script_of ls v))
  script_from low v n [] h = tt
  script_from low v n (l ∷ ls) h =
      let first = h.0 in
      script_if low v n l (filter (λ i. i.worker == v) ls) (l.worker == v) first
      (λ m. from_lower low (suc l.line) (numbered_script r v m (script_of ls v)) (omega (arith, first)) (script_from (suc l.line) v m ls h.1))

  lines_more : (v : ℕ) (front : List ItemLine) (l : ItemLine) (b : Bool) → (l.worker == v) ≡ b →
      lines_by v (front ++ l ∷ []) ≡ lines_by v front + (cond b 1 0 + 0)
  lines_more v front l b e =
      count_by-append (λ i. i.worker == v) front (l ∷ [])
      ∙ ap (λ n. lines_by v front + n) (count_by-cons (λ i. i.worker == v) l [] ∙ ap (λ y. cond y 1 0 + 0) e)

  pub other_part : (front ls : List ItemLine) (l : ItemLine) (v : ℕ) → (v == l.worker) ≡ false → part front (l ∷ ls) v ≡ part (front ++ l ∷ []) ls v
  other_part front ls l v e =
      let no : (l.worker == v) ≡ false = ne_eqb l.worker v (λ is. eqb-false v l.worker e (sym is)) in
      let rest = filter (λ i. i.worker == v) ls in
      let count = lines_more v front l false no in
      let same : lines_by v front ≡ lines_by v (front ++ l ∷ []) = omega (arith, count) in
      ap (λ b. numbered_script r v (lines_by v front) (map (λ i. (i.line, i.item)) (cond b (l ∷ rest) rest))) no
      ∙ ap (λ n. numbered_script r v n (script_of ls v)) same

  pub own_part : (front ls : List ItemLine) (l : ItemLine) →
      part front (l ∷ ls) l.worker ≡ numbered_item r l.line l.worker (lines_by l.worker front) l.item ++ part (front ++ l ∷ []) ls l.worker
  own_part front ls l =
      let v = l.worker in
      let yes_it : (l.worker == l.worker) ≡ true = eq-eqb l.worker l.worker refl in
      let rest = filter (λ i. i.worker == l.worker) ls in
      let count = lines_more l.worker front l true yes_it in
      let same : lines_by l.worker front + 1 ≡ lines_by l.worker (front ++ l ∷ []) = omega (arith, count) in
      ap (λ b. numbered_script r l.worker (lines_by l.worker front) (map (λ i. (i.line, i.item)) (cond b (l ∷ rest) rest))) yes_it
      ∙ ap (λ n. numbered_item r l.line l.worker (lines_by l.worker front) l.item ++ numbered_script r l.worker n (script_of ls l.worker)) same

  module _ (p : ℕ × Line → Bool) (k : ℕ) (only : (x : ℕ × Line) → p x ≡ true → x.0 ≡ k) where
    one_taken : (x : ℕ × Line) (b : Bool) → p x ≡ b → (filter p (x ∷ []) ≡ []) ⊎ (x.0 ≡ k)
    one_taken x true e = inr (only x e)
    one_taken x false e = inl (ap (λ b. cond b (x ∷ []) []) e)

    item_taken : (number worker before : ℕ) (i : Item) → (filter p (numbered_item r number worker before i) ≡ []) ⊎ (number ≡ k)
    item_taken number worker before (Call_item call) =
        one_taken (number, record { worker = worker; call = call; outcome = outcome_in r worker before }) _ refl
    item_taken number worker before (Evict_item word) = inl refl

    module _ (front ls : List ItemLine) (l : ItemLine) (workers : ℕ) (up : IsRisingFrom (suc l.line) (lines_of_items ls)) (low : 1 ≤ l.worker)
        (high : l.worker ≤ workers) where
      first : List (ℕ × Line)
      first = numbered_item r l.line l.worker (lines_by l.worker front) l.item

      behind : List (ℕ × Line)
      behind = numbered_lines (front ++ l ∷ []) ls

      merged_if : filter p (flat_map (part (front ++ l ∷ []) ls) (range_with_len 1 workers)) ≡ filter p (numbered_lines (front ++ l ∷ []) ls) →
          (filter p (numbered_item r l.line l.worker (lines_by l.worker front) l.item) ≡ []) ⊎ (l.line ≡ k) →
          filter p (flat_map (part front (l ∷ ls)) (range_with_len 1 workers))
          ≡ filter p (numbered_item r l.line l.worker (lines_by l.worker front) l.item ++ numbered_lines (front ++ l ∷ []) ls)
      unfolding first behind
      merged_if later (inl none) =
          parts_same p first l.worker (part front (l ∷ ls)) (part (front ++ l ∷ []) ls) (other_part front ls l) (own_part front ls l) none 1 workers
          ∙ later ∙ ap (λ xs. xs ++ filter p behind) (sym none) ∙ sym (filter-append p first behind)
      merged_if later (inr is) =
          let up_k = subst (λ n. IsRisingFrom (suc n) (lines_of_items ls)) is up in
          let nothing : filter p behind ≡ [] = none_from p k only behind (lines_from (suc k) (front ++ l ∷ []) ls up_k) in
          parts_one p first l.worker (part front (l ∷ ls)) (part (front ++ l ∷ []) ls) (other_part front ls l) (own_part front ls l)
          (λ v. none_from p k only (part (front ++ l ∷ []) ls v) (script_from (suc k) v (lines_by v (front ++ l ∷ [])) ls up_k)) 1 workers low
          (omega (arith, high)) ∙ sym (no_more (filter p first)) ∙ ap (λ xs. filter p first ++ xs) (sym nothing) ∙ sym (filter-append p first behind)

    pub merged : (low : ℕ) (front ls : List ItemLine) (workers : ℕ) → IsRisingFrom low (lines_of_items ls) →
        AllByRecursion (λ l. (1 ≤ l.worker) × (l.worker ≤ workers)) ls →
        filter p (flat_map (part front ls) (range_with_len 1 workers)) ≡ filter p (numbered_lines front ls)
    merged low front [] workers h w = ap (filter p) (flat_map-none (range_with_len 1 workers))
    merged low front (l ∷ ls) workers h w =
        merged_if front ls l workers h.1 w.0.0 w.0.1 (merged (suc l.line) (front ++ l ∷ []) ls workers h.1 w.1)
        (item_taken l.line l.worker (lines_by l.worker front) l.item)
