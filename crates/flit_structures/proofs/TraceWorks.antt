-- The works of a trace are right for its layout.
use Rattle.std.proofs.Common.{◌≡◌, ℕ, zero, suc, ◌+◌, ◌<◌, ◌≤◌, ◌==◌, true, false, List, [], ◌∷◌, map, length, refl, sym, ◌∙◌, ap, subst, arith, inl, inr}
use Rattle.std.proofs.lemmas.List.{length-map}
use Rattle.std.proofs.lemmas.List.FromFn.{length-map-range_with_len}
use Rattle.std.proofs.lemmas.Bool.Decides.{eqb_tells}
use Rattle.std.specs.List.{AllByRecursion, range_with_len}
use Rattle.flit_words.specs.declared.layouts.Layout.{Layout}
use Rattle.flit_model.specs.declared.calls.Call.{Call}
use Rattle.flit_model.specs.declared.calls.Call.TheVariants.{Insert, Remove, Contains, Get}
use Rattle.flit_model.specs.declared.calls.Item.{Item}
use Rattle.flit_model.specs.declared.calls.Item.TheVariants.{Call as Call_item, Evict as Evict_item}
use Rattle.flit_model.specs.declared.calls.Work.{Work}
use Rattle.flit_model.proofs.Elements.{all_mapped}
use Rattle.flit_structure.specs.Meanings.{IsServed}
use Rattle.flit_trace.specs.Contents.{Content, ItemLine, script_of}
use Rattle.flit_trace.specs.Rights.{IsRightCall, IsRightLine}
use Rattle.flit_sched.specs.Openings.{AreRight, IsRightItem, item_count}
use Rattle.flit_step_reports.specs.StepReports.{AreWorksOf, items_in}

-- the items of a worker's lines
abbrev pub items_by : List ItemLine → ℕ → List Item
items_by items worker = map (λ line. line.1) (script_of items worker)

mine : (i : ItemLine) (items : List ItemLine) (worker : ℕ) → (i.worker == worker) ≡ true → items_by (i ∷ items) worker ≡ i.item ∷ items_by items worker
mine i items worker test = rw test refl

another : (i : ItemLine) (items : List ItemLine) (worker : ℕ) → (i.worker == worker) ≡ false → items_by (i ∷ items) worker ≡ items_by items worker
another i items worker test = rw test refl

-- ---- each item is right

served : (l : Layout) (call : Call) → IsRightCall l call → IsServed l call
served l (Insert key value) h = record { key = h.0; value = h.2; fits = let few = h.1 in omega (arith, few) }
served l (Remove key) h = record { key = h; value = λ _. refl; fits = omega arith }
served l (Contains key) h = record { key = h; value = λ _. refl; fits = omega arith }
served l (Get key) h = record { key = h.0; value = λ _. refl; fits = omega arith }

right_item : (l : Layout) (i : Item) (line worker : ℕ) → IsRightLine l (record { line = line; worker = worker; item = i }) → IsRightItem l i
right_item l (Call_item call) line worker h = served l call h.2
right_item l (Evict_item word) line worker h = h.2

right_items : (l : Layout) (items : List ItemLine) (worker : ℕ) → AllByRecursion (IsRightLine l) items → AllByRecursion (IsRightItem l) (items_by items worker)
right_items l [] worker h = tt
right_items l (i ∷ items) worker h =
    let rest = right_items l items worker h.1 in
    elim (eqb_tells i.worker worker) [
      | inl same ↦ subst (λ xs. AllByRecursion (IsRightItem l) xs) (sym (mine i items worker same.0)) (right_item l i.item i.line i.worker h.0, rest)
      | inr apart ↦ subst (λ xs. AllByRecursion (IsRightItem l) xs) (sym (another i items worker apart.0)) rest
    ]

all_right : (l : Layout) (items : List ItemLine) → AllByRecursion (IsRightLine l) items → (a n : ℕ) →
    AllByRecursion (λ xs. AllByRecursion (IsRightItem l) xs) (map (items_by items) (range_with_len a n))
all_right l items h a zero = tt
all_right l items h a (suc n) = (right_items l items a h, all_right l items h (a + 1) n)

-- ---- there are as many as lines, or fewer

abbrev sum_of : List (List Item) → ℕ
sum_of [] = 0
sum_of (xs ∷ xss) = length xs + sum_of xss

counted : (works : List Work) → item_count works ≡ sum_of (map (λ w. w.items.items) works)
counted [] = refl
counted (w ∷ works) = ap (λ n. length w.items.items + n) (counted works)

abbrev sum_by : List ItemLine → ℕ → ℕ → ℕ
sum_by items a n = sum_of (map (items_by items) (range_with_len a n))

-- a line is of one worker
sum_past : (i : ItemLine) (items : List ItemLine) (a n : ℕ) → i.worker < a → sum_by (i ∷ items) a n ≡ sum_by items a n
sum_past i items a zero below = refl
sum_past i items a (suc n) below =
    elim (eqb_tells i.worker a) [
      | inl same ↦ absurd (let is = same.1 in omega (arith, is, below))
      | inr apart ↦
          let first : length (items_by (i ∷ items) a) ≡ length (items_by items a) = ap length (another i items a apart.0) in
          let rest = sum_past i items (a + 1) n (omega (arith, below)) in
          ap (λ k. k + sum_by (i ∷ items) (a + 1) n) first ∙ ap (λ k. length (items_by items a) + k) rest
    ]

sum_more : (i : ItemLine) (items : List ItemLine) (a n : ℕ) → sum_by (i ∷ items) a n ≤ suc (sum_by items a n)
sum_more i items a zero = omega arith
sum_more i items a (suc n) =
    elim (eqb_tells i.worker a) [
      | inl same ↦
          let first : length (items_by (i ∷ items) a) ≡ suc (length (items_by items a)) = ap length (mine i items a same.0) in
          let rest : sum_by (i ∷ items) (a + 1) n ≡ sum_by items (a + 1) n = sum_past i items (a + 1) n (let is = same.1 in omega (arith, is)) in
          omega (arith, first, rest)
      | inr apart ↦
          let first : length (items_by (i ∷ items) a) ≡ length (items_by items a) = ap length (another i items a apart.0) in
          let rest : sum_by (i ∷ items) (a + 1) n ≤ suc (sum_by items (a + 1) n) = sum_more i items (a + 1) n in
          omega (arith, first, rest)
    ]

none_by : (a n : ℕ) → sum_by [] a n ≡ 0
none_by a zero = refl
none_by a (suc n) = let rest = none_by (a + 1) n in omega (arith, rest)

sum_most : (items : List ItemLine) (a n : ℕ) → sum_by items a n ≤ length items
sum_most [] a n = let none = none_by a n in omega (arith, none)
sum_most (i ∷ items) a n =
    let more : sum_by (i ∷ items) a n ≤ suc (sum_by items a n) = sum_more i items a n in
    let rest : sum_by items a n ≤ length items = sum_most items a n in
    omega (arith, more, rest)

-- ---- the works

module _ (t : Content) (works : List Work) (are : AreWorksOf t works) where
  works_long : length works ≡ t.head.layout.workers
  works_long =
      sym (length-map works (λ w. w.items.items)) ∙ ap length are.items ∙ length-map-range_with_len (items_in t) 1 t.head.layout.workers

  pub works_right : length t.items ≤ 1048576 → AllByRecursion (IsRightLine t.head.layout) t.items → AreRight t.head.layout works
  works_right few right = record {
    workers = works_long;
    most =
        let all : item_count works ≡ sum_by t.items 1 t.head.layout.workers = counted works ∙ ap sum_of are.items in
        let most = sum_most t.items 1 t.head.layout.workers in
        omega (arith, all, most, few);
    items = all_mapped (λ xs. AllByRecursion (IsRightItem t.head.layout) xs) (λ w. w.items.items) works
        (subst (λ xss. AllByRecursion (λ xs. AllByRecursion (IsRightItem t.head.layout) xs) xss) (sym are.items)
        (all_right t.head.layout t.items right 1 t.head.layout.workers));
  }
