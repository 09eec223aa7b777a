-- Told lines in the order of their numbers.
use Rattle.std.proofs.Common.{◌≡◌, ℕ, zero, suc, ◌+◌, ◌≤◌, ◌==◌, ◌&&◌, ◌++◌, Bool, true, false, cond, not, List, [], ◌∷◌, map, filter, flat_map, get_or, nat_lt, nat_cmp, Less, Equal, Greater, refl, sym, ◌∙◌, ap, arith}
use Rattle.std.proofs.lemmas.Bool.{ltb-true, ltb-false, le-ltb}
use Rattle.std.specs.List.{AllByRecursion, range_with_len}
use Rattle.std.specs.Ordering.{is_lt}
use Rattle.flit_model.specs.Lists.{IsRisingFrom}
use Rattle.flit_model.specs.declared.calls.Item.{Item}
use Rattle.flit_model.specs.declared.calls.Item.TheVariants.{Call as Call_item, Evict as Evict_item}
use Rattle.flit_report.specs.declared.content.Line.{Line}
use Rattle.flit_trace.specs.Contents.{Content, ItemLine}
use Rattle.flit_trace.specs.Rights.{IsRightLine, lines_of_items}
use Rattle.flit_trace.specs.SeenTraces.{SeenTrace, Shows, script_at}
use Rattle.flit_words.specs.declared.layouts.Layout.{Layout}
use Rattle.flit_sched.specs.Runs.{Run}
use Rattle.flit_sched.proofs.StableOrders.{Below, Up, IsOrder, up_of, one_order, tie}
use Rattle.flit_step_reports.specs.StepReports.{lines_by, outcome_in, told_lines}
use Rattle.flit_step_runs.specs.Tellings.{numbered_item, numbered_script, IsInLineOrder}
use Rattle.flit_step_runs.proofs.MergedLines.{AreFrom, from_lower, numbered_lines, part, lines_from, lines_stripped, merged}

-- a line isn't below another one
abbrev pub is_upto : ℕ × Line → ℕ × Line → Bool
is_upto x y = not (is_lt (nat_cmp y.0 x.0))

lt_is : (a b : ℕ) → is_lt (nat_cmp a b) ≡ nat_lt a b
lt_is a b = by_tests (nat_lt a b) (a == b)
  where
    by_tests : (x y : Bool) → is_lt (cond x Less (cond y Equal Greater)) ≡ x
    by_tests true y = refl
    by_tests false true = refl
    by_tests false false = refl

pub upto_le : (x y : ℕ × Line) → is_upto x y ≡ true → x.0 ≤ y.0
upto_le x y h = by_test (nat_lt y.0 x.0) refl
  where
    by_test : (b : Bool) → nat_lt y.0 x.0 ≡ b → x.0 ≤ y.0
    by_test true e = absurd (let no : not true ≡ true = ap not (sym (lt_is y.0 x.0 ∙ e)) ∙ h in let none : ⊥ = cc in none)
    by_test false e = ltb-false y.0 x.0 e

le_upto : (x y : ℕ × Line) → x.0 ≤ y.0 → is_upto x y ≡ true
le_upto x y h = ap not (lt_is y.0 x.0 ∙ le-ltb y.0 x.0 h)

pub order : IsOrder is_upto
order = record {
  total = λ x y h. le_upto y x (below x y h);
  on = λ x y z h k. let one = upto_le x y h in let two = upto_le y z k in le_upto x z (omega (arith, one, two));
  own = λ x. le_upto x x (omega arith);
}
  where
    below : (x y : ℕ × Line) → is_upto x y ≡ false → y.0 ≤ x.0
    below x y h = by_test (nat_lt y.0 x.0) refl
      where
        by_test : (b : Bool) → nat_lt y.0 x.0 ≡ b → y.0 ≤ x.0
        by_test true e = let less = ltb-true y.0 x.0 e in omega (arith, less)
        by_test false e = absurd (let no : not false ≡ false = ap not (sym (lt_is y.0 x.0 ∙ e)) ∙ h in let none : ⊥ = cc in none)

-- lines that stand in the order of their numbers rise by them
pub lines_rise : (told : List (ℕ × Line)) (lines : List Line) (h : IsInLineOrder told lines) → Up is_upto h.sorted
lines_rise told lines h = up_of is_upto order h.sorted (λ k d b. let one : suc k ≡ k + 1 = omega arith in
    ap not (ap (λ n. is_lt (nat_cmp (get_or h.sorted n d).0 (get_or h.sorted k d).0)) one ∙ h.rises k d (omega arith) (omega (arith, b))))

pub below_from : (x : ℕ × Line) (xs : List (ℕ × Line)) → AreFrom x.0 xs → Below is_upto x xs
below_from x [] h = tt
below_from x (y ∷ ys) h = (le_upto x y h.0, below_from x ys h.1)

-- a test that lines of one number alone pass
both : (b c : Bool) → b && c ≡ true → (b ≡ true) × (c ≡ true)
both true c h = (refl, h)
both false c h = absurd (let none : ⊥ = cc in none)

tie_one : (x y : ℕ × Line) → tie is_upto x y ≡ true → y.0 ≡ x.0
tie_one x y h =
    let two = both (is_upto y x) (is_upto x y) h in
    let low = upto_le y x two.0 in
    let high = upto_le x y two.1 in
    omega (arith, low, high)

module _ {Op : Type 0} (r : Run Op) where
  up_item : (number worker before low : ℕ) (i : Item) (rest : List (ℕ × Line)) → AreFrom number rest → Up is_upto rest →
      Up is_upto (numbered_item r number worker before i ++ rest)
  up_item number worker before low (Call_item call) rest h k =
      (below_from (number, record { worker = worker; call = call; outcome = outcome_in r worker before }) rest h, k)
  up_item number worker before low (Evict_item word) rest h k = k

  up_lines : (low : ℕ) (front ls : List ItemLine) → IsRisingFrom low (lines_of_items ls) → Up is_upto (numbered_lines r front ls)
  up_lines low front [] h = tt
  up_lines low front (l ∷ ls) h =
      up_item l.line l.worker (lines_by l.worker front) low l.item (numbered_lines r (front ++ l ∷ []) ls)
      (from_lower l.line (suc l.line) (numbered_lines r (front ++ l ∷ []) ls) (omega arith) (lines_from r (suc l.line) (front ++ l ∷ []) ls h.1))
      (up_lines (suc l.line) (front ++ l ∷ []) ls h.1)

  scripts_same : (trace : SeenTrace) (t : Content) → Shows trace t → (a n : ℕ) → 1 ≤ a → a + n ≤ trace.head.layout.workers + 1 →
      flat_map (λ v. numbered_script r v 0 (script_at trace v)) (range_with_len a n) ≡ flat_map (part r [] t.items) (range_with_len a n)
  scripts_same trace t h a zero some le = refl
  scripts_same trace t h a (suc n) some le =
      ap (λ s. numbered_script r a 0 s ++ flat_map (λ v. numbered_script r v 0 (script_at trace v)) (range_with_len (a + 1) n))
      (h.scripts a (record { least = some; most = omega (arith, le) }))
      ∙ ap (λ xs. part r [] t.items a ++ xs) (scripts_same trace t h (a + 1) n (omega arith) (omega (arith, le)))

  pub named : (l : Layout) (ls : List ItemLine) → AllByRecursion (IsRightLine l) ls → AllByRecursion (λ i. (1 ≤ i.worker) × (i.worker ≤ l.workers)) ls
  named l [] h = tt
  named l (i ∷ is) h = ((h.0.0, h.0.1), named l is h.1)

  -- what was told of the workers' lines, in the order of their numbers, is what is to be told
  pub ordered_told : (trace : SeenTrace) (t : Content) (told : List (ℕ × Line)) (lines : List Line) → Shows trace t →
      IsRisingFrom 1 (lines_of_items t.items) → AllByRecursion (IsRightLine t.head.layout) t.items →
      told ≡ flat_map (λ v. numbered_script r v 0 (script_at trace v)) (range_with_len 1 trace.head.layout.workers) → IsInLineOrder told lines →
      lines ≡ told_lines r [] t.items
  ordered_told trace t told lines shows rising right is h =
      let workers = ap (λ h. h.layout.workers) shows.head in
      let all : told ≡ flat_map (part r [] t.items) (range_with_len 1 t.head.layout.workers) =
      is ∙ scripts_same trace t shows 1 trace.head.layout.workers (omega arith) (omega arith)
      ∙ ap (λ n. flat_map (part r [] t.items) (range_with_len 1 n)) workers in
      h.lines_are ∙ ap (map (λ l. l.1)) (one_order is_upto order h.sorted (numbered_lines r [] t.items) (lines_rise told lines h)
      (up_lines 1 [] t.items rising)
      (λ x. h.stable x ∙ ap (filter (tie is_upto x)) all
      ∙ merged r (tie is_upto x) x.0 (tie_one x) 1 [] t.items t.head.layout.workers rising (named t.head.layout t.items right)))
      ∙ lines_stripped r [] t.items
