-- What is counted of told lines, worker by worker, is what is counted of them in the order of the trace.
use Rattle.std.proofs.Common.{◌≡◌, ◌⊎◌, ℕ, zero, suc, ◌+◌, ◌≤◌, ◌<◌, ◌++◌, ◌==◌, Bool, true, false, List, [], ◌∷◌, map, flat_map, length, count_by, inl, inr, refl, sym, ◌∙◌, ap, subst, arith}
use Rattle.std.proofs.lemmas.Bool.{eqb-true, eqb-false, ne_eqb, cases_lt}
use Rattle.std.proofs.lemmas.List.{map-append, length-append}
use Rattle.std.specs.List.{AllByRecursion, range_with_len}
use Rattle.flit_model.proofs.Counting.{count_by-append}
use Rattle.flit_report.specs.Content.{is_done, is_stopped, is_full, is_worn}
use Rattle.flit_report.specs.declared.content.Line.{Line}
use Rattle.flit_trace.specs.Contents.{Content, ItemLine, script_of}
use Rattle.flit_trace.specs.Rights.{IsRightLine}
use Rattle.flit_sched.specs.Runs.{Run}
use Rattle.flit_step_reports.specs.StepReports.{items_in, lines_by, told_item, told_lines}
use Rattle.flit_step_runs.specs.Counts.{AreCountsOf}
use Rattle.flit_step_runs.specs.Tellings.{numbered_item, told_items}
use Rattle.flit_step_runs.specs.declared.counting.Counts.{Counts}
use Rattle.flit_step_runs.proofs.ItemLaws.{script_items}
use Rattle.flit_step_runs.proofs.MergedLines.{part, item_stripped, other_part, own_part}
use Rattle.flit_step_runs.proofs.OrderedLines.{named}
use Rattle.flit_step_runs.proofs.ToldLaws.{worker_more}

-- one worker more
pub counts_worker : (f : ℕ → List Line) (n : ℕ) (counts : Counts) → AreCountsOf counts (flat_map f (range_with_len 1 n) ++ f (n + 1)) →
    AreCountsOf counts (flat_map f (range_with_len 1 (n + 1)))
counts_worker f n counts h = subst (AreCountsOf counts) (sym (worker_more f n)) h

-- ---- whatever is counted of lists so that two behind each other have what both have

module _ (m : List Line → ℕ) (none : m [] ≡ 0) (joined : (xs ys : List Line) → m (xs ++ ys) ≡ m xs + m ys) where
  module _ (t : List Line) (w : ℕ) (f g : ℕ → List Line) (other : (v : ℕ) → (v == w) ≡ false → f v ≡ g v) (own : f w ≡ t ++ g w) where
    past : (a n : ℕ) → w < a → m (flat_map f (range_with_len a n)) ≡ m (flat_map g (range_with_len a n))
    past a zero h = refl
    past a (suc n) h =
        let later = past (a + 1) n (omega (arith, h)) in
        let first = ap m (other a (ne_eqb a w (λ e. absurd (omega (arith, e, h))))) in
        let one = joined (f a) (flat_map f (range_with_len (a + 1) n)) in
        let two = joined (g a) (flat_map g (range_with_len (a + 1) n)) in
        omega (arith, later, first, one, two)

    here_if : (a n : ℕ) (b : Bool) → (a == w) ≡ b → a ≤ w →
        (a + 1 ≤ w → m (flat_map f (range_with_len (a + 1) n)) ≡ m t + m (flat_map g (range_with_len (a + 1) n))) →
        m (flat_map f (range_with_len a (suc n))) ≡ m t + m (flat_map g (range_with_len a (suc n)))
    here_if a n true e low later =
        let is = eqb-true a w e in
        let rest = past (a + 1) n (omega (arith, is)) in
        let mine : f a ≡ t ++ g a = ap f is ∙ own ∙ ap (λ v. t ++ g v) (sym is) in
        let first = ap m mine in
        let split = joined t (g a) in
        let one = joined (f a) (flat_map f (range_with_len (a + 1) n)) in
        let two = joined (g a) (flat_map g (range_with_len (a + 1) n)) in
        omega (arith, rest, first, split, one, two)
    here_if a n false e low later =
        let apart : a + 1 ≤ w = above a low (eqb-false a w e) (cases_lt a w) in
        let rest = later apart in
        let first = ap m (other a e) in
        let one = joined (f a) (flat_map f (range_with_len (a + 1) n)) in
        let two = joined (g a) (flat_map g (range_with_len (a + 1) n)) in
        omega (arith, rest, first, one, two)
      where
        above : (a : ℕ) → a ≤ w → (a ≡ w → ⊥) → (a < w) ⊎ (w ≤ a) → a + 1 ≤ w
        above a low apart (inl less) = omega (arith, less)
        above a low apart (inr le) = absurd (apart (omega (arith, low, le)))

    pub within : (a n : ℕ) → a ≤ w → w < a + n → m (flat_map f (range_with_len a n)) ≡ m t + m (flat_map g (range_with_len a n))
    within a zero low high = absurd (omega (arith, low, high))
    within a (suc n) low high = here_if a n (a == w) refl low (λ le. within (a + 1) n le (omega (arith, high)))

  module _ {Op : Type 0} (r : Run Op) where
    -- of the lines of a worker
    abbrev told_part : List ItemLine → List ItemLine → ℕ → List Line
    told_part front ls v = map (λ l. l.1) (part r front ls v)

    nothing : (front : List ItemLine) (a n : ℕ) → m (flat_map (told_part front []) (range_with_len a n)) ≡ 0
    nothing front a zero = none
    nothing front a (suc n) = nothing front (a + 1) n

    pub counted : (front ls : List ItemLine) (workers : ℕ) → AllByRecursion (λ l. (1 ≤ l.worker) × (l.worker ≤ workers)) ls →
        m (flat_map (λ v. map (λ l. l.1) (part r front ls v)) (range_with_len 1 workers)) ≡ m (told_lines r front ls)
    counted front [] workers h = nothing front 1 workers ∙ sym none
    counted front (l ∷ ls) workers h =
        let before = lines_by l.worker front in
        let item = told_item r l.worker before l.item in
        let low = h.0.0 in
        let high = h.0.1 in
        let mine : told_part front (l ∷ ls) l.worker ≡ told_item r l.worker (lines_by l.worker front) l.item ++ told_part (front ++ l ∷ []) ls l.worker =
        ap (map (λ x. x.1)) (own_part r front ls l)
        ∙ map-append (λ x. x.1) (numbered_item r l.line l.worker (lines_by l.worker front) l.item) (part r (front ++ l ∷ []) ls l.worker)
        ∙ ap (λ xs. xs ++ told_part (front ++ l ∷ []) ls l.worker) (item_stripped r l.line l.worker (lines_by l.worker front) l.item)
        in
        let one = within item l.worker (told_part front (l ∷ ls)) (told_part (front ++ l ∷ []) ls)
        (λ v e. ap (map (λ x. x.1)) (other_part r front ls l v e)) mine 1 workers low (omega (arith, high)) in
        let rest = counted (front ++ l ∷ []) ls workers h.1 in
        let two = joined item (told_lines r (front ++ l ∷ []) ls) in
        omega (arith, one, rest, two)

-- ---- the counts of all lines

module _ {Op : Type 0} (r : Run Op) (t : Content) (right : AllByRecursion (IsRightLine t.head.layout) t.items) where
  abbrev by_workers : List Line
  by_workers = flat_map (λ v. told_items r v 0 (items_in t v)) (range_with_len 1 t.head.layout.workers)

  same_count : (m : List Line → ℕ) → m [] ≡ 0 → ((xs ys : List Line) → m (xs ++ ys) ≡ m xs + m ys) → m by_workers ≡ m (told_lines r [] t.items)
  same_count m none joined =
      ap m (parts_same 1 t.head.layout.workers)
      ∙ counted m none joined r [] t.items t.head.layout.workers (named r t.head.layout t.items right)
    where
      parts_same : (a n : ℕ) → flat_map (λ v. told_items r v 0 (items_in t v)) (range_with_len a n)
          ≡ flat_map (λ v. map (λ l. l.1) (part r [] t.items v)) (range_with_len a n)
      parts_same a zero = refl
      parts_same a (suc n) =
          ap (λ xs. xs ++ flat_map (λ v. told_items r v 0 (items_in t v)) (range_with_len (a + 1) n)) (sym (script_items r a 0 (script_of t.items a)))
          ∙ ap (λ xs. map (λ l. l.1) (part r [] t.items a) ++ xs) (parts_same (a + 1) n)

  pub counts_told : (counts : Counts) → AreCountsOf counts by_workers → AreCountsOf counts (told_lines r [] t.items)
  counts_told counts h = record {
    calls = h.calls ∙ same_count length refl length-append;
    done = h.done ∙ same_count (count_by (λ l. is_done l.outcome)) refl (count_by-append (λ l. is_done l.outcome));
    stopped = h.stopped ∙ same_count (count_by (λ l. is_stopped l.outcome)) refl (count_by-append (λ l. is_stopped l.outcome));
    full = h.full ∙ same_count (count_by (λ l. is_full l.outcome)) refl (count_by-append (λ l. is_full l.outcome));
    worn = h.worn ∙ same_count (count_by (λ l. is_worn l.outcome)) refl (count_by-append (λ l. is_worn l.outcome));
  }
