-- What is told of the items of a worker, with no line of the trace.
use Rattle.std.proofs.Common.{◌≡◌, ℕ, suc, ◌+◌, ◌-◌, ◌≤◌, ◌<◌, ◌++◌, List, [], ◌∷◌, map, take, drop, length, slice_index_or, refl, sym, ◌∙◌, ap, subst, append_assoc, arith}
use Rattle.std.proofs.lemmas.List.{map-append, length-take-le, take_more}
use Rattle.flit_model.specs.declared.calls.Item.{Item}
use Rattle.flit_report.specs.declared.content.Line.{Line}
use Rattle.flit_trace.specs.Contents.{Content}
use Rattle.flit_sched.specs.Runs.{Run, IsPart}
use Rattle.flit_sched.specs.Views.{OfWorker}
use Rattle.flit_step_reports.specs.StepReports.{items_in, told_item}
use Rattle.flit_step_runs.specs.Counts.{AreCountsOf}
use Rattle.flit_step_runs.specs.Tellings.{numbered_item, numbered_script, told_items, HoldsItems}
use Rattle.flit_step_runs.specs.declared.counting.Counts.{Counts}
use Rattle.flit_step_runs.proofs.MergedLines.{item_stripped}
use Rattle.flit_step_runs.proofs.TellingLaws.{at_place}
use Rattle.flit_step_runs.proofs.ToldLaws.{no_more}

module _ {Op : Type 0} (r : Run Op) where
  -- one item more
  items_more : (worker before : ℕ) (xs : List Item) (x : Item) →
      told_items r worker before (xs ++ x ∷ []) ≡ told_items r worker before xs ++ told_item r worker (before + length xs) x
  items_more worker before [] x = no_more (told_item r worker before x)
      ∙ ap (λ n. told_item r worker n x) (let is : before ≡ before + 0 = omega arith in is)
  items_more worker before (y ∷ ys) x =
      let first = told_item r worker before y in
      let is : (before + 1) + length ys ≡ before + suc (length ys) = omega arith in
      ap (λ ls. first ++ ls) (items_more worker (before + 1) ys x)
      ∙ ap (λ n. first ++ (told_items r worker (before + 1) ys ++ told_item r worker n x)) is
      ∙ sym (append_assoc first (told_items r worker (before + 1) ys) (told_item r worker (before + suc (length ys)) x))

  pub counts_item : (worker item i : ℕ) (items : List Item) (d : Item) (counts : Counts) (lines : List Line) → item ≡ i → i < length items →
      AreCountsOf counts ((lines ++ told_items r worker 0 (take i items)) ++ told_item r worker item (slice_index_or items i d)) →
      AreCountsOf counts (lines ++ told_items r worker 0 (take (i + 1) items))
  counts_item worker item i items d counts lines at below h =
      let long = length-take-le i items (omega (arith, below)) in
      let so_far : item ≡ 0 + length (take i items) = omega (arith, at, long) in
      let x = slice_index_or items i d in
      subst (AreCountsOf counts)
      (append_assoc lines (told_items r worker 0 (take i items)) (told_item r worker item x)
      ∙ ap (λ n. lines ++ (told_items r worker 0 (take i items) ++ told_item r worker n x)) so_far
      ∙ ap (λ xs. lines ++ xs) (sym (items_more worker 0 (take i items) x))
      ∙ ap (λ (xs : List Item). lines ++ told_items r worker 0 xs) (sym (take_more items i d below))) h

  -- without their numbers the lines of a script are those of its items
  pub script_items : (worker before : ℕ) (ls : List (ℕ × Item)) →
      map (λ l. l.1) (numbered_script r worker before ls) ≡ told_items r worker before (map (λ l. l.1) ls)
  script_items worker before [] = refl
  script_items worker before (l ∷ ls) =
      map-append (λ x. x.1) (numbered_item r l.0 worker before l.1) (numbered_script r worker (before + 1) ls)
      ∙ ap (λ xs. xs ++ map (λ x. x.1) (numbered_script r worker (before + 1) ls)) (item_stripped r l.0 worker before l.1)
      ∙ ap (λ xs. told_item r worker before l.1 ++ xs) (script_items worker (before + 1) ls)

  -- the items that a run has of a worker are those of its lines
  pub items_held : (t : Content) (worker : ℕ) (items : List Item) → HoldsItems t r → 1 ≤ worker → worker ≤ t.head.layout.workers →
      OfWorker r worker (λ p. items ≡ p.items) → items ≡ items_in t worker
  items_held t worker items holds least most said =
      let long = holds.long in
      let a = at_place r.parts (worker - 1) (omega (arith, least, most, long)) in
      let before = a.before in
      let part : IsPart r worker (take (worker - 1) r.parts) a.item (drop (suc (worker - 1)) r.parts) =
      record { is = a.parted; number = omega (arith, before, least) } in
      said (take (worker - 1) r.parts) a.item (drop (suc (worker - 1)) r.parts) part
      ∙ holds.items worker least most (take (worker - 1) r.parts) a.item (drop (suc (worker - 1)) r.parts) part
