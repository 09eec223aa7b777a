-- What is counted of the outcomes of one worker after another is what is counted of lines in the order of the trace.
use Rattle.std.proofs.Common.{◌≡◌, ℕ, zero, suc, ◌+◌, ◌-◌, ◌≤◌, ◌<◌, ◌++◌, ◌==◌, Bool, cond, List, [], ◌∷◌, map, filter, flat_map, length, count_by, slice_index_or, take, refl, sym, ◌∙◌, ap, subst, append_assoc, arith, ne_eqb, Vec}
use Rattle.std.specs.Global.{Global}
use Rattle.std.proofs.lemmas.Bool.{eq-eqb, eqb-false}
use Rattle.std.proofs.lemmas.List.{map-append, length-append, length-map, length-take-le, take_all, take_more}
use Rattle.std.proofs.lemmas.List.Folds.{length-flat_map-take}
use Rattle.std.specs.List.{AllByRecursion, range_with_len}
use Rattle.flit_words.specs.declared.limits.TheConstants.{MOST_CALLS}
use Rattle.flit_model.proofs.Counting.{count_by-append, count_by-cons}
use Rattle.flit_model.specs.declared.calls.Call.TheVariants.{Get}
use Rattle.flit_model.specs.declared.calls.Item.{Item}
use Rattle.flit_model.specs.declared.calls.Item.TheVariants.{Call as Call_item, Evict as Evict_item}
use Rattle.flit_model.specs.declared.calls.Outcome.{Outcome}
use Rattle.flit_model.specs.declared.calls.Work.{Work}
use Rattle.flit_model.specs.declared.found.Recovered.{Recovered}
use Rattle.flit_report.specs.Content.{is_done, is_stopped, is_full, is_worn}
use Rattle.flit_report.specs.declared.content.Line.{Line}
use Rattle.flit_trace.specs.Contents.{Content}
use Rattle.flit_trace.specs.Rights.{IsRightLine}
use Rattle.flit_sched.specs.Openings.{item_count}
use Rattle.flit_table.specs.declared.told.Known.{Known}
use Rattle.flit_workers.specs.Works.{calls_in}
use Rattle.flit_step_reports.specs.StepReports.{items_in, AreWorksOf}
use Rattle.flit_step_runs.specs.Counts.{AreCountsOf}
use Rattle.flit_step_runs.specs.declared.counting.Counts.{Counts}
use Rattle.flit_step_runs.proofs.CountedLines.{within}
use Rattle.flit_run_reports.specs.RunReports.{IsWorkerOf, outcomes_by}
use Rattle.flit_run_reports.specs.RunLaws.{TellsTrace}
use Rattle.flit_run_runs.specs.Summaries.{CountsOutcomes}
use Rattle.flit_run_runs.specs.Tellings.{outcomes_at, TellsCalls}
use Rattle.flit_run_runs.proofs.ToldReports.{as_many_told, lines_of_workers}

-- ---- counts of lines and of their outcomes

count_mapped : (p : Outcome → Bool) (lines : List Line) → count_by p (map (λ l. l.outcome) lines) ≡ count_by (λ l. p l.outcome) lines
count_mapped p [] = refl
count_mapped p (l ∷ ls) =
    count_by-cons p l.outcome (map (λ x. x.outcome) ls) ∙ ap (λ n. cond (p l.outcome) 1 0 + n) (count_mapped p ls)
    ∙ sym (count_by-cons (λ x. p x.outcome) l ls)

lines_counted : (c : Counts) (lines : List Line) → CountsOutcomes c (map (λ l. l.outcome) lines) → AreCountsOf c lines
lines_counted c lines h = record {
  calls = h.calls ∙ length-map lines (λ l. l.outcome);
  done = h.done ∙ count_mapped (λ o. is_done o) lines;
  stopped = h.stopped ∙ count_mapped (λ o. is_stopped o) lines;
  full = h.full ∙ count_mapped (λ o. is_full o) lines;
  worn = h.worn ∙ count_mapped (λ o. is_worn o) lines;
}

-- a line with an outcome, of whatever call
abbrev pub line_of : Outcome → Line
line_of o = record { worker = 1; call = Get 1; outcome = o }

same_outcomes : (os : List Outcome) → map (λ l. l.outcome) (map (λ o. line_of o) os) ≡ os
same_outcomes [] = refl
same_outcomes (o ∷ os) = ap (λ l. o ∷ l) (same_outcomes os)

pub as_lines : (c : Counts) (os : List Outcome) → CountsOutcomes c os → AreCountsOf c (map (λ o. line_of o) os)
as_lines c os h = lines_counted c (map (λ o. line_of o) os) (subst (λ xs. CountsOutcomes c xs) (sym (same_outcomes os)) h)

pub as_outcomes : (c : Counts) (os : List Outcome) → AreCountsOf c (map (λ o. line_of o) os) → CountsOutcomes c os
as_outcomes c os h =
    let lines = map (λ o. line_of o) os in
    subst (λ xs. CountsOutcomes c xs) (same_outcomes os) (record {
      calls = h.calls ∙ sym (length-map lines (λ l. l.outcome));
      done = h.done ∙ sym (count_mapped (λ o. is_done o) lines);
      stopped = h.stopped ∙ sym (count_mapped (λ o. is_stopped o) lines);
      full = h.full ∙ sym (count_mapped (λ o. is_full o) lines);
      worn = h.worn ∙ sym (count_mapped (λ o. is_worn o) lines);
    })

pub one_more : (c : Counts) (os : List Outcome) (o : Outcome) → AreCountsOf c (map (λ x. line_of x) os ++ line_of o ∷ []) → CountsOutcomes c (os ++ o ∷ [])
one_more c os o h = as_outcomes c (os ++ o ∷ []) (subst (AreCountsOf c) (sym (map-append (λ x. line_of x) os (o ∷ []))) h)

-- where some of the outcomes are counted, and one more, then all of them
pub counts_more : (c : Counts) (front xs : List Outcome) (i : ℕ) (d : Outcome) → i < length xs →
    CountsOutcomes c ((front ++ take i xs) ++ slice_index_or xs i d ∷ []) → CountsOutcomes c (front ++ take (i + 1) xs)
counts_more c front xs i d below h =
    subst (λ os. CountsOutcomes c os)
    (append_assoc front (take i xs) (slice_index_or xs i d ∷ []) ∙ ap (λ l. front ++ l) (sym (take_more xs i d below))) h

pub counts_all : (c : Counts) (front xs : List Outcome) (i : ℕ) → length xs ≤ i → CountsOutcomes c (front ++ take i xs) → CountsOutcomes c (front ++ xs)
counts_all c front xs i past h = subst (λ os. CountsOutcomes c (front ++ os)) (take_all i xs past) h

pub calls_so_far : (before c : Counts) (front xs : List Outcome) (i : ℕ) → i ≤ length xs → CountsOutcomes before front →
    CountsOutcomes c (front ++ take i xs) → c.calls ≡ before.calls + i
calls_so_far before c front xs i within h k =
    let was = h.calls in
    let is = k.calls in
    let both = length-append front (take i xs) in
    let part = length-take-le i xs within in
    omega (arith, was, is, both, part)

-- ---- the outcomes of all workers, by the workers' names

all_at : (xs : List (Vec Outcome Global)) (a : ℕ) (f : ℕ → List Outcome) →
    ((i : ℕ) → i < length xs → f (a + i) ≡ slice_index_or (map (λ os. os.items) xs) i []) →
    flat_map f (range_with_len a (length xs)) ≡ flat_map (λ os. os.items) xs
all_at [] a f at = refl
all_at (x ∷ xs) a f at =
    let here : a ≡ a + 0 = omega arith in
    let rest = flat_map f (range_with_len (a + 1) (length xs)) in
    ap (λ v. f v ++ rest) here ∙ ap (λ os. os ++ rest) (at 0 (omega arith))
    ∙ ap (λ l. x.items ++ l)
    (all_at xs (a + 1) f (λ i less. (let next : (a + 1) + i ≡ a + suc i = omega arith in ap f next) ∙ at (suc i) (omega (arith, less))))

by_names : (xs : List (Vec Outcome Global)) (workers : ℕ) → length (map (λ os. os.items) xs) ≡ workers →
    flat_map (λ os. os.items) xs ≡ flat_map (outcomes_at (map (λ os. os.items) xs)) (range_with_len 1 workers)
by_names xs workers long =
    let all = map (λ os. os.items) xs in
    sym (all_at xs 1 (outcomes_at all) (λ i less. let same : (1 + i) - 1 ≡ i = omega arith in ap (λ j. slice_index_or all j []) same))
    ∙ ap (λ n. flat_map (outcomes_at all) (range_with_len 1 n)) (sym (length-map xs (λ os. os.items)) ∙ long)

-- those of one worker, and all before them, are not more than all
pub part_of_all : (xs : List (Vec Outcome Global)) (i : ℕ) (d v : Vec Outcome Global) → i < length xs → v ≡ slice_index_or xs i d →
    length (flat_map (λ os. os.items) (take i xs)) + length v.items ≤ length (flat_map (λ os. os.items) xs)
part_of_all xs i d v below is =
    let own = ap (λ os. length os.items) is in
    let part = length-flat_map-take (λ os. os.items) xs i d below in
    omega (arith, own, part)

-- ---- they are as few as the items of the works

calls_few : (is : List Item) → length (calls_in is) ≤ length is
calls_few [] = omega arith
calls_few (Call_item call ∷ is) = let few = calls_few is in omega (arith, few)
calls_few (Evict_item word ∷ is) = let few = calls_few is in omega (arith, few)

few_from : (t : Content) (f : ℕ → List Outcome) (a n : ℕ) (works : List Work) → map (λ w. w.items.items) works ≡ map (items_in t) (range_with_len a n) →
    ((v : ℕ) → a ≤ v → v < a + n → length (f v) ≡ length (calls_in (items_in t v))) → length (flat_map f (range_with_len a n)) ≤ item_count works
few_from t f a zero works is each = omega arith
few_from t f a (suc n) [] is each = absurd (let none : ⊥ = cc in none)
few_from t f a (suc n) (w ∷ ws) is each =
    let first : w.items.items ≡ items_in t a = cc in
    let others : map (λ x. x.items.items) ws ≡ map (items_in t) (range_with_len (a + 1) n) = cc in
    let rest = few_from t f (a + 1) n ws others (λ v low high. each v (omega (arith, low)) (omega (arith, high))) in
    let own = each a (omega arith) (omega arith) in
    let few = calls_few (items_in t a) in
    let as_long = ap length first in
    let both = length-append (f a) (flat_map f (range_with_len (a + 1) n)) in
    omega (arith, rest, own, few, as_long, both)

pub few_outcomes : (t : Content) (start : Recovered) (k : Known) (xs : List (Vec Outcome Global)) → TellsTrace t start k (map (λ os. os.items) xs) →
    (works : List Work) → AreWorksOf t works → item_count works ≤ MOST_CALLS → length (flat_map (λ os. os.items) xs) ≤ MOST_CALLS
few_outcomes t start k xs tells works are most =
    let all = map (λ os. os.items) xs in
    let same = ap length (by_names xs t.head.layout.workers tells.each) in
    let few = few_from t (outcomes_at all) 1 t.head.layout.workers works are.items
    (λ v low high. as_many_told t start k all tells v (low, omega (arith, high))) in
    omega (arith, same, few, most)

-- ---- whatever is counted of lists so that two behind each other have what both have

module _ (m : List Outcome → ℕ) (none : m [] ≡ 0) (joined : (xs ys : List Outcome) → m (xs ++ ys) ≡ m xs + m ys) where
  abbrev of_lines : List Line → ℕ
  of_lines ls = m (map (λ l. l.outcome) ls)

  abbrev by_worker : List Line → ℕ → List Line
  by_worker ls w = filter (λ l. l.worker == w) ls

  lines_joined : (xs ys : List Line) → of_lines (xs ++ ys) ≡ of_lines xs + of_lines ys
  lines_joined xs ys = ap m (map-append (λ l. l.outcome) xs ys) ∙ joined (map (λ l. l.outcome) xs) (map (λ l. l.outcome) ys)

  nothing : (a n : ℕ) → of_lines (flat_map (by_worker []) (range_with_len a n)) ≡ 0
  nothing a zero = none
  nothing a (suc n) = nothing (a + 1) n

  all_workers : (ls : List Line) (workers : ℕ) → AllByRecursion (λ l. (1 ≤ l.worker) × (l.worker ≤ workers)) ls →
      of_lines (flat_map (by_worker ls) (range_with_len 1 workers)) ≡ of_lines ls
  all_workers [] workers h = nothing 1 workers ∙ sym none
  all_workers (l ∷ ls) workers h =
      let low = h.0.0 in
      let high = h.0.1 in
      let mine : by_worker (l ∷ ls) l.worker ≡ (l ∷ []) ++ by_worker ls l.worker =
      ap (λ b. cond b (l ∷ by_worker ls l.worker) (by_worker ls l.worker)) (eq-eqb l.worker l.worker refl) in
      let one = within of_lines none lines_joined (l ∷ []) l.worker (by_worker (l ∷ ls)) (by_worker ls)
      (λ v e. ap (λ b. cond b (l ∷ by_worker ls v) (by_worker ls v)) (ne_eqb l.worker v (λ is. eqb-false v l.worker e (sym is)))) mine
      1 workers low (omega (arith, high)) in
      let rest = all_workers ls workers h.1 in
      let two = lines_joined (l ∷ []) ls in
      omega (arith, one, rest, two)

  each_worker : (lines : List Line) (f : ℕ → List Outcome) (a n : ℕ) → ((v : ℕ) → a ≤ v → v < a + n → outcomes_by v lines ≡ f v) →
      of_lines (flat_map (by_worker lines) (range_with_len a n)) ≡ m (flat_map f (range_with_len a n))
  each_worker lines f a zero same = refl
  each_worker lines f a (suc n) same =
      let first = ap m (same a (omega arith) (omega arith)) in
      let rest = each_worker lines f (a + 1) n (λ v low high. same v (omega (arith, low)) (omega (arith, high))) in
      let one = lines_joined (by_worker lines a) (flat_map (by_worker lines) (range_with_len (a + 1) n)) in
      let two = joined (f a) (flat_map f (range_with_len (a + 1) n)) in
      omega (arith, first, rest, one, two)

-- ---- the counts of all lines

module _ (t : Content) (start : Recovered) (k : Known) (xs : List (Vec Outcome Global)) (tells : TellsTrace t start k (map (λ os. os.items) xs))
    (lines : List Line) (calls : TellsCalls t (map (λ os. os.items) xs) lines) (right : AllByRecursion (IsRightLine t.head.layout) t.items) where
  same_count : (m : List Outcome → ℕ) → m [] ≡ 0 → ((ys zs : List Outcome) → m (ys ++ zs) ≡ m ys + m zs) →
      m (flat_map (λ os. os.items) xs) ≡ m (map (λ l. l.outcome) lines)
  same_count m none joined =
      let all = map (λ os. os.items) xs in
      let workers = t.head.layout.workers in
      ap m (by_names xs workers tells.each)
      ∙ sym (each_worker m none joined lines (outcomes_at all) 1 workers
      (λ v low high. let own : IsWorkerOf t v = (low, omega (arith, high)) in calls.each v own (as_many_told t start k all tells v own)))
      ∙ all_workers m none joined lines workers (lines_of_workers t start k all tells lines calls right)

  pub counts_told : (c : Counts) → CountsOutcomes c (flat_map (λ os. os.items) xs) → AreCountsOf c lines
  counts_told c h = lines_counted c lines (record {
    calls = h.calls ∙ same_count length refl length-append;
    done = h.done ∙ same_count (count_by (λ o. is_done o)) refl (count_by-append (λ o. is_done o));
    stopped = h.stopped ∙ same_count (count_by (λ o. is_stopped o)) refl (count_by-append (λ o. is_stopped o));
    full = h.full ∙ same_count (count_by (λ o. is_full o)) refl (count_by-append (λ o. is_full o));
    worn = h.worn ∙ same_count (count_by (λ o. is_worn o)) refl (count_by-append (λ o. is_worn o));
  })
