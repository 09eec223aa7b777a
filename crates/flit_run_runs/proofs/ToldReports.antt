-- The report of a run, from what is told of the run, of its calls and of its image.
use Rattle.std.proofs.Common.{◌≡◌, ℕ, ◌+◌, ◌≤◌, ◌==◌, Bool, true, false, cond, List, [], ◌∷◌, ◌++◌, map, filter, length, replicate, zero, suc, refl, sym, ◌∙◌, ap, subst, arith, Vec}
use Rattle.std.proofs.lemmas.Bool.{eq-eqb}
use Rattle.std.proofs.lemmas.List.{length-map, length-append, length-replicate}
use Rattle.std.specs.Global.{Global}
use Rattle.std.specs.List.{AllByRecursion}
use Rattle.flit_words.specs.declared.layouts.Layout.{Layout}
use Rattle.flit_model.specs.declared.calls.Call.{Call}
use Rattle.flit_model.specs.declared.calls.Entry.{Entry}
use Rattle.flit_model.specs.declared.calls.Item.{Item}
use Rattle.flit_model.specs.declared.calls.Item.TheVariants.{Call as Call_item, Evict as Evict_item}
use Rattle.flit_model.specs.declared.calls.Outcome.{Outcome}
use Rattle.flit_model.specs.declared.calls.Outcome.TheVariants.{Replied, Stopped}
use Rattle.flit_model.specs.declared.found.Image.{Image}
use Rattle.flit_model.specs.declared.found.Recovered.{Recovered}
use Rattle.flit_model.specs.Recovery.{IsImageOf, IsWhole}
use Rattle.flit_lawful_images.specs.Maps.{IsMapOf}
use Rattle.flit_report.specs.declared.content.Line.{Line}
use Rattle.flit_report.specs.Content.{Content as Report}
use Rattle.flit_trace.specs.Contents.{Content, ItemLine}
use Rattle.flit_trace.specs.Rights.{IsRightLine}
use Rattle.flit_table.specs.declared.told.Known.{Known}
use Rattle.flit_table.specs.declared.views.Made.{Made}
use Rattle.flit_table.specs.declared.views.Made.TheVariants.{Answered, Evicted}
use Rattle.flit_table.specs.Views.{answered, made_by, name_of}
use Rattle.flit_workers.specs.Works.{item_of, calls_in, outcomes_of}
use Rattle.flit_thread_histories.specs.Reports.{IsWithinTold}
use Rattle.flit_step_reports.specs.StepReports.{items_in, version_of, TellsRecovery}
use Rattle.flit_run_reports.specs.RunReports.{IsWorkerOf, left_by, end_map, start_room, calls_in_order, call_in, calls_printed, outcomes_by, IsPrintedWithin, IsRunReportOf, AreOutcomesOf}
use Rattle.flit_run_reports.specs.RunLaws.{TellsTrace}
use Rattle.flit_run_runs.specs.Tellings.{outcomes_at, TellsCalls, IsFoundImage, TellsFound}

-- calls that are told by a slice of outcomes are told by these
pub calls_as : (t : Content) (slice outcomes : List (Vec Outcome Global)) (lines : List Line) → slice ≡ outcomes →
    TellsCalls t (map (λ os. os.items) slice) lines → TellsCalls t (map (λ os. os.items) outcomes) lines
calls_as t slice outcomes lines is h = subst (λ (l : List (Vec Outcome Global)). TellsCalls t (map (λ os. os.items) l) lines) is h

-- ---- as many outcomes as calls

answered_calls : (made : List Made) (rest : List Item) → length (calls_in (map item_of made ++ rest)) ≡ length (answered made) + length (calls_in rest)
answered_calls [] rest = zero_more (length (calls_in rest))
  where
    zero_more : (n : ℕ) → n ≡ 0 + n
    zero_more n = omega arith
answered_calls (Answered e ∷ made) rest = let h = answered_calls made rest in omega (arith, h)
answered_calls (Evicted name word ∷ made) rest = answered_calls made rest

as_many : (t : Content) (k : Known) (worker : ℕ) (made : List Made) (rest : List Item) (os : List Outcome) → items_in t worker ≡ map item_of made ++ rest →
    os ≡ outcomes_of made rest → length os ≡ length (calls_in (items_in t worker))
as_many t k worker made rest os items are =
    let all = ap length are ∙ length-append (map (λ e. Replied e.reply) (answered made)) (replicate (length (calls_in rest)) Stopped) in
    let front = length-map (answered made) (λ e. Replied e.reply) in
    let back = length-replicate (length (calls_in rest)) Stopped in
    let calls = ap (λ l. length (calls_in l)) items ∙ answered_calls made rest in
    omega (arith, all, front, back, calls)

-- ---- each printed Full and Worn has its bound

answered_if : (P : Entry → Type 0) (x : Made) (ys : List Made) (b : Bool) → AllByRecursion P (answered (x ∷ [])) → AllByRecursion P (answered ys) →
    AllByRecursion P (answered (cond b (x ∷ ys) ys))
answered_if P x ys false h k = k
answered_if P (Answered e) ys true h k = (h.0, k)
answered_if P (Evicted name word) ys true h k = k

all_answered : (P : Entry → Type 0) (p : Made → Bool) (xs : List Made) → AllByRecursion P (answered xs) → AllByRecursion P (answered (filter p xs))
all_answered P p [] h = tt
all_answered P p (Answered e ∷ xs) h = answered_if P (Answered e) (filter p xs) (p (Answered e)) (h.0, tt) (all_answered P p xs h.1)
all_answered P p (Evicted name word ∷ xs) h = answered_if P (Evicted name word) (filter p xs) (p (Evicted name word)) tt (all_answered P p xs h)

module _ (l : Layout) (room : ℕ) (k : Known) where
  stopped_within : (n : ℕ) → AllByRecursion (IsPrintedWithin l room k) (replicate n Stopped)
  stopped_within zero = tt
  stopped_within (suc n) = (tt, stopped_within n)

  outcomes_within : (es : List Entry) (n : ℕ) → AllByRecursion (λ e. IsWithinTold l room k e.reply) es →
      AllByRecursion (IsPrintedWithin l room k) (map (λ e. Replied e.reply) es ++ replicate n Stopped)
  outcomes_within [] n h = stopped_within n
  outcomes_within (e ∷ es) n h = (h.0, outcomes_within es n h.1)

tail_if : (P : Outcome → Type 0) (l : Line) (ls : List Line) (b : Bool) → AllByRecursion P (map (λ x. x.outcome) (cond b (l ∷ ls) ls)) →
    AllByRecursion P (map (λ x. x.outcome) ls)
tail_if P l ls true h = h.1
tail_if P l ls false h = h

-- what is true of all that is printed of each worker is true of all that is printed
all_printed : (P : Outcome → Type 0) (Q : ℕ → Type 0) (lines : List Line) → AllByRecursion (λ l. Q l.worker) lines →
    ((worker : ℕ) → Q worker → AllByRecursion P (outcomes_by worker lines)) → AllByRecursion (λ l. P l.outcome) lines
all_printed P Q [] h each = tt
all_printed P Q (l ∷ ls) h each =
    let kept = filter (λ x. x.worker == l.worker) ls in
    let own = subst (AllByRecursion P) (ap (λ b. map (λ x. x.outcome) (cond b (l ∷ kept) kept)) (eq-eqb l.worker l.worker refl)) (each l.worker h.0) in (
      own.0,
      all_printed P Q ls h.1 (λ worker q. tail_if P l (filter (λ x. x.worker == worker) ls) (l.worker == worker) (each worker q)),
    )

item_named : (Q : ℕ → Type 0) (worker : ℕ) (i : Item) (rest : List (ℕ × Call)) → Q worker → AllByRecursion (λ c. Q c.0) rest →
    AllByRecursion (λ c. Q c.0) (call_in worker i ++ rest)
item_named Q worker (Call_item call) rest h k = (h, k)
item_named Q worker (Evict_item word) rest h k = k

calls_named : (l : Layout) (ls : List ItemLine) → AllByRecursion (IsRightLine l) ls → AllByRecursion (λ c. (1 ≤ c.0) × (c.0 ≤ l.workers)) (calls_in_order ls)
calls_named l [] h = tt
calls_named l (i ∷ is) h =
    item_named (λ worker. (1 ≤ worker) × (worker ≤ l.workers)) i.worker i.item (calls_in_order is) (h.0.0, h.0.1) (calls_named l is h.1)

lines_named : (Q : ℕ → Type 0) (lines : List Line) → AllByRecursion (λ c. Q c.0) (calls_printed lines) → AllByRecursion (λ l. Q l.worker) lines
lines_named Q [] h = tt
lines_named Q (l ∷ ls) h = (h.0, lines_named Q ls h.1)

-- ---- the report

module _ (t : Content) (start : Recovered) (k : Known) (outcomes : List (List Outcome)) (tells : TellsTrace t start k outcomes) where
  map_told : (image : Image) → k.image ≡ image → IsMapOf image (end_map start k)
  map_told image same = subst (λ (i : Image). IsMapOf i (end_map start k)) same tells.run.recovered

  -- the image that is told is whole and has a map
  pub image_told : (l : Layout) (image : Image) → l ≡ t.head.layout → k.image ≡ image → IsFoundImage l image
  image_told l image is same = record {
    shape = subst (λ (i : Image). IsImageOf l i) same (subst (λ x. IsImageOf x k.image) (sym is) tells.run.shape);
    whole = subst IsWhole same tells.run.whole;
    map_is = (end_map start k, map_told image same);
  }

  -- a worker has as many outcomes as calls
  pub as_many_told : (worker : ℕ) → IsWorkerOf t worker → length (outcomes_at outcomes worker) ≡ length (calls_in (items_in t worker))
  as_many_told worker own =
      as_many t k worker (made_by worker k.mine) (left_by t k worker) (outcomes_at outcomes worker) (tells.run.workers worker own).items
      (tells.are_outcomes worker own).replies

  module _ (lines : List Line) (calls : TellsCalls t outcomes lines) where
    outcomes_printed : (worker : ℕ) → IsWorkerOf t worker → AreOutcomesOf t k worker (outcomes_by worker lines)
    outcomes_printed worker own =
        subst (AreOutcomesOf t k worker) (sym (calls.each worker own (as_many_told worker own))) (tells.are_outcomes worker own)

    -- each line is of one of the trace's workers
    pub lines_of_workers : AllByRecursion (IsRightLine t.head.layout) t.items → AllByRecursion (λ l. IsWorkerOf t l.worker) lines
    lines_of_workers right =
        lines_named (IsWorkerOf t) lines (subst (AllByRecursion (λ c. IsWorkerOf t c.0)) (sym calls.calls) (calls_named t.head.layout t.items right))

    bounds_printed : AllByRecursion (IsRightLine t.head.layout) t.items →
        AllByRecursion (λ l. IsPrintedWithin t.head.layout (start_room start) k l.outcome) lines
    bounds_printed right =
        let P = IsPrintedWithin t.head.layout (start_room start) k in
        all_printed P (IsWorkerOf t) lines (lines_of_workers right)
        (λ worker own. subst (AllByRecursion P) (sym (outcomes_printed worker own).replies)
        (outcomes_within t.head.layout (start_room start) k (answered (made_by worker k.mine)) (length (calls_in (left_by t k worker)))
        (all_answered (λ e. IsWithinTold t.head.layout (start_room start) k e.reply) (λ x. name_of x == worker) k.mine tells.run.bounds)))

    pub report_told : (image : Image) (l : Layout) (report : Report) → AllByRecursion (IsRightLine t.head.layout) t.items → k.image ≡ image →
        l ≡ t.head.layout → report.lines ≡ lines → TellsFound l image report → IsRunReportOf t start k report
    report_told image l report right same is printed found =
        let pairs = found.pairs (end_map start k) (map_told image same) in
        record {
          run = tells.run;
          version = found.version ∙ ap version_of is;
          events = found.events;
          history = found.history;
          tallies = found.tallies;
          calls = ap calls_printed printed ∙ calls.calls;
          outcomes = λ worker own. subst (λ ls. AreOutcomesOf t k worker (outcomes_by worker ls)) (sym printed) (outcomes_printed worker own);
          bounds = subst (AllByRecursion (λ l. IsPrintedWithin t.head.layout (start_room start) k l.outcome)) (sym printed) (bounds_printed right);
          recovery = subst (λ (i : Image). TellsRecovery t.head.layout i.words.items report) (sym same)
              (subst (λ x. TellsRecovery x image.words.items report) is found.recovery);
          keys = pairs.0;
          values = pairs.1;
        }
