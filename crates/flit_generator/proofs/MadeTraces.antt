-- The generated text is a trace of the generated calls.
use Rattle.std.proofs.Common.{◌≡◌, ℕ, zero, suc, ◌+◌, ◌*◌, ◌%◌, ◌≤◌, ◌==◌, Bool, true, false, List, [], ◌∷◌, ◌++◌, length, decimal, codes, refl, ap, ◌∙◌, arith, subst, length-append, if◌then◌else◌}
use Rattle.std.specs.List.{AllByRecursion}
use Rattle.std.proofs.Math.Nat.{mul-le-mul}
use Rattle.std.proofs.lemmas.Fmt.{length-decimal-le}
use Rattle.flit_words.specs.Texts.{lines_of}
use Rattle.flit_words.proofs.Lines.{lines_of-line}
use Rattle.flit_model.specs.declared.calls.Call.{Call}
use Rattle.flit_model.specs.declared.calls.Call.TheVariants.{Insert, Remove, Contains, Get}
use Rattle.flit_model.specs.declared.calls.Item.TheVariants as item
use Rattle.flit_trace.specs.Grammar.{IsTrace}
use Rattle.flit_trace.proofs.PrintedLines.{ArePrinted, are_printed, tested, no_end}
use Rattle.flit_trace.proofs.CallTraces.{Fits, IsMade, calls_printed, numbered, calls_trace}
use Rattle.flit_trace.proofs.CallTraces as written
use Rattle.flit_generator.specs.Generator.{next_state, drawn, worker_of, key_of, calls_from, generated_calls, worker_line, call_line, call_lines, rows_of, head_lines, generated_lines, text_of, generated_text, AreTaken}
use Rattle.flit_generator.specs.MadeTraces.{lines_from, generated_content}

-- each call that is made fits a trace of so many workers
fits_call : (removes contains : Bool) (key : ℕ) → key ≤ 4294967292 → Fits (if removes then Remove key else if contains then Contains key else Insert key 0)
fits_call true contains key h = h
fits_call false true key h = h
fits_call false false key h = (refl, h)

worker_within : (workers i : ℕ) → 1 ≤ workers → i % workers + 1 ≤ workers
worker_within workers i h = omega arith

key_within : (keys workers worker d : ℕ) → 1 ≤ keys → keys ≤ 32768 → worker ≤ workers → workers ≤ 64 → key_of keys workers worker d ≤ 4294967292
key_within keys workers worker d some few in_it least =
    let rest : d % keys ≤ 32767 = omega arith in
    let most : d % keys * workers ≤ 32767 * 64 = mul-le-mul rest least in
    omega (arith, most)

pub calls_made : (keys workers i x n : ℕ) → 1 ≤ keys → keys ≤ 32768 → 1 ≤ workers → workers ≤ 64 →
    AllByRecursion (IsMade workers) (calls_from keys workers i x n)
calls_made keys workers i x zero some few one least = tt
calls_made keys workers i x (suc n) some few one least = (
  record {
    least = omega arith;
    most = worker_within workers i one;
    fits = fits_call (drawn (next_state x) % 4 == 2) (drawn (next_state x) % 4 == 3) _
        (key_within keys workers (worker_of workers i) (drawn (next_state (next_state x))) some few (worker_within workers i one) least);
  },
  calls_made keys workers (i + 1) (next_state (next_state x)) n some few one least,
)

-- there are as many as are asked for
pub length-calls_from : (keys workers i x n : ℕ) → length (calls_from keys workers i x n) ≡ n
length-calls_from keys workers i x zero = refl
length-calls_from keys workers i x (suc n) = ap suc (length-calls_from keys workers (i + 1) (next_state (next_state x)) n)

-- the lines of a text of such lines
pub lines_of-text : (lines : List (List ℕ)) → AllByRecursion ArePrinted lines → lines_of (text_of lines) ≡ lines
lines_of-text [] h = refl
lines_of-text (line ∷ lines) h =
    lines_of-line line (text_of lines) (λ found. no_end line found.0 h.0 found.1 found.2) ∙ ap (λ ls. line ∷ ls) (lines_of-text lines h.1)

-- the text has few enough bytes, and its lines are those that it was made of
abbrev IsRight : List ℕ → Type 0
IsRight text = ArePrinted text × (length text ≤ 39)

right-append : (lines more : List (List ℕ)) → AllByRecursion IsRight lines → AllByRecursion IsRight more → AllByRecursion IsRight (lines ++ more)
right-append [] more h k = k
right-append (line ∷ lines) more h k = (h.0, right-append lines more h.1 k)

right_printed : (lines : List (List ℕ)) → AllByRecursion IsRight lines → AllByRecursion ArePrinted lines
right_printed [] h = tt
right_printed (line ∷ lines) h = (h.0.0, right_printed lines h.1)

right_size : (lines : List (List ℕ)) → AllByRecursion IsRight lines → length (text_of lines) ≤ 40 * length lines
right_size [] h = omega arith
right_size (line ∷ lines) h = omega (arith, right_size lines h.1, h.0.1, length-append line (10 ∷ text_of lines))

short_line : (worker key : ℕ) (name : List ℕ) → worker ≤ 64 → key ≤ 4294967292 → length name ≤ 8 → length (worker_line worker name key) ≤ 39
short_line worker key name in_it is_key short =
    omega (
      arith,
      length-append (decimal worker) (32 ∷ (name ++ 32 ∷ decimal key)),
      length-append name (32 ∷ decimal key),
      length-decimal-le 10 worker
          (omega arith) (omega arith) (omega arith),
      length-decimal-le 10 key (omega arith) (omega arith) (omega arith),
    )

short_call : (worker : ℕ) (call : Call) → worker ≤ 64 → Fits call → length (call_line worker call) ≤ 39
short_call worker (Insert key value) in_it h = short_line worker key (codes "insert") in_it h.1 (omega arith)
short_call worker (Remove key) in_it h = short_line worker key (codes "remove") in_it h (omega arith)
short_call worker (Contains key) in_it h = short_line worker key (codes "contains") in_it h (omega arith)
short_call worker (Get key) in_it h = absurd h

right_calls : (workers : ℕ) (cs : List (ℕ × Call)) → workers ≤ 64 → AllByRecursion (IsMade workers) cs → AllByRecursion IsRight (call_lines cs)
right_calls workers [] few h = tt
right_calls workers (c ∷ cs) few h =
    let in_it : c.0 ≤ 64 = omega (arith, h.0.most) in
    ((calls_printed c.0 c.1 in_it h.0.fits, short_call c.0 c.1 in_it h.0.fits), right_calls workers cs few h.1)

right_number : (words : List ℕ) (n : ℕ) → are_printed words ≡ true → length words ≤ 20 → n ≤ 4294967292 → IsRight (words ++ decimal n)
right_number words n h short small =
    (numbered words n h (omega arith), omega (arith, length-append words (decimal n), length-decimal-le 10 n (omega arith) (omega arith) (omega arith)))

right_head : (calls workers : ℕ) → calls ≤ 500000 → workers ≤ 64 → AllByRecursion IsRight (head_lines calls workers)
right_head calls workers few least = (
  (tested (codes "flit 1") refl, omega arith),
  (
    (tested (codes "structure hash 256") refl, omega arith),
    (
      (tested (codes "place adjacent") refl, omega arith),
      (
        right_number (codes "rows ") (rows_of calls workers) refl (omega arith) (omega arith),
        (right_number (codes "workers ") workers refl (omega arith) (omega arith), tt),
      ),
    ),
  ),
)

length-call_lines : (cs : List (ℕ × Call)) → length (call_lines cs) ≡ length cs
length-call_lines [] = refl
length-call_lines (c ∷ cs) = ap suc (length-call_lines cs)

-- the lines and the calls are those of a trace that is written so
same_line : (worker : ℕ) (call : Call) → call_line worker call ≡ written.call_line worker call
same_line worker (Insert key value) = refl
same_line worker (Remove key) = refl
same_line worker (Contains key) = refl
same_line worker (Get key) = refl

same_lines : (cs : List (ℕ × Call)) → call_lines cs ≡ written.call_lines cs
same_lines [] = refl
same_lines (c ∷ cs) = λ i. same_line c.0 c.1 i ∷ same_lines cs i

same_items : (n : ℕ) (cs : List (ℕ × Call)) → written.lines_from n cs ≡ lines_from n cs
same_items n [] = refl
same_items n (c ∷ cs) = ap (λ items. record { line = n; worker = c.0; item = item.Call c.1 } ∷ items) (same_items (suc n) cs)

same_content : (seed calls keys workers : ℕ) → written.content_with (rows_of calls workers) workers
    (generated_calls seed calls keys workers) ≡ generated_content seed calls keys workers
same_content seed calls keys workers =
    ap (λ items. record (generated_content seed calls keys workers) { items = items }) (same_items 6 (generated_calls seed calls keys workers))

-- the text is a trace with these calls
pub trace_made : (seed calls keys workers : ℕ) → AreTaken seed calls keys workers →
    IsTrace (generated_text seed calls keys workers) (generated_content seed calls keys workers)
unfolding generated_text
trace_made seed calls keys workers taken =
    let made = generated_calls seed calls keys workers in
    let lines = generated_lines seed calls keys workers in
    let fit : AllByRecursion (IsMade workers) made = calls_made keys workers 0 seed calls taken.least_keys taken.most_keys taken.least_workers
    taken.most_workers in
    let right : AllByRecursion IsRight lines =
    right-append (head_lines calls workers ++ call_lines made) (codes "end" ∷ [])
    (right-append (head_lines calls workers) (call_lines made) (right_head calls workers taken.most_calls taken.most_workers)
    (right_calls workers made taken.most_workers fit))
    ((tested (codes "end") refl, omega arith), tt) in
    let many : length made ≡ calls = length-calls_from keys workers 0 seed calls in
    let few : length lines ≡ 5 + calls + 1 =
    length-append (head_lines calls workers ++ call_lines made) (codes "end" ∷ [])
    ∙ ap (λ n. n + 1) (length-append (head_lines calls workers) (call_lines made) ∙ ap (λ n. 5 + n) (length-call_lines made ∙ many)) in
    let is : lines_of (text_of lines) ≡ written.head_lines (rows_of calls workers) workers ++ written.call_lines made ++ codes "end" ∷ [] =
    lines_of-text lines (right_printed lines right) ∙ ap (λ ls. head_lines calls workers ++ ls ++ codes "end" ∷ []) (same_lines made) in
    subst (λ c. IsTrace (text_of lines) c) (same_content seed calls keys workers)
    (calls_trace (rows_of calls workers) workers made (text_of lines)
    (record {
      least_row = omega (arith, taken.least_calls);
      most_row = omega (arith, taken.most_calls, taken.most_workers);
      least_worker = taken.least_workers;
      most_worker = taken.most_workers;
    })
    fit (omega (arith, many, taken.most_calls)) (omega (arith, right_size lines right, few, taken.most_calls)) is)
