-- The lines of the report of a run, as a list that nobody makes: each call of the trace, with the next outcome of its worker.
use Rattle.std.proofs.Common.{◌≡◌, ℕ, suc, ◌++◌, ◌==◌, Bool, true, false, cond, List, [], ◌∷◌, map, filter, length, refl, ◌∙◌, ap, arith}
use Rattle.std.proofs.lemmas.Bool.{eqb-true}
use Rattle.flit_model.specs.declared.calls.Call.{Call}
use Rattle.flit_model.specs.declared.calls.Item.{Item}
use Rattle.flit_model.specs.declared.calls.Item.TheVariants.{Call as Call_item, Evict as Evict_item}
use Rattle.flit_model.specs.declared.calls.Outcome.{Outcome}
use Rattle.flit_report.specs.declared.content.Line.{Line}
use Rattle.flit_trace.specs.Contents.{Content, ItemLine, script_of}
use Rattle.flit_workers.specs.Works.{calls_in}
use Rattle.flit_run_reports.specs.RunReports.{call_in, calls_in_order, calls_printed, outcomes_by}
use Rattle.flit_run_runs.specs.Tellings.{first_of, others_of, outcomes_at, TellsCalls}

-- the line of a worker's item, where these are the outcomes that are left to each worker; and those that are left behind it
abbrev line_in : (ℕ → List Outcome) → ℕ → Item → List Line
line_in left worker (Call_item call) = record { worker = worker; call = call; outcome = first_of (left worker) } ∷ []
line_in left worker (Evict_item word) = []

abbrev left_behind : (ℕ → List Outcome) → ℕ → Item → ℕ → List Outcome
left_behind left worker (Call_item call) v = cond (worker == v) (others_of (left v)) (left v)
left_behind left worker (Evict_item word) v = left v

abbrev pub told_calls : (ℕ → List Outcome) → List ItemLine → List Line
told_calls left [] = []
told_calls left (l ∷ ls) = line_in left l.worker l.item ++ told_calls (left_behind left l.worker l.item) ls

-- ---- the calls

printed_item : (left : ℕ → List Outcome) (worker : ℕ) (i : Item) (rest : List Line) (cs : List (ℕ × Call)) → calls_printed rest ≡ cs →
    calls_printed (line_in left worker i ++ rest) ≡ call_in worker i ++ cs
printed_item left worker (Call_item call) rest cs h = ap (λ l. (worker, call) ∷ l) h
printed_item left worker (Evict_item word) rest cs h = h

printed : (left : ℕ → List Outcome) (ls : List ItemLine) → calls_printed (told_calls left ls) ≡ calls_in_order ls
printed left [] = refl
printed left (l ∷ ls) =
    let next = left_behind left l.worker l.item in
    printed_item left l.worker l.item (told_calls next ls) (calls_in_order ls) (printed next ls)

-- ---- a worker's outcomes

whole : (os : List Outcome) (n : ℕ) → length os ≡ suc n → first_of os ∷ others_of os ≡ os
whole [] n h = absurd (omega (arith, h))
whole (o ∷ os) n h = refl

fewer : (os : List Outcome) (n : ℕ) → length os ≡ suc n → length (others_of os) ≡ n
fewer [] n h = absurd (omega (arith, h))
fewer (o ∷ os) n h = omega (arith, h)

none_left : (os : List Outcome) → length os ≡ 0 → [] ≡ os
none_left [] h = refl
none_left (o ∷ os) h = absurd (omega (arith, h))

module _ (left : ℕ → List Outcome) (w worker : ℕ) (items : List Item) (rest : (ℕ → List Outcome) → List Line)
    (later : (next : ℕ → List Outcome) → length (next w) ≡ length (calls_in items) → outcomes_by w (rest next) ≡ next w) where
  item_told : (i : Item) (b : Bool) → (worker == w) ≡ b → length (left w) ≡ length (calls_in (cond b (i ∷ items) items)) →
      outcomes_by w (line_in left worker i ++ rest (left_behind left worker i)) ≡ left w
  item_told (Call_item call) true e long =
      let next = left_behind left worker (Call_item call) in
      let x : Line = record { worker = worker; call = call; outcome = first_of (left worker) } in
      let kept = filter (λ l. l.worker == w) (rest next) in
      let mine : next w ≡ others_of (left w) = ap (λ b. cond b (others_of (left w)) (left w)) e in
      ap (λ b. map (λ l. l.outcome) (cond b (x ∷ kept) kept)) e
      ∙ ap (λ l. first_of (left worker) ∷ l) (later next (ap length mine ∙ fewer (left w) (length (calls_in items)) long) ∙ mine)
      ∙ ap (λ v. first_of (left v) ∷ others_of (left w)) (eqb-true worker w e) ∙ whole (left w) (length (calls_in items)) long
  item_told (Call_item call) false e long =
      let next = left_behind left worker (Call_item call) in
      let x : Line = record { worker = worker; call = call; outcome = first_of (left worker) } in
      let kept = filter (λ l. l.worker == w) (rest next) in
      let mine : next w ≡ left w = ap (λ b. cond b (others_of (left w)) (left w)) e in
      ap (λ b. map (λ l. l.outcome) (cond b (x ∷ kept) kept)) e ∙ later next (ap length mine ∙ long) ∙ mine
  item_told (Evict_item word) true e long = later (left_behind left worker (Evict_item word)) long
  item_told (Evict_item word) false e long = later (left_behind left worker (Evict_item word)) long

abbrev items_in_lines : List ItemLine → List Item
items_in_lines ls = map (λ (x : ℕ × Item). x.1) (map (λ (i : ItemLine). (i.line, i.item)) ls)

items_if : (l : ItemLine) (ls : List ItemLine) (b : Bool) → items_in_lines (cond b (l ∷ ls) ls) ≡ cond b (l.item ∷ items_in_lines ls) (items_in_lines ls)
items_if l ls true = refl
items_if l ls false = refl

own_told : (left : ℕ → List Outcome) (w : ℕ) (ls : List ItemLine) → length (left w) ≡ length (calls_in (map (λ x. x.1) (script_of ls w))) →
    outcomes_by w (told_calls left ls) ≡ left w
own_told left w [] long = none_left (left w) long
own_told left w (l ∷ ls) long =
    item_told left w l.worker (map (λ x. x.1) (script_of ls w)) (λ next. told_calls next ls) (λ next h. own_told next w ls h) l.item (l.worker == w) refl
    (long ∙ ap (λ is. length (calls_in is)) (items_if l (filter (λ i. i.worker == w) ls) (l.worker == w)))

pub tells : (t : Content) (outcomes : List (List Outcome)) → TellsCalls t outcomes (told_calls (outcomes_at outcomes) t.items)
tells t outcomes = record {
  calls = printed (outcomes_at outcomes) t.items;
  each = λ w own long. own_told (outcomes_at outcomes) w t.items long;
}
