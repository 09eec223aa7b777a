-- The lines that a report has of one worker are those of the calls among its items, in their order.
use Rattle.std.proofs.Common.{◌≡◌, ℕ, zero, suc, ◌+◌, ◌-◌, ◌≤◌, ◌==◌, Bool, true, false, cond, List, [], ◌∷◌, ◌++◌, map, filter, length, take, refl, sym, ◌∙◌, ap, arith, Some, slice_get}
use Rattle.std.proofs.lemmas.Bool.{eqb-true, eq-eqb}
use Rattle.std.proofs.lemmas.Option.{none-some}
use Rattle.std.proofs.lemmas.List.{map-append}
use Rattle.std.proofs.lemmas.List.Elements.{filter-append}
use Rattle.std.specs.List.{AllByRecursion}
use Rattle.flit_words.specs.declared.layouts.Layout.{Layout}
use Rattle.flit_model.specs.declared.calls.Call.{Call}
use Rattle.flit_model.specs.declared.calls.Item.{Item}
use Rattle.flit_model.specs.declared.calls.Item.TheVariants.{Call as Call_item, Evict as Evict_item}
use Rattle.flit_model.proofs.Counting.{count_by-append, count_by-cons}
use Rattle.flit_report.specs.declared.content.Line.{Line}
use Rattle.flit_trace.specs.Contents.{ItemLine, script_of}
use Rattle.flit_trace.specs.Rights.{IsRightLine}
use Rattle.flit_sched.specs.Runs.{Run}
use Rattle.flit_histories.specs.Calls.{one_if_call, calls_in}
use Rattle.flit_step_reports.specs.StepReports.{lines_by, outcome_in, told_item, told_lines}
use Rattle.flit_step_sentences.specs.Lines.{call_asked, calls_asked, calls_told, lines_of, IsLineOf}

-- the items of a worker's lines
abbrev pub items_by : List ItemLine → ℕ → List Item
items_by items worker = map (λ line. line.1) (script_of items worker)

-- a worker that has a line is one of the layout's
pub named_by : (l : Layout) (ls : List ItemLine) (worker k : ℕ) (i : Item) → AllByRecursion (IsRightLine l) ls → slice_get (items_by ls worker) k ≡ Some i →
    (1 ≤ worker) × (worker ≤ l.workers)
named_by l [] worker k i h at = absurd (none-some i at)
named_by l (x ∷ ls) worker k i h at = by_test (x.worker == worker) refl (named_by l ls worker k i h.1) at
  where
    by_test : (b : Bool) → (x.worker == worker) ≡ b → (slice_get (items_by ls worker) k ≡ Some i → (1 ≤ worker) × (worker ≤ l.workers)) →
        slice_get (map (λ (line : ℕ × Item). line.1)
        (map (λ (y : ItemLine). (y.line, y.item)) (cond b (x ∷ filter (λ y. y.worker == worker) ls) (filter (λ y. y.worker == worker) ls)))) k
        ≡ Some i → (1 ≤ worker) × (worker ≤ l.workers)
    by_test true is rest got =
        let same = eqb-true x.worker worker is in
        let low = h.0.0 in
        let high = h.0.1 in
        (omega (arith, same, low), omega (arith, same, high))
    by_test false is rest got = rest got

-- a line is that of a call of its worker
pub got_between : {X : Type 0} (a b : List X) (x : X) → slice_get (a ++ x ∷ b) (length a) ≡ Some x
got_between [] b x = refl
got_between (y ∷ a) b x = got_between a b x

pub numbered : (front back : List Line) (l : Line) → IsLineOf (front ++ l ∷ back) l.worker (length (lines_of l.worker front) + 1) l.call l.outcome
numbered front back l =
    let own : lines_of l.worker (front ++ l ∷ back) ≡ lines_of l.worker front ++ l ∷ lines_of l.worker back =
    filter-append (λ (x : Line). x.worker == l.worker) front (l ∷ back)
    ∙ ap (λ b. lines_of l.worker front ++ cond b (l ∷ lines_of l.worker back) (lines_of l.worker back)) (eq-eqb l.worker l.worker refl) in
    let place : length (lines_of l.worker front) + 1 - 1 ≡ length (lines_of l.worker front) = omega arith in
    record {
      counted = omega arith;
      is = ap (λ xs. slice_get xs (length (lines_of l.worker front) + 1 - 1)) own
          ∙ ap (slice_get (lines_of l.worker front ++ l ∷ lines_of l.worker back)) place
          ∙ got_between (lines_of l.worker front) (lines_of l.worker back) l;
    }

module _ {Op : Type 0} (r : Run Op) where
  -- what is told of a worker's items, so many of which stand before them
  abbrev pub own_lines : ℕ → ℕ → List Item → List Line
  own_lines worker before [] = []
  own_lines worker before (i ∷ is) = told_item r worker before i ++ own_lines worker (before + 1) is

  item_asked : (worker before : ℕ) (i : Item) → calls_told (told_item r worker before i) ≡ call_asked worker i
  item_asked worker before (Call_item call) = refl
  item_asked worker before (Evict_item word) = refl

  pub lines_asked : (front ls : List ItemLine) → calls_told (told_lines r front ls) ≡ calls_asked ls
  lines_asked front [] = refl
  lines_asked front (l ∷ ls) =
      map-append (λ (x : Line). (x.worker, x.call)) (told_item r l.worker (lines_by l.worker front) l.item) (told_lines r (front ++ l ∷ []) ls)
      ∙ ap (λ xs. xs ++ calls_told (told_lines r (front ++ l ∷ []) ls)) (item_asked l.worker (lines_by l.worker front) l.item)
      ∙ ap (λ xs. call_asked l.worker l.item ++ xs) (lines_asked (front ++ l ∷ []) ls)

  own_item : (worker before : ℕ) (i : Item) → lines_of worker (told_item r worker before i) ≡ told_item r worker before i
  own_item worker before (Call_item call) =
      ap (λ b. cond b (record { worker = worker; call = call; outcome = outcome_in r worker before } ∷ []) []) (eq-eqb worker worker refl)
  own_item worker before (Evict_item word) = refl

  other_item : (v worker before : ℕ) (i : Item) → (v == worker) ≡ false → lines_of worker (told_item r v before i) ≡ []
  other_item v worker before (Call_item call) apart =
      ap (λ b. cond b (record { worker = v; call = call; outcome = outcome_in r v before } ∷ []) []) apart
  other_item v worker before (Evict_item word) apart = refl

  counted : (worker : ℕ) (front : List ItemLine) (l : ItemLine) (b : Bool) → (l.worker == worker) ≡ b →
      lines_by worker (front ++ l ∷ []) ≡ lines_by worker front + (cond b 1 0 + 0)
  counted worker front l b e =
      count_by-append (λ i. i.worker == worker) front (l ∷ [])
      ∙ ap (λ n. lines_by worker front + n) (count_by-cons (λ i. i.worker == worker) l [] ∙ ap (λ y. cond y 1 0 + 0) e)

  pub lines_are_own : (worker : ℕ) (front ls : List ItemLine) →
      lines_of worker (told_lines r front ls) ≡ own_lines worker (lines_by worker front) (items_by ls worker)
  lines_are_own worker front [] = refl
  lines_are_own worker front (l ∷ ls) =
      filter-append (λ (x : Line). x.worker == worker) (told_item r l.worker (lines_by l.worker front) l.item) (told_lines r (front ++ l ∷ []) ls)
      ∙ ap (λ xs. lines_of worker (told_item r l.worker (lines_by l.worker front) l.item) ++ xs) (lines_are_own worker (front ++ l ∷ []) ls)
      ∙ by_test (l.worker == worker) refl
    where
      by_test : (b : Bool) → (l.worker == worker) ≡ b →
          lines_of worker (told_item r l.worker (lines_by l.worker front) l.item) ++ own_lines worker (lines_by worker (front ++ l ∷ [])) (items_by ls worker)
          ≡ own_lines worker (lines_by worker front) (map (λ (line : ℕ × Item). line.1) (map (λ (y : ItemLine). (y.line, y.item))
          (cond b (l ∷ filter (λ y. y.worker == worker) ls) (filter (λ y. y.worker == worker) ls))))
      by_test true is =
          let same = eqb-true l.worker worker is in
          let count = counted worker front l true is in
          let next : lines_by worker (front ++ l ∷ []) ≡ lines_by worker front + 1 = omega (arith, count) in
          ap (λ w. lines_of worker (told_item r w (lines_by w front) l.item) ++ own_lines worker (lines_by worker (front ++ l ∷ [])) (items_by ls worker)) same
          ∙ ap (λ xs. xs ++ own_lines worker (lines_by worker (front ++ l ∷ [])) (items_by ls worker)) (own_item worker (lines_by worker front) l.item)
          ∙ ap (λ n. told_item r worker (lines_by worker front) l.item ++ own_lines worker n (items_by ls worker)) next
      by_test false is =
          let count = counted worker front l false is in
          let next : lines_by worker (front ++ l ∷ []) ≡ lines_by worker front = omega (arith, count) in
          ap (λ xs. xs ++ own_lines worker (lines_by worker (front ++ l ∷ [])) (items_by ls worker))
          (other_item l.worker worker (lines_by l.worker front) l.item is)
          ∙ ap (λ n. own_lines worker n (items_by ls worker)) next

  -- a line is that of a call among the items, and the other way round
  pub record IsOwn (worker before j : ℕ) (items : List Item) (x : Line) : Type 0 where
    pub item : ℕ
    pub call : Call
    pub is : slice_get items item ≡ Some (Call_item call)
    pub number : calls_in (take item items) ≡ j
    pub told : x ≡ record { worker = worker; call = call; outcome = outcome_in r worker (before + item) }

  behind : (worker before j k : ℕ) (i : Item) (items : List Item) (x : Line) → one_if_call i + k ≡ j → IsOwn worker (before + 1) k items x →
      IsOwn worker before j (i ∷ items) x
  behind worker before j k i items x counts o =
      let here : (before + 1) + o.item ≡ before + suc o.item = omega arith in
      let count = o.number in
      record {
        item = suc o.item;
        call = o.call;
        is = o.is;
        number = omega (arith, counts, count);
        told = o.told ∙ ap (λ n. record { worker = worker; call = o.call; outcome = outcome_in r worker n }) here;
      }

  pub own_at : (worker before j : ℕ) (items : List Item) (x : Line) → slice_get (own_lines worker before items) j ≡ Some x → IsOwn worker before j items x
  own_at worker before j [] x at = absurd (none-some x at)
  own_at worker before zero (Call_item call ∷ is) x at =
      let same : record { worker = worker; call = call; outcome = outcome_in r worker before } ≡ x = cc in
      let here : before ≡ before + 0 = omega arith in
      record {
        item = 0;
        call = call;
        is = refl;
        number = refl;
        told = sym same ∙ ap (λ n. record { worker = worker; call = call; outcome = outcome_in r worker n }) here;
      }
  own_at worker before (suc j) (Call_item call ∷ is) x at =
      behind worker before (suc j) j (Call_item call) is x (omega arith) (own_at worker (before + 1) j is x at)
  own_at worker before j (Evict_item word ∷ is) x at = behind worker before j j (Evict_item word) is x (omega arith) (own_at worker (before + 1) j is x at)

  pub at_own : (worker before k : ℕ) (items : List Item) (call : Call) → slice_get items k ≡ Some (Call_item call) →
      slice_get (own_lines worker before items) (calls_in (take k items))
      ≡ Some (record { worker = worker; call = call; outcome = outcome_in r worker (before + k) })
  at_own worker before k [] call is = absurd (none-some (Call_item call) is)
  at_own worker before zero (i ∷ is) call at =
      let same : i ≡ Call_item call = cc in
      let here : before ≡ before + 0 = omega arith in
      ap (λ x. slice_get (told_item r worker before x ++ own_lines worker (before + 1) is) 0) same
      ∙ ap (λ n. Some (record { worker = worker; call = call; outcome = outcome_in r worker n })) here
  at_own worker before (suc k) (Call_item other ∷ is) call at =
      let here : (before + 1) + k ≡ before + suc k = omega arith in
      let place : 1 + calls_in (take k is) ≡ suc (calls_in (take k is)) = omega arith in
      ap (slice_get (own_lines worker before (Call_item other ∷ is))) place ∙ at_own worker (before + 1) k is call at
      ∙ ap (λ n. Some (record { worker = worker; call = call; outcome = outcome_in r worker n })) here
  at_own worker before (suc k) (Evict_item word ∷ is) call at =
      let here : (before + 1) + k ≡ before + suc k = omega arith in
      let place : 0 + calls_in (take k is) ≡ calls_in (take k is) = omega arith in
      ap (slice_get (own_lines worker (before + 1) is)) place ∙ at_own worker (before + 1) k is call at
      ∙ ap (λ n. Some (record { worker = worker; call = call; outcome = outcome_in r worker n })) here
