-- What is told of the lines of one worker after another.
use Rattle.std.proofs.Common.{◌≡◌, ℕ, zero, suc, ◌+◌, ◌-◌, ◌<◌, ◌++◌, List, [], ◌∷◌, map, flat_map, length, Option, Some, None, slice_get, slice_index_or, take, drop, unwrap_or, refl, sym, ◌∙◌, ap, append_assoc, arith}
use Rattle.std.proofs.lemmas.List.{length-append}
use Rattle.std.proofs.lemmas.List.Concat.{flat_map-append}
use Rattle.std.proofs.lemmas.List.FromFn.{map-range_with_len_more}
use Rattle.std.specs.List.{range_with_len}
use Rattle.flit_model.specs.declared.calls.Item.{Item}
use Rattle.flit_model.specs.declared.calls.Outcome.{Outcome}
use Rattle.flit_model.specs.declared.calls.Outcome.TheVariants.{Stopped}
use Rattle.flit_sched.specs.Runs.{Run}
use Rattle.flit_sched.specs.Views.{HasWorker, OfWorker}
use Rattle.flit_step_reports.specs.StepReports.{outcome_or_stopped, outcome_of, outcome_in}
use Rattle.flit_step_runs.specs.Tellings.{numbered_item, numbered_script}
use Rattle.flit_step_runs.proofs.TellingLaws.{at_place}

pub no_more : {X : Type 0} (xs : List X) → xs ++ [] ≡ xs
no_more [] = refl
no_more (x ∷ xs) = ap (λ k. x ∷ k) (no_more xs)

outcome_at : (xs : List (Option Outcome)) (n : ℕ) → unwrap_or (slice_index_or xs n None) Stopped ≡ outcome_or_stopped (slice_get xs n)
outcome_at [] zero = refl
outcome_at [] (suc n) = refl
outcome_at (Some x ∷ xs) zero = refl
outcome_at (None ∷ xs) zero = refl
outcome_at (x ∷ xs) (suc n) = outcome_at xs n

-- what became of an item of a worker
pub outcome_here : {Op : Type 0} (r : Run Op) (worker item : ℕ) (x : Option Outcome) → HasWorker r worker →
    OfWorker r worker (λ p. x ≡ slice_index_or p.outcomes item None) → unwrap_or x Stopped ≡ outcome_in r worker item
outcome_here r worker item x has said =
    let least = has.0 in
    let most = has.1 in
    let a = at_place r.parts (worker - 1) (omega (arith, least, most)) in
    let before = a.before in
    let is = said (take (worker - 1) r.parts) a.item (drop (suc (worker - 1)) r.parts)
    (record { is = a.parted; number = omega (arith, before, least) }) in
    ap (λ y. unwrap_or y Stopped) is ∙ outcome_at a.item.outcomes item ∙ ap (λ y. outcome_of y item) (sym a.got)

-- one line more of a script
pub script_more : {Op : Type 0} (r : Run Op) (worker before : ℕ) (xs : List (ℕ × Item)) (x : ℕ × Item) →
    numbered_script r worker before (xs ++ x ∷ []) ≡ numbered_script r worker before xs ++ numbered_item r x.0 worker (before + length xs) x.1
script_more r worker before [] x = no_more (numbered_item r x.0 worker before x.1)
    ∙ ap (λ n. numbered_item r x.0 worker n x.1) (let is : before ≡ before + 0 = omega arith in is)
script_more r worker before (y ∷ ys) x =
    let first = numbered_item r y.0 worker before y.1 in
    let is : (before + 1) + length ys ≡ before + suc (length ys) = omega arith in
    ap (λ ls. first ++ ls) (script_more r worker (before + 1) ys x)
    ∙ ap (λ n. first ++ (numbered_script r worker (before + 1) ys ++ numbered_item r x.0 worker n x.1)) is
    ∙ sym (append_assoc first (numbered_script r worker (before + 1) ys) (numbered_item r x.0 worker (before + suc (length ys)) x.1))

same_map : (xs : List ℕ) → map (λ n. n) xs ≡ xs
same_map [] = refl
same_map (x ∷ xs) = ap (λ k. x ∷ k) (same_map xs)

range_more : (a n : ℕ) → range_with_len a (n + 1) ≡ range_with_len a n ++ (a + n) ∷ []
range_more a n =
    sym (same_map (range_with_len a (n + 1))) ∙ map-range_with_len_more (λ k. k) a n (a + n) refl
    ∙ ap (λ ks. ks ++ (a + n) ∷ []) (same_map (range_with_len a n))

-- one worker more
pub worker_more : {X : Type 0} (f : ℕ → List X) (n : ℕ) → flat_map f (range_with_len 1 (n + 1)) ≡ flat_map f (range_with_len 1 n) ++ f (n + 1)
worker_more f n =
    let is : 1 + n ≡ n + 1 = omega arith in
    ap (flat_map f) (range_more 1 n) ∙ flat_map-append f (range_with_len 1 n) ((1 + n) ∷ [])
    ∙ ap (λ xs. flat_map f (range_with_len 1 n) ++ xs) (no_more (f (1 + n))) ∙ ap (λ k. flat_map f (range_with_len 1 n) ++ f k) is

-- where a script goes on, it is longer than what was told of it
pub script_longer : (script front left back : List (ℕ × Item)) (x : ℕ × Item) → script ≡ front ++ left → left ≡ x ∷ back → length front < length script
script_longer script front left back x is goes =
    let long = ap length is ∙ length-append front left in
    let more = ap length goes in
    omega (arith, long, more)

pub script_ended : (script front left : List (ℕ × Item)) → script ≡ front ++ left → left ≡ [] → front ≡ script
script_ended script front left is none = sym (is ∙ ap (λ xs. front ++ xs) none ∙ no_more front)
