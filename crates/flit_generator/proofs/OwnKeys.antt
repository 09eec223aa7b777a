-- The key of each call has its worker, less one, as its rest.
use Rattle.std.proofs.Common.{◌≡◌, ℕ, zero, suc, ◌+◌, ◌-◌, ◌%◌, ◌<◌, ◌≤◌, ◌==◌, Bool, true, false, List, [], ◌∷◌, length, Contains, slice_index_or, refl, sym, ap, ◌∙◌, subst, arith, if◌then◌else◌}
use Rattle.std.specs.List.{AllByRecursion}
use Rattle.std.proofs.lemmas.Nat.{mod-mul-add}
use Rattle.flit_model.specs.declared.calls.Call.{Call}
use Rattle.flit_model.specs.declared.calls.Call.TheVariants.{Insert, Remove, Contains as Asks}
use Rattle.flit_generator.specs.Generator.{next_state, drawn, worker_of, key_of, call_at, calls_from, key_in, generated_calls}

abbrev IsOwn : ℕ → ℕ × Call → Type 0
IsOwn workers c = c.0 ≡ key_in c.1 % workers + 1

key_is : (removes asks : Bool) (key : ℕ) → key_in (if removes then Remove key else if asks then Asks key else Insert key 0) ≡ key
key_is true asks key = refl
key_is false true key = refl
key_is false false key = refl

own_rest : (keys workers worker d : ℕ) → 1 ≤ worker → worker ≤ workers → worker ≡ key_of keys workers worker d % workers + 1
own_rest keys workers worker d least most = omega (arith, mod-mul-add (d % keys) workers (worker - 1) (omega arith))

own : (keys workers i x n : ℕ) → 1 ≤ workers → AllByRecursion (IsOwn workers) (calls_from keys workers i x n)
own keys workers i x zero some = tt
own keys workers i x (suc n) some =
    let key = key_of keys workers (worker_of workers i) (drawn (next_state (next_state x))) in
    let is : key_in (call_at keys workers i x) ≡ key = key_is (drawn (next_state x) % 4 == 2) (drawn (next_state x) % 4 == 3) key in
    let within : i % workers + 1 ≤ workers = omega arith in (
      own_rest keys workers (worker_of workers i) (drawn (next_state (next_state x))) (omega arith) within ∙ ap (λ k. k % workers + 1) (sym is),
      own keys workers (i + 1) (next_state (next_state x)) n some,
    )

all_at : {X : Type 0} (P : X → Type 0) (xs : List X) (k : ℕ) (x : X) → AllByRecursion P xs → k < length xs → slice_index_or xs k x ≡ x → P x
all_at P [] k x h within is = absurd (omega arith)
all_at P (y ∷ ys) zero x h within is = subst P is h.0
all_at P (y ∷ ys) (suc k) x h within is = all_at P ys k x h.1 (omega arith) is

pub rest_is : (seed calls keys workers : ℕ) (c : ℕ × Call) → 1 ≤ workers → Contains (generated_calls seed calls keys workers) c → c.0 ≡ key_in c.1 % workers + 1
rest_is seed calls keys workers c some found = all_at (IsOwn workers) _ found.0 c (own keys workers 0 seed calls some) found.1 found.2

pub one_is : (seed calls keys workers : ℕ) (c d : ℕ × Call) → 1 ≤ workers → Contains (generated_calls seed calls keys workers) c →
    Contains (generated_calls seed calls keys workers) d → key_in c.1 ≡ key_in d.1 → c.0 ≡ d.0
one_is seed calls keys workers c d some found other same =
    rest_is seed calls keys workers c some found ∙ ap (λ k. k % workers + 1) same ∙ sym (rest_is seed calls keys workers d some other)
