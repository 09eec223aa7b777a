-- The outcomes of one worker after another.
use Rattle.std.proofs.Common.{◌≡◌, ℕ, zero, suc, ◌+◌, ◌-◌, ◌<◌, List, [], ◌∷◌, map, length, slice_index_or, refl, sym, ◌∙◌, ap, arith, Vec}
use Rattle.std.specs.Global.{Global}
use Rattle.flit_model.specs.declared.calls.Outcome.{Outcome}
use Rattle.flit_run_runs.specs.Tellings.{outcomes_at}

-- the outcomes at a place, as they stand in the vectors
at_place : (xs : List (Vec Outcome Global)) (i : ℕ) (d : Vec Outcome Global) → i < length xs →
    slice_index_or (map (λ os. os.items) xs) i [] ≡ (slice_index_or xs i d).items
at_place [] i d h = absurd (omega (arith, h))
at_place (x ∷ xs) zero d h = refl
at_place (x ∷ xs) (suc i) d h = at_place xs i d (omega (arith, h))

pub outcomes_here : (xs : List (Vec Outcome Global)) (before worker : ℕ) (d : Vec Outcome Global) → worker ≡ before + 1 → before < length xs →
    (slice_index_or xs before d).items ≡ outcomes_at (map (λ os. os.items) xs) worker
outcomes_here xs before worker d is h =
    let place : worker - 1 ≡ before = omega (arith, is) in
    sym (ap (λ i. slice_index_or (map (λ os. os.items) xs) i []) place ∙ at_place xs before d h)
