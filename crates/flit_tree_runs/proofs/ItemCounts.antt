-- How many items the workers have: each has as many as its work, a turn leaves that, and an item below its count is one of
-- its own.
use Rattle.std.proofs.Common.{◌≡◌, ℕ, suc, ◌+◌, ◌-◌, ◌<◌, List, [], ◌∷◌, ◌++◌, length, map, slice_index, refl, sym, ◌∙◌, ap, subst, arith}
use Rattle.flit_model.specs.declared.calls.Work.{Work}
use Rattle.flit_structure.specs.Meanings.{Meaning}
use Rattle.flit_sched.specs.declared.runs.Turn.{Turn}
use Rattle.flit_sched.specs.declared.runs.Turn.TheVariants.{Event as Event_turn, Idle as Idle_turn}
use Rattle.flit_sched.specs.Runs.{Part, Run, IsPart}
use Rattle.flit_sched.specs.Turns.{IsTurn}
use Rattle.flit_sched.specs.Openings.{first_parts}
use Rattle.flit_tree_runs.specs.Opened.{counts_of, items_of}

pub first_counts : (Op : Type 0) (name : ℕ) (works : List Work) →
    map (λ (p : Part Op). items_of p) (first_parts name works) ≡ map (λ w. length w.items.items) works
first_counts Op name [] = refl
first_counts Op name (w ∷ works) = ap (λ ns. length w.items.items ∷ ns) (first_counts Op (name + 1) works)

one_changed : {Op : Type 0} (before : List (Part Op)) (p q : Part Op) (behind : List (Part Op)) → items_of p ≡ items_of q →
    map (λ x. items_of x) (before ++ p ∷ behind) ≡ map (λ x. items_of x) (before ++ q ∷ behind)
one_changed [] p q behind same = ap (λ n. n ∷ map (λ x. items_of x) behind) same
one_changed (b ∷ before) p q behind same = ap (λ ns. items_of b ∷ ns) (one_changed before p q behind same)

pub turn_keeps_counts : {Op : Type 0} (meaning : Meaning Op) (r : Run Op) (worker : ℕ) (t : Turn) (next : Run Op) → IsTurn meaning r worker t next →
    counts_of next ≡ counts_of r
turn_keeps_counts meaning r worker (Event_turn e told) next h =
    ap (λ ps. map (λ x. items_of x) ps) h.parts
    ∙ one_changed h.before _ h.part h.behind refl
    ∙ ap (λ ps. map (λ x. items_of x) ps) (sym h.is.is)
turn_keeps_counts meaning r worker Idle_turn next h = ap counts_of h.same

parts_counted : {Op : Type 0} (ps : List (Part Op)) → length (map (λ p. items_of p) ps) ≡ length ps
parts_counted [] = refl
parts_counted (p ∷ ps) = ap suc (parts_counted ps)

-- there are as many workers as counts
pub workers_counted : {Op : Type 0} (r : Run Op) (counts : List ℕ) → counts_of r ≡ counts → length r.parts ≡ length counts
workers_counted r counts same = sym (parts_counted r.parts) ∙ ap length same

count_at : {Op : Type 0} (before : List (Part Op)) (p : Part Op) (behind : List (Part Op)) →
    slice_index (map (λ x. items_of x) (before ++ p ∷ behind)) (length before) ≡ items_of p
count_at [] p behind = refl
count_at (b ∷ before) p behind = count_at before p behind

place_of : (worker n : ℕ) → worker ≡ n + 1 → worker - 1 ≡ n
place_of worker n is = omega (arith, is)

pub item_below : {Op : Type 0} (r : Run Op) (worker : ℕ) (before : List (Part Op)) (p : Part Op) (behind : List (Part Op)) (counts : List ℕ) (item : ℕ) →
    counts_of r ≡ counts → IsPart r worker before p behind → item < slice_index counts (worker - 1) → item < length p.items
item_below r worker before p behind counts item same part below =
    let at : slice_index counts (worker - 1) ≡ length p.items =
    ap (λ ns. slice_index ns (worker - 1)) (sym same) ∙ ap (λ ps. slice_index (map (λ x. items_of x) ps) (worker - 1)) part.is
    ∙ ap (λ n. slice_index (map (λ x. items_of x) (before ++ p ∷ behind)) n) (place_of worker (length before) part.number) ∙ count_at before p behind in
    subst (λ n. item < n) at below
