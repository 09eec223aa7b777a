-- One work more: how many items the works have together, and each.
use Rattle.std.proofs.Common.{◌≡◌, ℕ, ◌+◌, ◌*◌, ◌≤◌, List, [], ◌∷◌, ◌++◌, length, map, ◌∙◌, ap, arith}
use Rattle.std.proofs.lemmas.List.{map-append}
use Rattle.flit_model.specs.declared.calls.Work.{Work}
use Rattle.flit_sched.specs.Openings.{item_count}

counted_more : (ws : List Work) (w : Work) → item_count (ws ++ w ∷ []) ≡ item_count ws + length w.items.items
counted_more [] w = omega arith
counted_more (x ∷ ws) w = omega (arith, counted_more ws w)

pub few_more : (ws : List Work) (w : Work) (n : ℕ) → item_count ws ≤ 100 * n → length w.items.items ≤ 100 → item_count (ws ++ w ∷ []) ≤ 100 * (n + 1)
few_more ws w n few one = omega (arith, counted_more ws w, few, one)

pub map_more : (ws : List Work) (w : Work) (ns : List ℕ) → map (λ (x : Work). length x.items.items) ws ≡ ns →
    map (λ (x : Work). length x.items.items) (ws ++ w ∷ []) ≡ ns ++ length w.items.items ∷ []
map_more ws w ns is = map-append (λ (x : Work). length x.items.items) ws (w ∷ []) ∙ ap (λ xs. xs ++ length w.items.items ∷ []) is
