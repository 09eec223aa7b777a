-- The sorted pairs of the rows on the chains are the entries of the image's map.
use Rattle.std.proofs.Common.{ℕ, ◌<◌, ◌≤◌, List, length, slice_index, sym, ap, subst, ◌∙◌}
use Rattle.std.specs.List.Sorted.{IsPermutation, IsNonDecreasingBy}
use Rattle.flit_words.specs.Layouts.{last_row_of}
use Rattle.flit_model.specs.Lists.{list_pairs}
use Rattle.flit_model.proofs.Chains.{chains_within}
use Rattle.flit_recover.proofs.MarkedRows.{all_at}
use Rattle.flit_recover.proofs.Recoveries.{if_list_recovery}
use Rattle.flit_recover.proofs.recovery.recover_chains.Goals as goal

pub pairs_of_rows-requires-clause-within : goal.pairs_of_rows-requires-clause-within
pairs_of_rows-requires-clause-within c =
    let l = c.args.layout.now in
    let w = c.in_ok-found.ensures.lawful in
    subst (λ (rows : List ℕ). (k : ℕ) → k < length rows → (1 ≤ slice_index rows k) × (slice_index rows k ≤ last_row_of l))
    (sym (c.as_slice-rows.ensures.value ∙ w.2))
    (all_at (λ r. (1 ≤ r) × (r ≤ last_row_of l)) _ (chains_within l c.args.words.now w.0 w.1))

pub returns-clause-recovery : goal.returns-clause-recovery
returns-clause-recovery c =
    let l = c.args.layout.now in
    let image = c.args.words.now in
    let w = c.in_ok-found.ensures.lawful in
    let given = c.as_slice.ensures.value in
    if_list_recovery l image c.requires.chained w.0 w.1 c.assemble.result c.in_ok-found.found.reached.rows.items c.in_ok-pairs.pairs.items c.as_slice.result.now
    w.2
    (c.in_ok-pairs.ensures.pairs ∙ ap (list_pairs l image) c.as_slice-rows.ensures.value)
    (subst (λ (ps : List (ℕ × ℕ)). IsPermutation c.in_ok-pairs.pairs.items ps) (sym given) c.sort_pairs.ensures.moved)
    (subst (λ (ps : List (ℕ × ℕ)). IsNonDecreasingBy (λ p. p.0) ps) (sym given) c.sort_pairs.ensures.rising)
    c.assemble.ensures.keys c.assemble.ensures.values c.assemble.ensures.free
