use Rattle.std.proofs.Common.{◌≡◌, ℕ, List, flat_map}
use Rattle.std.specs.List.{range_with_len}
use Rattle.flit_model.specs.Lists.{IsLawfulList, list_pairs}
use Rattle.flit_plain.proofs.chains.reached_by_chains.Given as goal

abbrev pub invariant-loop-head : goal.invariant-loop-head
invariant-loop-head l = record {
  rows : (chain : ℕ → List ℕ) → IsLawfulList l.layout l.words chain → l.reached.rows.items ≡ flat_map chain (range_with_len 0 l.head);
  pairs : (chain : ℕ → List ℕ) → IsLawfulList l.layout l.words chain → l.reached.pairs.items
      ≡ list_pairs l.layout l.words (flat_map chain (range_with_len 0 l.head));
}
