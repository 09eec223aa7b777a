use Rattle.std.proofs.Common.{◌≡◌, ◌++◌, map}
use Rattle.flit_step_runs.proofs.works.items_of.Given as goal

-- what was yielded has the items so far, and the rest of the script is left
abbrev pub invariant-loop-item : goal.invariant-loop-item
invariant-loop-item l = record {
  so_far : l.items.items ≡ map (λ line. line.1) l.yielded;
  rest : l.fn.script ≡ l.yielded ++ l.item-iterator;
}
