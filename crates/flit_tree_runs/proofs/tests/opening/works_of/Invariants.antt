use Rattle.std.proofs.Common.{◌≡◌, ◌≤◌, ◌*◌, length, map}
use Rattle.std.specs.List.{AllByRecursion}
use Rattle.flit_sched.specs.Openings.{IsRightItem, item_count}
use Rattle.flit_tree_runs.proofs.tests.opening.works_of.Given as goal

abbrev pub invariant-loop-before : goal.invariant-loop-before
invariant-loop-before g l =
    (length l.works.items ≡ l.before)
    × AllByRecursion (λ w. AllByRecursion (IsRightItem l.layout) w.items.items) l.works.items
    × (item_count l.works.items ≤ 100 * l.before)
    × (map (λ w. length w.items.items) l.works.items ≡ l.counts.items)
