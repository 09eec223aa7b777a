use Rattle.std.proofs.Common.{◌≡◌, ◌≤◌, drop, length, nat_cmp}
use Rattle.std.specs.FinMap.{entries, from_entries}
use Rattle.flit_plain.proofs.images.by_rising_keys.Given as goal

abbrev pub invariant-loop-left : goal.invariant-loop-left
invariant-loop-left l = record {
  within : l.left ≤ length l.pairs;
  made : l.map.entries ≡ entries (from_entries {R = nat_cmp} (drop l.left l.pairs));
}

abbrev pub decreases-loop-left : goal.decreases-loop-left
decreases-loop-left l = l.left
