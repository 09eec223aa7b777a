use Rattle.std.proofs.Common.{ℕ, ◌+◌, ◌-◌, ◌≤◌, None}
use Rattle.flit_model.specs.declared.calls.Call.{Call}
use Rattle.flit_structure.specs.Meanings.{replied}
use Rattle.flit_table.specs.Steps.{Belongs}
use Rattle.flit_table.specs.Calls.{IsUnderWayAt}
use Rattle.flit_table.proofs.running.Running.make_events.Given as goal

abbrev pub decreases-loop-made : goal.decreases-loop-made
decreases-loop-made g l = l.steps - l.made

abbrev pub invariant-loop-made : goal.invariant-loop-made
invariant-loop-made g l =
    let o = l.self.origin in
    let M = g.S.Structure.meaning o.structure.value in
    (l.made ≤ l.steps)
    × Belongs l.self l.seat
    × ((call : Call) (v : _) (made : ℕ) → IsUnderWayAt M o l.fn.start call v l.fn.seat.me.0 l.fn.op made None →
    IsUnderWayAt M o l.start call v l.seat.me.0 l.op (made + l.made) (replied M l.op))
