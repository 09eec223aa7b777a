use Rattle.std.proofs.Common.{ap}
use Rattle.flit_structures.specs.Structures.{placing_of}
use Rattle.flit_run_structures.proofs.PlacedRuns.{runs_source, some_slots}
use Rattle.flit_run_structures.proofs.placed.text_from_outset.Goals as goal

pub text_over-requires-clause-runs : goal.text_over-requires-clause-runs
text_over-requires-clause-runs g c κs within =
    runs_source c.args.outset c.requires _ (ap placing_of c.in-Adjacent.is) c.heads_open.ensures c.traces_run.ensures

pub text_over-requires-in-Hashed-clause-runs : goal.text_over-requires-in-Hashed-clause-runs
text_over-requires-in-Hashed-clause-runs g c κs within =
    runs_source c.args.outset c.requires _ (ap placing_of c.in-Hashed.is) c.heads_open.ensures c.traces_run.ensures

pub text_over-requires-in-Packed-clause-runs : goal.text_over-requires-in-Packed-clause-runs
text_over-requires-in-Packed-clause-runs g c κs within =
    runs_source c.args.outset c.requires _ (ap placing_of c.in-Packed.is) c.heads_open.ensures c.traces_run.ensures

pub invariant_of-text_over : goal.invariant_of-text_over
invariant_of-text_over g c = record { some = some_slots c.args.outset c.requires c.in-Hashed.slots c.in-Hashed.is }
