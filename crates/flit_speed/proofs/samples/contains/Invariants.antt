use Rattle.flit_speed.specs.Benches.{IsReady}
use Rattle.flit_speed.proofs.samples.contains.Given as goal

abbrev pub invariant-loop : goal.invariant-loop
invariant-loop l = IsReady l.bench
