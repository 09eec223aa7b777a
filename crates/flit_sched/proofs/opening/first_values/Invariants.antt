use Rattle.std.proofs.Common.{◌≡◌, map, take}
use Rattle.std.specs.FinMap as map_of
use Rattle.flit_sched.specs.Openings.{content_of}
use Rattle.flit_sched.proofs.opening.first_values.Given as goal

abbrev pub invariant-loop-key : goal.invariant-loop-key
invariant-loop-key l = map (λ k. map_of.get (content_of l.first_keys l.first_values) k) (take l.key-index l.keys) ≡ l.values.items
