use Rattle.std.proofs.Common.{arith}
use Rattle.flit_sched.proofs.OpenKept.{all_raw}
use Rattle.flit_sched.proofs.opening.are_raw.Goals as goal

pub returns : goal.returns
returns c = all_raw c.args.words.now (λ i. omega (arith, c.type_inv.words i))
