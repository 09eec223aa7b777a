use Rattle.std.proofs.Common.{arith, ◌≤◌, ◌<◌, length}
use Rattle.flit_outside.proofs.InputLaws.{whole_input, ended_input, long_input, lost_input}
use Rattle.flit_outside.proofs.input.read_input.Goals as goal

pub returns-in-Ok-clause-bytes : goal.returns-in-Ok-clause-bytes
returns-in-Ok-clause-bytes g c =
    let short : length c.in-Ok.bytes.items ≤ 268435456 = omega (arith, c.len.ensures, c.if-len-le-MOST_BYTES.true) in
    whole_input (g.S.Source.left c.args.source.now) c.in-Ok.bytes.items c.in-Ok.ensures.bytes short

pub returns-in-Ok-clause-ended : goal.returns-in-Ok-clause-ended
returns-in-Ok-clause-ended g c =
    let short : length c.in-Ok.bytes.items ≤ 268435456 = omega (arith, c.len.ensures, c.if-len-le-MOST_BYTES.true) in
    ended_input (g.S.Source.left c.args.source.now) _ c.in-Ok.bytes.items c.in-Ok.ensures.bytes c.in-Ok.ensures.left short

pub returns-in-Ok-2-clause-too_long : goal.returns-in-Ok-2-clause-too_long
returns-in-Ok-2-clause-too_long g c =
    let long : 268435456 < length c.in-Ok.bytes.items = omega (arith, c.len.ensures, c.if-len-le-MOST_BYTES.false) in
    λ _. long_input (g.S.Source.left c.args.source.now) c.in-Ok.bytes.items c.in-Ok.ensures.bytes long

pub returns-in-Ok-2-clause-lost : goal.returns-in-Ok-2-clause-lost
returns-in-Ok-2-clause-lost g c = lost_input (g.S.Source.left c.args.source.now) _ c.in-Ok.ensures.left
