use Rattle.std.proofs.Common.{rules, ◌≡◌, IfSome, take, drop, Some, ℕ, length-take, arith}
use Rattle.std.proofs.lemmas.Option.{IfSome_then}
use Rattle.flit_outside.proofs.Taking.{IfSome-read_more, IfSome-read_end}
use Rattle.flit_outside.proofs.whole.read_all.Goals as goal
use Rattle.flit_outside.proofs.whole.read_all.Goals.{Then-count-eq0}
use Rattle.flit_outside.proofs.whole.read_all.Given.{Over}

-- what was read where the last read gave nothing
ends : (g : Over) (c : Then-count-eq0 g) → IfSome (g.S.Source.left c.args.source.now) (λ input. (c.read_behind.new.bytes.items ≡ take c.args.limit input)
    × (g.S.Source.left c.read_behind.new.source ≡ Some (drop c.args.limit input)))
ends g c = IfSome-read_end _ _ _ _ _ c.args.limit _ _ _ c.loop-room.invariant.within c.if-count-eq0.true (omega (arith, length-take {A = ℕ}))
    c.loop-room.invariant.so_far c.in_ok-count.ensures.told c.in_ok-count.ensures.end

pub returns-then-count-eq0-clause-bytes : goal.returns-then-count-eq0-clause-bytes
returns-then-count-eq0-clause-bytes g c =
    IfSome_then (g.S.Source.left c.args.source.now) (ends g (goal.at.returns-then-count-eq0-clause-bytes g c).Then-count-eq0) (λ input read. read.0)

pub returns-then-count-eq0-clause-left : goal.returns-then-count-eq0-clause-left
returns-then-count-eq0-clause-left g c =
    IfSome_then (g.S.Source.left c.args.source.now) (ends g (goal.at.returns-then-count-eq0-clause-left g c).Then-count-eq0) (λ input read. read.1)

pub loop-room-preserved : goal.loop-room-preserved
loop-room-preserved g c = record {
  within = search rules;
  room = search rules;
  so_far = rw c.in_ok-count.ensures.grown (IfSome-read_more _ _ _ _ _ _ _ _ c.loop-room.invariant.so_far c.in_ok-count.ensures.told);
  steady = search rules;
}
