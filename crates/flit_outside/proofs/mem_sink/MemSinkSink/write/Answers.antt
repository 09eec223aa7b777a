use Rattle.std.proofs.Common.{refl, inl, inr, arith}
use Rattle.std.proofs.lemmas.Grind.{common_steps}
use Rattle.flit_outside.proofs.mem_sink.MemSinkSink.write.Goals as goal
use Rattle.flit_outside.proofs.mem_sink.MemSinkSink.write.Goals.{then-contains-via-then-contains, then-contains-via-else-contains+then-not-is_empty}

-- a write is refused where its number says so, or where it is given bytes and the count is 0
pub returns-then-contains-clause-fails : goal.returns-then-contains-clause-fails
returns-then-contains-clause-fails c = (
  λ _. elim c.then-contains.branch [
    | then-contains-via-then-contains w ↦ inl (grind (arith, common_steps))
    | then-contains-via-else-contains+then-not-is_empty w ↦ inr (grind (arith, common_steps))
  ],
  λ _. refl,
)
