use Rattle.std.proofs.Common.{sym, arith}
use Rattle.flit_trace.proofs.Filling.{filled-more}
use Rattle.flit_trace.proofs.index.fill.Goals as goal

pub loop-word-preserved : goal.loop-word-preserved
loop-word-preserved c = record {
  words =
      rw (c.in_ok-push.ensures.items, c.loop-word.invariant.words, c.from.ensures, c.initial.ensures)
      (sym (filled-more c.args.layout.now.kind c.loop-word.word c.args.words.now.items (omega arith)));
  stays = λ past. absurd (omega arith);
}
