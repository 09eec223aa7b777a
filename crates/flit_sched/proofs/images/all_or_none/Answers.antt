use Rattle.std.proofs.Common.{arith, sym}
use Rattle.std.proofs.lemmas.List.FromFn.{map-range_with_len_more}
use Rattle.flit_model.specs.CrashImages.{crash_word}
use Rattle.flit_sched.proofs.images.all_or_none.Goals as goal

pub loop-word-preserved : goal.loop-word-preserved
loop-word-preserved c =
    rw (c.in_ok-push.ensures.items, c.loop-word.invariant, c.kept_word.ensures)
    (sym (map-range_with_len_more (crash_word (λ w. c.args.takes) c.args.machine.now) 0 c.loop-word.word c.loop-word.word (omega arith)))
