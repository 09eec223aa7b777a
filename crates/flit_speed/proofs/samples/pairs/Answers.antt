use Rattle.flit_speed.proofs.samples.pairs.Goals as goal

pub call-requires-clause-alone : goal.call-requires-clause-alone
call-requires-clause-alone c = c.in_ok-bench.ensures.alone

pub call-requires-clause-ended : goal.call-requires-clause-ended
call-requires-clause-ended c = c.in_ok-bench.ensures.reply
