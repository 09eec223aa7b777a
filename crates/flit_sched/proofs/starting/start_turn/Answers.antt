use Rattle.std.proofs.Common.{ap, ◌∙◌, sym}
use Rattle.flit_structure.specs.Meanings.{asked_by}
use Rattle.flit_sched.proofs.WaitingLaws.{no_some}
use Rattle.flit_sched.proofs.starting.start_turn.Goals as goal

pub unreachable-requires : goal.unreachable-requires
unreachable-requires g c =
    no_some c.requires.asks.0
    (sym c.in_default.is ∙ c.asked.ensures ∙ ap (λ p. asked_by (g.S.Structure.meaning c.args.structure.now) p.worker) c.enter.ensures.begun ∙ c.requires.asks.1)
