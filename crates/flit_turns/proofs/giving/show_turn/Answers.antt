use Rattle.std.proofs.Common.{subst}
use Rattle.flit_sched.specs.Turns.{IsTurn}
use Rattle.flit_turns.proofs.LineLaws.{idle_shown, event_shown}
use Rattle.flit_turns.proofs.giving.show_turn.Goals as goal

pub returns-in-Idle-clause-one : goal.returns-in-Idle-clause-one
returns-in-Idle-clause-one g c =
    idle_shown (g.S.Structure.meaning c.args.sched.now.structure) c.args.worker c.args.sched.now.run c.turn.new.self.run c.turn.result c.args.events.now.kept
    c.args.events.now.shown.items c.turn.ensures.is c.in-Idle.is

pub returns-in_ok-show-in-Event-clause-one : goal.returns-in_ok-show-in-Event-clause-one
returns-in_ok-show-in-Event-clause-one g c =
    event_shown (g.S.Structure.meaning c.args.sched.now.structure) c.args.worker c.args.sched.now.run c.turn.new.self.run c.in-Event.event c.in-Event.answer
    c.args.events.now.kept c.args.events.now.shown.items c.show.new.self.shown.items
    (subst (λ t. IsTurn (g.S.Structure.meaning c.args.sched.now.structure) c.args.sched.now.run c.args.worker t c.turn.new.self.run) c.in-Event.is
    c.turn.ensures.is)
    c.in_ok-show-in-Event.ensures.shown
