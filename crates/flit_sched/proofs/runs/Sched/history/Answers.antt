use Rattle.std.proofs.lemmas.Result.{IfOk-weaker}
use Rattle.flit_sched.specs.Views.{picks_of}
use Rattle.flit_sched.proofs.SeenLaws as seen
use Rattle.flit_sched.proofs.runs.Sched.history.Goals as goal

pub returns-clause-is : goal.returns-clause-is
returns-clause-is g c =
    IfOk-weaker c.history_ahead.result _ _ (λ h is. seen.history_is g.S.Structure.meaning g.met.S.Structure.lawful c.self.inside.structure c.self.invariant
    c.args.self.now c.self.view_is (picks_of c.args.ahead.now)
    c.deref.result.now c.deref-2.result.now c.deref-3.result.now c.deref.ensures.value c.deref-2.ensures.value c.deref-3.ensures.value h.items is)
    c.history_ahead.ensures

pub returns-clause-legal : goal.returns-clause-legal
returns-clause-legal g c =
    IfOk-weaker c.history_ahead.result _ _ (λ h is. seen.history_legal g.S.Structure.meaning g.met.S.Structure.lawful c.self.inside.structure c.self.invariant
    c.args.self.now c.self.view_is (picks_of c.args.ahead.now)
    c.deref.result.now c.deref-2.result.now c.deref-3.result.now c.deref.ensures.value c.deref-2.ensures.value c.deref-3.ensures.value h.items is)
    c.history_ahead.ensures

pub returns-clause-recovers : goal.returns-clause-recovers
returns-clause-recovers g c =
    IfOk-weaker c.history_ahead.result _ _ (λ h is. seen.history_has g.S.Structure.meaning g.met.S.Structure.lawful c.self.inside.structure c.self.invariant
    c.args.self.now c.self.view_is (picks_of c.args.ahead.now)
    c.deref.result.now c.deref-2.result.now c.deref-3.result.now c.deref.ensures.value c.deref-2.ensures.value c.deref-3.ensures.value h.items is)
    c.history_ahead.ensures
