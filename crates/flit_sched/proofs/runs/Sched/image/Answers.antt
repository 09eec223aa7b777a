use Rattle.std.proofs.Common.{sym, subst, ap, ◌∙◌}
use Rattle.flit_model.specs.CrashImages.{crash_image}
use Rattle.flit_structure.specs.Lawful.{IsRecoverable}
use Rattle.flit_sched.specs.Views.{picks_of, updates_with}
use Rattle.flit_sched.proofs.SeenLaws as seen
use Rattle.flit_sched.proofs.runs.Sched.image.Goals as goal

pub returns-clause-recovers : goal.returns-clause-recovers
returns-clause-recovers g c =
    let picks = picks_of c.args.ahead.now in
    let now = c.args.self.now in
    subst (λ xs. IsRecoverable (g.S.Structure.meaning now.structure).layout now.run.content xs (updates_with now.run picks))
    (sym (c.in_ok-crash_words.ensures ∙ ap (λ r. crash_image picks r.run.state) c.self.view_is))
    (seen.recovers g.S.Structure.meaning g.met.S.Structure.lawful c.self.inside.structure c.self.invariant c.args.self.now c.self.view_is picks)

pub returns-clause-ahead : goal.returns-clause-ahead
returns-clause-ahead g c = seen.ahead g.S.Structure.meaning g.met.S.Structure.lawful c.self.inside.structure c.self.invariant c.args.self.now c.self.view_is

pub returns-in_err-crash_words-clause-ahead : goal.returns-in_err-crash_words-clause-ahead
returns-in_err-crash_words-clause-ahead g c = seen.ahead g.S.Structure.meaning g.met.S.Structure.lawful c.self.inside.structure c.self.invariant c.args.self.now
    c.self.view_is
