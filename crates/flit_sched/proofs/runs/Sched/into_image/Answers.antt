use Rattle.std.proofs.Common.{sym, subst, ap, ◌∙◌}
use Rattle.flit_words.specs.Layouts.{Accepted, words_of}
use Rattle.flit_model.specs.CrashImages.{crash_image}
use Rattle.flit_structure.specs.Lawful.{IsRecoverable}
use Rattle.flit_sched.specs.Views.{picks_of, updates_with}
use Rattle.flit_sched.proofs.SeenLaws as seen
use Rattle.flit_sched.proofs.runs.Sched.into_image.Goals as goal

pub words-requires : goal.words-requires
words-requires g c =
    subst Accepted (sym c.layout.ensures)
    (seen.sized g.S.Structure.meaning g.met.S.Structure.lawful c.self.inside.structure c.self.invariant c.args.self c.self.view_is).accepted

pub crash_words-requires-clause-size : goal.crash_words-requires-clause-size
crash_words-requires-clause-size g c =
    (seen.sized g.S.Structure.meaning g.met.S.Structure.lawful c.self.inside.structure c.self.invariant c.args.self c.self.view_is).words
    ∙ sym (c.words.ensures ∙ ap words_of c.layout.ensures)

pub crash_words-requires-clause-shadows : goal.crash_words-requires-clause-shadows
crash_words-requires-clause-shadows g c =
    (seen.sized g.S.Structure.meaning g.met.S.Structure.lawful c.self.inside.structure c.self.invariant c.args.self c.self.view_is).shadows
    ∙ sym (c.words.ensures ∙ ap words_of c.layout.ensures)

pub returns-clause-recovers : goal.returns-clause-recovers
returns-clause-recovers g c =
    let picks = picks_of c.args.ahead.now in
    let seen_run = c.args.self in
    subst (λ xs. IsRecoverable (g.S.Structure.meaning seen_run.structure).layout seen_run.run.content xs (updates_with seen_run.run picks))
    (sym (c.in_ok-crash_words.ensures ∙ ap (λ r. crash_image picks r.run.state) c.self.view_is))
    (seen.recovers g.S.Structure.meaning g.met.S.Structure.lawful c.self.inside.structure c.self.invariant c.args.self c.self.view_is picks)

pub returns-clause-moment : goal.returns-clause-moment
returns-clause-moment g c =
    seen.at_moment g.S.Structure.meaning g.met.S.Structure.lawful c.self.inside.structure c.self.invariant c.args.self c.self.view_is

pub returns-in_err-crash_words-clause-moment : goal.returns-in_err-crash_words-clause-moment
returns-in_err-crash_words-clause-moment g c =
    seen.at_moment g.S.Structure.meaning g.met.S.Structure.lawful c.self.inside.structure c.self.invariant c.args.self c.self.view_is

pub returns-clause-ahead : goal.returns-clause-ahead
returns-clause-ahead g c = seen.ahead g.S.Structure.meaning g.met.S.Structure.lawful c.self.inside.structure c.self.invariant c.args.self c.self.view_is

pub returns-in_err-crash_words-clause-ahead : goal.returns-in_err-crash_words-clause-ahead
returns-in_err-crash_words-clause-ahead g c = seen.ahead g.S.Structure.meaning g.met.S.Structure.lawful c.self.inside.structure c.self.invariant c.args.self
    c.self.view_is
