use Rattle.std.proofs.Common.{◌∙◌, ◌<◌, sym, ap, subst}
use Rattle.flit_model.specs.Effects.{answer}
use Rattle.flit_structure.specs.Meanings.{MayTake}
use Rattle.flit_speed.specs.Benches.{IsAlone}
use Rattle.flit_speed.proofs.AloneLaws.{alone_allowed, alone_takes, alone_after, alone_falls}
use Rattle.flit_speed.proofs.benches.Bench.makes_event.Goals as goal

pub apply-answer-requires : goal.apply-answer-requires
apply-answer-requires g c =
    let b = c.args.self.now in
    alone_allowed (g.S.Structure.meaning b.structure) (g.met.S.Structure.lawful b.structure) b.calls b.machine b.op c.requires c.in-Some.event
    (sym c.ask.ensures ∙ c.in-Some.is)

pub take-requires : goal.take-requires
take-requires g c =
    let b = c.args.self.now in
    subst (MayTake (g.S.Structure.meaning b.structure) b.op) (sym c.apply-answer.ensures.answer)
    (alone_takes (g.S.Structure.meaning b.structure) (g.met.S.Structure.lawful b.structure) b.calls b.machine b.op c.requires c.in-Some.event
    (sym c.ask.ensures ∙ c.in-Some.is))

pub returns-in-Some-clause-alone : goal.returns-in-Some-clause-alone
returns-in-Some-clause-alone g c =
    let b = c.args.self.now in
    let meaning = g.S.Structure.meaning b.structure in
    subst (IsAlone meaning b.calls c.apply-answer.new.self) (sym (c.take.ensures ∙ ap (meaning.taken b.op) c.apply-answer.ensures.answer))
    (subst (λ s. IsAlone meaning b.calls s (meaning.taken b.op (answer b.machine c.in-Some.event))) (sym c.apply-answer.ensures.effect)
    (alone_after meaning (g.met.S.Structure.lawful b.structure) b.calls b.machine b.op c.requires c.in-Some.event (sym c.ask.ensures ∙ c.in-Some.is)))

pub returns-in-Some-clause-falls : goal.returns-in-Some-clause-falls
returns-in-Some-clause-falls g c = λ made.
    let b = c.args.self.now in
    let meaning = g.S.Structure.meaning b.structure in
    subst (λ op. meaning.to_go c.apply-answer.new.self op < meaning.to_go b.machine b.op)
    (sym (c.take.ensures ∙ ap (meaning.taken b.op) c.apply-answer.ensures.answer))
    (subst (λ s. meaning.to_go s (meaning.taken b.op (answer b.machine c.in-Some.event)) < meaning.to_go b.machine b.op) (sym c.apply-answer.ensures.effect)
    (alone_falls meaning (g.met.S.Structure.lawful b.structure) b.calls b.machine b.op c.requires c.in-Some.event (sym c.ask.ensures ∙ c.in-Some.is)))
