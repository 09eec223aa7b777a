use Rattle.std.proofs.Common.{refl, subst}
use Rattle.flit_structures.specs.Structures.{IsPlayable}
use Rattle.flit_structures.proofs.texts.trace_of.Goals as goal

pub returns-clause-playable : goal.returns-clause-playable
returns-clause-playable c = subst IsPlayable c.head.ensures.is (c.if-not-is_played.ensures.played refl)
