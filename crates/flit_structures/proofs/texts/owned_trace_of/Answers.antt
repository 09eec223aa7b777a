use Rattle.std.proofs.Common.{ℕ, List, sym, subst}
use Rattle.flit_trace.specs.SeenTraces.{IsReadAs}
use Rattle.flit_structures.specs.Structures.{IsPlayable}
use Rattle.flit_structures.proofs.texts.owned_trace_of.Goals as goal

pub returns-clause-read : goal.returns-clause-read
returns-clause-read c =
    subst (λ t. IsReadAs c.args.bytes.items t) (sym c.into_owned.ensures)
    (subst (λ (bs : List ℕ). IsReadAs bs c.in_ok-trace.trace) c.deref.ensures.value c.in_ok-trace.ensures.read)

pub returns-clause-playable : goal.returns-clause-playable
returns-clause-playable c = subst (λ t. IsPlayable t.head) (sym c.into_owned.ensures) c.in_ok-trace.ensures.playable
