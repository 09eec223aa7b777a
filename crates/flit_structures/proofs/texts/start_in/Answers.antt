use Rattle.std.proofs.Common.{subst}
use Rattle.flit_structures.specs.Structures.{IsPlayable}
use Rattle.flit_structures.proofs.texts.start_in.Goals as goal

pub returns-in_default-clause-refused : goal.returns-in_default-clause-refused
returns-in_default-clause-refused c = λ bytes read playable. record {
  content = read.content;
  trace = read.is;
  playable = subst IsPlayable read.shows.head playable;
  some = c.in_default.not-NoMemory;
  first = c.in-Err.ensures.damage c.in_default.not-NoMemory bytes read.content read.is read.shows;
}
