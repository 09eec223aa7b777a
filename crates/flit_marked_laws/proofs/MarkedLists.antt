-- Lists and hash tables keep the laws of marked structures.
use Rattle.flit_marked_laws.specs.ListMarks.{ListsAreMarked, SecondStoresBreak}
use Rattle.flit_marked_laws.proofs.Foreign as foreign
use Rattle.flit_marked_laws.proofs.Naming as naming
use Rattle.flit_marked_laws.proofs.Remainders as remainders
use Rattle.flit_marked_laws.proofs.Showing as showing

pub lists_are_marked : ListsAreMarked
lists_are_marked l p free chains = record {
  stored_foreign = foreign.stored_foreign l p free chains;
  persisted_foreign = foreign.persisted_foreign l p free chains;
  links_it = naming.links_it l p free chains;
  marks_it = λ M a name number op call begun b word from to effect put asked holds.
      naming.marks_it l p free chains M a name number op call begun b word from to effect put asked holds;
  named = naming.named l p free chains;
  shown = λ row M o picks since. showing.shown l p free chains row M picks o since;
  marked = λ row name M o picks values since. remainders.marked l p free chains values row name M picks o since;
}

pub second_stores_break : SecondStoresBreak
second_stores_break l p free chains = foreign.second_breaks l p free chains
