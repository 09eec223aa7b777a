use Rattle.flit_list_heap.proofs.Exchanging as exchanging
use Rattle.flit_list_heap.proofs.laws.exchanges.Goals as goal

pub returns : goal.returns
returns c = record {
  marks = λ l free h row from to update kept may. (
    exchanging.kept_marked l free h kept row from to update may,
    exchanging.later_marked l free h kept row from to update may,
  );
  unlinks = λ l free h who y from to kept may. (
    exchanging.kept_unlinked l free h kept y from to may,
    exchanging.later_unlinked l free h kept y from to may who,
  );
  links = λ l free h who y from to row update kept may. (
    exchanging.kept_linked l free h kept y from to row update may,
    exchanging.later_linked l free h kept y from to row update may who,
  );
}
