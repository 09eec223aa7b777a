use Rattle.flit_list_heap.proofs.Seen as seen
use Rattle.flit_list_heap.proofs.laws.loads.Goals as goal

pub returns : goal.returns
returns c = record {
  saw = λ l free h key x kept. seen.saw_load l free h kept key x;
  gone = λ l free h first key x kept. seen.gone_load l free h kept first key x;
  here = λ l free h first key r kept. seen.here_load l free h kept first key r;
}
