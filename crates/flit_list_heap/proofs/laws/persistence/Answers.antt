use Rattle.flit_list_heap.proofs.Seen as seen
use Rattle.flit_list_heap.proofs.laws.persistence.Goals as goal

pub returns : goal.returns
returns c = record {
  rests = λ l free h key x u kept. seen.rests_if l free h kept key x u;
  marks = λ l free h key x u kept. seen.marked_rests l free h kept key x u;
  leads = λ l free h key x u kept. seen.leads_settled l free h kept key x u;
  rooted = λ l free h key back pred kept. seen.behind_rooted l free h kept key back pred;
}
