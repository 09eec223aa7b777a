use Rattle.flit_list_heap.proofs.Places.{link_open}
use Rattle.flit_list_heap.proofs.laws.link_words.Goals as goal

pub returns : goal.returns
returns c l free h x kept link = link_open l free h kept x link
