use Rattle.flit_thread_histories.proofs.EndsOrder.{ends_order}
use Rattle.flit_thread_histories.proofs.laws.ends_in_order.Goals as goal

pub returns : goal.returns
returns g c = λ home works es h. ends_order g.S.Structure.meaning home works es h
