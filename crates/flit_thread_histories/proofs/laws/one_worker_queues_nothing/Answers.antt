use Rattle.flit_thread_histories.proofs.Unqueued.{all_unqueued}
use Rattle.flit_thread_histories.proofs.laws.one_worker_queues_nothing.Goals as goal

pub returns : goal.returns
returns g c = λ home works es pass ahead image h one. all_unqueued g.S.Structure.meaning home works es pass ahead image h one
