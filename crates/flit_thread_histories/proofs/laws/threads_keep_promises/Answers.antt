use Rattle.flit_thread_histories.proofs.Promised.{promised}
use Rattle.flit_thread_histories.proofs.laws.threads_keep_promises.Goals as goal

pub returns : goal.returns
returns g c = λ home works es pass ahead image h. promised g.S.Structure.meaning home (g.met.S.Structure.lawful home.origin.structure.value) works es pass ahead image h
