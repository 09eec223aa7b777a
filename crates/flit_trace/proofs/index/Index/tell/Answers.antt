use Rattle.flit_trace.proofs.index.Index.tell.Goals as goal

pub returns-in-Insert-clause-tells : goal.returns-in-Insert-clause-tells
returns-in-Insert-clause-tells c = rw c.in-Insert.is (rw (c.of.ensures, c.value_or_0-value.ensures) at c.push.ensures.pushes)

pub returns-in-Remove-clause-tells : goal.returns-in-Remove-clause-tells
returns-in-Remove-clause-tells c = rw c.in-Remove.is (rw c.of-in-Remove.ensures at c.push-in-Remove.ensures.pushes)

pub returns-in-Contains-clause-tells : goal.returns-in-Contains-clause-tells
returns-in-Contains-clause-tells c = rw c.in-Contains.is (rw c.of-in-Contains.ensures at c.push-in-Contains.ensures.pushes)

pub returns-in-Get-clause-tells : goal.returns-in-Get-clause-tells
returns-in-Get-clause-tells c = rw c.in-Get.is (rw c.of-in-Get.ensures at c.push-in-Get.ensures.pushes)

pub returns-in-Evict-clause-tells : goal.returns-in-Evict-clause-tells
returns-in-Evict-clause-tells c = rw c.in-Evict.is (rw c.of-in-Evict.ensures at c.push-in-Evict.ensures.pushes)
