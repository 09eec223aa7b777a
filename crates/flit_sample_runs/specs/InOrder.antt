-- Workers that run one after the other, each until it is out.
use Rattle.std.specs.Prelude.{◌≡◌, ℕ, zero, suc}
use Rattle.flit_structure.specs.Meanings.{Meaning}
use Rattle.flit_sched.specs.Runs.{Run}
use Rattle.flit_sched.specs.Turns.{Alone, IsOut}
use Rattle.flit_sched.specs.Views.{OfWorker}

-- the worker of this number is out
abbrev pub HasRunOut : {Op : Type 0} → Run Op → ℕ → Type 0
HasRunOut r worker = OfWorker r worker IsOut

-- worker 1 runs alone until it is out, then worker 2, and so on up to this one
abbrev pub InOrder : {Op : Type 0} → Meaning Op → ℕ → Run Op → Run Op → Type 0
InOrder meaning zero r next = next ≡ r
InOrder {Op} meaning (suc n) r next = (between : Run Op) × InOrder meaning n r between × Alone meaning (suc n) between next × HasRunOut next (suc n)
