-- A call under way, where each of its machines has the hand that it works on.
use Rattle.flit_model.specs.declared.calls.Call.{Call}
use Rattle.flit_model.specs.declared.calls.Reply.{Reply}
use Rattle.flit_pv.specs.declared.hands.Hand.{Hand}
use Rattle.flit_pv.specs.VLoads.{HeldVLoad}
use Rattle.flit_pv.specs.Confirms.{HeldConfirm}
use Rattle.flit_pv.specs.Stores.{HeldStore}
use Rattle.flit_pv.specs.Exchanges.{HeldExchange}
use Rattle.flit_pv.specs.Fences.{HeldComplete}
use Rattle.flit_rows.specs.Taking.{HeldTake}
use Rattle.flit_list_steps.specs.declared.operations.Path.{Path}
use Rattle.flit_list_steps.specs.declared.operations.Goal.{Goal}
use Rattle.flit_list_steps.specs.declared.operations.Which.{Which}

-- where it is
pub data At : Type 0 where
  Head : HeldVLoad → At
  Next : HeldVLoad → At
  Key : HeldVLoad → At
  Confirming : Goal → Which → HeldConfirm → At
  Help : HeldExchange → At
  Row : HeldTake → At
  Words : HeldStore → At
  RowValue : HeldStore → At
  Link : HeldExchange → At
  Mark : HeldExchange → At
  Tidy : HeldExchange → At
  Value : HeldVLoad → At
  Ends : HeldComplete → At
  Rests : Hand → At

pub record HeldOp : Type 0 where
  pub call : Call
  pub reply : Reply
  pub path : Path
  pub at : At
