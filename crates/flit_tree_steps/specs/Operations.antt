-- A call under way, where each of its machines has the hand that it works on.
use Rattle.flit_model.specs.declared.calls.Call.{Call}
use Rattle.flit_model.specs.declared.calls.Reply.{Reply}
use Rattle.flit_pv.specs.declared.hands.Hand.{Hand}
use Rattle.flit_pv.specs.Loads.{HeldLoad}
use Rattle.flit_pv.specs.VLoads.{HeldVLoad}
use Rattle.flit_pv.specs.Stores.{HeldStore}
use Rattle.flit_pv.specs.Exchanges.{HeldExchange}
use Rattle.flit_pv.specs.Fences.{HeldComplete}
use Rattle.flit_rows.specs.Taking.{HeldTake}
use Rattle.flit_tree_steps.specs.declared.operations.Path.{Path}
use Rattle.flit_tree_steps.specs.declared.operations.CleanUp.{CleanUp}

-- where it is
pub data At : Type 0 where
  Root : HeldLoad → At
  Key : HeldLoad → At
  Edge : HeldLoad → At
  Rows : HeldTake → At
  LeafWords : HeldStore → At
  LeafValue : HeldStore → At
  InnerWords : HeldStore → At
  Link : HeldExchange → At
  Flag : HeldExchange → At
  Sibling : CleanUp → HeldLoad → At
  Freeze : CleanUp → HeldExchange → At
  Swing : CleanUp → HeldExchange → At
  Value : HeldVLoad → At
  Ends : HeldComplete → At
  Rests : Hand → At

pub record HeldOp : Type 0 where
  pub call : Call
  pub reply : Reply
  pub path : Path
  pub at : At
