-- Calls that end and begin by turns.
use Rattle.std.proofs.Common.{ℕ, sym, subst, arith}
use Rattle.flit_structure.specs.Meanings.{Meaning}
use Rattle.flit_sched.specs.Runs.{Run}
use Rattle.flit_histories.specs.Calls.{IsCallAt}
use Rattle.flit_histories.specs.Orders.{IsOver}
use Rattle.flit_histories.specs.Reached.{Leads}
use Rattle.flit_histories.proofs.LedParts.{part_led}

-- a call that is over stays over
pub over_stays : {Op : Type 0} (meaning : Meaning Op) (r next : Run Op) (name number : ℕ) → Leads meaning r next → IsOver r name number → IsOver next name number
over_stays meaning r next name number led h =
    let x = part_led meaning r next led name h.is.before h.part h.is.behind h.is.is in
    record {
      part = x.part;
      item = h.item;
      call = h.call;
      is = record {
        before = x.before;
        behind = x.behind;
        is = x.is;
        call_at = subst (λ items. IsCallAt items h.item h.call number) (sym x.later.items) h.is.call_at;
      };
      over = (let a = h.over in let b = x.later.over in omega (arith, a, b));
    }
