-- An event of a call at a running structure, which may be a load behind another.
use Rattle.std.proofs.Common.{◌≡◌, ℕ, suc, ◌+◌, Some, refl, sym, subst, arith, add-one}
use Rattle.atomic_table.specs.declared.shared.Seat.{Seat}
use Rattle.flit_model.specs.declared.calls.Call.{Call}
use Rattle.flit_model.specs.declared.events.Event.{Event}
use Rattle.flit_structure.specs.Meanings.{Meaning, MayTake, replied}
use Rattle.flit_structure.specs.Lawful.{Lawful}
use Rattle.flit_table.specs.declared.views.Start.{Start}
use Rattle.flit_table.specs.declared.views.Start.TheVariants.{Go}
use Rattle.flit_table.specs.declared.views.View.{View}
use Rattle.flit_table.specs.Moves.{entering}
use Rattle.flit_table.specs.Steps.{After, Belongs, Home, meaning_of}
use Rattle.flit_table.specs.Calls.{IsUnderWayAt}
use Rattle.flit_table.specs.Passes.{IsLoadedAt}
use Rattle.flit_table.proofs.CallSteps.{may_go_on, stepped, told_now, goes_at_call, still_belongs}

-- so many events, one more, and those behind it
pub all_made : (made so_far more : ℕ) → suc (made + so_far) + more ≡ made + (so_far + 1 + more)
all_made made so_far more = omega arith

module _ {S Op : Type 0} (meanings : S → Meaning Op) (home : Home S) (laws : Lawful (meaning_of meanings home)) where
  abbrev M : Meaning Op
  M = meaning_of meanings home

  -- the seats before and after an event of the operation, told its answer
  module _ (start : Start) (before seat : Seat ℕ (View S Op)) (op : Op) (e : Event) (n : ℕ) (asked : M.asked op ≡ Some e)
      (told : After M home.origin (entering M start before.me.0) n seat.me.0) where
    pub tells : (call : Call) (v : View S Op) (k : ℕ) → IsUnderWayAt M home.origin start call v before.me.0 op k (replied M op) → MayTake M op n
    tells call v k h =
        let may = may_go_on M laws home.origin start call v before.me.0 op e k asked h in
        told_now M laws home.origin start call v before.me.0 seat.me.0 op e n k may.runs asked told

    pub loaded_at : (next : Op) → next ≡ M.taken op n → Belongs home before → seat.table_id ≡ before.table_id → seat.me.1 ≡ before.me.1 →
        (call : Call) (v : View S Op) (k : ℕ) →
        IsUnderWayAt M home.origin start call v before.me.0 op k (replied M op) → IsLoadedAt meanings home (call, v) seat next (suc k)
    loaded_at next is belongs table slots call v k h =
        let o = home.origin in
        let y = before.me.0 in
        let w = seat.me.0 in
        let may = may_go_on M laws o start call v y op e k asked h in
        let goes = goes_at_call M laws o start call v y w op e n k may.runs asked told in
        record {
          belongs =
              still_belongs M laws o home refl before seat (entering M start y) e n belongs table slots refl refl
              (stepped M laws o start call v y w op e n k may.runs asked told);
          at =
              subst (λ x. IsUnderWayAt M o Go call v w x (suc k) (replied M x)) (sym is)
              (subst (λ (z : ℕ). IsUnderWayAt M o Go call v w (M.taken op n) z (replied M (M.taken op n))) (add-one k) goes);
        }
