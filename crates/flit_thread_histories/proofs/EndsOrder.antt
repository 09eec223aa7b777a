-- At its End a pass has the completed calls of its names in order, also where it has made no event.
use Rattle.std.proofs.Common.{ℕ, zero, suc, List, [], refl, sym, subst}
use Rattle.std.specs.List.{AllByRecursion}
use Rattle.flit_model.specs.declared.calls.Work.{Work}
use Rattle.flit_structure.specs.Meanings.{Meaning}
use Rattle.flit_table.specs.declared.views.View.{View}
use Rattle.flit_table.specs.Orders.{AreInOrder}
use Rattle.flit_table.specs.Passes.{view_of}
use Rattle.flit_table.specs.Rule.{first_view}
use Rattle.flit_table.specs.Steps.{Home, meaning_of}
use Rattle.flit_workers.specs.declared.ends.End.{End}
use Rattle.flit_workers.specs.Ends.{share, HasEnded, HaveEnded}
use Rattle.flit_workers.specs.Works.{IsInOrderAfter}
use Rattle.flit_thread_histories.proofs.Parts.{along_second}

module _ {S Op : Type 0} (meanings : S → Meaning Op) (home : Home S) where
  abbrev first : View S Op
  first = first_view (meaning_of meanings home) home.origin

  shared_order : (n : ℕ) → AreInOrder (share n first)
  shared_order zero = (record { more = []; is = refl; one = tt }, tt)
  shared_order (suc n) = (record { more = []; is = refl; one = tt }, tt)

  after_order : (count n : ℕ) (w : View S Op) → IsInOrderAfter count (share n first) w → AreInOrder w
  after_order zero n w h = subst AreInOrder (sym h) (shared_order n)
  after_order (suc count) n w h = h

  pub ends_order : (works : List Work) (es : List (End S Op)) → HaveEnded meanings home first works es → AllByRecursion (λ e. AreInOrder (view_of e.pass)) es
  ends_order works es h = along_second (λ n w e. HasEnded meanings home n first w e) (λ e. AreInOrder (view_of e.pass)) 0 works es
      (λ n w e d. after_order d.worked.count n (view_of e.pass) d.worked.order) h
