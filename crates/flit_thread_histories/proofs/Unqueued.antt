-- With one worker nothing was queued: each End has its pass, which says so, and the close says it of the gathered one.
use Rattle.std.proofs.Common.{◌≡◌, List}
use Rattle.std.specs.List.{AllByRecursion}
use Rattle.flit_model.specs.declared.calls.Ahead.{Ahead}
use Rattle.flit_model.specs.declared.calls.Work.{Work}
use Rattle.flit_model.specs.declared.found.Image.{Image}
use Rattle.flit_structure.specs.Meanings.{Meaning}
use Rattle.flit_table.specs.declared.passes.Pass.{Pass}
use Rattle.flit_table.specs.declared.views.Start.TheVariants.{Go}
use Rattle.flit_table.specs.Moves.{HasNoneQueued}
use Rattle.flit_table.specs.Passes.{view_of, waiting_view}
use Rattle.flit_table.specs.Rule.{first_view}
use Rattle.flit_table.specs.Steps.{Home, meaning_of}
use Rattle.flit_table.specs.Views.{posts_of}
use Rattle.flit_workers.specs.declared.ends.End.{End}
use Rattle.flit_workers.specs.Ends.{HasEnded}
use Rattle.flit_thread_histories.specs.Promises.{HaveRun}
use Rattle.flit_thread_histories.proofs.Parts.{along_second}

module _ {S Op : Type 0} (meanings : S → Meaning Op) (home : Home S) (works : List Work) (es : List (End S Op)) (pass : Pass S Op) (ahead : Ahead)
    (image : Image) (h : HaveRun meanings home works es pass ahead image) (one : (meaning_of meanings home).layout.workers ≡ 1) where
  pub all_unqueued : AllByRecursion (λ e. HasNoneQueued (meaning_of meanings home) (waiting_view (meaning_of meanings home) e.pass).post) es
      × AllByRecursion (HasNoneQueued (meaning_of meanings home)) (posts_of (view_of pass))
  all_unqueued = (
    along_second (λ n w e. HasEnded meanings home n (first_view (meaning_of meanings home) home.origin) w e)
        (λ e. HasNoneQueued (meaning_of meanings home) (waiting_view (meaning_of meanings home) e.pass).post) 0 works es
        (λ n w e d. d.pass.queued one Go tt) h.ended,
    h.closed.queued one,
  )
