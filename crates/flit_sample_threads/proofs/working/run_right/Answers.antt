use Rattle.std.proofs.Common.{◌≡◌, sym, subst, ℕ, List, length, ◌≤◌, arith}
use Rattle.std.specs.List.{AllByRecursion}
use Rattle.flit_words.specs.declared.layouts.Layout.{Layout}
use Rattle.flit_model.specs.declared.calls.Work.{Work}
use Rattle.flit_table.specs.Passes.{own_names}
use Rattle.flit_workers.specs.Works.{IsRightItem}
use Rattle.flit_workers.specs.Ends.{AreRight}
use Rattle.flit_sample_threads.proofs.Rights.{right_works}
use Rattle.flit_sample_threads.proofs.working.run_right.Goals as goal

pub run_workers-requires-clause-works : goal.run_workers-requires-clause-works
run_workers-requires-clause-works g c κs within =
    right_works _ c.args.layout.now (own_names c.args.pass) c.args.works.items _ c.requires.layout c.as_slice.ensures.value (omega arith)
    c.works_are_right.ensures.right c.works_are_right.ensures.most
