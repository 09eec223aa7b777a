use Rattle.std.proofs.Common.{refl, ◌∙◌, ◌+◌, subst, None}
use Rattle.flit_turns.specs.Lines.{ShowsLine}
use Rattle.flit_turns.proofs.LineLaws.{no_lines, one_worker_more, line_long}
use Rattle.flit_turns.proofs.alone.run_all.Goals as goal

pub loop-before-init : goal.loop-before-init
loop-before-init g c = record {
  lines = no_lines (g.S.Structure.meaning c.args.sched.now.structure) c.args.sched.now.run c.args.events.now.kept c.args.events.now.shown.items;
  structure = refl;
  kept = refl;
  long = refl;
}

pub loop-before-preserved : goal.loop-before-preserved
loop-before-preserved g c =
    let meaning = g.S.Structure.meaning c.args.sched.now.structure in
    let line = subst (λ s. ShowsLine (g.S.Structure.meaning s) (record { worker = c.loop-before.before + 1; most = None }) c.loop-before.sched.run
    c.run_alone.new.sched.run c.loop-before.events.kept c.loop-before.events.shown.items c.run_alone.new.events.shown.items)
    c.loop-before.invariant.structure c.in_ok-run_alone.ensures.line in
    record {
      lines = one_worker_more meaning c.args.sched.now.run c.loop-before.sched.run c.run_alone.new.sched.run c.loop-before.before (c.loop-before.before + 1)
          c.args.events.now.kept c.loop-before.events.kept c.args.events.now.shown.items c.loop-before.events.shown.items
          c.run_alone.new.events.shown.items refl c.loop-before.invariant.kept c.loop-before.invariant.lines line;
      structure = c.in_ok-run_alone.ensures.structure ∙ c.loop-before.invariant.structure;
      kept = c.in_ok-run_alone.ensures.kept ∙ c.loop-before.invariant.kept;
      long = line_long meaning (record { worker = c.loop-before.before + 1; most = None }) c.loop-before.sched.run c.run_alone.new.sched.run
          c.loop-before.events.kept c.loop-before.events.shown.items c.run_alone.new.events.shown.items line ∙ c.loop-before.invariant.long;
    }
