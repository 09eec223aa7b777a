use Rattle.std.proofs.Common.{refl, subst, ◌∙◌, ◌+◌, arith}
use Rattle.flit_turns.specs.Lines.{ShowsOne}
use Rattle.flit_turns.proofs.LineLaws.{none_shown, more_shown, out_before, all_made, some_long}
use Rattle.flit_turns.proofs.giving.give_turns.Goals as goal

pub loop-made-init : goal.loop-made-init
loop-made-init g c = record {
  made = none_shown (g.S.Structure.meaning c.args.sched.now.structure) c.args.worker c.args.sched.now.run c.args.events.now.kept c.args.events.now.shown.items;
  structure = refl;
  kept = refl;
  long = refl;
  within = omega arith;
}

pub returns-then-not-branch-clause-line : goal.returns-then-not-branch-clause-line
returns-then-not-branch-clause-line g c =
    out_before (g.S.Structure.meaning c.args.sched.now.structure) c.args.worker c.loop-made.made c.args.sched.now.run c.loop-made.sched.run c.show_turn.new.sched.run
    c.in_ok-show_turn.field-0 c.args.events.now.kept c.loop-made.events.kept c.args.events.now.shown.items c.loop-made.events.shown.items
    c.show_turn.new.events.shown.items
    c.args.most c.loop-made-test.true c.if-not-branch.true c.loop-made.invariant.kept c.loop-made.invariant.made
    (subst (λ s. ShowsOne (g.S.Structure.meaning s) c.args.worker c.in_ok-show_turn.field-0 c.loop-made.sched.run c.show_turn.new.sched.run c.loop-made.events.kept
    c.loop-made.events.shown.items c.show_turn.new.events.shown.items) c.loop-made.invariant.structure c.in_ok-show_turn.ensures.one)

pub loop-made-preserved : goal.loop-made-preserved
loop-made-preserved g c =
    let more = more_shown (g.S.Structure.meaning c.args.sched.now.structure) c.args.worker c.loop-made.made c.args.sched.now.run c.loop-made.sched.run c.show_turn.new.sched.run
    c.in_ok-show_turn.field-0 c.args.events.now.kept c.loop-made.events.kept c.args.events.now.shown.items c.loop-made.events.shown.items
    c.show_turn.new.events.shown.items
    c.if-not-branch.false c.loop-made.invariant.kept c.loop-made.invariant.made
    (subst (λ s. ShowsOne (g.S.Structure.meaning s) c.args.worker c.in_ok-show_turn.field-0 c.loop-made.sched.run c.show_turn.new.sched.run c.loop-made.events.kept
    c.loop-made.events.shown.items c.show_turn.new.events.shown.items) c.loop-made.invariant.structure c.in_ok-show_turn.ensures.one) in
    record {
      made = more;
      structure = c.in_ok-show_turn.ensures.structure ∙ c.loop-made.invariant.structure;
      kept = c.in_ok-show_turn.ensures.kept ∙ c.loop-made.invariant.kept;
      long = some_long (g.S.Structure.meaning c.args.sched.now.structure) c.args.worker (c.loop-made.made + 1) c.args.sched.now.run
          c.show_turn.new.sched.run c.args.events.now.kept c.args.events.now.shown.items c.show_turn.new.events.shown.items more;
      within = omega (arith, c.loop-made-test.true);
    }

pub returns-clause-line : goal.returns-clause-line
returns-clause-line g c =
    all_made (g.S.Structure.meaning c.args.sched.now.structure) c.args.worker c.loop-made.made c.args.sched.now.run c.loop-made.sched.run
    c.args.events.now.kept c.args.events.now.shown.items c.loop-made.events.shown.items c.args.most
    (omega (arith, c.loop-made-test.false, c.loop-made.invariant.within)) c.loop-made.invariant.made
