use Rattle.std.proofs.Common.{ℕ, refl, subst, ◌∙◌}
use Rattle.flit_turns.specs.Lines.{ShowsSome}
use Rattle.flit_turns.proofs.LineLaws.{none_shown, some_after, all_alone, some_long}
use Rattle.flit_turns.proofs.alone.run_alone.Goals as goal

pub items-init : goal.items-init
items-init g c = record {
  made = (
    0,
    none_shown (g.S.Structure.meaning c.args.sched.now.structure) c.args.worker c.args.sched.now.run c.args.events.now.kept
        c.args.events.now.shown.items,
  );
  structure = refl;
  kept = refl;
  long = refl;
}

pub items-preserved : goal.items-preserved
items-preserved g c =
    let more = some_after (g.S.Structure.meaning c.args.sched.now.structure) c.args.worker c.items.invariant.made.0 c.args.sched.now.run c.items.sched.run
    c.show_item.new.sched.run c.args.events.now.kept c.items.events.kept c.args.events.now.shown.items c.items.events.shown.items
    c.show_item.new.events.shown.items c.items.invariant.kept c.items.invariant.made.1
    (subst (λ s. (made : ℕ) × ShowsSome (g.S.Structure.meaning s) c.args.worker made c.items.sched.run c.show_item.new.sched.run c.items.events.kept
    c.items.events.shown.items c.show_item.new.events.shown.items) c.items.invariant.structure c.in_ok-show_item.ensures.made) in
    record {
      made = more;
      structure = c.in_ok-show_item.ensures.structure ∙ c.items.invariant.structure;
      kept = c.in_ok-show_item.ensures.kept ∙ c.items.invariant.kept;
      long = some_long (g.S.Structure.meaning c.args.sched.now.structure) c.args.worker more.0 c.args.sched.now.run c.show_item.new.sched.run
          c.args.events.now.kept c.args.events.now.shown.items c.show_item.new.events.shown.items more.1;
    }

pub returns-clause-line : goal.returns-clause-line
returns-clause-line g c =
    let more = some_after (g.S.Structure.meaning c.args.sched.now.structure) c.args.worker c.items.invariant.made.0 c.args.sched.now.run c.items.sched.run
    c.show_item.new.sched.run c.args.events.now.kept c.items.events.kept c.args.events.now.shown.items c.items.events.shown.items
    c.show_item.new.events.shown.items c.items.invariant.kept c.items.invariant.made.1
    (subst (λ s. (made : ℕ) × ShowsSome (g.S.Structure.meaning s) c.args.worker made c.items.sched.run c.show_item.new.sched.run c.items.events.kept
    c.items.events.shown.items c.show_item.new.events.shown.items) c.items.invariant.structure c.in_ok-show_item.ensures.made) in
    all_alone (g.S.Structure.meaning c.args.sched.now.structure) c.args.worker more.0 c.args.sched.now.run c.show_item.new.sched.run
    c.args.events.now.kept c.args.events.now.shown.items c.show_item.new.events.shown.items (c.in_ok-show_item.ensures.out c.if-branch.false) more.1
