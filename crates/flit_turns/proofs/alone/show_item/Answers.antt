use Rattle.std.proofs.Common.{refl, subst, sym, ◌∙◌, ◌+◌, ◌<◌, ◌≤◌}
use Rattle.flit_sched.specs.Turns.{left_at, to_go_at}
use Rattle.flit_turns.specs.Lines.{ShowsOne}
use Rattle.flit_turns.proofs.LineLaws.{none_shown, more_shown, none_more, some_long, at_same_item}
use Rattle.flit_turns.proofs.alone.show_item.Goals as goal

pub turns-init : goal.turns-init
turns-init g c = record {
  made = (
    0,
    none_shown (g.S.Structure.meaning c.args.sched.now.structure) c.args.worker c.args.sched.now.run c.args.events.now.kept
        c.args.events.now.shown.items,
  );
  structure = refl;
  kept = refl;
  long = refl;
  left = sym c.items_left-left.ensures;
}

pub returns-then-not-branch-clause-made : goal.returns-then-not-branch-clause-made
returns-then-not-branch-clause-made g c = (
  c.turns.invariant.made.0,
  (none_more (g.S.Structure.meaning c.args.sched.now.structure) c.args.worker c.turns.invariant.made.0 c.args.sched.now.run c.turns.sched.run c.show_turn.new.sched.run
      c.in_ok-show_turn.field-0 c.args.events.now.kept c.turns.events.kept c.args.events.now.shown.items c.turns.events.shown.items
      c.show_turn.new.events.shown.items
      c.if-not-branch.true c.turns.invariant.kept c.turns.invariant.made.1
      (subst (λ s. ShowsOne (g.S.Structure.meaning s) c.args.worker c.in_ok-show_turn.field-0 c.turns.sched.run c.show_turn.new.sched.run c.turns.events.kept
      c.turns.events.shown.items c.show_turn.new.events.shown.items) c.turns.invariant.structure c.in_ok-show_turn.ensures.one)).0,
)

pub returns-then-not-branch-clause-out : goal.returns-then-not-branch-clause-out
returns-then-not-branch-clause-out g c = λ no.
    (none_more (g.S.Structure.meaning c.args.sched.now.structure) c.args.worker c.turns.invariant.made.0 c.args.sched.now.run c.turns.sched.run c.show_turn.new.sched.run
    c.in_ok-show_turn.field-0 c.args.events.now.kept c.turns.events.kept c.args.events.now.shown.items c.turns.events.shown.items
    c.show_turn.new.events.shown.items
    c.if-not-branch.true c.turns.invariant.kept c.turns.invariant.made.1
    (subst (λ s. ShowsOne (g.S.Structure.meaning s) c.args.worker c.in_ok-show_turn.field-0 c.turns.sched.run c.show_turn.new.sched.run c.turns.events.kept
    c.turns.events.shown.items c.show_turn.new.events.shown.items) c.turns.invariant.structure c.in_ok-show_turn.ensures.one)).1

pub returns-then-items_left-left-clause-made : goal.returns-then-items_left-left-clause-made
returns-then-items_left-left-clause-made g c = (
  c.turns.invariant.made.0 + 1,
  more_shown (g.S.Structure.meaning c.args.sched.now.structure) c.args.worker c.turns.invariant.made.0 c.args.sched.now.run c.turns.sched.run c.show_turn.new.sched.run
      c.in_ok-show_turn.field-0 c.args.events.now.kept c.turns.events.kept c.args.events.now.shown.items c.turns.events.shown.items
      c.show_turn.new.events.shown.items
      c.if-not-branch.false c.turns.invariant.kept c.turns.invariant.made.1
      (subst (λ s. ShowsOne (g.S.Structure.meaning s) c.args.worker c.in_ok-show_turn.field-0 c.turns.sched.run c.show_turn.new.sched.run c.turns.events.kept
      c.turns.events.shown.items c.show_turn.new.events.shown.items) c.turns.invariant.structure c.in_ok-show_turn.ensures.one),
)

pub turns-preserved : goal.turns-preserved
turns-preserved g c =
    let more = more_shown (g.S.Structure.meaning c.args.sched.now.structure) c.args.worker c.turns.invariant.made.0 c.args.sched.now.run c.turns.sched.run c.show_turn.new.sched.run
    c.in_ok-show_turn.field-0 c.args.events.now.kept c.turns.events.kept c.args.events.now.shown.items c.turns.events.shown.items
    c.show_turn.new.events.shown.items
    c.if-not-branch.false c.turns.invariant.kept c.turns.invariant.made.1
    (subst (λ s. ShowsOne (g.S.Structure.meaning s) c.args.worker c.in_ok-show_turn.field-0 c.turns.sched.run c.show_turn.new.sched.run c.turns.events.kept
    c.turns.events.shown.items c.show_turn.new.events.shown.items) c.turns.invariant.structure c.in_ok-show_turn.ensures.one) in
    record {
      made = (c.turns.invariant.made.0 + 1, more);
      structure = c.in_ok-show_turn.ensures.structure ∙ c.turns.invariant.structure;
      kept = c.in_ok-show_turn.ensures.kept ∙ c.turns.invariant.kept;
      long = some_long (g.S.Structure.meaning c.args.sched.now.structure) c.args.worker (c.turns.invariant.made.0 + 1) c.args.sched.now.run
          c.show_turn.new.sched.run c.args.events.now.kept c.args.events.now.shown.items c.show_turn.new.events.shown.items more;
      left = (at_same_item (g.S.Structure.meaning c.turns.sched.structure) c.args.worker c.in_ok-show_turn.field-0 c.turns.sched.run
          c.show_turn.new.sched.run c.if-not-branch.false
          (subst (λ k. k ≤ left_at c.show_turn.new.sched.run c.args.worker) (sym c.turns.invariant.left)
          (subst (λ k. c.items_left-left.result ≤ k) c.items_left.ensures c.if-items_left-left.false)) c.in_ok-show_turn.ensures.falls).0
          ∙ c.turns.invariant.left;
    }

pub turns-smaller : goal.turns-smaller
turns-smaller g c =
    let less = (at_same_item (g.S.Structure.meaning c.turns.sched.structure) c.args.worker c.in_ok-show_turn.field-0 c.turns.sched.run
    c.show_turn.new.sched.run c.if-not-branch.false
    (subst (λ k. k ≤ left_at c.show_turn.new.sched.run c.args.worker) (sym c.turns.invariant.left)
    (subst (λ k. c.items_left-left.result ≤ k) c.items_left.ensures c.if-items_left-left.false)) c.in_ok-show_turn.ensures.falls).1 in
    subst (λ s. to_go_at (g.S.Structure.meaning s) c.show_turn.new.sched.run c.args.worker
    < to_go_at (g.S.Structure.meaning c.turns.sched.structure) c.turns.sched.run c.args.worker) (sym c.in_ok-show_turn.ensures.structure) less

pub items_left-requires : goal.items_left-requires
items_left-requires g c =
    let more = more_shown (g.S.Structure.meaning c.args.sched.now.structure) c.args.worker c.turns.invariant.made.0 c.args.sched.now.run c.turns.sched.run c.show_turn.new.sched.run
    c.in_ok-show_turn.field-0 c.args.events.now.kept c.turns.events.kept c.args.events.now.shown.items c.turns.events.shown.items
    c.show_turn.new.events.shown.items
    c.if-not-branch.false c.turns.invariant.kept c.turns.invariant.made.1
    (subst (λ s. ShowsOne (g.S.Structure.meaning s) c.args.worker c.in_ok-show_turn.field-0 c.turns.sched.run c.show_turn.new.sched.run c.turns.events.kept
    c.turns.events.shown.items c.show_turn.new.events.shown.items) c.turns.invariant.structure c.in_ok-show_turn.ensures.one) in (
      c.requires.0,
      subst (λ n. c.args.worker ≤ n) (sym (some_long (g.S.Structure.meaning c.args.sched.now.structure) c.args.worker
          (c.turns.invariant.made.0 + 1) c.args.sched.now.run c.show_turn.new.sched.run c.args.events.now.kept c.args.events.now.shown.items
          c.show_turn.new.events.shown.items more)) c.requires.1,
    )
