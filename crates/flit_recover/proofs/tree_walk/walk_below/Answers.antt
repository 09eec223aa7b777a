use Rattle.std.proofs.Common.{◌<◌, sym, subst, arith}
use Rattle.std.proofs.lemmas.Result.{err_from_is_err_and}
use Rattle.std.proofs.lemmas.Grind.{common_steps}
use Rattle.flit_words.specs.Layouts.{last_row_of}
use Rattle.flit_recover.proofs.TreeSteps.{unreached, unreached_falls, state_apart, state_damaged, state_next, state_at_end}
use Rattle.flit_recover.proofs.tree_walk.walk_below.Goals as goal

pub returns-in_err-row-clause-damage : goal.returns-in_err-row-clause-damage
returns-in_err-row-clause-damage c =
    let p = err_from_is_err_and c.from_residual-in_err-row.result c.from_residual-in_err-row.ensures.1 in
    let found = state_damaged c.args.layout.now c.requires.accepted c.requires.kind c.args.words.now c.loop-at.reached.rows.items c.loop-at.pairs.items
    c.loop-at.stack.items c.pop.new.self.items c.in-Some.at c.in-Some.ensures.items c.loop-at.invariant.underway
    c.in_err-row.field-0.0 c.in_err-row.ensures.err
    in
    rw (p.1, p.2) (λ memory. found)

pub loop-at-smaller : goal.loop-at-smaller
loop-at-smaller c =
    let apart = state_apart c.args.layout.now c.requires.accepted c.requires.kind c.args.words.now c.loop-at.reached.rows.items c.loop-at.pairs.items
    c.loop-at.stack.items c.pop.new.self.items c.in-Some.at c.in-Some.ensures.items c.loop-at.invariant.underway
    c.in_ok-row.row c.in_ok-row.ensures.sound c.in_ok-row.ensures.row
    in
    let fewer = unreached_falls (last_row_of c.args.layout.now) c.loop-at.reached.rows.items c.in_ok-row.row c.in_ok-row.ensures.most apart in
    subst (λ rows. unreached (last_row_of c.args.layout.now) rows < unreached (last_row_of c.args.layout.now) c.loop-at.reached.rows.items)
    (sym c.in_ok-push-2.ensures.rows) fewer

pub loop-at-preserved : goal.loop-at-preserved
loop-at-preserved c =
    let w = c.loop-at.invariant.underway in
    record {
      marks = c.in_ok-push-2.ensures.marks;
      underway = state_next c.args.layout.now c.requires.accepted c.requires.kind c.args.words.now c.loop-at.reached.rows.items c.loop-at.pairs.items
          c.loop-at.stack.items c.pop.new.self.items c.in-Some.at c.in-Some.ensures.items w
          c.in_ok-row.row c.in_ok-row.ensures.sound c.in_ok-row.ensures.row c.go_on.new.pairs.items c.push-in-Some.new.self.rows.items c.go_on.new.stack.items
          c.in_ok-row.ensures.least c.in_ok-row.ensures.most c.in_ok-push-2.ensures.rows c.in_ok-go_on.ensures.ok;
    }

pub returns-clause-found : goal.returns-clause-found
returns-clause-found c = state_at_end c.args.layout.now c.requires.accepted c.requires.kind c.args.words.now c.loop-at.reached.rows.items c.loop-at.pairs.items
    c.loop-at.stack.items (grind (arith, common_steps)) c.loop-at.invariant.underway
