use Rattle.std.proofs.Common.{◌+◌, ap, le_refl}
use Rattle.flit_table.specs.Passes.{is_stopped}
use Rattle.flit_table.proofs.PassLaws.{held_ended}
use Rattle.flit_table.proofs.running.Running.answer.Goals as goal

pub returns-in-Some-go_on-clause-pass : goal.returns-in-Some-go_on-clause-pass
returns-in-Some-go_on-clause-pass g c =
    let M = g.S.Structure.meaning c.args.self.now.origin.structure.value in
    let i = c.loop.invariant in
    let k = c.in-Some-go_on.ensures c.args.call c.args.pass.now.held i.0 i.1 in
    held_ended M c.args.self.now c.args.pass.now.held c.go_on.new.held c.requires.works.belongs c.requires.works.free c.go_on.new.start c.args.call
    (i.0 + c.in-Some-go_on.field-0-1) c.in-Some-go_on.reply k.1

pub returns-in-Some-go_on-clause-calls : goal.returns-in-Some-go_on-clause-calls
returns-in-Some-go_on-clause-calls g c =
    let i = c.loop.invariant in
    (c.in-Some-go_on.ensures c.args.call c.args.pass.now.held i.0 i.1).1.calls

pub returns-in-Some-go_on-clause-answered : goal.returns-in-Some-go_on-clause-answered
returns-in-Some-go_on-clause-answered g c =
    let i = c.loop.invariant in
    let k = c.in-Some-go_on.ensures c.args.call c.args.pass.now.held i.0 i.1 in
    let made = i.0 + c.in-Some-go_on.field-0-1 in
    (made, (le_refl made, ap is_stopped k.1.is, (k.1.op, k.1.at)))

pub loop-preserved : goal.loop-preserved
loop-preserved g c = let i = c.loop.invariant in (i.0 + _, c.in_default.ensures c.args.call c.args.pass.now.held i.0 i.1)
