use Rattle.std.proofs.Common.{map}
use Rattle.flit_table.specs.Steps.{meaning_of}
use Rattle.flit_run_runs.proofs.CountedOutcomes.{few_outcomes}
use Rattle.flit_run_runs.proofs.Opened.{right_works, told_of_trace}
use Rattle.flit_run_runs.proofs.running.run_trace.Goals as goal

pub run_told-requires-clause-works : goal.run_told-requires-clause-works
run_told-requires-clause-works g c κs within =
    let can = c.requires.can in
    right_works (meaning_of g.S.Structure.meaning c.args.running).layout c.args.works.items
    (can.2.plays.starts c.args.works.items (c.requires.are_works can.0 can.1)).right

pub returns-clause-told : goal.returns-clause-told
returns-clause-told g c = λ t shows can.
    told_of_trace g.S.Structure.meaning c.args.running t c.args.works.items (map (λ os. os.items) c.in_ok-ran.ran.outcomes.items) _
    c.promises_tell_traces.ensures can (c.requires.are_works t shows) c.in_ok-ran.ensures.ahead c.in_ok-ran.ensures.told

pub returns-clause-few : goal.returns-clause-few
returns-clause-few g c =
    let t = c.requires.can.0 in
    let can = c.requires.can.2 in
    let works = c.args.works.items in
    let are = c.requires.are_works t c.requires.can.1 in
    few_outcomes t c.args.running.origin.start.value _ c.in_ok-ran.ran.outcomes.items
    (told_of_trace g.S.Structure.meaning c.args.running t works (map (λ os. os.items) c.in_ok-ran.ran.outcomes.items) _ c.promises_tell_traces.ensures can are
    c.in_ok-ran.ensures.ahead c.in_ok-ran.ensures.told) works are (can.plays.starts works are).right.most
