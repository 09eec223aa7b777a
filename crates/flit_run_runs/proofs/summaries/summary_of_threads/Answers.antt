use Rattle.std.proofs.Common.{map, flat_map, ap, length, refl, subst, arith}
use Rattle.flit_table.specs.Closing.{told_by}
use Rattle.flit_run_runs.specs.Summaries.{CountsOutcomes}
use Rattle.flit_run_runs.proofs.SummaryReports.{is_summary}
use Rattle.flit_run_runs.proofs.ToldReports.{image_told}
use Rattle.flit_run_runs.proofs.summaries.summary_of_threads.Goals as goal

pub counts_of_outcomes-counts-requires : goal.counts_of_outcomes-counts-requires
counts_of_outcomes-counts-requires g c =
    let few = c.in_ok-ran.ensures.few in
    let same = ap (λ xs. length (flat_map (λ os. os.items) xs)) c.as_slice.ensures.value in
    omega (arith, few, same)

pub count_lawful_keys-requires-clause-whole : goal.count_lawful_keys-requires-clause-whole
count_lawful_keys-requires-clause-whole g c =
    (image_told c.requires.can.0 c.args.running.origin.start.value (told_by c.in_ok-ran.ran.told) (map (λ os. os.items) c.in_ok-ran.ran.outcomes.items)
    (c.in_ok-ran.ensures.told c.requires.can.0 c.requires.can.1 c.requires.can.2) c.requires.can.0.head.layout c.in_ok-ran.ran.image refl
    c.in_ok-ran.ensures.image).whole

pub count_lawful_keys-requires-clause-lawful : goal.count_lawful_keys-requires-clause-lawful
count_lawful_keys-requires-clause-lawful g c =
    (image_told c.requires.can.0 c.args.running.origin.start.value (told_by c.in_ok-ran.ran.told) (map (λ os. os.items) c.in_ok-ran.ran.outcomes.items)
    (c.in_ok-ran.ensures.told c.requires.can.0 c.requires.can.1 c.requires.can.2) c.requires.can.0.head.layout c.in_ok-ran.ran.image refl
    c.in_ok-ran.ensures.image).map_is

pub returns : goal.returns
returns g c = λ t shows can.
    let has = c.in_ok-keys.ensures in
    is_summary t c.in_ok-ran.ran.outcomes.items has.keys has.values has.free c.args.running.origin.start.value (told_by c.in_ok-ran.ran.told)
    c.in_ok-ran.ran.image c.counts_of_outcomes-counts.result c.in_ok-keys.keys c.in_ok-text.text.items (c.in_ok-ran.ensures.told t shows can) can.plays.lines
    c.in_ok-ran.ensures.image has.recovery has.pairs
    (subst (λ xs. CountsOutcomes c.counts_of_outcomes-counts.result (flat_map (λ os. os.items) xs)) c.as_slice.ensures.value
    c.counts_of_outcomes-counts.ensures)
    has.count_is c.in_ok-text.ensures
