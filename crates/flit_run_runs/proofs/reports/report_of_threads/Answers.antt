use Rattle.std.proofs.Common.{◌∙◌, map, ap, sym, length}
use Rattle.std.proofs.lemmas.List.{length-map}
use Rattle.flit_report.specs.Report.{content_of}
use Rattle.flit_table.specs.Closing.{told_by}
use Rattle.flit_run_runs.proofs.ToldReports.{calls_as, image_told, report_told}
use Rattle.flit_run_runs.proofs.reports.report_of_threads.Goals as goal

pub lines_of_calls-requires : goal.lines_of_calls-requires
lines_of_calls-requires g c =
    ap length c.as_slice.ensures.value ∙ sym (length-map c.in_ok-ran.ran.outcomes.items (λ os. os.items))
    ∙ (c.in_ok-ran.ensures.told c.requires.can.0 c.requires.can.1 c.requires.can.2).each ∙ sym (ap (λ h. h.layout.workers) c.requires.can.1.head)

pub tell-requires : goal.tell-requires
tell-requires g c =
    image_told c.requires.can.0 c.args.running.origin.start.value (told_by c.in_ok-ran.ran.told) (map (λ os. os.items) c.in_ok-ran.ran.outcomes.items)
    (c.in_ok-ran.ensures.told c.requires.can.0 c.requires.can.1 c.requires.can.2) c.head.result.layout c.in_ok-ran.ran.image
    (ap (λ h. h.layout) (c.head.ensures.is ∙ c.requires.can.1.head)) c.in_ok-ran.ensures.image

pub returns-clause-report : goal.returns-clause-report
returns-clause-report g c = λ t shows can.
    let lines = c.in_ok-lines.lines.items in
    report_told t c.args.running.origin.start.value (told_by c.in_ok-ran.ran.told) (map (λ os. os.items) c.in_ok-ran.ran.outcomes.items)
    (c.in_ok-ran.ensures.told t shows can) lines
    (calls_as t c.as_slice.result.now c.in_ok-ran.ran.outcomes.items lines c.as_slice.ensures.value
    (c.in_ok-lines.ensures t shows can.plays.rising can.plays.lines))
    c.in_ok-ran.ran.image c.head.result.layout (content_of c.in_ok-report.report) can.plays.lines c.in_ok-ran.ensures.image
    (ap (λ h. h.layout) (c.head.ensures.is ∙ shows.head)) c.in_ok-report.ensures.lines c.in_ok-report.ensures.found
