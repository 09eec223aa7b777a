use Rattle.std.proofs.Common.{◌∙◌, ap, sym, subst, length}
use Rattle.flit_model.specs.CrashImages.{crash_image}
use Rattle.flit_model.specs.Recovery.{IsRecovery, layout_of}
use Rattle.flit_sched.specs.Views.{history_with, picks_of}
use Rattle.flit_step_reports.specs.StepReports.{version_of}
use Rattle.flit_trace.specs.declared.heads.Head.{Head}
use Rattle.flit_step_runs.proofs.TellingLaws.{picks_seen, free_few, run_long, whole_lawful, found_in}
use Rattle.flit_step_runs.proofs.telling.tell.Goals as goal

pub tallies_of-requires : goal.tallies_of-requires
tallies_of-requires g c =
    run_long (g.S.Structure.meaning c.args.sched.structure) c.args.trace.now c.args.sched.run c.requires
    ∙ sym (ap (λ (h : Head). h.layout.workers) c.head.ensures.is)

pub recover_lawful_owned-requires-clause-whole : goal.recover_lawful_owned-requires-clause-whole
recover_lawful_owned-requires-clause-whole g c =
    (whole_lawful (g.S.Structure.meaning c.args.sched.structure) c.args.trace.now c.args.sched.run c.ahead-ahead.result.now c.in_ok-image.image
    c.requires c.ahead-ahead.ensures c.in_ok-image.ensures.shape c.in_ok-image.ensures.words).0

pub recover_lawful_owned-requires-clause-lawful : goal.recover_lawful_owned-requires-clause-lawful
recover_lawful_owned-requires-clause-lawful g c =
    (whole_lawful (g.S.Structure.meaning c.args.sched.structure) c.args.trace.now c.args.sched.run c.ahead-ahead.result.now c.in_ok-image.image
    c.requires c.ahead-ahead.ensures c.in_ok-image.ensures.shape c.in_ok-image.ensures.words).1

pub count_rows-free-requires : goal.count_rows-free-requires
count_rows-free-requires g c =
    rw c.deref.ensures.value
    (free_few (layout_of c.in_ok-image.image) c.in_ok-image.image.words.items c.in_ok-found.found.keys.items c.in_ok-found.found.values.items
    c.in_ok-found.found.free.items c.in_ok-found.ensures.recovery)

pub returns-clause-tells : goal.returns-clause-tells
returns-clause-tells g c = λ t shows same.
    let meaning = g.S.Structure.meaning c.args.sched.structure in
    let r = c.args.sched.run in
    let image = c.in_ok-image.image in
    let keys = c.in_ok-found.found.keys.items in
    let values = c.in_ok-found.found.values.items in
    let free = c.in_ok-found.found.free.items in
    let picks = picks_seen c.ahead-ahead.result.now c.args.trace.now t c.ahead-ahead.ensures shows in
    record {
      version = c.version_of.ensures ∙ ap (λ (h : Head). version_of h.layout) (c.head.ensures.is ∙ shows.head);
      history = c.in_ok-history.ensures.is ∙ ap (λ f. history_with r f) picks;
      tallies = c.in_ok-tallies.ensures;
      recovered = record {
        free = free;
        recovery = subst (λ f. IsRecovery t.head.layout (crash_image f r.state) keys values free) picks
            (found_in meaning t.head.layout image (picks_of c.ahead-ahead.result.now) r keys values free same c.in_ok-image.ensures.shape
            c.in_ok-image.ensures.words c.in_ok-found.ensures.recovery);
        free_is = c.count_rows-free.ensures ∙ ap length c.deref.ensures.value;
      };
    }
