-- What is wanted of a trace is told of a run on a structure on which its works can be run.
use Rattle.std.proofs.Common.{◌≡◌, ℕ, Bool, true, false, List, sym, subst}
use Rattle.flit_model.specs.declared.found.Recovered.{Recovered}
use Rattle.flit_structure.specs.Meanings.{Meaning}
use Rattle.flit_table.specs.declared.told.Known.{Known}
use Rattle.flit_trace.specs.Contents.{Content}
use Rattle.flit_trace.specs.Grammar.{IsTrace}
use Rattle.flit_trace.specs.SeenTraces.{SeenTrace, Shows}
use Rattle.flit_run_reports.specs.RunReports.{IsRunText}
use Rattle.flit_structures.specs.Starts.{StartsSeen}
use Rattle.flit_run_structures.specs.Runs.{RunsSeen}
use Rattle.flit_run_structures.specs.Texts.{IsReportSeen, IsImageSeen, IsWantedSeen}
use Rattle.flit_run_structures.specs.declared.runs.Wanted.{Wanted}
use Rattle.flit_run_structures.specs.declared.runs.Wanted.TheVariants.{Report, Summary, Image}

module _ {Op : Type 0} (meaning : Meaning Op) (trace : SeenTrace) (start : Recovered) (runs : RunsSeen meaning start trace) (starts : StartsSeen trace start)
    (k : Known) (text : List ℕ) (wanted : Wanted) where
  report_text : (summary : Bool) → IsReportSeen meaning trace start summary k text → (bytes : List ℕ) (t : Content) → IsTrace bytes t → Shows trace t →
      IsRunText t summary k text
  report_text summary told bytes t reads shows =
      let r = told t shows (runs bytes t reads shows) in
      record { start = start; starts = starts bytes t reads shows; report = r.report; is = r.is; summary_is = r.summary_is; text_is = r.text_is }

  pub report_wanted : wanted ≡ Report → IsReportSeen meaning trace start false k text → IsWantedSeen wanted trace k text
  report_wanted is told =
      subst (λ (w : Wanted). IsWantedSeen w trace k text) (sym is) (report_text false told)

  pub summary_wanted : wanted ≡ Summary → IsReportSeen meaning trace start true k text → IsWantedSeen wanted trace k text
  summary_wanted is told =
      subst (λ (w : Wanted). IsWantedSeen w trace k text) (sym is) (report_text true told)

  pub image_wanted : wanted ≡ Image → IsImageSeen meaning trace start k text → IsWantedSeen wanted trace k text
  image_wanted is told =
      subst (λ (w : Wanted). IsWantedSeen w trace k text) (sym is)
      (λ bytes t reads shows.
      let r = told t shows (runs bytes t reads shows) in
      record { start = start; starts = starts bytes t reads shows; run = r.run; text_is = r.text_is })
