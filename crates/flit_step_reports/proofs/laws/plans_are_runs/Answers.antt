use Rattle.flit_sched.specs.Openings.{opened_run}
use Rattle.flit_histories.specs.TurnLaws.{events_by}
use Rattle.flit_histories.proofs.StopCounts.{left_led}
use Rattle.flit_turns.specs.Lines.{turn_lines}
use Rattle.flit_turns.proofs.LineLaws.{lines_follow}
use Rattle.flit_step_reports.specs.StepReports.{plan_of, picks_in}
use Rattle.flit_step_reports.proofs.PlanLaws.{plan_out, stop_kept}
use Rattle.flit_step_reports.proofs.laws.plans_are_runs.Goals as goal

pub returns : goal.returns
returns g c = λ s.
    let meaning = g.S.Structure.meaning s in
    record {
      runs = λ t start works given final h are f. record {
        works = works;
        are_works = are;
        follows = f;
        headline = c.runs_keep_headline.ensures s start works given final (picks_in t) h
            (lines_follow meaning (opened_run meaning start works) final (plan_of t) given f);
      };
      follow = λ t r final given f. lines_follow meaning r final (plan_of t) given f;
      out = λ t r final given worker f le. plan_out meaning (turn_lines t.turns) t.head.layout.workers r final given worker f le;
      stops = λ t r final given worker first p a b x d f le at now.
          stop_kept first.left (events_by worker given) p
          (left_led meaning r final given worker first p a b x d (lines_follow meaning r final (plan_of t) given f) at now)
          (plan_out meaning (turn_lines t.turns) t.head.layout.workers r final given worker f le x p d now);
    }
