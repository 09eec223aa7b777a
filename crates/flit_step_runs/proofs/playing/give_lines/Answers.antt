use Rattle.std.proofs.Common.{ℕ, List, subst, ◌∙◌, ◌++◌, ◌∷◌, [], Some, append_assoc, sym, ap}
use Rattle.flit_turns.specs.Lines.{ShowsLine}
use Rattle.flit_step_runs.proofs.PlayLaws.{turn_line_more, named_worker, lines_long}
use Rattle.flit_step_runs.proofs.playing.give_lines.Goals as goal

pub give_turns-requires : goal.give_turns-requires
give_turns-requires g c =
    named_worker c.args.sched.now.run c.loop-worker.sched.run c.args.turns c.loop-worker.yielded c.next.new.self c.in-Some.worker c.in-Some.most
    (c.loop-worker.invariant.rest ∙ ap (λ (x : List (ℕ × ℕ)). c.loop-worker.yielded ++ x) c.in-Some.ensures.steps) c.loop-worker.invariant.long c.requires

pub loop-worker-preserved : goal.loop-worker-preserved
loop-worker-preserved g c =
    let meaning = g.S.Structure.meaning c.args.sched.now.structure in
    let line = subst (λ s. ShowsLine (g.S.Structure.meaning s) (record { worker = c.in-Some.worker; most = Some c.in-Some.most }) c.loop-worker.sched.run
    c.give_turns.new.sched.run c.loop-worker.events.kept c.loop-worker.events.shown.items c.give_turns.new.events.shown.items)
    c.loop-worker.invariant.structure c.in_ok-give_turns.ensures.line in
    let lines = turn_line_more meaning c.args.sched.now.run c.loop-worker.sched.run c.give_turns.new.sched.run c.loop-worker.yielded c.in-Some.worker
    c.in-Some.most c.args.events.now.kept c.loop-worker.events.kept c.args.events.now.shown.items c.loop-worker.events.shown.items
    c.give_turns.new.events.shown.items c.loop-worker.invariant.kept c.loop-worker.invariant.lines line in
    record {
      lines = lines;
      structure = c.in_ok-give_turns.ensures.structure ∙ c.loop-worker.invariant.structure;
      kept = c.in_ok-give_turns.ensures.kept ∙ c.loop-worker.invariant.kept;
      long = lines_long meaning c.args.sched.now.run c.give_turns.new.sched.run _ c.args.events.now.kept c.args.events.now.shown.items
          c.give_turns.new.events.shown.items lines;
      rest = c.loop-worker.invariant.rest ∙ ap (λ (x : List (ℕ × ℕ)). c.loop-worker.yielded ++ x) c.in-Some.ensures.steps
          ∙ sym (append_assoc c.loop-worker.yielded ((c.in-Some.worker, c.in-Some.most) ∷ []) c.next.new.self);
    }
