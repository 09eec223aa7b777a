use Rattle.std.proofs.Common.{◌∙◌, ap, length}
use Rattle.flit_model.specs.Recovery.{layout_of}
use Rattle.flit_sched.proofs.ShapeLaws.{same_shape_recovery}
use Rattle.flit_step_runs.proofs.TellingLaws.{free_few}
use Rattle.flit_run_runs.proofs.telling.tell.Goals as goal

pub count_rows-free-requires : goal.count_rows-free-requires
count_rows-free-requires c =
    rw c.deref.ensures.value
    (free_few (layout_of c.args.image) c.args.image.words.items c.in_ok-found.found.keys.items c.in_ok-found.found.values.items
    c.in_ok-found.found.free.items c.in_ok-found.ensures.recovery)

pub returns-clause-found : goal.returns-clause-found
returns-clause-found c =
    let i = c.args.image in
    let found = c.in_ok-found.found in
    record {
      version = c.version_of.ensures;
      events = c.new.ensures.items;
      history = c.new-2.ensures.items;
      tallies = c.new-3.ensures.items;
      recovery = record {
        free = found.free.items;
        recovery = same_shape_recovery (layout_of i) c.args.layout.now i.words.items found.keys.items found.values.items found.free.items c.requires.shape
            c.in_ok-found.ensures.recovery;
        free_is = c.count_rows-free.ensures ∙ ap length c.deref.ensures.value;
      };
      pairs = λ m is. let p = c.in_ok-found.ensures.pairs m is in (p.keys, p.values);
    }
