use Rattle.flit_words.specs.Layouts.{words_of}
use Rattle.flit_sample_runs.proofs.OpenedRuns.{slots_fit}
use Rattle.flit_sample_threads.proofs.worker_tests.opened.Goals as goal

pub open_words-requires-clause-slots : goal.open_words-requires-clause-slots
open_words-requires-clause-slots g c word below =
    slots_fit (g.P.Placement.place c.args.place) (g.P.Placement.slots_for c.args.place) (g.met.P.Placement.laws c.args.place) (words_of c.args.layout.now) word
    below c.args.layout.now.slots c.requires.slots
