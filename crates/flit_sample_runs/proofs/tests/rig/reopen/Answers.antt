use Rattle.flit_words.specs.Layouts.{words_of}
use Rattle.flit_sample_runs.proofs.OpenedRuns.{slots_fit}
use Rattle.flit_sample_runs.proofs.tests.rig.reopen.Goals as goal

pub open_sample-requires-clause-slots : goal.open_sample-requires-clause-slots
open_sample-requires-clause-slots g c word below =
    slots_fit (g.P.Placement.place c.args.place) (g.P.Placement.slots_for c.args.place) (g.met.P.Placement.laws c.args.place) (words_of c.args.layout) word
    below c.args.layout.slots c.requires.slots
