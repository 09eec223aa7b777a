use Rattle.flit_words.specs.Layouts.{words_of}
use Rattle.flit_sample_runs.proofs.OpenedRuns.{slots_fit}
use Rattle.flit_sample_runs.proofs.word_tests.opened.Goals as goal

pub open_words-requires-clause-slots : goal.open_words-requires-clause-slots
open_words-requires-clause-slots g c word below =
    slots_fit (g.P.Placement.place c.args.place) (g.P.Placement.slots_for c.args.place) (g.met.P.Placement.laws c.args.place)
    (words_of c.layout_of-layout.result) word below c.layout_of-layout.result.slots c.layout_of-layout.ensures.slots
