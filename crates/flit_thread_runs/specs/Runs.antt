-- What is promised of Works that ran on threads and of the recovery behind them.
use Rattle.std.specs.Prelude.{List, ◌++◌}
use Rattle.flit_model.specs.Maps.{map_after_all}
use Rattle.flit_model.specs.declared.calls.Outcome.{Outcome}
use Rattle.flit_model.specs.declared.calls.Work.{Work}
use Rattle.flit_model.specs.declared.found.Recovered.{Recovered}
use Rattle.flit_structure.specs.Meanings.{Meaning}
use Rattle.flit_lawful_images.specs.Maps.{HasPairsOf}
use Rattle.flit_table.specs.declared.told.Known.{Known}
use Rattle.flit_table.specs.declared.views.Origin.{Origin}
use Rattle.flit_table.specs.Views.{content_of}
use Rattle.flit_thread_histories.specs.Promises.{history_told, KeepsPromises}

-- what is told keeps all promises, and recovery has found the map after its history, with the updates that the image takes
pub record HasRecovered {S Op : Type 0} (meaning : Meaning Op) (o : Origin S) (works : List Work) (outcomes : List (List Outcome)) (t : Known)
    (found : Recovered) : Type 0 where
  pub told : KeepsPromises meaning o works outcomes t
  pub pairs : HasPairsOf (map_after_all (content_of o) (history_told t ++ told.taken)) found
