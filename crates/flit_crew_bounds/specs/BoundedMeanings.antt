-- The bounds of a crew, as its meaning takes them: how many events an operation has to go, and what is licensed; and what
-- holds of a moment besides, that no hand's counts are past their top.
use Rattle.std.specs.Prelude.{ℕ, ◌+◌, List}
use Rattle.flit_words.specs.declared.layouts.Layout.{Layout}
use Rattle.flit_place.specs.Tags.{Place}
use Rattle.flit_structure.specs.Meanings.{Meaning}
use Rattle.flit_crew.specs.Crews.{Crew}
use Rattle.flit_crew.specs.CrewMeanings.{Bounds, crew_meaning}
use Rattle.flit_crew_bounds.specs.Left.{machine_left}
use Rattle.flit_crew_bounds.specs.Counting.{AreCounting}
use Rattle.flit_crew_bounds.specs.Bounding.{Limits, IsLicensed}

module _ {G Op : Type 0} (c : Crew G Op) (l : Layout) (p : Place) (free : List ℕ) (limits : Limits Op) where
  abbrev pub bounds_by : Bounds Op
  bounds_by = record {
    opens = limits.opens;
    to_go = λ s op. machine_left (c.anatomy.machine op) + limits.behind s.words op;
    bound = limits.bound;
    licensed = λ M op start made. IsLicensed c l p free limits M op start made;
    besides = λ M. AreCounting c.anatomy M.workers;
  }

  -- the meaning of a crew with its limits
  abbrev pub bounded_meaning : Meaning Op
  bounded_meaning = crew_meaning c l p free bounds_by
