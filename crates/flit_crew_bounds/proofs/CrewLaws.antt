-- All laws of a structure, for a crew that keeps what it promises, its counts and its bounds.
use Rattle.std.proofs.Common.{◌≡◌, ℕ, List, Option}
use Rattle.flit_words.specs.declared.layouts.Layout.{Layout}
use Rattle.flit_place.specs.Tags.{Place}
use Rattle.flit_structure.specs.Moments.{Opening}
use Rattle.flit_structure.specs.Lawful.{Lawful, Wrappable}
use Rattle.flit_crew.specs.Crews.{Crew}
use Rattle.flit_crew.specs.Obligations.{Keeps, OpensSo}
use Rattle.flit_crew.proofs.Lawfulness.{crew_lawful}
use Rattle.flit_crew_bounds.specs.Counting.{KeepsCounts}
use Rattle.flit_crew_bounds.specs.Bounding.{Limits, KeepsLimits}
use Rattle.flit_crew_bounds.specs.BoundedMeanings.{bounds_by, bounded_meaning}
use Rattle.flit_crew_bounds.proofs.Limited.{bounds_kept, besides_kept, wraps}

module _ {G Op : Type 0} (c : Crew G Op) (l : Layout) (p : Place) (free : List ℕ) (limits : Limits Op) (keeps : Keeps c l p free)
    (counts : KeepsCounts c p free) (bounds : KeepsLimits c l p free limits) where
  pub bounded_lawful : ((o : Opening) → limits.opens o → OpensSo c l p free o) → Lawful (bounded_meaning c l p free limits)
  bounded_lawful opens = crew_lawful c l p free (bounds_by c l p free limits) keeps (record {
    opens = opens;
    first = λ o may. tt;
    lasts = λ who M N happening h within. besides_kept c l p free limits keeps counts bounds who M N happening within;
  }) (bounds_kept c l p free limits keeps counts bounds)

  pub bounded_wrappable : Wrappable (bounded_meaning c l p free limits)
  bounded_wrappable = wraps c l p free limits keeps counts bounds
