-- The sample that a run is opened with, and how many items each worker of a run has.
use Rattle.std.specs.Prelude.{◌≡◌, ℕ, List, length, map}
use Rattle.flit_words.specs.declared.layouts.Layout.{Layout}
use Rattle.flit_sample.specs.declared.samples.Sample.{Sample}
use Rattle.flit_sched.specs.Runs.{Run}

-- the sample of this layout, this placement and these rows
pub record IsSampleOf {P : Type 0} (s : Sample P) (l : Layout) (place_at : P) (rows : List ℕ) : Type 0 where
  pub layout : s.layout ≡ l
  pub place : s.place ≡ place_at
  pub pool : s.pool ≡ rows

abbrev pub counts_of : {Op : Type 0} → Run Op → List ℕ
counts_of r = map (λ p. length p.items) r.parts
