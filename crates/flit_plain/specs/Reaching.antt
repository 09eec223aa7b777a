-- What a walk adds to the rows and the pairs that it has met.
use Rattle.std.specs.Prelude.{◌≡◌, ℕ, List, ◌++◌}
use Rattle.flit_plain.specs.declared.reached.Reached.{Reached}

pub record Adds (old new : Reached) (more_rows : List ℕ) (more_pairs : List (ℕ × ℕ)) : Type 0 where
  pub rows : new.rows.items ≡ old.rows.items ++ more_rows
  pub pairs : new.pairs.items ≡ old.pairs.items ++ more_pairs
