-- The rows that a walk reached, and one mark for each row.
use Rattle.std.specs.Prelude.{◌≡◌, ℕ, suc, ◌≤◌, Bool, false, List, length, slice_index_or}
use Rattle.flit_recover.specs.ListWalks.{stands_in}

-- a mark for each row up to the last, which says whether the row is one of these
pub record AreMarks (last : ℕ) (marks : List Bool) (rows : List ℕ) : Type 0 where
  pub long : length marks ≡ suc last
  pub each : (row : ℕ) → row ≤ last → slice_index_or marks row false ≡ stands_in rows row
