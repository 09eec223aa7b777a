-- The words named by ahead lines.
use Rattle.std.specs.Prelude.{◌≡◌, ◌≢◌, ℕ, Bool, true, false, List, []}
use Rattle.flit_model.specs.declared.calls.Ahead.{Ahead}
use Rattle.flit_model.specs.declared.calls.Ahead.TheVariants as ahead

-- none, all, or these
abbrev pub Names : Ahead → Bool → List ℕ → Type 0
Names ahead.None all words = (all ≡ false) × (words ≡ [])
Names ahead.All all words = (all ≡ true) × (words ≡ [])
Names (ahead.Words v) all words = (all ≡ false) × (words ≢ []) × (v.items ≡ words)
