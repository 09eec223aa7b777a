-- What was put behind the bytes of a text.
use Rattle.std.specs.Prelude.{◌≡◌, ℕ, List, [], ◌∷◌, ◌++◌, String, string_bytes}
use Rattle.std.specs.Global.{Global}

abbrev pub Appends : String Global → String Global → List ℕ → Type 0
Appends old new text = string_bytes new ≡ string_bytes old ++ text

-- a line, with its end
abbrev pub AppendsLine : String Global → String Global → List ℕ → Type 0
AppendsLine old new line = Appends old new (line ++ 10 ∷ [])
