-- The order of raw words.
use Rattle.std.specs.Prelude.{ℕ, ◌^◌, ◌<◌, ◌≤◌}
use Rattle.flit_words.specs.Words.{untagged, version_of}

-- of two untagged words the greater number has the later version or the same
abbrev pub LaterIsGreater : Type 0
LaterIsGreater =
    (v x w y : ℕ) → x < 2 ^ 32 → y < 2 ^ 32 → untagged v x ≤ untagged w y →
    version_of (untagged v x) ≤ version_of (untagged w y)
