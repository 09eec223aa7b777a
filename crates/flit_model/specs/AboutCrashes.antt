-- What a crash takes, said of each state.
use Rattle.std.specs.Prelude.{◌≡◌, ℕ, ◌==◌, ◌++◌, List, map, slice_index, Bool, false}
use Rattle.std.specs.List.{AllByRecursion, list_any}
use Rattle.flit_words.specs.Words.{is_tagged}
use Rattle.flit_model.specs.States.{State, shadow_at}
use Rattle.flit_model.specs.Effects.{after_all}
use Rattle.flit_model.specs.Lists.{IsRisingFrom}
use Rattle.flit_model.specs.Settling.{Progress, taken_updates, progress_after_all}
use Rattle.flit_model.specs.CrashImages.{crash_image, IsAheadAt, write_back}

-- a crash image is the shadows after write-backs of just the words that it takes
abbrev pub ImageByWriteBacks : Type 0
ImageByWriteBacks =
    (m : State) (words : List ℕ) → AllByRecursion (IsAheadAt m) words →
    crash_image (λ w. list_any (λ v. v == w) words) m
    ≡ (after_all m (map (write_back m) words)).shadows

-- such write-backs settle just the updates that wait there, in the order of the words
abbrev pub SettledByWriteBacks : Type 0
SettledByWriteBacks =
    (p : Progress) (m : State) (words : List ℕ) → IsRisingFrom 0 words →
    AllByRecursion (IsAheadAt m) words →
    (progress_after_all p m (map (write_back m) words)).settled
    ≡ p.settled ++ taken_updates p (λ w. list_any (λ v. v == w) words)

-- no word of a crash image has a tag, where no shadow has one
abbrev pub ImagesUntagged : Type 0
ImagesUntagged =
    (m : State) (picks : ℕ → Bool) (w : ℕ) → is_tagged (shadow_at m w) ≡ false →
    is_tagged (slice_index (crash_image picks m) w) ≡ false
