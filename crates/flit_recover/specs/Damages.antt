-- The first damage of an image.
use Rattle.std.specs.Prelude.{◌≡◌, ◌≢◌, ◌⊎◌, ℕ, ◌<◌, List, slice_index, true, false}
use Rattle.flit_words.specs.declared.layouts.Layout.{Layout}
use Rattle.flit_words.specs.declared.layouts.Kind.TheVariants.{Tree as Tree_kind}
use Rattle.flit_words.specs.Layouts.{words_of}
use Rattle.flit_words.specs.Words.{is_tagged}
pub use Rattle.flit_model.specs.Recovery.{IsRecovery}
use Rattle.flit_recover.specs.declared.found.Damage.{Damage}
use Rattle.flit_recover.specs.declared.found.Damage.TheVariants.{TagSet}
use Rattle.flit_recover.specs.ListWalks.{IsChainDamage}
use Rattle.flit_recover.specs.TreeWalks.{IsTreeDamage}

-- the least word with a tag
pub record IsTagDamage (l : Layout) (image : List ℕ) (d : Damage) : Type 0 where
  pub word : ℕ
  pub within : word < words_of l
  pub tagged : is_tagged (slice_index image word) ≡ true
  pub first : (w : ℕ) → w < word → is_tagged (slice_index image w) ≡ false
  pub is : d ≡ TagSet word

-- the first damage on the walk over an image without tags
abbrev pub IsWalkDamage : Layout → List ℕ → Damage → Type 0
IsWalkDamage l image d =
    ((l.kind ≢ Tree_kind) × IsChainDamage l image d) ⊎ ((l.kind ≡ Tree_kind) × IsTreeDamage l image d)

-- the first damage of an image
abbrev pub IsFirstDamage : Layout → List ℕ → Damage → Type 0
IsFirstDamage l image d =
    IsTagDamage l image d
    ⊎ (((w : ℕ) → w < words_of l → is_tagged (slice_index image w) ≡ false) × IsWalkDamage l image d)
