-- What the command `recover` does with the bytes of its source: a lawful image is recovered from its text, and its keys,
-- its values and its free rows are written.
use Rattle.std.specs.Prelude.{◌≡◌, ◌≢◌, ℕ, List}
use Rattle.flit_words.specs.declared.layouts.Layout.{Layout}
use Rattle.flit_words.specs.Layouts.{Accepted}
use Rattle.flit_model.specs.declared.found.Image.{Image}
use Rattle.flit_image.specs.declared.faults.ImageError.TheVariants.{NoMemory as No_text_memory}
use Rattle.flit_model.specs.Recovery.{layout_of}
use Rattle.flit_image.specs.ImageTexts.{IsImageText, IsImageFault}
use Rattle.flit_recover.specs.declared.found.Damage.{Damage as A_damage}
use Rattle.flit_recover.specs.declared.found.Damage.TheVariants.{NoMemory as No_walk_memory}
use Rattle.flit_recover.specs.Damages.{IsFirstDamage, IsRecovery}
use Rattle.flit_report.specs.Content.{recovery_lines}
use Rattle.flit_statuses.specs.declared.status.ImageFault.{ImageFault}
use Rattle.flit_statuses.specs.declared.status.ImageFault.TheVariants.{Text, Damage}
use Rattle.flit_statuses.specs.declared.status.Status.{Status}
use Rattle.flit_statuses.specs.declared.status.Status.TheVariants.{Done, Usage, BadTrace, Limit, BadImage, ReadFault, WriteFault, NoMemory}

-- this text tells what the words recover to
pub record IsRecoveryText (layout : Layout) (words text : List ℕ) : Type 0 where
  pub keys : List ℕ
  pub values : List ℕ
  pub free : List ℕ
  pub recovery : IsRecovery layout words keys values free
  pub text_is : text ≡ recovery_lines layout.values keys values free

-- the bytes are the text of a lawful image, and this text tells what it recovers to
pub record IsRecoveryOf (bytes text : List ℕ) : Type 0 where
  pub layout : Layout
  pub words : List ℕ
  pub accepted : Accepted layout
  pub image : IsImageText bytes layout words
  pub told : IsRecoveryText layout words text

-- the image is the one whose text the bytes are
abbrev pub IsImageIn : List ℕ → Image → Type 0
IsImageIn bytes image = IsImageText bytes (layout_of image) image.words.items

-- the bytes are the text of an image whose first damage this is
pub record HasDamage (bytes : List ℕ) (d : A_damage) : Type 0 where
  pub layout : Layout
  pub words : List ℕ
  pub accepted : Accepted layout
  pub image : IsImageText bytes layout words
  pub first : IsFirstDamage layout words d

-- why the bytes are no text of a lawful image
abbrev pub IsBadImage : List ℕ → ImageFault → Type 0
IsBadImage bytes (Text error) = (error ≢ No_text_memory) × IsImageFault bytes error
IsBadImage bytes (Damage d) = (d ≢ No_walk_memory) × HasDamage bytes d

-- why the bytes have no recovery: they are no text of a lawful image, or there was no memory
abbrev pub HasNoImage : List ℕ → Status → Type 0
HasNoImage bytes (BadImage fault) = IsBadImage bytes fault
HasNoImage bytes NoMemory = Unit {0}
HasNoImage bytes Done = ⊥
HasNoImage bytes Usage = ⊥
HasNoImage bytes (BadTrace line) = ⊥
HasNoImage bytes (Limit line limit) = ⊥
HasNoImage bytes ReadFault = ⊥
HasNoImage bytes WriteFault = ⊥

-- why the words have no recovery: this is their first damage, or there was no memory
abbrev pub HasNoRecovery : Layout → List ℕ → Status → Type 0
HasNoRecovery layout words (BadImage (Damage d)) = (d ≢ No_walk_memory) × IsFirstDamage layout words d
HasNoRecovery layout words (BadImage (Text error)) = ⊥
HasNoRecovery layout words NoMemory = Unit {0}
HasNoRecovery layout words Done = ⊥
HasNoRecovery layout words Usage = ⊥
HasNoRecovery layout words (BadTrace line) = ⊥
HasNoRecovery layout words (Limit line limit) = ⊥
HasNoRecovery layout words ReadFault = ⊥
HasNoRecovery layout words WriteFault = ⊥
