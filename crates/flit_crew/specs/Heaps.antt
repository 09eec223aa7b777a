-- What a structure's predicates see of a moment. No tag bit, no slot and no row counter is in it, so that events which
-- touch only these leave it as it is.
use Rattle.std.specs.Prelude.{◌≡◌, ◌⊎◌, ℕ, ◌+◌, ◌<◌, ◌≤◌, true, false, length, List, ◌++◌, map, Option, slice_index, slice_set, Contains}
use Rattle.std.specs.FinMap as fin
use Rattle.flit_words.specs.declared.layouts.Layout.{Layout}
use Rattle.flit_words.specs.Layouts.{words_of, row_word_of, value_word_of, parts_of}
use Rattle.flit_words.specs.Words.{bare_of, is_tagged, version_of}
use Rattle.flit_model.specs.Images.{Recovers}
use Rattle.flit_model.specs.Settling.{Progress, settles, takes_effect}
use Rattle.flit_model.specs.declared.calls.Entry.{Entry}
use Rattle.flit_runs.specs.Workings.{Dependency}
use Rattle.flit_runs.specs.Soundness.{Needs}
use Rattle.flit_structure.specs.Moments.{Opening, Moment}

-- `ghost` is the structure's own, as the list's settled rows
pub record Heap (G : Type 0) : Type 0 where
  pub opening : Opening
  -- the words without their tag bits, and the shadows
  pub words : List ℕ
  pub shadows : List ℕ
  -- the updates that are settled, and those that wait
  pub progress : Progress
  -- the rows that inserts have linked since the opening
  pub given : List ℕ
  pub ghost : G

module _ {G : Type 0} where
  abbrev pub at_word : Heap G → ℕ → ℕ
  at_word h w = slice_index h.words w

  abbrev pub at_shadow : Heap G → ℕ → ℕ
  at_shadow h w = slice_index h.shadows w

  abbrev pub waits_at : Heap G → ℕ → Option Entry
  waits_at h w = fin.get h.progress.waiting w

  abbrev pub heap_of : {Op : Type 0} → Moment Op → List ℕ → G → Heap G
  heap_of M given ghost = record {
    opening = M.opening;
    words = map bare_of M.state.words;
    shadows = M.state.shadows;
    progress = M.progress;
    given = given;
    ghost = ghost;
  }

  -- a private word is stored
  abbrev pub stored : Heap G → ℕ → ℕ → Heap G
  stored h w to = record h { words = slice_set h.words w to }

  -- a word is written back, with what it holds: the update that waits there is settled
  abbrev pub written : Heap G → ℕ → G → Heap G
  written h w ghost = record h { shadows = slice_set h.shadows w (at_word h w); progress = settles h.progress w (waits_at h w); ghost = ghost }

  -- a word is written back at which nothing waits
  abbrev pub raised : Heap G → ℕ → Heap G
  raised h w = record h { shadows = slice_set h.shadows w (at_word h w) }

  -- a word is exchanged, perhaps with effect, and perhaps some rows are linked
  abbrev pub won : Heap G → ℕ → ℕ → Option Entry → List ℕ → G → Heap G
  won h w to effect rows ghost = record h {
    words = slice_set h.words w to;
    progress = takes_effect h.progress w effect;
    given = rows ++ h.given;
    ghost =
        ghost;
  }

-- a word has the version after its shadow's
abbrev pub IsAhead : {G : Type 0} → Heap G → ℕ → Type 0
IsAhead h w = version_of (at_word h w) ≡ version_of (at_shadow h w) + 1

-- the versions that somebody depends on aren't past those of the words
abbrev pub AreOld : {G : Type 0} → Heap G → List Dependency → Type 0
AreOld h needs = (w v : ℕ) → Needs needs w v → v ≤ version_of (at_word h w)

-- the words of a row
abbrev pub IsWordOf : Layout → ℕ → ℕ → Type 0
IsWordOf l row w = ((part : ℕ) × (part < parts_of l.kind) × (w ≡ row_word_of l row part)) ⊎ ((l.values ≡ true) × (w ≡ value_word_of l row))

-- a row that no link of the start image leads to, and that isn't of the pool: others than the structure may write it
pub record IsForeign (l : Layout) (free : List ℕ) (o : Opening) (row : ℕ) : Type 0 where
  pub rows : List ℕ
  pub recovers : Recovers l o.words o.content rows
  pub unreached : Contains rows row
  pub outside : Contains free row → ⊥

-- a word that everybody may reach: where it is a word of a row of the pool, that row was linked; and it is of no foreign row
pub record IsOpen {G : Type 0} (l : Layout) (free : List ℕ) (h : Heap G) (w : ℕ) : Type 0 where
  pub within : w < words_of l
  pub given : (row : ℕ) → Contains free row → IsWordOf l row w → Contains h.given row
  pub ours : (row : ℕ) → IsForeign l free h.opening row → IsWordOf l row w → ⊥

-- a word that nobody may reach but, perhaps, one
abbrev pub IsHidden : {G : Type 0} → Layout → List ℕ → Heap G → ℕ → Type 0
IsHidden l free h w = IsOpen l free h w → ⊥

-- the words of some rows hold what they held
abbrev pub HaveStayed : {G : Type 0} → Layout → Heap G → Heap G → List ℕ → Type 0
HaveStayed l h k rows = (row w : ℕ) → Contains rows row → IsWordOf l row w → at_word k w ≡ at_word h w

-- a word of a row of the pool that isn't linked
pub record IsShut {G : Type 0} (l : Layout) (free : List ℕ) (h : Heap G) (w : ℕ) : Type 0 where
  pub row : ℕ
  pub pool : Contains free row
  pub word : IsWordOf l row w
  pub unlinked : Contains h.given row → ⊥

-- a word of one of these rows, and it isn't linked
pub record IsMine {G : Type 0} (l : Layout) (free : List ℕ) (h : Heap G) (rows : List ℕ) (w : ℕ) : Type 0 where
  pub shut : IsShut l free h w
  pub own : Contains rows shut.row

-- two heaps differ in words and shadows that nobody may reach; and no shadow is tagged
pub record AreAlike {G : Type 0} (l : Layout) (free : List ℕ) (h k : Heap G) : Type 0 where
  pub opening : k.opening ≡ h.opening
  pub progress : k.progress ≡ h.progress
  pub given : k.given ≡ h.given
  pub ghost : k.ghost ≡ h.ghost
  pub words : (w : ℕ) → IsOpen l free h w → at_word k w ≡ at_word h w
  pub shadows : (w : ℕ) → IsOpen l free h w → at_shadow k w ≡ at_shadow h w
  pub number : length k.words ≡ length h.words
  pub shadows_number : length k.shadows ≡ length h.shadows
  pub untagged : (w : ℕ) → w < length k.shadows → is_tagged (at_shadow k w) ≡ false

-- rows of the pool that aren't linked, and each of their words is its shadow
pub record AreResting {G : Type 0} (l : Layout) (free : List ℕ) (h : Heap G) (rows : List ℕ) : Type 0 where
  pub pool : (row : ℕ) → Contains rows row → Contains free row
  pub unlinked : (row : ℕ) → Contains rows row → Contains h.given row → ⊥
  pub words : (row w : ℕ) → Contains rows row → IsWordOf l row w → at_word h w ≡ at_shadow h w
