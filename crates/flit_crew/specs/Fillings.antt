-- The words that a PrivateStore fills: which they are, what they are to hold, and what they hold by how far it is.
use Rattle.std.specs.Prelude.{◌≡◌, ℕ, ◌+◌, ◌≤◌, List, [], ◌∷◌, ◌++◌, length, Contains}
use Rattle.flit_words.specs.declared.layouts.Layout.{Layout}
use Rattle.flit_words.specs.Words.{version_of, value_of}
use Rattle.flit_pv.specs.declared.queues.Noted.{Noted}
use Rattle.flit_pv.specs.Stores.{HeldStore}
use Rattle.flit_pv.specs.declared.stores.Storing.{Storing}
use Rattle.flit_pv.specs.declared.stores.Storing.TheVariants.{Reads, MakesRoom, Writes, Ended}
use Rattle.flit_pv.specs.declared.stores.Stored.{Stored}
use Rattle.flit_pv.specs.declared.stores.Stored.TheVariants.{Stored as All_stored, Worn}
use Rattle.flit_crew.specs.Heaps.{Heap, at_word, at_shadow, IsWordOf}

-- the words from the first on are to hold these values
pub record Filling : Type 0 where
  pub first : ℕ
  pub values : List ℕ

-- they hold them
abbrev pub HoldFrom : {G : Type 0} → Heap G → ℕ → List ℕ → Type 0
HoldFrom h word [] = Unit {0}
HoldFrom h word (v ∷ vs) = (value_of (at_word h word) ≡ v) × HoldFrom h (word + 1) vs

-- pairs of the words from this one on, with these values
abbrev pub ArePairs : ℕ → List ℕ → List Noted → Type 0
ArePairs word [] [] = Unit {0}
ArePairs word [] (n ∷ ns) = ⊥
ArePairs word (v ∷ vs) [] = ⊥
ArePairs word (v ∷ vs) (n ∷ ns) = (n.word ≡ word) × (value_of n.kept ≡ v) × ArePairs (word + 1) vs ns

-- a word is worn: its version is at the limit, and persistent
abbrev pub IsWornAt : {G : Type 0} → Layout → Heap G → ℕ → ℕ → Type 0
IsWornAt l h word version = (l.limit ≤ version) × (version ≤ version_of (at_shadow h word))

-- of the words loaded so far none was worn, and they are ready to be stored; or the first worn one is known
abbrev pub IsLoaded : {G : Type 0} → Layout → Heap G → Filling → List ℕ → Stored → List Noted → Type 0
IsLoaded l h f front All_stored ready = ArePairs f.first front ready
IsLoaded l h f front (Worn word version) ready = IsWornAt l h word version

-- its words are being loaded: some are, and this value's word comes next
pub record AreLoading {G : Type 0} (l : Layout) (h : Heap G) (f : Filling) (how : Stored) (m : HeldStore) : Type 0 where
  pub front : List ℕ
  pub value : ℕ
  pub rest : List ℕ
  pub to_load : m.drafts.values ≡ value ∷ rest
  pub parts : f.values ≡ front ++ value ∷ rest
  pub word : m.drafts.word ≡ f.first + length front
  pub loaded : IsLoaded l h f front how m.drafts.ready

-- its words are being stored: some hold their values, and these pairs are the others
pub record AreStoring {G : Type 0} (h : Heap G) (f : Filling) (pairs : List Noted) : Type 0 where
  pub done : List ℕ
  pub rest : List ℕ
  pub parts : f.values ≡ done ++ rest
  pub held : HoldFrom h f.first done
  pub to_store : ArePairs (f.first + length done) rest pairs

-- all hold their values, or one is worn
abbrev pub IsFilled : {G : Type 0} → Layout → Heap G → Filling → Stored → Type 0
IsFilled l h f All_stored = HoldFrom h f.first f.values
IsFilled l h f (Worn word version) = IsWornAt l h word version

abbrev pub FillsAt : {G : Type 0} → Layout → Heap G → Filling → Storing → HeldStore → Type 0
FillsAt l h f (Reads how) m = AreLoading l h f how m
FillsAt l h f (Writes next) m = AreStoring h f (next ∷ m.drafts.ready)
FillsAt l h f (MakesRoom next first) m = AreStoring h f (next ∷ m.drafts.ready)
FillsAt l h f (Ended how) m = IsFilled l h f how

-- a word of one of these rows
abbrev pub IsOfRows : Layout → List ℕ → ℕ → Type 0
IsOfRows l rows word = (row : ℕ) × Contains rows row × IsWordOf l row word
