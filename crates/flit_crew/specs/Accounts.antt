-- The accounts of a moment: which worker has which row of the pool, and whose update each entry is.
use Rattle.std.specs.Prelude.{◌≡◌, ◌⊎◌, ℕ, ◌+◌, ◌*◌, ◌≤◌, true, List, [], ◌∷◌, length, drop, count_by, Some}
use Rattle.std.specs.List.{AllByRecursion}
use Rattle.flit_words.specs.declared.layouts.Layout.{Layout}
use Rattle.flit_words.specs.Layouts.{last_row_of}
use Rattle.flit_model.specs.Lists.{IsRisingFrom}
use Rattle.flit_model.specs.Histories.{is_update}
use Rattle.flit_model.specs.declared.calls.Call.{Call}
use Rattle.flit_model.specs.declared.calls.Entry.{Entry}
use Rattle.flit_model.specs.Settling.{Progress}
use Rattle.flit_rows.specs.Shares.{rows_in}
use Rattle.flit_rows.specs.Taking.{is_past}
use Rattle.flit_structure.specs.declared.workers.Doing.{Doing}
use Rattle.flit_structure.specs.declared.workers.Doing.TheVariants.{Idle, Busy, Evicting}
use Rattle.flit_structure.specs.declared.workers.Worker.{Worker}
use Rattle.flit_structure.specs.Moments.{made, update_of, numbers_of}
use Rattle.flit_structure.specs.Lawful.{StandsFrom, rows_needed, is_insert}
use Rattle.flit_crew.specs.Machines.{Deed, Fresh, Making, Made, MakesAt}
use Rattle.flit_crew.specs.Heaps.{Heap, at_word, waits_at, IsOpen, IsAhead}
use Rattle.flit_crew.specs.Rows.{IsDealt}
use Rattle.flit_crew.specs.Anatomies.{Anatomy, own_in, hand_at, deed}

-- the rows of the pool rise from 1 on, and are rows of the layout
pub record IsPool (l : Layout) (free : List ℕ) : Type 0 where
  pub rising : IsRisingFrom 1 free
  pub fit : AllByRecursion (λ row. row ≤ last_row_of l) free

-- how many of some updates are inserts
abbrev pub inserts_in : List Entry → ℕ
inserts_in es = count_by (λ e. is_insert e.call) es

-- one of some workers is such
abbrev pub IsAny : {X : Type 0} → (X → Type 0) → List X → Type 0
IsAny P [] = ⊥
IsAny P (u ∷ us) = P u ⊎ IsAny P us

-- a hand has as many spare places as an insert needs at least, and beyond these no row
abbrev pub AreTight : Layout → List ℕ → Type 0
AreTight l spare = (rows_needed l.kind ≤ length spare) × (rows_in (drop (rows_needed l.kind) spare) ≡ [])

-- ---- the updates

-- the call with this name and number has no update yet
abbrev pub IsUnmade : Progress → ℕ → ℕ → Type 0
IsUnmade q name number = AllByRecursion (λ e. e.worker ≡ name → e.number ≡ number → ⊥) (made q)

-- where a call's update is, by how far it is: nowhere; in the word that it has exchanged, or settled already, not before
-- the call's first event; or settled
abbrev pub HasUpdate : {G : Type 0} → Heap G → ℕ → ℕ → Call → ℕ → Deed → Type 0
HasUpdate h name number call first Fresh = IsUnmade h.progress name number
HasUpdate h name number call first (Making word to) =
    ((waits_at h word ≡ Some (update_of name number call)) × (at_word h word ≡ to)) ⊎ StandsFrom first h.progress.settled (update_of name number call)
HasUpdate h name number call first Made = StandsFrom first h.progress.settled (update_of name number call)

module _ {Op : Type 0} (A : Anatomy Op) where
  -- the entry that waits at a word is the update of a call whose exchange wrote that word
  abbrev pub Makes : ℕ → Entry → ℕ → ℕ → Doing Op → Type 0
  Makes word e name number (Idle hand) = ⊥
  Makes word e name number (Busy op call begun) = MakesAt (deed A op) word × (e ≡ update_of name number call)
  Makes word e name number (Evicting m) = ⊥

  abbrev pub IsMaker : ℕ → Entry → Worker Op → Type 0
  IsMaker word e u = Makes word e u.name u.number u.doing

  -- a worker has the name of an entry, and no lower number
  abbrev pub HasNumber : Entry → Worker Op → Type 0
  HasNumber e u = (u.name ≡ e.worker) × (e.number ≤ u.number)

  pub record History {G : Type 0} (l : Layout) (free : List ℕ) (h : Heap G) (us : List (Worker Op)) : Type 0 where
    pub updates : AllByRecursion (λ e. is_update e ≡ true) (made h.progress)
    pub rises : (name : ℕ) → IsRisingFrom 0 (numbers_of name (made h.progress))
    pub numbered : AllByRecursion (λ e. IsAny (HasNumber e) us) (made h.progress)
    -- what waits at a word waits where everybody may reach it, and the word is ahead
    pub waits : (word : ℕ) (e : Entry) → waits_at h word ≡ Some e → IsOpen l free h word × IsAhead h word × IsAny (IsMaker word e) us

  -- ---- the rows

  abbrev pub IsTight : Layout → Worker Op → Type 0
  IsTight l u = AreTight l (hand_at A u.doing).spare

  pub record Rows {G : Type 0} (l : Layout) (free : List ℕ) (counter : ℕ) (h : Heap G) (us : List (Worker Op)) : Type 0 where
    pub dealt : IsDealt (λ u. own_in A u.doing) free counter h.given us
    pub linked : length h.given ≡ rows_needed l.kind * inserts_in (made h.progress)
    -- the counter is past the end of the pool by no more than the number of tickets that are
    pub within : counter ≤ length free + count_by (λ u. is_past free (hand_at A u.doing).ticket) us
    pub past : AllByRecursion (λ u. length free ≤ (hand_at A u.doing).ticket → length free ≤ counter) us
    pub tight : AllByRecursion (IsTight l) us

  -- a worker goes on, and has the same rows, the same ticket and the same update
  pub record IsSteady {G : Type 0} (l : Layout) (h : Heap G) (u w : Worker Op) : Type 0 where
    pub own : own_in A w.doing ≡ own_in A u.doing
    pub ticket : (hand_at A w.doing).ticket ≡ (hand_at A u.doing).ticket
    pub tight : IsTight l u → IsTight l w
    pub makes : (word : ℕ) (e : Entry) → waits_at h word ≡ Some e → IsMaker word e u → IsMaker word e w
