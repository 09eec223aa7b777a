-- What a list or a hash table keeps besides the laws of a structure: that others may write rows beside its own; which rows
-- its exchanges link and mark, whose marks they are, and what a crash image shows of them.
use Rattle.std.specs.Prelude.{◌≡◌, ◌⊎◌, ℕ, ◌+◌, ◌==◌, ◌≤◌, ◌&&◌, Bool, true, false, List, ◌∷◌, ◌++◌, Option, Some, None, Contains, if◌then◌else◌}
use Rattle.flit_words.specs.declared.layouts.Layout.{Layout}
use Rattle.flit_words.specs.Layouts.{last_row_of}
use Rattle.flit_words.specs.Words.{is_tagged, value_of, version_of}
use Rattle.flit_words.specs.Links.{link_of}
use Rattle.flit_model.specs.States.{State, word_at, shadow_at}
use Rattle.flit_model.specs.Effects.{after}
use Rattle.flit_model.specs.Lists.{link_in, next_word, is_removed}
use Rattle.flit_model.specs.Settling.{Progress, taken_updates}
use Rattle.flit_model.specs.CrashImages.{crash_image, write_back}
use Rattle.flit_model.specs.declared.events.Event.{Event}
use Rattle.flit_model.specs.declared.events.Event.TheVariants.{Load, ReadTag, Raise, Lower, Exchange, Persist, Store, Draw}
use Rattle.flit_model.specs.declared.calls.Call.{Call}
use Rattle.flit_model.specs.declared.calls.Call.TheVariants.{Insert, Remove, Contains as Contains_call, Get}
use Rattle.flit_model.specs.declared.calls.Entry.{Entry}
use Rattle.flit_model.specs.declared.calls.Tally.{Tally}
use Rattle.flit_structure.specs.declared.workers.Doing.{Doing}
use Rattle.flit_structure.specs.declared.workers.Doing.TheVariants.{Idle, Busy, Evicting}
use Rattle.flit_structure.specs.declared.workers.Worker.{Worker}
use Rattle.flit_structure.specs.Moments.{Opening, Moment, IsAmong, update_of, busy, with_workers}
use Rattle.flit_structure.specs.Meanings.{Meaning, asked_by, Happens, hiring, reordering, beginning, finishing, evicting, evicted, making, writing_back}
use Rattle.flit_structure.specs.Lawful.{HoldsWith, is_insert}
use Rattle.flit_crew.specs.Heaps.{IsForeign, IsWordOf}
use Rattle.flit_list_heap.specs.Keeping.{IsReached}

-- a Store of the next version, untagged, to a word of a foreign row whose version is persistent
pub record MayStoreForeign (l : Layout) (o : Opening) (m : State) (row word to : ℕ) : Type 0 where
  pub foreign : IsForeign l o.free o row
  pub of : IsWordOf l row word
  pub persistent : version_of (word_at m word) ≡ version_of (shadow_at m word)
  pub untagged : is_tagged to ≡ false
  pub next : version_of to ≡ version_of (word_at m word) + 1

-- a row's next word is marked with this name
pub record IsMarkedBy (l : Layout) (words : List ℕ) (row name : ℕ) : Type 0 where
  pub mark : is_removed l words row ≡ true
  pub by : (link_in words (next_word l row)).by ≡ name

-- the links of an image lead to a row, or its next word is marked
abbrev pub IsShown : Layout → List ℕ → ℕ → Type 0
IsShown l image row = IsReached l image row ⊎ (is_removed l image row ≡ true)

-- an update is settled, or one that the image takes ahead
abbrev pub IsTaken : Progress → (ℕ → Bool) → Option Entry → Type 0
IsTaken p picks None = ⊥
IsTaken p picks (Some e) = Contains (p.settled ++ taken_updates p picks) e

-- one exactly where the other
pub record Exactly (A B : Type 0) : Type 0 where
  pub only : A → B
  pub always : B → A

-- the calls that link rows, and those of a name that mark them
abbrev pub is_remove : Call → Bool
is_remove (Insert k v) = false
is_remove (Remove k) = true
is_remove (Contains_call k) = false
is_remove (Get k) = false

abbrev pub links : ℕ → Call → Bool
links name call = is_insert call

abbrev pub marks_by : ℕ → ℕ → Call → Bool
marks_by who name call = (name == who) && is_remove call

-- an update where an event is an Exchange that is won
abbrev pub if_won : State → Event → Option Entry → Option Entry
if_won m (Exchange word from to) o = if word_at m word == from then o else None
if_won m (Load word) o = None
if_won m (ReadTag slot) o = None
if_won m (Raise slot) o = None
if_won m (Lower slot) o = None
if_won m (Persist word kept) o = None
if_won m (Store word to) o = None
if_won m Draw o = None

-- the first of two
abbrev pub or_first : Option Entry → Option Entry → Option Entry
or_first None later = later
or_first (Some e) later = Some e

module _ {Op : Type 0} (meaning : Meaning Op) where
  -- `holds` is kept; each call under way stays licensed and has as many events to go
  pub record GoesOn (M N : Moment Op) : Type 0 where
    pub holds : meaning.holds N
    pub licensed : (name number : ℕ) (op : Op) (call : Call) (begun : Option ℕ) (start : Tally) (made : ℕ) →
        IsAmong M.workers (busy name number op call begun) →
        meaning.licensed M op start made → meaning.licensed N op start made
    pub to_go : (name number : ℕ) (op : Op) (call : Call) (begun : Option ℕ) → IsAmong M.workers (busy name number op call begun) →
        meaning.to_go N.state op ≡ meaning.to_go M.state op

module _ {Op : Type 0} (meaning : Meaning Op) (row_of : Op → ℕ) where
  -- the update that such a call makes by the event that it asks, where by that it takes effect on this row
  abbrev pub update_in : (ℕ → Call → Bool) → ℕ → ℕ → ℕ → Doing Op → Option Entry
  update_in such row name number (Idle hand) = None
  update_in such row name number (Busy op call begun) =
      if meaning.effect op && (such name call && (row_of op == row)) then Some (update_of name number call) else None
  update_in such row name number (Evicting evict) = None

  abbrev pub update_on : (ℕ → Call → Bool) → ℕ → Worker Op → Option Entry
  update_on such row u = update_in such row u.name u.number u.doing

  -- the update that such a call makes on this row by what happens
  abbrev pub made_by : (ℕ → Call → Bool) → ℕ → (who : Option ℕ) (M N : Moment Op) → Happens meaning who M N → Option Entry
  made_by such row _ _ _ (hiring M name least most new) = None
  made_by such row _ _ _ (reordering M a x y b) = None
  made_by such row _ _ _ (beginning M a name number hand call b may) = None
  made_by such row _ _ _ (finishing M a name number op call begun reply b replied) = None
  made_by such row _ _ _ (evicting M a name number hand word b below) = None
  made_by such row _ _ _ (evicted M a name number evict b) = None
  made_by such row _ _ _ (making M a u b e asks) = if_won M.state e (update_on such row u)
  made_by such row _ _ _ (writing_back M word below) = None

  -- A moment since one at which the Exchange was asked by which such a call takes effect on this row; and the first update
  -- that such a call has made on it since.
  pub data Since (such : ℕ → Call → Bool) (row : ℕ) : Moment Op → Option Entry → Type 0 where
    asked : (M : Moment Op) (a : List (Worker Op)) (u : Worker Op) (b : List (Worker Op)) (x : Entry) → HoldsWith meaning M a u b →
        update_on such row u ≡ Some x → Since such row (with_workers M (a ++ u ∷ b)) None
    further : (who : Option ℕ) (M N : Moment Op) (o : Option Entry) → Since such row M o → (h : Happens meaning who M N) →
        Since such row N (or_first o (made_by such row who M N h))

  -- The laws. By row_of an operation tells the row that its Exchange links or marks.
  pub record MarkedLaws : Type 0 where
    -- others may store words of foreign rows, and write them back
    pub stored_foreign : (M : Moment Op) (row word to : ℕ) → meaning.holds M → MayStoreForeign meaning.layout M.opening M.state row word to →
        GoesOn meaning M (record M { state = after M.state (Store word to) })
    pub persisted_foreign : (M : Moment Op) (row word : ℕ) → meaning.holds M → IsForeign meaning.layout M.opening.free M.opening row →
        IsWordOf meaning.layout row word →
        GoesOn meaning M (record M { state = after M.state (write_back M.state word) })
    -- the Exchange by which an insert takes effect links the row, and that of a remove marks the row's next word, with values
    -- with the worker's name
    pub links_it : (M : Moment Op) (a : List (Worker Op)) (name number : ℕ) (op : Op) (call : Call) (begun : Option ℕ) (b : List (Worker Op))
        (word from to : ℕ) → meaning.effect op ≡ true → is_insert call ≡ true → meaning.asked op ≡ Some (Exchange word from to) →
        HoldsWith meaning M a (busy name number op call begun) b → (link_of (value_of to)).row ≡ row_of op
    pub marks_it : (M : Moment Op) (a : List (Worker Op)) (name number : ℕ) (op : Op) (call : Call) (begun : Option ℕ) (b : List (Worker Op))
        (word from to : ℕ) → meaning.effect op ≡ true → is_insert call ≡ false → meaning.asked op ≡ Some (Exchange word from to) →
        HoldsWith meaning M a (busy name number op call begun) b →
        (word ≡ next_word meaning.layout (row_of op)) × ((link_of (value_of to)).mark ≡ true)
        × (meaning.layout.values ≡ true → (link_of (value_of to)).by ≡ name)
    -- a mark with a name is written only by an Exchange by which a remove of the worker with that name takes effect
    pub named : (M : Moment Op) (a : List (Worker Op)) (u : Worker Op) (b : List (Worker Op)) (e : Event) (row name : ℕ) → meaning.layout.values ≡ true →
        asked_by meaning u ≡ Some e → HoldsWith meaning M a u b → 1 ≤ row → row ≤ last_row_of meaning.layout →
        (IsMarkedBy meaning.layout M.state.words row name → ⊥) → IsMarkedBy meaning.layout (after M.state e).words row name →
        (x : Entry) × (if_won M.state e (update_on (marks_by name) row u) ≡ Some x)
    -- since an insert's Exchange was asked that links a row, a crash image shows the row exactly where an insert has linked it
    -- whose update is settled or taken
    pub shown : (row : ℕ) (M : Moment Op) (o : Option Entry) (picks : ℕ → Bool) → Since links row M o →
        Exactly (IsShown meaning.layout (crash_image picks M.state) row) (IsTaken M.progress picks o)
    -- and since a remove's Exchange was asked that marks it, the row is marked with the remover's name exactly where a remove
    -- of that name has marked it whose update is settled or taken
    pub marked : (row name : ℕ) (M : Moment Op) (o : Option Entry) (picks : ℕ → Bool) → meaning.layout.values ≡ true → Since (marks_by name) row M o →
        Exactly (IsMarkedBy meaning.layout (crash_image picks M.state) row name) (IsTaken M.progress picks o)
