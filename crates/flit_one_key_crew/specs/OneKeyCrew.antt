-- A map of at most one key on the crew: what is kept true of its head and its row, what others' events leave, and what a
-- call knows, by how far it is.
use Rattle.std.specs.Prelude.{◌≡◌, ◌≢◌, ◌⊎◌, ℕ, zero, suc, ◌+◌, ◌<◌, ◌≤◌, Bool, true, false, not, List, [], ◌∷◌, ◌++◌, length, take, slice_index, Contains, if◌then◌else◌}
use Rattle.std.specs.FinMap as map_of
use Rattle.flit_words.specs.declared.limits.TheConstants.{GREATEST_KEY}
use Rattle.flit_words.specs.declared.layouts.Layout.{Layout}
use Rattle.flit_words.specs.Layouts.{words_of}
use Rattle.flit_words.specs.Words.{version_of, value_of, is_tagged}
use Rattle.flit_model.specs.Maps.{Map, reply_of, map_after_all}
use Rattle.flit_model.specs.Settling.{Progress}
use Rattle.flit_model.specs.Histories.{is_read_by, is_update_by}
use Rattle.flit_model.specs.declared.calls.Call.{Call}
use Rattle.flit_model.specs.declared.calls.Call.TheVariants.{Insert, Remove, Get}
use Rattle.flit_model.specs.declared.calls.Reply.{Reply}
use Rattle.flit_model.specs.declared.calls.Reply.TheVariants.{Yes}
use Rattle.flit_model.specs.declared.calls.Entry.{Entry}
use Rattle.flit_place.specs.Tags.{Place}
use Rattle.flit_pv.specs.declared.hands.Hand.{Hand}
use Rattle.flit_pv.specs.Exchanges.{HeldExchange}
use Rattle.flit_rows.specs.Shares.{rows_in}
use Rattle.flit_runs.specs.Worlds.{IsAway}
use Rattle.flit_runs.specs.Soundness.{Needs}
use Rattle.flit_structure.specs.Moments.{made}
use Rattle.flit_structure.specs.Meanings.{key_of, value_put}
use Rattle.flit_crew.specs.Machines.{Part, ToRead, HasRead as Part_has_read, ToWin, HasWon, HasWritten, HasLost, Other, load_part, v_load_part, exchange_part}
use Rattle.flit_crew.specs.Heaps.{Heap, at_word, at_shadow, IsForeign}
use Rattle.flit_crew.specs.Crews.{Crew, Who}
use Rattle.flit_crew.specs.Obligations.{Keeps}
use Rattle.flit_one_key.specs.Operations.{At, Head, Key, Value, Row, Words, RowValue, Link, Ends, Rests, HeldOp}
use Rattle.flit_one_key.specs.Steps.{IsSmall, key_word, value_word, to_row, links_none}
use Rattle.flit_one_key_crew.specs.OneKeyAnatomy.{one_key_anatomy}

-- the structure has no ghost of its own
abbrev pub Words_of : Type 0
Words_of = Heap (Unit {0})

-- ---- the head, the row and the updates

-- the map of a head that links the row or not, and the value of such a head
abbrev pub map_if : Bool → ℕ → ℕ → Map
map_if linked key value = if linked then map_of.insert map_of.empty key value else map_of.empty

abbrev pub link_to : Bool → ℕ
link_to linked = if linked then to_row else 0

-- whether the head links the row after so many updates: each links or unlinks it
abbrev pub linked_after : Bool → ℕ → Bool
linked_after before zero = before
linked_after before (suc n) = linked_after (not before) n

-- an update waits at the head, or none waits
abbrev pub MayWait : Progress → Type 0
MayWait p = (p.waiting ≡ map_of.empty) ⊎ ((e : Entry) × (p.waiting ≡ map_of.insert map_of.empty 0 e))

-- the row's key, its link and its value, as its words hold them
abbrev pub row_key : Layout → Words_of → ℕ
row_key l h = value_of (at_word h (key_word l))

abbrev pub row_link : Layout → Words_of → ℕ
row_link l h = value_of (at_word h (key_word l + 1))

abbrev pub row_value : Layout → Words_of → ℕ
row_value l h = if l.values then value_of (at_word h (value_word l)) else 0

-- whether the head linked the row at the opening, and its version then
abbrev pub linked_first : Words_of → Bool
linked_first h = not (links_none (slice_index h.opening.words 0))

abbrev pub version_first : Words_of → ℕ
version_first h = version_of (slice_index h.opening.words 0)

abbrev pub updates : Words_of → List Entry
updates h = made h.progress

-- the head as so many updates left it: each gave it the next version, and linked or unlinked the row
pub record IsLeft (version : ℕ) (linked : Bool) (raw many : ℕ) : Type 0 where
  pub counts : version_of raw ≡ version + many
  pub links : value_of raw ≡ link_to (linked_after linked many)

abbrev pub IsHead : Words_of → ℕ → ℕ → Type 0
IsHead h raw many = IsLeft (version_first h) (linked_first h) raw many

-- all updates from a head that links the row or not: an insert of this key and value, and then a remove. The row isn't
-- given twice
abbrev pub IsStory : (key value : ℕ) → Bool → List Entry → Type 0
IsStory key value linked [] = Unit {0}
IsStory key value true (d ∷ es) = (d.call ≡ Remove key) × (d.reply ≡ Yes) × (es ≡ [])
IsStory key value false (e ∷ es) = (e.call ≡ Insert key value) × (e.reply ≡ Yes) × IsStory key value true es

-- the head links the row, or has linked it
abbrev pub HasLinked : Words_of → Type 0
HasLinked h = (linked_first h ≡ true) ⊎ (1 ≤ length (updates h))

-- everybody may reach the row: where it is of the pool, it was linked; and it isn't foreign
abbrev pub IsOut : Layout → List ℕ → Words_of → Type 0
IsOut l free h = (Contains free 1 → Contains h.given 1) × (IsForeign l free h.opening 1 → ⊥)

-- what is kept true
pub record Kept (l : Layout) (free : List ℕ) (h : Words_of) : Type 0 where
  pub words : length h.words ≡ words_of l
  pub shadows : length h.shadows ≡ words_of l
  -- no shadow is tagged
  pub untagged : (w : ℕ) → w < words_of l → is_tagged (at_shadow h w) ≡ false
  pub bare : is_tagged (at_word h 0) ≡ false
  -- the head is as all updates left it, its shadow as the settled ones did, and the map is that of the row
  pub story : IsStory (row_key l h) (row_value l h) (linked_first h) (updates h)
  pub content : h.opening.content ≡ map_if (linked_first h) (row_key l h) (row_value l h)
  pub head : IsHead h (at_word h 0) (length (updates h))
  pub shadow : IsHead h (at_shadow h 0) (length h.progress.settled)
  pub waits : MayWait h.progress
  -- the pool has row 1 or none; once the head has linked the row, it is out, its key is one of a map, and its link leads
  -- nowhere; and the words of a row that is out are at rest
  pub pool : (free ≡ []) ⊎ (free ≡ 1 ∷ [])
  pub out : HasLinked h → IsOut l free h
  pub sealed : HasLinked h → (row_key l h ≤ GREATEST_KEY) × (row_link l h ≡ 0)
  pub rest : IsOut l free h → (w : ℕ) → w < words_of l → w ≢ 0 → at_word h w ≡ at_shadow h w

-- what an event leaves: further updates may be made, and a row that is out has its key and its value
pub record Later (l : Layout) (free : List ℕ) (h k : Words_of) : Type 0 where
  pub opening : k.opening ≡ h.opening
  pub grown : (more : List Entry) × (updates k ≡ updates h ++ more)
  pub key : IsOut l free h → row_key l k ≡ row_key l h
  pub value : IsOut l free h → row_value l k ≡ row_value l h

-- ---- what a call knows

-- of a word of the row that it loads: which word it is, and, once it is loaded, its value
abbrev pub WordKnows : ℕ → ℕ → Part → Type 0
WordKnows it value (ToRead word) = word ≡ it
WordKnows it value (Part_has_read word raw) = value_of raw ≡ value
WordKnows it value ToWin = ⊥
WordKnows it value HasWon = ⊥
WordKnows it value HasWritten = ⊥
WordKnows it value (HasLost found) = ⊥
WordKnows it value Other = ⊥

module _ (l : Layout) (h : Words_of) (me : Who) (call : Call) where
  -- none of its words is private
  abbrev pub IsBare : Type 0
  IsBare = (w : ℕ) → IsAway me.private w

  -- it has loaded the head, as so many updates left it, not before its first event, and depends on that
  pub record Saw (head : ℕ) : Type 0 where
    pub index : ℕ
    pub within : index ≤ length (updates h)
    pub left : IsHead h head index
    pub since : me.first ≤ index
    pub needed : Needs me.needs 0 (version_of head)

  -- a head that links the row, whose key is the call's
  pub record HasFound (head : ℕ) : Type 0 where
    pub saw : Saw head
    pub linked : links_none head ≡ false
    pub key : row_key l h ≡ key_of call

  -- its reply is right after so many updates, and it depends on these
  pub record IsRight (reply : Reply) : Type 0 where
    pub index : ℕ
    pub within : index ≤ length (updates h)
    pub since : me.first ≤ index
    pub needed : Needs me.needs 0 (version_first h + index)
    pub right : reply ≡ reply_of (map_after_all h.opening.content (take index (updates h))) call

  -- it has row 1 in its first spare place, and no other row
  pub record HasRow (hand : Hand) : Type 0 where
    pub rest : List ℕ
    pub first : hand.spare ≡ 1 ∷ rest
    pub none : rows_in rest ≡ []

  abbrev pub Inserts : Type 0
  Inserts = call ≡ Insert (key_of call) (value_put call)

  -- an insert with the row, over a head that links none
  pub record Inserting (head : ℕ) (hand : Hand) : Type 0 where
    pub saw : Saw head
    pub none : links_none head ≡ true
    pub insert : Inserts
    pub small : key_of call ≤ 4294967292
    pub row : HasRow hand

  -- the row's key and its link are stored
  pub record HasWords : Type 0 where
    pub key : row_key l h ≡ key_of call
    pub link : row_link l h ≡ 0

  -- the head is to be exchanged: for an insert to the link to its row, for a remove to the link to none
  pub record LinksRow (m : HeldExchange) : Type 0 where
    pub inserting : Inserting m.from m.hand
    pub words : HasWords
    pub value : row_value l h ≡ value_put call
    pub to : value_of m.to ≡ to_row

  pub record UnlinksRow (m : HeldExchange) : Type 0 where
    pub remove : call ≡ Remove (key_of call)
    pub found : HasFound m.from
    pub to : value_of m.to ≡ 0

  -- of the head, which it loads
  abbrev pub HeadKnows : Part → Type 0
  HeadKnows (ToRead word) = word ≡ 0
  HeadKnows (Part_has_read word raw) = Saw raw
  HeadKnows ToWin = ⊥
  HeadKnows HasWon = ⊥
  HeadKnows HasWritten = ⊥
  HeadKnows (HasLost found) = ⊥
  HeadKnows Other = ⊥

  -- what it knows of its exchange
  abbrev pub LinkKnows : HeldExchange → Part → Type 0
  LinkKnows m (ToRead word) = ⊥
  LinkKnows m (Part_has_read word raw) = ⊥
  LinkKnows m ToWin = LinksRow m ⊎ UnlinksRow m
  LinkKnows m HasWon = is_update_by call Yes ≡ true
  LinkKnows m HasWritten = is_update_by call Yes ≡ true
  LinkKnows m (HasLost found) = IsBare
  LinkKnows m Other = ⊥

  abbrev pub KnowsAt : Reply → At → Type 0
  KnowsAt reply (Head m) = IsBare × HeadKnows (load_part m.at m.word)
  KnowsAt reply (Key head m) = IsBare × Saw head × (links_none head ≡ false) × WordKnows (key_word l) (row_key l h) (v_load_part m.at m.word)
  KnowsAt reply (Value m) = ((head : ℕ) × HasFound head) × (l.values ≡ true) × (call ≡ Get (key_of call))
      × WordKnows (value_word l) (row_value l h) (v_load_part m.at m.word)
  KnowsAt reply (Row head m) = IsBare × Saw head × Inserts
  KnowsAt reply (Words head m) = Inserting head m.hand × IsAway me.private (value_word l)
  KnowsAt reply (RowValue head m) = Inserting head m.hand × HasWords × (l.values ≡ true)
  KnowsAt reply (Link m) = (m.word ≡ 0) × LinkKnows m (exchange_part m.at)
  KnowsAt reply (Ends m) = is_read_by call reply ≡ true → IsRight reply
  KnowsAt reply (Rests hand) = ⊥

-- ---- the structure

abbrev pub one_key_crew : Layout → List ℕ → Crew (Unit {0}) HeldOp
one_key_crew l free = record {
  anatomy = one_key_anatomy l free;
  kept = λ h. Kept l free h;
  later = λ who h k. Later l free h k;
  knows = λ h me op. KnowsAt l h me op.call op.reply op.at;
}

-- over each layout of one row, with each placement and each list of free rows, it meets what the crew asks
pub record OneKeyKeeps : Type 0 where
  pub keeps : (l : Layout) (p : Place) (free : List ℕ) → IsSmall l → Keeps (one_key_crew l free) l p free
