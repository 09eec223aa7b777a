-- What a call of a list or a hash table knows, by where it is. It speaks of the heap, of what its worker depends on and has
-- seen, and of its machine's aim and part: no tag, no slot, no queue.
use Rattle.std.specs.Prelude.{◌≡◌, ◌≢◌, ℕ, ◌<◌, ◌≤◌, Bool, true, false, [], ◌∷◌, Option, Some, None, ◌⊎◌, length, if◌then◌else◌}
use Rattle.flit_words.specs.declared.layouts.Layout.{Layout}
use Rattle.flit_words.specs.declared.limits.TheConstants.{MOST_WORKERS}
use Rattle.flit_words.specs.Layouts.{row_word_of, value_word_of, head_of_key}
use Rattle.flit_words.specs.Links.{link_value}
use Rattle.flit_words.specs.Words.{is_tagged, bare_of, version_of, value_of}
use Rattle.flit_model.specs.Maps.{key_of}
use Rattle.flit_model.specs.Lists.{key_in, row_value_in, next_word}
use Rattle.flit_model.specs.declared.calls.Call.{Call}
use Rattle.flit_model.specs.declared.calls.Call.TheVariants.{Insert, Remove, Contains, Get as Get_call}
use Rattle.flit_model.specs.declared.calls.Reply.{Reply}
use Rattle.flit_model.specs.declared.calls.Reply.TheVariants.{Yes, No, Found, Full, Worn}
use Rattle.flit_pv.specs.declared.v_loads.VLoading.{VLoading}
use Rattle.flit_pv.specs.declared.v_loads.VLoading.TheVariants.{Reads as V_reads, Has as V_has}
use Rattle.flit_pv.specs.VLoads.{HeldVLoad}
use Rattle.flit_pv.specs.Exchanges.{HeldExchange}
use Rattle.flit_pv.specs.Stores.{HeldStore}
use Rattle.flit_rows.specs.Shares.{rows_in}
use Rattle.flit_runs.specs.Worlds.{HasSeen, IsAway}
use Rattle.flit_runs.specs.Soundness.{Needs}
use Rattle.flit_structure.specs.Meanings.{value_put}
use Rattle.flit_structure.specs.Lawful.{is_insert}
use Rattle.flit_crew.specs.Heaps.{at_word, IsWordOf}
use Rattle.flit_crew.specs.Machines.{Part, ToRead, HasRead, ToWin, HasWon, HasWritten, HasLost, Other, exchange_part}
use Rattle.flit_crew.specs.Crews.{Who}
use Rattle.flit_list_heap.specs.Links.{LinkWord, Head as Head_word, Next as Next_word, place_of, link_held, row_of, is_marked}
use Rattle.flit_list_heap.specs.Chained.{IsPast}
use Rattle.flit_list_heap.specs.Moves.{plain_link, marked_link}
use Rattle.flit_list_heap.specs.Keeping.{ListHeap, IsLinked, rows_at, word_in, shadow_in}
use Rattle.flit_list_heap.specs.Seeing.{Saw, IsBehind, Spot, SawNext, Had, Gone, Here, IsNotMine}
use Rattle.flit_list_laws.specs.Walks.{Loaded, Walk, pair_if, Goal, Helps, Finds, Passes}

-- a link that was just loaded
abbrev pub unsure : LinkWord → ℕ → Loaded
unsure word raw = record { word = word; raw = raw; sure = false }

-- the row to which a search's link leads
abbrev pub row_after : Walk → ℕ
row_after w = row_of (bare_of w.link.raw)

module _ (l : Layout) (me : Who) where
  -- nothing is private
  abbrev pub IsAlone : Type 0
  IsAlone = (v : ℕ) → IsAway me.private v

  -- a confirmed link is depended on; another one was seen with its tag
  abbrev pub IsHeldSo : Bool → ℕ → ℕ → Type 0
  IsHeldSo true w raw = Needs me.needs w (version_of raw)
  IsHeldSo false w raw = HasSeen me.seen w raw

  abbrev pub IsHeld : Loaded → Type 0
  IsHeld p = IsHeldSo p.sure (place_of l p.word) p.raw

  abbrev pub IsBackHeld : Option Loaded → Type 0
  IsBackHeld None = Unit {0}
  IsBackHeld (Some p) = IsHeld p

  abbrev pub IsBackSure : Option Loaded → Type 0
  IsBackSure None = Unit {0}
  IsBackSure (Some p) = p.sure ≡ true

module _ (l : Layout) (h : ListHeap) (me : Who) where
  pub record IsFact (p : Loaded) : Type 0 where
    pub saw : Saw l h (key_of me.call) p.word (bare_of p.raw)
    pub held : IsHeld l me p

  -- a search stands there; and all its links are confirmed
  pub record Stands (w : Walk) : Type 0 where
    pub spot : Spot l h (key_of me.call) (pair_if w.back) w.link.word (bare_of w.link.raw)
    pub back : IsBackHeld l me w.back
    pub link : IsHeld l me w.link

  pub record StandsSure (w : Walk) : Type 0 where
    pub stands : Stands w
    pub back : IsBackSure l me w.back
    pub link : w.link.sure ≡ true

  -- the next link of the row behind, with a mark or without
  pub record HasNext (w : Walk) (n : Loaded) (marked : Bool) : Type 0 where
    pub next : SawNext l h (key_of me.call) (bare_of w.link.raw) (bare_of n.raw) marked
    pub word : n.word ≡ Next_word (row_after w)
    pub held : IsHeld l me n

  -- if the link passes over the key, this was absent; the row's key is still to be looked at; or the link passes over it
  abbrev pub IsGone : Loaded → Type 0
  IsGone p = Gone l h me.first (key_of me.call) p.word (bare_of p.raw)

  pub record IsRow (r : ℕ) : Type 0 where
    pub here : Here l h me.first (key_of me.call) r
    pub mine : IsNotMine l h me.name r

  abbrev pub IsPassed : Walk → Type 0
  IsPassed w = IsPast (rows_at l h) (key_of me.call) (row_after w)

  -- ---- the search

  abbrev pub HeadRead : VLoading → Type 0
  HeadRead V_reads = Unit {0}
  HeadRead (V_has raw) =
      let p = unsure (Head_word (head_of_key l (key_of me.call))) raw in IsFact p × IsGone p

  pub record KnowsHead (m : HeldVLoad) : Type 0 where
    pub alone : IsAlone l me
    pub word : m.word ≡ head_of_key l (key_of me.call)
    pub read : HeadRead m.at

  abbrev pub NextRead : ℕ → VLoading → Type 0
  NextRead r V_reads = Unit {0}
  NextRead r (V_has raw) =
      let p = unsure (Next_word r) raw in IsFact p × (is_marked (bare_of raw) ≡ false → IsGone p × IsRow r)

  pub record KnowsNext (w : Walk) (m : HeldVLoad) : Type 0 where
    pub alone : IsAlone l me
    pub stands : Stands w
    pub some : 1 ≤ row_after w
    pub gone : IsGone w.link
    pub word : m.word ≡ next_word l (row_after w)
    pub read : NextRead (row_after w) m.at

  abbrev pub WordRead : ℕ → VLoading → Type 0
  WordRead word V_reads = Unit {0}
  WordRead word (V_has raw) = bare_of raw ≡ at_word h word

  pub record KnowsKey (w : Walk) (n : Loaded) (m : HeldVLoad) : Type 0 where
    pub alone : IsAlone l me
    pub stands : Stands w
    pub next : HasNext w n false
    pub unsure : n.sure ≡ false
    pub gone : IsGone w.link
    pub behind : IsGone n
    pub row : IsRow (row_after w)
    pub word : m.word ≡ row_word_of l (row_after w) 0
    pub read : WordRead (row_word_of l (row_after w) 0) m.at

  abbrev pub HasGoal : Walk → Goal → Type 0
  HasGoal w (Helps n) = HasNext w n true
  HasGoal w (Finds n) = HasNext w n false × (key_in l h.words (row_after w) ≡ key_of me.call) × IsRow (row_after w)
  HasGoal w Passes = IsPassed w × IsGone w.link

  -- ---- exchanges: each one's aim, and what its new word is once it is won

  pub record AimsAt (y : LinkWord) (from : ℕ) (m : HeldExchange) : Type 0 where
    pub word : m.word ≡ place_of l y
    pub from_is : m.from ≡ from

  pub record Helps_to (w : Walk) (n : Loaded) (m : HeldExchange) : Type 0 where
    pub sure : StandsSure w
    pub next : HasNext w n true
    pub next_sure : n.sure ≡ true
    pub aim : AimsAt w.link.word w.link.raw m
    pub to : link_held m.to ≡ plain_link (row_of (bare_of n.raw))

  pub record Helped (w : Walk) (m : HeldExchange) : Type 0 where
    pub word : m.word ≡ place_of l w.link.word
    pub behind : IsBehind l h (key_of me.call) (pair_if w.back) w.link.word
    pub back : IsBackHeld l me w.back
    pub back_sure : IsBackSure l me w.back
    pub saw : Saw l h (key_of me.call) w.link.word m.to
    pub needs : Needs me.needs (place_of l w.link.word) (version_of m.to)
    pub bare : is_tagged m.to ≡ false
    pub unmarked : is_marked m.to ≡ false
    pub gone : Gone l h me.first (key_of me.call) w.link.word m.to
    pub linked : IsLinked l h (row_after w)
    pub further : (row_of m.to ≡ 0) ⊎ (IsLinked l h (row_of m.to) × (key_in l h.words (row_after w) < key_in l h.words (row_of m.to)))

  -- the link leads nowhere, or to a linked row
  abbrev pub LeadsOn : Walk → Type 0
  LeadsOn w = (row_after w ≡ 0) ⊎ IsLinked l h (row_after w)

  abbrev pub HelpAt : Walk → Loaded → HeldExchange → Part → Type 0
  HelpAt w n m (ToRead word) = Unit {0}
  HelpAt w n m (HasRead word raw) = Unit {0}
  HelpAt w n m ToWin = Helps_to w n m
  HelpAt w n m HasWon = Helped w m
  HelpAt w n m HasWritten = Helped w m
  HelpAt w n m (HasLost found) = LeadsOn w
  HelpAt w n m Other = Unit {0}

  pub record Links_to (w : Walk) (m : HeldExchange) : Type 0 where
    pub sure : StandsSure w
    pub passed : IsPassed w
    pub insert : is_insert me.call ≡ true
    pub row : ℕ
    pub own : rows_in m.hand.spare ≡ row ∷ []
    pub key : value_of (at_word h (row_word_of l row 0)) ≡ key_of me.call
    pub next : value_of (at_word h (next_word l row)) ≡ link_value (plain_link (row_after w))
    pub value : l.values ≡ true → value_of (at_word h (value_word_of l row)) ≡ value_put me.call
    pub aim : AimsAt w.link.word w.link.raw m
    pub to : link_held m.to ≡ plain_link row

  abbrev pub LinkAt : Walk → HeldExchange → Part → Type 0
  LinkAt w m (ToRead word) = Unit {0}
  LinkAt w m (HasRead word raw) = Unit {0}
  LinkAt w m ToWin = Links_to w m
  LinkAt w m HasWon = Unit {0}
  LinkAt w m HasWritten = Unit {0}
  LinkAt w m (HasLost found) = Unit {0}
  LinkAt w m Other = Unit {0}

  pub record Marks_to (w : Walk) (n : Loaded) (m : HeldExchange) : Type 0 where
    pub sure : StandsSure w
    pub next : HasNext w n false
    pub next_sure : n.sure ≡ true
    pub key : key_in l h.words (row_after w) ≡ key_of me.call
    pub mine : IsNotMine l h me.name (row_after w)
    pub named : me.name ≤ MOST_WORKERS
    pub aim : AimsAt (Next_word (row_after w)) n.raw m
    pub to : link_held m.to ≡ marked_link (row_of (bare_of n.raw)) (if l.values then me.name else 0)

  pub record Marked (w : Walk) (n : Loaded) (m : HeldExchange) : Type 0 where
    pub sure : StandsSure w
    pub word : m.word ≡ next_word l (row_after w)
    pub some : 1 ≤ row_after w
    pub linked : IsLinked l h (row_after w)
    pub is : m.to ≡ word_in l h (Next_word (row_after w))
    pub marked : is_marked m.to ≡ true
    pub same : row_of m.to ≡ row_of (bare_of n.raw)

  abbrev pub MarkAt : Walk → Loaded → HeldExchange → Part → Type 0
  MarkAt w n m (ToRead word) = Unit {0}
  MarkAt w n m (HasRead word raw) = Unit {0}
  MarkAt w n m ToWin = Marks_to w n m
  MarkAt w n m HasWon = Marked w n m
  MarkAt w n m HasWritten = Marked w n m × (shadow_in l h (Next_word (row_after w)) ≡ m.to)
  MarkAt w n m (HasLost found) = Unit {0}
  MarkAt w n m Other = Unit {0}

  -- the row's mark is persistent
  pub record Tidies_to (w : Walk) (n : Loaded) (m : HeldExchange) : Type 0 where
    pub sure : StandsSure w
    pub some : 1 ≤ row_after w
    pub linked : IsLinked l h (row_after w)
    pub is : word_in l h (Next_word (row_after w)) ≡ shadow_in l h (Next_word (row_after w))
    pub marked : is_marked (shadow_in l h (Next_word (row_after w))) ≡ true
    pub leads : row_of (shadow_in l h (Next_word (row_after w))) ≡ row_of (bare_of n.raw)
    pub aim : AimsAt w.link.word w.link.raw m
    pub to : link_held m.to ≡ plain_link (row_of (bare_of n.raw))

  abbrev pub TidyAt : Walk → Loaded → HeldExchange → Part → Type 0
  TidyAt w n m (ToRead word) = Unit {0}
  TidyAt w n m (HasRead word raw) = Unit {0}
  TidyAt w n m ToWin = Tidies_to w n m
  TidyAt w n m HasWon = Unit {0}
  TidyAt w n m HasWritten = Unit {0}
  TidyAt w n m (HasLost found) = Unit {0}
  TidyAt w n m Other = Unit {0}

  -- ---- an insert's own row

  pub record KnowsTake (w : Walk) : Type 0 where
    pub alone : IsAlone l me
    pub sure : StandsSure w
    pub passed : IsPassed w
    pub insert : is_insert me.call ≡ true

  pub record KnowsWords (w : Walk) (m : HeldStore) : Type 0 where
    pub sure : StandsSure w
    pub passed : IsPassed w
    pub insert : is_insert me.call ≡ true
    pub row : ℕ
    pub own : rows_in m.hand.spare ≡ row ∷ []
    pub private : (v : ℕ) → v ≢ row_word_of l row 0 → v ≢ next_word l row → IsAway me.private v

  pub record KnowsValue (w : Walk) (m : HeldStore) : Type 0 where
    pub sure : StandsSure w
    pub passed : IsPassed w
    pub insert : is_insert me.call ≡ true
    pub valued : l.values ≡ true
    pub row : ℕ
    pub own : rows_in m.hand.spare ≡ row ∷ []
    pub key : value_of (at_word h (row_word_of l row 0)) ≡ key_of me.call
    pub next : value_of (at_word h (next_word l row)) ≡ link_value (plain_link (row_after w))
    pub private : (v : ℕ) → (IsWordOf l row v → ⊥) → IsAway me.private v

  -- ---- a found row

  pub record HasFound (w : Walk) : Type 0 where
    pub fact : IsFact w.link
    pub sure : w.link.sure ≡ true
    pub some : 1 ≤ row_after w
    pub key : key_in l h.words (row_after w) ≡ key_of me.call
    pub here : Here l h me.first (key_of me.call) (row_after w)

  pub record KnowsGet (w : Walk) (m : HeldVLoad) : Type 0 where
    pub sure : StandsSure w
    pub valued : l.values ≡ true
    pub found : HasFound w
    pub word : m.word ≡ value_word_of l (row_after w)
    pub read : WordRead (value_word_of l (row_after w)) m.at

  -- ---- a reply: that of a call that found the key, or found that it was absent

  abbrev pub SaysNo : Bool → Walk → Type 0
  SaysNo true w = HasFound w
  SaysNo false w = Had h me.first (key_of me.call) None

  abbrev pub SaysYes : Call → Walk → Type 0
  SaysYes (Insert k v) w = Unit {0}
  SaysYes (Remove k) w = Unit {0}
  SaysYes (Contains k) w = HasFound w
  SaysYes (Get_call k) w = Unit {0}

  abbrev pub Says : Reply → Walk → Type 0
  Says Yes w = SaysYes me.call w
  Says No w = SaysNo (is_insert me.call) w
  Says (Found value) w = HasFound w × (value ≡ row_value_in l h.words (row_after w))
  Says (Full ticket) w = Unit {0}
  Says (Worn word version) w = Unit {0}
