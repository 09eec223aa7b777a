-- What is proved of the heap of a list or a hash table.
use Rattle.std.specs.Prelude.{◌≡◌, ◌≢◌, ℕ, ◌≤◌, Bool, true, false, List, [], ◌∷◌, length, map, Option, Some, None, if◌then◌else◌}
use Rattle.flit_words.specs.declared.layouts.Layout.{Layout}
use Rattle.flit_words.specs.declared.layouts.Kind.TheVariants.{Tree as Tree_kind}
use Rattle.flit_words.specs.Layouts.{Accepted, head_of_key}
use Rattle.flit_words.specs.declared.limits.TheConstants.{GREATEST_KEY, MOST_WORKERS}
use Rattle.flit_words.specs.Links.{link_value}
use Rattle.flit_words.specs.Words.{bare_of, value_of}
use Rattle.flit_model.specs.declared.calls.Call.TheVariants.{Insert, Remove}
use Rattle.flit_model.specs.declared.calls.Reply.TheVariants.{Yes}
use Rattle.flit_model.specs.Lists.{key_in, row_value_in, next_word}
use Rattle.flit_model.specs.Settling.{nothing_made}
use Rattle.flit_model.specs.declared.calls.Entry.{Entry}
use Rattle.flit_structure.specs.Moments.{Opening}
use Rattle.flit_structure.specs.Lawful.{IsRecoverable, IsOpening}
use Rattle.flit_crew.specs.Heaps.{at_word, written, won, IsOpen, IsAhead, AreAlike, AreResting}
use Rattle.flit_list_heap.specs.Links.{LinkWord, Next, place_of, bucket_of, link_held, row_of, is_marked}
use Rattle.flit_list_heap.specs.Chained.{IsRooted, IsPast}
use Rattle.flit_list_heap.specs.Moves.{plain_link, marked_link}
use Rattle.flit_list_heap.specs.Keeping.{ListHeap, IsLinked, IsLinkAt, rows_at, word_in, shadow_in, Kept, Later}
use Rattle.flit_list_heap.specs.Winning.{MayMark, MayUnlink, MayLink}
use Rattle.flit_list_heap.specs.Seeing.{Saw, IsPersistentAt, IsBackPersistent, IsBehind, Spot, SawNext, Had, Gone, Here, IsNotMine, StillHolds, StandsStill}

-- ---- what is kept

-- while nothing changes others may rely on it, whoever does nothing
abbrev pub NothingIsRelied : Type 0
NothingIsRelied = (l : Layout) (h : ListHeap) (who : Option ℕ) → Later l who h h

-- a write-back of a word that everybody may reach and that is ahead
abbrev pub WriteBacksKeep : Type 0
WriteBacksKeep = (l : Layout) (free : List ℕ) (h : ListHeap) (w : ℕ) → Kept l free h → IsOpen l free h w → IsAhead h w →
    (ghost : ℕ → Bool) × Kept l free (written h w ghost) × Later l None h (written h w ghost)

-- words that nobody else may reach, and their shadows, change nothing
abbrev pub ShutWordsKeep : Type 0
ShutWordsKeep = (l : Layout) (free : List ℕ) (h k : ListHeap) (who : Option ℕ) → Kept l free h → AreAlike l free h k → Kept l free k × Later l who h k

-- the shadows are a lawful image, with the map after the settled updates, which are legal
abbrev pub ShadowsRecover : Type 0
ShadowsRecover = (l : Layout) (free : List ℕ) (h : ListHeap) → Kept l free h → IsRecoverable l h.opening.content h.shadows h.progress.settled

-- the heap of an opening: the words of its image, all persistent, and nothing made
abbrev pub heap_opened : Opening → (ℕ → Bool) → ListHeap
heap_opened o ghost = record { opening = o; words = map bare_of o.words; shadows = o.words; progress = nothing_made; given = []; ghost = ghost }

-- every lawful opening is kept, whatever marks, names and versions its image has
abbrev pub OpeningsAreKept : Type 0
OpeningsAreKept = (l : Layout) (o : Opening) → Accepted l → l.kind ≢ Tree_kind → IsOpening l o → (ghost : ℕ → Bool) × Kept l o.free (heap_opened o ghost)

-- ---- the three exchanges

abbrev pub MarksKeep : Type 0
MarksKeep = (l : Layout) (free : List ℕ) (h : ListHeap) (row from to : ℕ) (update : Entry) → Kept l free h → MayMark l h row from to update →
    Kept l free (won h (next_word l row) to (Some update) [] h.ghost)
    × Later l (Some update.worker) h (won h (next_word l row) to (Some update) [] h.ghost)

abbrev pub UnlinksKeep : Type 0
UnlinksKeep = (l : Layout) (free : List ℕ) (h : ListHeap) (who : Option ℕ) (y : LinkWord) (from to : ℕ) → Kept l free h → MayUnlink l h y from to →
    Kept l free (won h (place_of l y) to None [] h.ghost) × Later l who h (won h (place_of l y) to None [] h.ghost)

abbrev pub LinksKeep : Type 0
LinksKeep = (l : Layout) (free : List ℕ) (h : ListHeap) (who : Option ℕ) (y : LinkWord) (from to row : ℕ) (update : Entry) → Kept l free h →
    MayLink l free h y from to row update →
    Kept l free (won h (place_of l y) to (Some update) (row ∷ []) h.ghost)
    × Later l who h (won h (place_of l y) to (Some update) (row ∷ []) h.ghost)

-- ---- everybody may reach the link words

abbrev pub LinkWordsAreOpen : Type 0
LinkWordsAreOpen = (l : Layout) (free : List ℕ) (h : ListHeap) (x : LinkWord) → Kept l free h → IsLinkAt l h x → IsOpen l free h (place_of l x)

-- ---- what was seen lasts while others change the heap

abbrev pub SawLasts : Type 0
SawLasts = (l : Layout) (free : List ℕ) (who : Option ℕ) (h k : ListHeap) (key : ℕ) (x : LinkWord) (u : ℕ) → Later l who h k → Kept l free k →
    Saw l h key x u → Saw l k key x u

abbrev pub SpotLasts : Type 0
SpotLasts = (l : Layout) (free : List ℕ) (who : Option ℕ) (h k : ListHeap) (key : ℕ) (back : Option (LinkWord × ℕ)) (pred : LinkWord) (c : ℕ) →
    Later l who h k → Kept l free k → Spot l h key back pred c → Spot l k key back pred c

abbrev pub NextLasts : Type 0
NextLasts = (l : Layout) (free : List ℕ) (who : Option ℕ) (h k : ListHeap) (key c n : ℕ) (marked : Bool) → Later l who h k → Kept l free k →
    SawNext l h key c n marked → SawNext l k key c n marked

abbrev pub HadLasts : Type 0
HadLasts = (l : Layout) (who : Option ℕ) (h k : ListHeap) (first key : ℕ) (o : Option ℕ) → Later l who h k → Had h first key o → Had k first key o

abbrev pub GoneLasts : Type 0
GoneLasts = (l : Layout) (who : Option ℕ) (h k : ListHeap) (first key : ℕ) (x : LinkWord) (u : ℕ) → Later l who h k → Saw l h key x u →
    Gone l h first key x u → Gone l k first key x u

abbrev pub HereLasts : Type 0
HereLasts = (l : Layout) (who : Option ℕ) (h k : ListHeap) (first key r : ℕ) → Later l who h k → first ≤ length h.progress.settled → IsLinked l h r →
    Here l h first key r → Here l k first key r

abbrev pub NotMineLasts : Type 0
NotMineLasts = (l : Layout) (who : Option ℕ) (h k : ListHeap) (name r : ℕ) → Later l who h k → who ≢ Some name → IsLinked l h r → IsNotMine l h name r →
    IsNotMine l k name r

-- ---- what a load of a link word of the key's bucket gives

abbrev pub LoadsSee : Type 0
LoadsSee = (l : Layout) (free : List ℕ) (h : ListHeap) (key : ℕ) (x : LinkWord) → Kept l free h → IsLinkAt l h x →
    bucket_of (rows_at l h) x ≡ head_of_key l key → Saw l h key x (word_in l h x)

-- a link that isn't marked and passes over the key: the key is absent now
abbrev pub GapsAreSeen : Type 0
GapsAreSeen = (l : Layout) (free : List ℕ) (h : ListHeap) (first key : ℕ) (x : LinkWord) → Kept l free h → first ≤ length h.progress.settled →
    IsLinkAt l h x → bucket_of (rows_at l h) x ≡ head_of_key l key → is_marked (word_in l h x) ≡ false → Gone l h first key x (word_in l h x)

-- the row of a link word that isn't marked: if it is settled, the map has its key with its value now
abbrev pub RowsAreSeen : Type 0
RowsAreSeen = (l : Layout) (free : List ℕ) (h : ListHeap) (first key r : ℕ) → Kept l free h → first ≤ length h.progress.settled →
    is_marked (word_in l h (Next r)) ≡ false → Here l h first key r

-- ---- what is persistent of what was seen

-- where the word still holds it, the word is at rest; and a persistent mark is in the shadow
abbrev pub PersistentRests : Type 0
PersistentRests = (l : Layout) (free : List ℕ) (h : ListHeap) (key : ℕ) (x : LinkWord) (u : ℕ) → Kept l free h → Saw l h key x u → IsPersistentAt l h x u →
    word_in l h x ≡ u → shadow_in l h x ≡ u

abbrev pub PersistentMarks : Type 0
PersistentMarks = (l : Layout) (free : List ℕ) (h : ListHeap) (key : ℕ) (x : LinkWord) (u : ℕ) → Kept l free h → Saw l h key x u → IsPersistentAt l h x u →
    is_marked u ≡ true → shadow_in l h x ≡ u

-- a persistent link leads to a settled row
abbrev pub PersistentLeads : Type 0
PersistentLeads = (l : Layout) (free : List ℕ) (h : ListHeap) (key : ℕ) (x : LinkWord) (u : ℕ) → Kept l free h → Saw l h key x u → IsPersistentAt l h x u →
    1 ≤ row_of u → h.ghost (row_of u) ≡ true

-- so the word behind which the key belongs is a head or the next word of a settled row
abbrev pub SpotsAreRooted : Type 0
SpotsAreRooted = (l : Layout) (free : List ℕ) (h : ListHeap) (key : ℕ) (back : Option (LinkWord × ℕ)) (pred : LinkWord) → Kept l free h →
    IsBehind l h key back pred → IsBackPersistent l h back → IsRooted h.ghost pred

-- ---- so what an operation knows of the words makes its exchange one of the three

-- a search that has come upon a marked row unlinks it
abbrev pub SearchesUnlink : Type 0
SearchesUnlink = (l : Layout) (free : List ℕ) (h : ListHeap) (key : ℕ) (back : Option (LinkWord × ℕ)) (pred : LinkWord) (c n to : ℕ) → Kept l free h →
    StandsStill l h key back pred c → StillHolds l h pred c to → SawNext l h key c n true → IsPersistentAt l h (Next (row_of c)) n →
    link_held to ≡ plain_link (row_of n) → MayUnlink l h pred c to

-- a remove that has found the key's row marks it, with its name
abbrev pub RemovesMark : Type 0
RemovesMark = (l : Layout) (free : List ℕ) (h : ListHeap) (key : ℕ) (back : Option (LinkWord × ℕ)) (pred : LinkWord) (c n to : ℕ) (update : Entry) →
    Kept l free h → StandsStill l h key back pred c → IsPersistentAt l h pred c → SawNext l h key c n false → StillHolds l h (Next (row_of c)) n to →
    key_in l h.words (row_of c) ≡ key → update.call ≡ Remove key → update.reply ≡ Yes → update.worker ≤ MOST_WORKERS →
    link_held to ≡ marked_link (row_of n) (if l.values then update.worker else 0) → MayMark l h (row_of c) n to update

-- an insert that has found that the key is absent links its own row, which holds the key, the value and the link that was
-- seen
abbrev pub InsertsLink : Type 0
InsertsLink = (l : Layout) (free : List ℕ) (h : ListHeap) (key : ℕ) (back : Option (LinkWord × ℕ)) (pred : LinkWord) (c row to : ℕ) (update : Entry) →
    Kept l free h → StandsStill l h key back pred c → StillHolds l h pred c to → IsPast (rows_at l h) key (row_of c) → AreResting l free h (row ∷ []) →
    key ≤ GREATEST_KEY → key_in l h.words row ≡ key → value_of (at_word h (next_word l row)) ≡ link_value (plain_link (row_of c)) →
    update.call ≡ Insert key (row_value_in l h.words row) → update.reply ≡ Yes → link_held to ≡ plain_link row →
    MayLink l free h pred c to row update
