-- What holds of the link words, their shadows, the updates that wait in them, the settled rows and the map. It reads link
-- words alone, and the keys and values of linked rows.
use Rattle.std.specs.Prelude.{◌≡◌, ◌≢◌, ℕ, ◌+◌, ◌==◌, ◌<◌, ◌≤◌, Bool, true, false, ◌||◌, List, Option, Some, None, ◌⊎◌, Contains, if◌then◌else◌}
use Rattle.std.specs.FinMap as fin
use Rattle.flit_words.specs.declared.layouts.Kind.TheVariants.{Tree as Tree_kind}
use Rattle.flit_words.specs.Words.{version_of}
use Rattle.flit_model.specs.Maps.{Map, map_after, reply_of}
use Rattle.flit_model.specs.Lists.{IsListLink}
use Rattle.flit_model.specs.declared.calls.Call.TheVariants.{Insert, Remove}
use Rattle.flit_model.specs.declared.calls.Reply.TheVariants.{Yes}
use Rattle.flit_model.specs.declared.calls.Entry.{Entry}
use Rattle.flit_structure.specs.Lawful.{is_insert}
use Rattle.flit_list_heap.specs.Links.{LinkWord, Head, Next, Rows, IsLink, link_held, row_of, is_marked, by_of}
use Rattle.flit_list_heap.specs.Paths.{Follows, Path, found, marks}

-- ---- the update that waits at a word, if one does

abbrev pub is_put : Option Entry → Bool
is_put None = false
is_put (Some u) = is_insert u.call

-- the map once it is settled
abbrev pub map_with : Map → Option Entry → Map
map_with m None = m
map_with m (Some u) = map_after m u.call

-- it is answered as the map answers
abbrev pub IsAnswered : Map → Option Entry → Type 0
IsAnswered m None = Unit {0}
IsAnswered m (Some u) = u.reply ≡ reply_of m u.call

-- the settled rows once it is settled: by the link to a new row this row is
abbrev pub joined : Bool → (ℕ → Bool) → ℕ → ℕ → Bool
joined true settled r = λ q. settled q || (q == r)
joined false settled r = settled

abbrev pub settled_after : (ℕ → Bool) → Option Entry → ℕ → ℕ → Bool
settled_after settled e r = joined (is_put e) settled r

-- ---- links

abbrev pub IsHead : LinkWord → Type 0
IsHead (Head h) = Unit {0}
IsHead (Next r) = ⊥

-- a head, or the next word of a settled row
abbrev pub IsRooted : (ℕ → Bool) → LinkWord → Type 0
IsRooted settled (Head h) = Unit {0}
IsRooted settled (Next r) = settled r ≡ true

-- what the link in a link word may be: it leads nowhere, or to a linked row of the same bucket with a greater key; a
-- head isn't marked
pub record Form (c : Rows) (x : LinkWord) (raw : ℕ) : Type 0 where
  pub leads : (row_of raw ≡ 0) ⊎ Follows c x (row_of raw)
  pub fit : IsListLink c.layout (link_held raw)
  pub headed : IsHead x → is_marked raw ≡ false

-- the name that a mark has: with values that of its remover
abbrev pub name_in : Rows → ℕ → ℕ
name_in c who = if c.layout.values then who else 0

-- ---- how a link word is ahead of its shadow: by the link to a new row, by the mark of its own row, or by the link past a
-- marked row

pub record Ahead (settled : ℕ → Bool) (words shadows : LinkWord → ℕ) (x : LinkWord) : Type 0 where
  pub version : version_of (words x) ≡ version_of (shadows x) + 1
  pub rooted : IsRooted settled x
  pub kept : is_marked (shadows x) ≡ false

-- an insert of the new row's key and value waits; the new row isn't settled, and its own link is persistent, isn't
-- marked, and leads to where the shadow led
pub record Links (c : Rows) (settled : ℕ → Bool) (words shadows : LinkWord → ℕ) (x : LinkWord) (e : Option Entry) : Type 0 where
  pub ahead : Ahead settled words shadows x
  pub update : Entry
  pub entry : e ≡ Some update
  pub call : update.call ≡ Insert (c.key (row_of (words x))) (c.value (row_of (words x)))
  pub reply : update.reply ≡ Yes
  pub unmarked : is_marked (words x) ≡ false
  pub linked : c.linked (row_of (words x))
  pub fresh : settled (row_of (words x)) ≡ false
  pub solid : words (Next (row_of (words x))) ≡ shadows (Next (row_of (words x)))
  pub whole : is_marked (shadows (Next (row_of (words x)))) ≡ false
  pub goes_on : row_of (shadows (Next (row_of (words x)))) ≡ row_of (shadows x)

-- a remove of the row's key waits; the word leads on as the shadow does, and names the remover
pub record Marks (c : Rows) (settled : ℕ → Bool) (words shadows : LinkWord → ℕ) (x : LinkWord) (e : Option Entry) : Type 0 where
  pub ahead : Ahead settled words shadows x
  pub update : Entry
  pub row : ℕ
  pub entry : e ≡ Some update
  pub place : x ≡ Next row
  pub call : update.call ≡ Remove (c.key row)
  pub reply : update.reply ≡ Yes
  pub marked : is_marked (words x) ≡ true
  pub same : row_of (words x) ≡ row_of (shadows x)
  pub name : by_of (words x) ≡ name_in c update.worker

-- nothing waits; the shadow's row is marked in its own shadow, and the word leads to where that leads
pub record Unlinks (c : Rows) (settled : ℕ → Bool) (words shadows : LinkWord → ℕ) (x : LinkWord) (e : Option Entry) : Type 0 where
  pub ahead : Ahead settled words shadows x
  pub entry : e ≡ None
  pub unmarked : is_marked (words x) ≡ false
  pub behind : settled (row_of (shadows x)) ≡ true
  pub marked : is_marked (shadows (Next (row_of (shadows x)))) ≡ true
  pub past : row_of (words x) ≡ row_of (shadows (Next (row_of (shadows x))))

pub data Shape (c : Rows) (settled : ℕ → Bool) (words shadows : LinkWord → ℕ) (x : LinkWord) (e : Option Entry) : Type 0 where
  Solid : words x ≡ shadows x → e ≡ None → Shape c settled words shadows x e
  Linking : Links c settled words shadows x e → Shape c settled words shadows x e
  Marking : Marks c settled words shadows x e → Shape c settled words shadows x e
  Unlinking : Unlinks c settled words shadows x e → Shape c settled words shadows x e

-- ---- all of them

-- the rows from a head on in the shadows: every settled row of the bucket that isn't marked is among them, and they are
-- the map on the bucket's keys
pub record Bucket (c : Rows) (settled : ℕ → Bool) (shadows : LinkWord → ℕ) (m : Map) (h : ℕ) : Type 0 where
  pub rows : List ℕ
  pub path : Path c shadows (Head h) rows
  pub whole : (r : ℕ) → settled r ≡ true → c.bucket (c.key r) ≡ h → is_marked (shadows (Next r)) ≡ false → Contains rows r
  pub mapped : (k : ℕ) → c.bucket k ≡ h → fin.get m k ≡ found c (marks shadows) rows k

-- a row with a word that leads to it, at which its insert waits
pub record Fresh (c : Rows) (words : LinkWord → ℕ) (entries : LinkWord → Option Entry) (r : ℕ) : Type 0 where
  pub word : LinkWord
  pub link : IsLink c word
  pub put : is_put (entries word) ≡ true
  pub leads : row_of (words word) ≡ r

-- each link word and its shadow has the form of a link, and is in one of the four shapes; shadows lead to settled rows
-- alone; a linked row is settled or fresh; and the shadows are the map
pub record Chained (c : Rows) (settled : ℕ → Bool) (words shadows : LinkWord → ℕ) (entries : LinkWord → Option Entry) (m : Map) : Type 0 where
  pub kind : c.layout.kind ≢ Tree_kind
  pub buckets : (k : ℕ) → c.bucket k < c.layout.buckets
  pub settled_linked : (r : ℕ) → settled r ≡ true → c.linked r
  pub real : (r : ℕ) → c.linked r → 1 ≤ r
  pub shadow_form : (x : LinkWord) → IsLink c x → Form c x (shadows x)
  pub word_form : (x : LinkWord) → IsLink c x → Form c x (words x)
  pub shadow_links : (x : LinkWord) → IsLink c x → (row_of (shadows x) ≡ 0) ⊎ (settled (row_of (shadows x)) ≡ true)
  pub shapes : (x : LinkWord) → IsLink c x → Shape c settled words shadows x (entries x)
  pub known : (r : ℕ) → c.linked r → (settled r ≡ true) ⊎ Fresh c words entries r
  -- two inserts that wait are of two rows
  pub one_link : (x y : LinkWord) → IsLink c x → IsLink c y → is_put (entries x) ≡ true → is_put (entries y) ≡ true →
      row_of (words x) ≡ row_of (words y) → x ≡ y
  pub reach : (h : ℕ) → h < c.layout.buckets → Bucket c settled shadows m h

-- what a write-back of a word gives at which e waits, and which leads to r
pub record Settled (c : Rows) (settled : ℕ → Bool) (words new : LinkWord → ℕ) (rest : LinkWord → Option Entry) (m : Map) (e : Option Entry) (r : ℕ) : Type 0
  where
    pub answers : IsAnswered m e
    pub chained : Chained c (settled_after settled e r) words new rest (map_with m e)

-- a link to this row passes over the key
abbrev pub IsPast : Rows → ℕ → ℕ → Type 0
IsPast c j r = (r ≡ 0) ⊎ (j < c.key r)
