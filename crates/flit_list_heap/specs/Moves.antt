-- The three exchanges that change a link word.
use Rattle.std.specs.Prelude.{◌≡◌, ℕ, ◌+◌, ◌<◌, ◌≤◌, Bool, true, false, Option, Some, None, ◌⊎◌}
use Rattle.flit_words.specs.declared.limits.TheConstants.{MOST_WORKERS}
use Rattle.flit_words.specs.declared.links.Link.{Link}
use Rattle.flit_words.specs.Words.{version_of}
use Rattle.flit_model.specs.declared.calls.Call.TheVariants.{Insert, Remove}
use Rattle.flit_model.specs.declared.calls.Reply.TheVariants.{Yes}
use Rattle.flit_model.specs.declared.calls.Entry.{Entry}
use Rattle.flit_list_heap.specs.Links.{LinkWord, Next, Rows, low, bucket_of, IsLink, link_held, row_of, is_marked}
use Rattle.flit_list_heap.specs.Chained.{IsRooted, name_in}

-- a link to a row with no bit and no name, and the link of a removed row
abbrev pub plain_link : ℕ → Link
plain_link row = record { row = row; mark = false; frozen = false; by = 0 }

abbrev pub marked_link : ℕ → ℕ → Link
marked_link row by = record { row = row; mark = true; frozen = false; by = by }

-- with other rows linked
abbrev pub with_linked : Rows → (ℕ → Type 0) → Rows
with_linked c more = record c { linked = more }

-- the word that is exchanged is at rest, isn't marked, and is a head or the next word of a settled row
pub record Still (c : Rows) (settled : ℕ → Bool) (words shadows : LinkWord → ℕ) (y : LinkWord) : Type 0 where
  pub link : IsLink c y
  pub solid : words y ≡ shadows y
  pub rooted : IsRooted settled y
  pub kept : is_marked (shadows y) ≡ false

-- the next version of a row's next word has the mark, and the remover's name; this is a remove of the row's key
pub record MarkMove (c : Rows) (shadows : LinkWord → ℕ) (y : LinkWord) (u : ℕ) (e : Option Entry) (row : ℕ) (update : Entry) : Type 0 where
  pub place : y ≡ Next row
  pub entry : e ≡ Some update
  pub call : update.call ≡ Remove (c.key row)
  pub reply : update.reply ≡ Yes
  pub version : version_of u ≡ version_of (shadows y) + 1
  pub link : link_held u ≡ marked_link (row_of (shadows y)) (name_in c update.worker)
  pub who : update.worker ≤ MOST_WORKERS

-- the next version leads past a marked row, whose mark is persistent; this is no update
pub record UnlinkMove (c : Rows) (shadows : LinkWord → ℕ) (y : LinkWord) (u : ℕ) (e : Option Entry) : Type 0 where
  pub entry : e ≡ None
  pub version : version_of u ≡ version_of (shadows y) + 1
  pub some : 1 ≤ row_of (shadows y)
  pub gone : is_marked (shadows (Next (row_of (shadows y)))) ≡ true
  pub link : link_held u ≡ plain_link (row_of (shadows (Next (row_of (shadows y)))))

-- the next version leads to a row that wasn't linked, whose persistent link leads to where the word led, and whose key is
-- between; this is an insert of the row's key and value
pub record LinkMove (c : Rows) (words shadows : LinkWord → ℕ) (entries : LinkWord → Option Entry) (y : LinkWord) (u : ℕ) (e : Option Entry) (row : ℕ)
    (update : Entry) : Type 0 where
  pub entry : e ≡ Some update
  pub call : update.call ≡ Insert (c.key row) (c.value row)
  pub reply : update.reply ≡ Yes
  pub version : version_of u ≡ version_of (shadows y) + 1
  pub link : link_held u ≡ plain_link row
  pub real : 1 ≤ row
  pub own : c.linked row → ⊥
  pub above : low c y ≤ c.key row
  pub bucket : c.bucket (c.key row) ≡ bucket_of c y
  pub below : (row_of (shadows y) ≡ 0) ⊎ (c.key row < c.key (row_of (shadows y)))
  pub next_solid : words (Next row) ≡ shadows (Next row)
  pub next_quiet : entries (Next row) ≡ None
  pub next_link : link_held (shadows (Next row)) ≡ plain_link (row_of (shadows y))
