-- The link words of a list or a hash table by name, the parts of a link, and what the words beside the link words say.
use Rattle.std.specs.Prelude.{◌≡◌, ◌≢◌, ℕ, ◌+◌, ◌<◌, Bool}
use Rattle.flit_words.specs.declared.layouts.Layout.{Layout}
use Rattle.flit_words.specs.declared.links.Link.{Link}
use Rattle.flit_words.specs.Words.{value_of}
use Rattle.flit_words.specs.Links.{link_of}
use Rattle.flit_model.specs.Lists.{next_word}

-- a link word: the head of a bucket, or the next word of a row
pub data LinkWord : Type 0 where
  Head : ℕ → LinkWord
  Next : ℕ → LinkWord

-- which word of the layout it is
abbrev pub place_of : Layout → LinkWord → ℕ
place_of l (Head h) = h
place_of l (Next r) = next_word l r

-- the link that a raw word holds, and its parts
abbrev pub link_held : ℕ → Link
link_held raw = link_of (value_of raw)

unfoldable pub row_of : ℕ → ℕ
row_of raw = (link_held raw).row

unfoldable pub is_marked : ℕ → Bool
is_marked raw = (link_held raw).mark

unfoldable pub by_of : ℕ → ℕ
by_of raw = (link_held raw).by

-- what the words beside the link words say: the bucket of a key, each row's key and value, and which rows are linked, so
-- that link words may lead to them
pub record Rows : Type 1 where
  pub layout : Layout
  pub bucket : ℕ → ℕ
  pub key : ℕ → ℕ
  pub value : ℕ → ℕ
  pub linked : ℕ → Type 0

-- the least key that a row behind a link word may have
abbrev pub low : Rows → LinkWord → ℕ
low c (Head h) = 0
low c (Next r) = c.key r + 1

abbrev pub bucket_of : Rows → LinkWord → ℕ
bucket_of c (Head h) = h
bucket_of c (Next r) = c.bucket (c.key r)

-- the link words of the structure: the heads, and the next words of the linked rows
abbrev pub IsLink : Rows → LinkWord → Type 0
IsLink c (Head h) = h < c.layout.buckets
IsLink c (Next r) = c.linked r

-- g is f but at y, where it is u
pub record Changed {A : Type 0} (f g : LinkWord → A) (y : LinkWord) (u : A) : Type 0 where
  pub here : g y ≡ u
  pub off : (x : LinkWord) → x ≢ y → g x ≡ f x
