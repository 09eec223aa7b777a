-- Link words that are equal or differ.
use Rattle.std.proofs.Common.{◌≡◌, ◌≢◌, ℕ, ◌<◌, Bool, true, false, ap, inl, inr, ◌⊎◌, arith}
use Rattle.std.proofs.lemmas.Bool.{cases_eq}
use Rattle.flit_list_heap.specs.Links.{LinkWord, Head, Next, Rows, low, bucket_of}

abbrev number : LinkWord → ℕ
number (Head h) = h
number (Next r) = r

abbrev is_next : LinkWord → Bool
is_next (Head h) = false
is_next (Next r) = true

pub next-same : (r q : ℕ) → Next r ≡ Next q → r ≡ q
next-same r q e = cc

pub cases_word : (x y : LinkWord) → (x ≡ y) ⊎ (x ≢ y)
cases_word (Head h) (Head g) = elim (cases_eq h g) [ inl e ↦ inl (ap Head e) | inr ne ↦ inr (λ e. ne (ap number e)) ]
cases_word (Head h) (Next q) = inr (λ e. cc)
cases_word (Next r) (Head g) = inr (λ e. cc)
cases_word (Next r) (Next q) = elim (cases_eq r q) [ inl e ↦ inl (ap Next e) | inr ne ↦ inr (λ e. ne (ap number e)) ]

-- words of different heights or buckets differ
pub lower-apart : (c : Rows) (x y : LinkWord) → low c x < low c y → x ≢ y
lower-apart c x y h e = let l : low c x ≡ low c y = ap (low c) e in omega arith

pub bucket-apart : (c : Rows) (x y : LinkWord) → bucket_of c x ≢ bucket_of c y → x ≢ y
bucket-apart c x y h e = h (ap (bucket_of c) e)
