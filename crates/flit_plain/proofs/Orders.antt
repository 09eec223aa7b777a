-- Reads put in order from the last to the first, and histories made from the front.
use Rattle.std.proofs.Common.{◌≡◌, ℕ, suc, ◌+◌, ◌<◌, ◌≤◌, ◌==◌, true, false, cond, List, [], ◌∷◌, ◌++◌, map, filter, length, take, drop, insert, slice_index_or, append_assoc, refl, sym, ap, ◌∙◌, arith}
use Rattle.std.proofs.lemmas.List.{append-nil, drop_more, take_more, take_all}
use Rattle.std.proofs.Math.ListN.{drop_of_length-le}
use Rattle.std.proofs.Math.Seq.{drop-length, take-length, take-append_seam, drop-append_seam}
use Rattle.flit_model.specs.declared.calls.Entry.{Entry}
use Rattle.flit_model.specs.declared.calls.Placed.{Placed}
use Rattle.flit_model.specs.Histories.{stands_before, put_in_order, in_order, reads_at, history_from, history_of}

-- ---- the place of a read

-- the read goes behind the entries before a place, and into the rest
abbrev pub GoesInto : Entry → List Entry → ℕ → ℕ → Type 0
GoesInto e entries start place = take place entries ++ put_in_order e (drop place entries) ≡ take start entries ++ put_in_order e (drop start entries)

module _ (e : Entry) (entries : List Entry) (start place : ℕ) (d : Entry) (so_far : GoesInto e entries start place) where
  rest_is : place < length entries → drop place entries ≡ slice_index_or entries place d ∷ drop (place + 1) entries
  rest_is below = drop_more entries place d below

  pub goes_here : place < length entries → stands_before e (slice_index_or entries place d) ≡ true →
      insert entries place e ≡ take start entries ++ put_in_order e (drop start entries)
  goes_here below before =
      let this = slice_index_or entries place d in
      let behind = drop (place + 1) entries in
      let put : put_in_order e (drop place entries) ≡ e ∷ drop place entries =
      ap (put_in_order e) (rest_is below) ∙ ap (λ b. cond b (e ∷ this ∷ behind) (this ∷ put_in_order e behind)) before
      ∙ ap (λ es. e ∷ es) (sym (rest_is below)) in
      ap (λ es. take place entries ++ es) (sym put) ∙ so_far

  pub goes_on : place < length entries → stands_before e (slice_index_or entries place d) ≡ false → (next : ℕ) → next ≡ place + 1 →
      GoesInto e entries start next
  goes_on below behind_it next above =
      let this = slice_index_or entries place d in
      let behind = drop (place + 1) entries in
      let put : put_in_order e (drop place entries) ≡ this ∷ put_in_order e behind =
      ap (put_in_order e) (rest_is below) ∙ ap (λ b. cond b (e ∷ this ∷ behind) (this ∷ put_in_order e behind)) behind_it in
      rw above
      (ap (λ es. es ++ put_in_order e behind) (take_more entries place d below)
      ∙ append_assoc (take place entries) (this ∷ []) (put_in_order e behind)
      ∙ ap (λ es. take place entries ++ es) (sym put)
      ∙ so_far)

  pub goes_last : length entries ≤ place → insert entries (length entries) e ≡ take start entries ++ put_in_order e (drop start entries)
  goes_last past =
      let all : take place entries ≡ entries = take_all place entries past in
      let none : drop place entries ≡ [] = drop_of_length-le entries past in
      rw (take-length entries, drop-length entries) (rw (all, none) at so_far)

-- ---- reads of one position, from the last to the first

pub reads_start : (n : ℕ) (reads : List Placed) (entries : List Entry) → entries ≡ entries ++ reads_at n (drop (length reads) reads)
reads_start n reads entries = sym (ap (λ rs. entries ++ reads_at n rs) (drop-length reads) ∙ append-nil entries)

module _ (n : ℕ) (reads : List Placed) (entries now : List Entry) (i next : ℕ) (d : Placed) (below : i < length reads) (above : next ≡ i + 1)
    (so_far : now ≡ entries ++ reads_at n (drop next reads)) where
  left_is : drop i reads ≡ slice_index_or reads i d ∷ drop next reads
  left_is = drop_more reads i d below ∙ ap (λ k. slice_index_or reads i d ∷ drop k reads) (sym above)

  reads_at_yes : (r : Placed) (rest : List Placed) → (r.position == n) ≡ true → reads_at n (r ∷ rest) ≡ put_in_order r.entry (reads_at n rest)
  reads_at_yes r rest here = ap (λ b. in_order (map (λ q. q.entry) (cond b (r ∷ filter (λ q. q.position == n) rest) (filter (λ q. q.position == n) rest)))) here

  reads_at_no : (r : Placed) (rest : List Placed) → (r.position == n) ≡ false → reads_at n (r ∷ rest) ≡ reads_at n rest
  reads_at_no r rest elsewhere = ap (λ b. in_order (map (λ q. q.entry) (cond b (r ∷ filter (λ q. q.position == n) rest) (filter (λ q. q.position == n) rest))))
      elsewhere

  pub reads_put : ((slice_index_or reads i d).position == n) ≡ true → (later : List Entry) →
      later ≡ take (length entries) now ++ put_in_order (slice_index_or reads i d).entry (drop (length entries) now) →
      later ≡ entries ++ reads_at n (drop i reads)
  reads_put here later e =
      let r = slice_index_or reads i d in
      let rest = reads_at n (drop next reads) in
      e
      ∙ ap (λ es. take (length entries) es ++ put_in_order r.entry (drop (length entries) es)) so_far
      ∙ ap (λ es. es ++ put_in_order r.entry (drop (length entries) (entries ++ rest))) (take-append_seam entries rest)
      ∙ ap (λ es. entries ++ put_in_order r.entry es) (drop-append_seam entries rest)
      ∙ ap (λ es. entries ++ es) (sym (ap (reads_at n) left_is ∙ reads_at_yes r (drop next reads) here))

  pub reads_skipped : ((slice_index_or reads i d).position == n) ≡ false → now ≡ entries ++ reads_at n (drop i reads)
  reads_skipped elsewhere =
      so_far ∙ ap (λ es. entries ++ es) (sym (ap (reads_at n) left_is ∙ reads_at_no (slice_index_or reads i d) (drop next reads) elsewhere))

-- ---- the history from the front

pub history_start : (updates : List Entry) (reads : List Placed) (now : List Entry) → now ≡ [] →
    now ++ history_from 0 (drop 0 updates) reads ≡ history_of updates reads
history_start updates reads now none = rw none refl

pub history_more : (updates : List Entry) (reads : List Placed) (now later : List Entry) (i next : ℕ) (d : Entry) → i < length updates → next ≡ i + 1 →
    later ≡ (now ++ reads_at i reads) ++ slice_index_or updates i d ∷ [] →
    later ++ history_from next (drop next updates) reads ≡ now ++ history_from i (drop i updates) reads
history_more updates reads now later i next d below above e =
    let u = slice_index_or updates i d in
    let rest = history_from next (drop next updates) reads in
    let left : drop i updates ≡ u ∷ drop next updates = drop_more updates i d below ∙ ap (λ k. u ∷ drop k updates) (sym above) in
    let after : next ≡ suc i = omega arith in
    ap (λ es. es ++ rest) e
    ∙ append_assoc (now ++ reads_at i reads) (u ∷ []) rest
    ∙ append_assoc now (reads_at i reads) (u ∷ rest)
    ∙ ap (λ k. now ++ (reads_at i reads ++ u ∷ history_from k (drop next updates) reads)) after
    ∙ sym (ap (λ us. now ++ history_from i us reads) left)

pub history_end : (updates : List Entry) (reads : List Placed) (now : List Entry) (n : ℕ) → length updates ≤ n →
    now ++ history_from n (drop n updates) reads ≡ now ++ reads_at n reads
history_end updates reads now n past = ap (λ us. now ++ history_from n us reads) (drop_of_length-le updates past)
