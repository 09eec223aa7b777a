-- Words with the fresh ones behind them.
use Rattle.std.proofs.Common.{◌≡◌, ℕ, ◌+◌, ◌-◌, ◌≤◌, List, [], ◌∷◌, ◌++◌, map, length, append-nil, append_assoc, length-append, sym, ◌∙◌, arith}
use Rattle.std.specs.List.{range_with_len}
use Rattle.std.proofs.lemmas.List.FromFn.{map-range_with_len_more, length-map-range_with_len}
use Rattle.flit_words.specs.declared.layouts.Kind.{Kind}
use Rattle.flit_words.specs.Layouts.{initial_of}
use Rattle.flit_trace.specs.Contents.{filled}

pub filled-none : (kind : Kind) (until : ℕ) (words : List ℕ) → until ≤ length words → filled kind until words ≡ words
filled-none kind until words few =
    let none : until - length words ≡ 0 = omega arith in
    rw none (append-nil words)

pub filled-more : (kind : Kind) (until : ℕ) (words : List ℕ) → length words ≤ until →
    filled kind (until + 1) words ≡ filled kind until words ++ initial_of kind until ∷ []
filled-more kind until words few =
    let one : until + 1 - length words ≡ (until - length words) + 1 = omega arith in
    let more = map-range_with_len_more (initial_of kind) (length words) (until - length words) until (omega arith) in
    rw (one, more) (sym (append_assoc words (map (initial_of kind) (range_with_len (length words) (until - length words))) (initial_of kind until ∷ [])))

pub length-filled : (kind : Kind) (until : ℕ) (words : List ℕ) → length words ≤ until → length (filled kind until words) ≡ until
length-filled kind until words few =
    length-append words (map (initial_of kind) (range_with_len (length words) (until - length words)))
    ∙ rw (length-map-range_with_len (initial_of kind) (length words) (until - length words)) (omega arith)
