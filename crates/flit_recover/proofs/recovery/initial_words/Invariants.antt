use Rattle.std.proofs.Common.{◌≡◌, ◌≤◌, map}
use Rattle.std.specs.List.{range_with_len}
use Rattle.std.specs.Vec.{vec_len, vec_capacity}
use Rattle.flit_words.specs.Layouts.{initial_of, words_of}
use Rattle.flit_recover.proofs.recovery.initial_words.Given as goal

abbrev pub invariant-loop-word : goal.invariant-loop-word
invariant-loop-word l =
    (vec_len l.words ≡ l.word)
    × (words_of l.layout ≤ vec_capacity l.words)
    × (l.words.items ≡ map (initial_of l.layout.kind) (range_with_len 0 l.word))
