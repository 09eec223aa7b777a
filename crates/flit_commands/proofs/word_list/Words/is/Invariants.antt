use Rattle.std.proofs.Common.{◌≡◌, length, take, map}
use Rattle.flit_commands.proofs.word_list.Words.is.Given as goal

-- the words so far are the same
abbrev pub invariant-loop-given : goal.invariant-loop-given
invariant-loop-given l = take (length l.yielded) l.self ≡ take (length l.yielded) (map (λ word. word.now) l.words)
