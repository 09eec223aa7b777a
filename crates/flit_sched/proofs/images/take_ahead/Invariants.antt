use Rattle.std.proofs.Common.{◌≡◌, ◌==◌, map, take}
use Rattle.std.specs.List.{range_with_len, list_any}
use Rattle.flit_model.specs.CrashImages.{crash_word}
use Rattle.flit_sched.proofs.images.take_ahead.Given as goal

abbrev pub invariant-loop-word : goal.invariant-loop-word
invariant-loop-word l = l.image.items ≡ map (crash_word (λ w. list_any (λ v. v == w) (take l.word-index l.chosen)) l.machine) (range_with_len 0 l.words)
