use Rattle.std.proofs.Common.{◌≡◌, map}
use Rattle.std.specs.List.{range_with_len}
use Rattle.flit_model.specs.CrashImages.{crash_word}
use Rattle.flit_sched.proofs.images.all_or_none.Given as goal

abbrev pub invariant-loop-word : goal.invariant-loop-word
invariant-loop-word l = l.image.items ≡ map (crash_word (λ w. l.takes) l.machine) (range_with_len 0 l.word)
