use Rattle.std.proofs.Common.{ap, refl, ◌∙◌, arith}
use Rattle.flit_sched.proofs.TakenMaps.{taken_start, taken_more, taken_same}
use Rattle.flit_sched.proofs.histories.waiting_at_words.Goals.{in-Some+in_ok-insert, in_default}
use Rattle.flit_sched.proofs.histories.waiting_at_words.Goals as goal

pub loop-word-init : goal.loop-word-init
loop-word-init c = λ m e. taken_start m _ c.new-taken.ensures.empty

pub loop-word-preserved : goal.loop-word-preserved
loop-word-preserved c = λ m e. elim c.match-get.branch [
  | in-Some+in_ok-insert w ↦ taken_more m _ _ _ _ _ e (omega arith) (c.loop-word.invariant m e) _ _ _ refl w.in-Some.ensures.value
      (ap (λ t. t.entries) w.taken-is ∙ w.in_ok-insert.ensures.entries)
  | in_default w ↦ ap (λ t. t.entries) w.taken-is ∙ taken_same m _ _ _ _ _ e (omega arith) (c.loop-word.invariant m e) _ refl w.in_default.ensures.value
]
