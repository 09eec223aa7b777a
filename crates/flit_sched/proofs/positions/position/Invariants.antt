use Rattle.std.proofs.Common.{◌≡◌, ℕ, ◌<◌, ◌≤◌, take}
use Rattle.std.specs.FinMap as map_of
use Rattle.flit_model.specs.Maps.{Map, map_after_all}
use Rattle.flit_structure.specs.Meanings.{key_of as the_key_of}
use Rattle.flit_sched.specs.Reads.{IsReplyBehind}
use Rattle.flit_sched.proofs.positions.position.Given as goal

abbrev pub invariant-loop-at : goal.invariant-loop-at
invariant-loop-at l =
    (l.key ≡ the_key_of l.call)
    × ((content : Map) → l.fn.noted ≡ map_of.get (map_after_all content (take l.first l.updates)) (the_key_of l.call) →
    l.value ≡ map_of.get (map_after_all content (take l.at l.updates)) (the_key_of l.call))
    × ((content : Map) (n : ℕ) → l.fn.noted ≡ map_of.get (map_after_all content (take l.first l.updates)) (the_key_of l.call) → l.first ≤ n → n < l.at →
    ¬ (IsReplyBehind content l.updates l.call l.reply n))
