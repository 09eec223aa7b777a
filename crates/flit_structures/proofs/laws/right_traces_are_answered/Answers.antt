use Rattle.flit_structures.proofs.RightTraceLaws.{answered}
use Rattle.flit_structures.proofs.laws.right_traces_are_answered.Goals as goal

pub returns : goal.returns
returns c =
    answered c.one_result.ensures.content c.one_result.ensures.apart c.within_limits.ensures.accepted c.one_damage_of_lists.ensures.apart
    c.one_damage_of_trees.ensures.apart
