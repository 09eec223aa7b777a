use Rattle.std.proofs.Common.{reverse}
use Rattle.flit_words.specs.Layouts.{last_row_of}
use Rattle.flit_recover.specs.Marks.{AreMarks}
use Rattle.flit_recover.proofs.TreeWork.{IsUnderway}
use Rattle.flit_recover.proofs.TreeSteps.{unreached}
use Rattle.flit_recover.proofs.tree_walk.walk_below.Given as goal

abbrev pub invariant-loop-at : goal.invariant-loop-at
invariant-loop-at l = record {
  marks : AreMarks (last_row_of l.layout) l.reached.marks.items l.reached.rows.items;
  underway : IsUnderway l.layout l.words l.reached.rows.items l.pairs.items (reverse l.stack.items);
}

abbrev pub decreases-loop-at : goal.decreases-loop-at
decreases-loop-at l = unreached (last_row_of l.layout) l.reached.rows.items
