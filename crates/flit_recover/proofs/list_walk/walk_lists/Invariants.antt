use Rattle.std.proofs.Common.{◌≡◌, length}
use Rattle.flit_words.specs.Layouts.{last_row_of}
use Rattle.flit_model.specs.Lists.{list_pairs}
use Rattle.flit_recover.specs.Marks.{AreMarks}
use Rattle.flit_recover.proofs.ListWalking.{IsSwept}
use Rattle.flit_recover.proofs.list_walk.walk_lists.Given as goal

abbrev pub invariant-loop-head : goal.invariant-loop-head
invariant-loop-head l = record {
  swept : IsSwept l.layout l.words l.head l.reached.rows.items;
  marks : AreMarks (last_row_of l.layout) l.reached.marks.items l.reached.rows.items;
  counted : l.count ≡ length (list_pairs l.layout l.words l.reached.rows.items);
}
