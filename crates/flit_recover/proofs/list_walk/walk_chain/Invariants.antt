use Rattle.std.proofs.Common.{◌≡◌, ◌<◌, ◌≤◌, ◌-◌, length}
use Rattle.flit_words.specs.Layouts.{words_of, last_row_of}
use Rattle.flit_model.specs.Lists.{list_pairs}
use Rattle.flit_recover.specs.Marks.{AreMarks}
use Rattle.flit_recover.proofs.ListWalking.{IsWalked}
use Rattle.flit_recover.proofs.list_walk.walk_chain.Given as goal

abbrev pub invariant-chain : goal.invariant-chain
invariant-chain l = record {
  walked : IsWalked l.layout l.words l.head l.initial.reached.rows.items l.reached.rows.items l.low l.word;
  marks : AreMarks (last_row_of l.layout) l.reached.marks.items l.reached.rows.items;
  within : l.word < words_of l.layout;
  low : l.low ≤ 4294967293;
  counted : l.count ≡ length (list_pairs l.layout l.words l.reached.rows.items);
}

-- the keys rise
abbrev pub decreases-chain : goal.decreases-chain
decreases-chain l = 4294967293 - l.low
