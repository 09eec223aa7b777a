-- The tree keeps its bounds: while a machine runs no more may follow, and where one has ended the next one and all behind it are
-- within what might follow; and a seek begins only with its excuse.
use Rattle.std.proofs.Common.{◌≡◌, ℕ, true, List}
use Rattle.std.proofs.lemmas.Option.{none-some}
use Rattle.flit_words.specs.declared.layouts.Layout.{Layout}
use Rattle.flit_model.specs.States.{State}
use Rattle.flit_model.specs.declared.events.Event.{Event}
use Rattle.flit_model.specs.declared.calls.Call.{Call}
use Rattle.flit_model.specs.declared.calls.Reply.{Reply}
use Rattle.flit_place.specs.Tags.{Place}
use Rattle.flit_crew.specs.Machines.{has_ended}
use Rattle.flit_crew.specs.Crews.{Who}
use Rattle.flit_tree_heap.specs.Views.{TreeHeap}
use Rattle.flit_tree_steps.specs.declared.operations.Path.{Path}
use Rattle.flit_tree_steps.specs.Operations.{At, Root, Key, Edge, Rows, LeafWords, LeafValue, InnerWords, Link, Flag, Sibling, Freeze, Swing, Value, Ends, Rests}
use Rattle.flit_tree_limits.specs.Laws.{TreesKeepLimits}
use Rattle.flit_tree_limits.proofs.TreeCounts.{tree_searches}
use Rattle.flit_tree_limits.proofs.Running.{runs_at}
use Rattle.flit_tree_limits.proofs.Resuming.{m_at, Own, Resumes}
use Rattle.flit_tree_limits.proofs.Loading.{root_ends, key_ends, edge_ends, sibling_ends}
use Rattle.flit_tree_limits.proofs.Ending.{value_ends, rows_end, leaf_ends, leaf_value_ends, inner_ends, ends_never}
use Rattle.flit_tree_limits.proofs.Linking.{link_ends, flag_ends}
use Rattle.flit_tree_limits.proofs.Cleaning.{freeze_ends, swing_ends}

module _ (l : Layout) (p : Place) (free : List ℕ) (s : State) (e : Event) (h k : TreeHeap) (me you : Who) (call : Call) (reply : Reply) (path : Path) where
  abbrev Mine : At → Type 0
  Mine at = Own l p free s e h k me you call reply path at

  abbrev Goal : At → Type 0
  Goal at = Resumes l p free s e h k me you call reply path at

  pub resumes_at : (at : At) → Mine at → has_ended p (m_at l p free s e h k me you call reply path at) ≡ true → Goal at
  resumes_at (Root m) own ended = root_ends l p free s e h k me you call reply path m own ended
  resumes_at (Key m) own ended = key_ends l p free s e h k me you call reply path m own ended
  resumes_at (Edge m) own ended = edge_ends l p free s e h k me you call reply path m own ended
  resumes_at (Rows m) own ended = rows_end l p free s e h k me you call reply path m own ended
  resumes_at (LeafWords m) own ended = leaf_ends l p free s e h k me you call reply path m own
  resumes_at (LeafValue m) own ended = leaf_value_ends l p free s e h k me you call reply path m own
  resumes_at (InnerWords m) own ended = inner_ends l p free s e h k me you call reply path m own
  resumes_at (Link m) own ended = link_ends l p free s e h k me you call reply path m own ended
  resumes_at (Flag m) own ended = flag_ends l p free s e h k me you call reply path m own ended
  resumes_at (Sibling c m) own ended = sibling_ends l p free s e h k me you call reply path c m own ended
  resumes_at (Freeze c m) own ended = freeze_ends l p free s e h k me you call reply path c m own ended
  resumes_at (Swing c m) own ended = swing_ends l p free s e h k me you call reply path c m own ended
  resumes_at (Value m) own ended = value_ends l p free s e h k me you call reply path m ended
  resumes_at (Ends m) own ended = absurd (ends_never l p free s e h k me you call reply path m ended)
  resumes_at (Rests hand) own ended = absurd (none-some e own.asks)

pub trees_keep_limits : TreesKeepLimits
trees_keep_limits l p free = record {
  runs = λ s e h k me you op own going. runs_at l p free s e h k me you op.call op.reply op.path op.at own going;
  resumes = λ s e h k me you op own ended. resumes_at l p free s e h k me you op.call op.reply op.path op.at own ended;
  searches = λ s e h k me you op own ended. tree_searches l p free s e h k me you op own ended;
  tries = tt;
}
