-- A list or a hash table keeps its bounds, where it keeps the events of its tries.
use Rattle.std.proofs.Common.{◌≡◌, ℕ, true, List}
use Rattle.std.proofs.lemmas.Option.{none-some}
use Rattle.flit_words.specs.declared.layouts.Layout.{Layout}
use Rattle.flit_model.specs.States.{State}
use Rattle.flit_model.specs.Effects.{answer}
use Rattle.flit_model.specs.declared.events.Event.{Event}
use Rattle.flit_model.specs.declared.calls.Call.{Call}
use Rattle.flit_model.specs.declared.calls.Reply.{Reply}
use Rattle.flit_place.specs.Tags.{Place}
use Rattle.flit_crew.specs.Machines.{has_ended}
use Rattle.flit_crew.specs.Crews.{Who}
use Rattle.flit_list_steps.specs.declared.operations.Path.{Path}
use Rattle.flit_list_steps.specs.Operations.{At, Head, Next, Key, Confirming, Help, Row, Words, RowValue, Link, Mark, Tidy, Value, Ends, Rests}
use Rattle.flit_list_heap.specs.Keeping.{ListHeap}
use Rattle.flit_list_limits.specs.Laws.{ListsKeepLimits}
use Rattle.flit_list_limits.proofs.Searches.{searches_so}
use Rattle.flit_list_limits.proofs.Resuming.{m_at, Own, Resumes, quiet_resumes, head_ends, next_ends, key_ends, confirming_ends}
use Rattle.flit_list_limits.proofs.Ending.{value_ends, tidy_ends, row_ends, words_end, row_value_ends, ends_never}
use Rattle.flit_list_limits.proofs.Exchanging.{link_ends, mark_ends, help_ends}
use Rattle.flit_list_limits.proofs.OwnStores.{words_leave, value_leaves}
use Rattle.flit_list_limits.proofs.Running.{runs_at}

module _ (l : Layout) (p : Place) (free : List ℕ) (s : State) (e : Event) (h k : ListHeap) (me you : Who) (call : Call) (reply : Reply) (path : Path) where
  abbrev Mine : At → Type 0
  Mine at = Own l p free s e h k me you call reply path at

  abbrev Goal : At → Type 0
  Goal at = Resumes l p free s e h k me you call reply path at

  resumes_at : (at : At) → Mine at → has_ended p (m_at l p free s e h k me you call reply path at) ≡ true → Goal at
  resumes_at (Head m) own ended = quiet_resumes l p free s e h k me you call reply path (Head m) (head_ends l p free s e h k me you call reply path m own)
  resumes_at (Next m) own ended = quiet_resumes l p free s e h k me you call reply path (Next m) (next_ends l p free s e h k me you call reply path m own)
  resumes_at (Key m) own ended = quiet_resumes l p free s e h k me you call reply path (Key m) (key_ends l p free s e h k me you call reply path m own)
  resumes_at (Confirming goal which m) own ended = quiet_resumes l p free s e h k me you call reply path (Confirming goal which m)
      (confirming_ends l p free s e h k me you call reply path goal which m own ended)
  resumes_at (Help m) own ended = help_ends l p free s e h k me you call reply path m own ended
  resumes_at (Row m) own ended = quiet_resumes l p free s e h k me you call reply path (Row m) (row_ends l p free s e h k me you call reply path m own ended)
  resumes_at (Words m) own ended = quiet_resumes l p free s e h k me you call reply path (Words m)
      (words_end l p free s e h k me you call reply path m (words_leave l p free s e h k me you call reply path m own))
  resumes_at (RowValue m) own ended = quiet_resumes l p free s e h k me you call reply path (RowValue m)
      (row_value_ends l p free s e h k me you call reply path m (value_leaves l p free s e h k me you call reply path m own))
  resumes_at (Link m) own ended = link_ends l p free s e h k me you call reply path m own ended
  resumes_at (Mark m) own ended = mark_ends l p free s e h k me you call reply path m own ended
  resumes_at (Tidy m) own ended = quiet_resumes l p free s e h k me you call reply path (Tidy m) (tidy_ends l p free s e h k me you call reply path m ended)
  resumes_at (Value m) own ended = quiet_resumes l p free s e h k me you call reply path (Value m) (value_ends l p free s e h k me you call reply path m own)
  resumes_at (Ends m) own ended = absurd (ends_never l p free s e h k me you call reply path m ended)
  resumes_at (Rests hand) own ended = absurd (none-some e own.asks)

pub lists_keep_limits : ListsKeepLimits
lists_keep_limits = record {
  limits = λ l p free bound allowed tries. record {
    runs = λ s e h k me you op own going. runs_at l p free s e h k me you op.call op.reply op.path op.at own going;
    resumes = λ s e h k me you op own ended. resumes_at l p free s e h k me you op.call op.reply op.path op.at own ended;
    searches = λ s e h k me you op own ended. searches_so l p free op (answer s e) ended;
    tries = tries;
  };
}
