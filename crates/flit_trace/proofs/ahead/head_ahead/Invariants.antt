use Rattle.std.proofs.Common.{◌≡◌, true, length}
use Rattle.flit_words.specs.Texts.{lines_of}
use Rattle.flit_trace.specs.Drafts.{is_early, IsSound}
use Rattle.flit_trace.proofs.FirstLines.{AreReadOn}
use Rattle.flit_trace.proofs.ahead.head_ahead.Given as goal

abbrev pub invariant-lines : goal.invariant-lines
invariant-lines l = record {
  sound : IsSound l.draft;
  early : is_early l.draft.stage ≡ true;
  on : AreReadOn (lines_of l.bytes) l.draft (lines_of l.rest);
}

abbrev pub decreases-lines : goal.decreases-lines
decreases-lines l = length l.rest
