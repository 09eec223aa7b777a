use Rattle.std.proofs.Common.{◌≡◌, ◌+◌, ◌≤◌, length}
use Rattle.flit_words.specs.Texts.{lines_of}
use Rattle.flit_trace.specs.Drafts.{IsSound}
use Rattle.flit_trace.proofs.LoopSteps.{IsReadSoFar}
use Rattle.flit_trace.proofs.reading.read_lines.Given as goal

abbrev pub invariant-lines : goal.invariant-lines
invariant-lines l = record {
  sound : IsSound l.draft;
  whole : length l.index.scripts.items ≡ 64;
  few : l.number + length l.rest ≤ 1 + length l.bytes;
  so_far : IsReadSoFar (lines_of l.bytes) l.draft l.index l.number (lines_of l.rest);
}

abbrev pub decreases-lines : goal.decreases-lines
decreases-lines l = length l.rest
