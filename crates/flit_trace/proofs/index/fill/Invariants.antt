use Rattle.std.proofs.Common.{◌≡◌, ◌<◌, length}
use Rattle.flit_trace.specs.Contents.{filled}
use Rattle.flit_trace.proofs.index.fill.Given as goal

abbrev pub invariant-loop-word : goal.invariant-loop-word
invariant-loop-word l = record {
  words : l.words.items ≡ filled l.layout.kind l.word l.fn.words.items;
  stays : l.until < l.word → l.word ≡ length l.fn.words.items;
}
