use Rattle.std.proofs.Common.{◌∙◌, ap, refl, length}
use Rattle.flit_words.specs.Texts.{lines_of}
use Rattle.flit_trace.specs.Contents.{content_of}
use Rattle.flit_trace.specs.Grammar.{Reading, beginning}
use Rattle.flit_trace.proofs.GoodReadings.{beginning_good, read_good, ended_whole}
use Rattle.flit_trace.proofs.reading.read_trace.Goals as goal

pub of-requires : goal.of-requires
of-requires c =
    let r = c.in_ok-draft.ensures.read in
    let last : Reading = record { draft = c.in_ok-draft.draft; told = r.told } in
    let good = read_good 1 beginning (lines_of c.args.bytes.now) last r.read beginning_good in
    record {
      sound = good.sound;
      whole = c.in_ok-draft.ensures.whole;
      valued = good.start.valued;
      words = λ has. ap length r.keeps.words ∙ ended_whole last good r.ended has;
    }

pub returns-clause-ok : goal.returns-clause-ok
returns-clause-ok c =
    let r = c.in_ok-draft.ensures.read in
    let last : Reading = record { draft = c.in_ok-draft.draft; told = r.told } in
    let good = read_good 1 beginning (lines_of c.args.bytes.now) last r.read beginning_good in
    record {
      content = content_of c.in_ok-draft.draft r.told;
      is = record {
        size = c.if-bytes-gt-MOST_BYTES.false;
        last = last;
        read = r.read;
        ended = r.ended;
        is = refl;
      };
      shows = c.of.ensures r.told r.keeps good.counted;
    }
