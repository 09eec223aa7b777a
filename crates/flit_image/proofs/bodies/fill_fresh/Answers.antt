use Rattle.std.proofs.Common.{◌≡◌, ◌<◌, ◌^◌, length, sym, ap, ◌∙◌, arith}
use Rattle.flit_words.specs.Layouts.{initial_of}
use Rattle.flit_image.proofs.LinesSoFar.{lines_so_far-fresh, all_raw-more}
use Rattle.flit_image.proofs.bodies.fill_fresh.Goals as goal

pub loop-word-preserved : goal.loop-word-preserved
loop-word-preserved c =
    let words = c.loop-word.words.items in
    let raw = c.from.result in
    let fresh : raw ≡ initial_of c.args.layout.now.kind (length words) =
    c.from.ensures ∙ c.initial.ensures ∙ ap (initial_of c.args.layout.now.kind) (sym c.loop-word.invariant.filled) in
    let small : raw < 2 ^ 64 = grind arith in
    record {
      filled = grind arith;
      raw = all_raw-more words c.push.new.self.items raw c.in_ok-push.ensures.items c.loop-word.invariant.raw small;
      same = lines_so_far-fresh c.args.layout.now words c.push.new.self.items raw c.in_ok-push.ensures.items fresh ∙ c.loop-word.invariant.same;
    }
