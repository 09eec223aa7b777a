use Rattle.std.proofs.Common.{◌≡◌, ◌<◌, ◌^◌, length, sym, ap, ◌∙◌, arith}
use Rattle.flit_words.specs.Layouts.{initial_of}
use Rattle.flit_image.proofs.LinesSoFar.{lines_so_far-fresh}
use Rattle.flit_image.proofs.ViewLines.{HaveLines-more}
use Rattle.flit_image.proofs.viewed_words.fill_fresh.Goals as goal

pub loop-word-preserved : goal.loop-word-preserved
loop-word-preserved c =
    let l = c.args.layout.now in
    let words = c.loop-word.words.items in
    let raw = c.from.result in
    let fresh : raw ≡ initial_of l.kind (length words) =
    c.from.ensures ∙ c.initial.ensures ∙ ap (initial_of l.kind) (sym c.loop-word.invariant.filled) in
    let small : raw < 2 ^ 64 = grind arith in
    record {
      filled = grind arith;
      lines = HaveLines-more l words c.push.new.self.items c.loop-word.lines.items c.push-in-loop-word.new.self.items raw _ c.in_ok-push.ensures.items
          c.in_ok-push-2.ensures.items c.loop-word.invariant.lines small (λ told. absurd (told fresh));
      same = lines_so_far-fresh l words c.push.new.self.items raw c.in_ok-push.ensures.items fresh ∙ c.loop-word.invariant.same;
    }
