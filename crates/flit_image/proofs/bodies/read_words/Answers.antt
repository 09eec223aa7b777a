use Rattle.std.proofs.Common.{◌≡◌, ◌+◌, length, suc, add-one, arith}
use Rattle.flit_image.specs.Readings.{BeginsWord}
use Rattle.flit_image.proofs.LinesSoFar.{lines_so_far-begins, all_raw-more}
use Rattle.flit_image.proofs.BodyFaults.{fault_behind}
use Rattle.flit_image.proofs.bodies.read_words.Goals as goal

pub lines-preserved : goal.lines-preserved
lines-preserved c =
    let l = c.args.layout.now in
    let found = c.in-Some.found in
    let begins : BeginsWord l c.len.result c.lines.rest.now found.line.now found.word found.raw found.rest.now = rw c.in-Some.is at c.in_ok-found.ensures.ok in
    let filled : length c.fill_fresh.new.words.items ≡ found.word = c.in_ok-fill_fresh.ensures.filled in
    let above : length c.push.new.self.items ≡ suc found.word = grind arith in
    let order : c.len.result ≡ length c.lines.words.items = grind arith in
    record {
      within = omega (arith, begins.good.within);
      few = omega (arith, begins.good.order);
      raw = all_raw-more c.fill_fresh.new.words.items c.push.new.self.items found.raw c.in_ok-push.ensures.items c.in_ok-fill_fresh.ensures.raw
          begins.is.raw_below;
      so_far = lines_so_far-begins l c.args.body.now c.lines.rest.now found.line.now found.rest.now c.lines.words.items c.fill_fresh.new.words.items
          c.push.new.self.items c.len.result found.word found.raw c.lines.invariant.so_far begins filled c.in_ok-fill_fresh.ensures.same
          c.in_ok-push.ensures.items;
      faults = λ e later. c.lines.invariant.faults e (fault_behind l c.lines.line (c.lines.line + 1) c.len.result (length c.lines.words.items)
          (length c.push.new.self.items) c.lines.rest.now found.line.now found.rest.now found.word found.raw e (add-one c.lines.line) order above begins later);
    }
