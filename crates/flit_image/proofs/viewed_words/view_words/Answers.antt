use Rattle.std.proofs.Common.{◌≡◌, ◌+◌, length, suc, add-one, arith}
use Rattle.flit_image.specs.Readings.{BeginsWord}
use Rattle.flit_image.proofs.LinesSoFar.{lines_so_far-begins}
use Rattle.flit_image.proofs.ViewLines.{HaveLines-told}
use Rattle.flit_image.proofs.BodyFaults.{fault_behind}
use Rattle.flit_image.proofs.viewed_words.view_words.Goals as goal

pub lines-preserved : goal.lines-preserved
lines-preserved c =
    let l = c.args.layout.now in
    let found = c.in-Some.found in
    let begins : BeginsWord l c.len.result c.lines.rest.now found.line.now found.word found.raw found.rest.now = rw c.in-Some.is at c.in_ok-found.ensures.ok in
    let filled : length c.fill_fresh.new.words.items ≡ found.word = c.in_ok-fill_fresh.ensures.filled in
    let above : length c.push.new.self.items ≡ suc found.word = grind arith in
    let order : c.len.result ≡ length c.lines.words.items = grind arith in
    record {
      within = omega (arith, begins.good.within);
      few = omega (arith, begins.good.order);
      lent = HaveLines-told l c.fill_fresh.new.words.items c.push.new.self.items c.fill_fresh.new.lines.items c.push-in-Some.new.self.items c.len.result
          found.word found.raw c.lines.rest.now found.rest.now found.line c.in_ok-push.ensures.items c.in_ok-push-2.ensures.items
          c.in_ok-fill_fresh.ensures.lines filled begins;
      so_far = lines_so_far-begins l c.args.body.now c.lines.rest.now found.line.now found.rest.now c.lines.words.items c.fill_fresh.new.words.items
          c.push.new.self.items c.len.result found.word found.raw c.lines.invariant.so_far begins filled c.in_ok-fill_fresh.ensures.same
          c.in_ok-push.ensures.items;
      faults = λ e later. c.lines.invariant.faults e (fault_behind l c.lines.line (c.lines.line + 1) c.len.result (length c.lines.words.items)
          (length c.push.new.self.items) c.lines.rest.now found.line.now found.rest.now found.word found.raw e (add-one c.lines.line) order above begins later);
    }
