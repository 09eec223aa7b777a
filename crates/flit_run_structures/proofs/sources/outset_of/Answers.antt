use Rattle.std.proofs.Common.{ℕ, List, refl, sym, subst}
use Rattle.flit_trace.specs.Heads.{IsRightHead, IsHeadOf}
use Rattle.flit_structures.proofs.TraceSlots.{head_right}
use Rattle.flit_run_structures.proofs.SourceLaws.{read_outset, unread_outset}
use Rattle.flit_run_structures.proofs.sources.outset_of.Goals as goal

pub returns-in-Ok-clause-outset : goal.returns-in-Ok-clause-outset
returns-in-Ok-clause-outset c =
    let told = c.in-Some.ensures in
    unread_outset c.args.bytes.items c.in-Ok.start c.args.bytes c.in-Some.head refl told.right told.playable c.in-Ok.ensures.recovery
    (subst (λ (bs : List ℕ). IsHeadOf bs c.in-Some.head) c.deref.ensures.value told.head) c.in-Ok.ensures.starts

pub returns-in_ok-start-in-None-clause-outset : goal.returns-in_ok-start-in-None-clause-outset
returns-in_ok-start-in-None-clause-outset c =
    let bytes = c.args.bytes.items in
    let was = c.in_ok-read-in-None.ensures in
    let t = was.read.content in
    let right = head_right bytes t was.read.is (c.within_limits.ensures.accepted bytes t was.read.is) (c.within_limits.ensures.place bytes t was.read.is) in
    read_outset bytes c.in_ok-start-in-None.start c.in_ok-read-in-None.read c.head-head.result c.head-head.ensures.is was.read was.works
    (subst IsRightHead (sym was.read.shows.head) right) was.playable c.in_ok-start-in-None.ensures.starts
