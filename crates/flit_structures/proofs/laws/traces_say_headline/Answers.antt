use Rattle.std.proofs.Common.{refl}
use Rattle.flit_structures.specs.Structures.{placing_of, structure_in}
use Rattle.flit_structures.proofs.KindLaws.{kind_lawful}
use Rattle.flit_step_sentences.proofs.Printed.{says}
use Rattle.flit_structures.proofs.laws.traces_say_headline.Goals as goal

pub returns : goal.returns
returns c = λ bytes t start shows told trace playable starts is.
    let l = t.head.layout in
    let free = start.free.items in
    let can = c.traces_play.ensures bytes t start trace playable starts in
    says (structure_in t.head free).meaning
    (kind_lawful l.kind l (placing_of t.head.place) free refl (c.within_limits.ensures.accepted bytes t trace))
    c.one_recovery.ensures.map t shows start told
    (record { layout = c.rooms_are_free.ensures.layout t.head free; starts = can.starts; lines = can.lines }) is
