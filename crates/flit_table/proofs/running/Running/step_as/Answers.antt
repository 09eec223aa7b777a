use Rattle.std.proofs.Common.{◌∙◌, ap}
use Rattle.flit_model.specs.declared.events.Event.TheVariants.{Load, ReadTag, Raise, Lower, Exchange, Persist, Store, Draw}
use Rattle.flit_table.specs.Places.{place_in}
use Rattle.flit_table.proofs.StepGoals.{asked_step}
use Rattle.flit_table.proofs.running.Running.step_as.Goals as goal

pub load-requires : goal.load-requires
load-requires g c =
    asked_step g.S.Structure.meaning g.met.S.Structure.lawful c.self.inside.table.shared.key c.self.inside.table.shared.table_id c.self.inside.structure
    c.self.invariant c.args.self.now c.self.view_is
    c.args.seat.now g.J.Starting.start c.args.event (Load c.in-Load.word) c.word_at.result c.in-Load.is
    (record { belongs = c.requires.pass; may = c.requires.may; asked = c.requires.asked; within = c.requires.range })
    (c.word_at.ensures ∙ ap (λ l. place_in l (Load c.in-Load.word)) c.layout-layout.ensures)

pub load-requires-in-ReadTag : goal.load-requires-in-ReadTag
load-requires-in-ReadTag g c =
    asked_step g.S.Structure.meaning g.met.S.Structure.lawful c.self.inside.table.shared.key c.self.inside.table.shared.table_id c.self.inside.structure
    c.self.invariant c.args.self.now c.self.view_is
    c.args.seat.now g.J.Starting.start c.args.event (ReadTag c.in-ReadTag.slot) c.slot_at.result c.in-ReadTag.is
    (record { belongs = c.requires.pass; may = c.requires.may; asked = c.requires.asked; within = c.requires.range })
    (c.slot_at.ensures ∙ ap (λ l. place_in l (ReadTag c.in-ReadTag.slot)) c.layout-layout.ensures)

pub fetch_add-requires : goal.fetch_add-requires
fetch_add-requires g c =
    asked_step g.S.Structure.meaning g.met.S.Structure.lawful c.self.inside.table.shared.key c.self.inside.table.shared.table_id c.self.inside.structure
    c.self.invariant c.args.self.now c.self.view_is
    c.args.seat.now g.J.Starting.start c.args.event (Raise c.in-Raise.slot) c.slot_at-in-Raise.result c.in-Raise.is
    (record { belongs = c.requires.pass; may = c.requires.may; asked = c.requires.asked; within = c.requires.range })
    (c.slot_at-in-Raise.ensures ∙ ap (λ l. place_in l (Raise c.in-Raise.slot)) c.layout-layout.ensures)

pub fetch_sub-requires : goal.fetch_sub-requires
fetch_sub-requires g c =
    asked_step g.S.Structure.meaning g.met.S.Structure.lawful c.self.inside.table.shared.key c.self.inside.table.shared.table_id c.self.inside.structure
    c.self.invariant c.args.self.now c.self.view_is
    c.args.seat.now g.J.Starting.start c.args.event (Lower c.in-Lower.slot) c.slot_at-in-Lower.result c.in-Lower.is
    (record { belongs = c.requires.pass; may = c.requires.may; asked = c.requires.asked; within = c.requires.range })
    (c.slot_at-in-Lower.ensures ∙ ap (λ l. place_in l (Lower c.in-Lower.slot)) c.layout-layout.ensures)

pub compare_exchange-requires : goal.compare_exchange-requires
compare_exchange-requires g c =
    asked_step g.S.Structure.meaning g.met.S.Structure.lawful c.self.inside.table.shared.key c.self.inside.table.shared.table_id c.self.inside.structure
    c.self.invariant c.args.self.now c.self.view_is
    c.args.seat.now g.J.Starting.start c.args.event (Exchange c.in-Exchange.word c.in-Exchange.old c.in-Exchange.new) c.word_at-at.result c.in-Exchange.is
    (record { belongs = c.requires.pass; may = c.requires.may; asked = c.requires.asked; within = c.requires.range })
    (c.word_at-at.ensures ∙ ap (λ l. place_in l (Exchange c.in-Exchange.word c.in-Exchange.old c.in-Exchange.new)) c.layout-layout.ensures)

pub fetch_max-requires : goal.fetch_max-requires
fetch_max-requires g c =
    asked_step g.S.Structure.meaning g.met.S.Structure.lawful c.self.inside.table.shared.key c.self.inside.table.shared.table_id c.self.inside.structure
    c.self.invariant c.args.self.now c.self.view_is
    c.args.seat.now g.J.Starting.start c.args.event (Persist c.in-Persist.word c.in-Persist.kept) c.shadow_at.result c.in-Persist.is
    (record { belongs = c.requires.pass; may = c.requires.may; asked = c.requires.asked; within = c.requires.range })
    (c.shadow_at.ensures ∙ ap (λ l. place_in l (Persist c.in-Persist.word c.in-Persist.kept)) c.layout-layout.ensures)

pub store-requires : goal.store-requires
store-requires g c =
    asked_step g.S.Structure.meaning g.met.S.Structure.lawful c.self.inside.table.shared.key c.self.inside.table.shared.table_id c.self.inside.structure
    c.self.invariant c.args.self.now c.self.view_is
    c.args.seat.now g.J.Starting.start c.args.event (Store c.in-Store.word c.in-Store.new) c.word_at-in-Store.result c.in-Store.is
    (record { belongs = c.requires.pass; may = c.requires.may; asked = c.requires.asked; within = c.requires.range })
    (c.word_at-in-Store.ensures ∙ ap (λ l. place_in l (Store c.in-Store.word c.in-Store.new)) c.layout-layout.ensures)

pub fetch_add-requires-in-Draw : goal.fetch_add-requires-in-Draw
fetch_add-requires-in-Draw g c =
    asked_step g.S.Structure.meaning g.met.S.Structure.lawful c.self.inside.table.shared.key c.self.inside.table.shared.table_id c.self.inside.structure
    c.self.invariant c.args.self.now c.self.view_is
    c.args.seat.now g.J.Starting.start c.args.event Draw c.counter_at.result c.in-Draw.is
    (record { belongs = c.requires.pass; may = c.requires.may; asked = c.requires.asked; within = c.requires.range })
    (c.counter_at.ensures ∙ ap (λ l. place_in l Draw) c.layout-layout.ensures)
