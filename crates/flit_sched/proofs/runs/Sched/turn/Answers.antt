use Rattle.std.proofs.Common.{◌-◌, refl, ◌∙◌, subst, arith}
use Rattle.flit_sched.specs.Turns.{StaysOut}
use Rattle.flit_sched.specs.Openings.{content_of}
use Rattle.flit_sched.proofs.SeenLaws as seen
use Rattle.flit_sched.proofs.TurnFacts as facts
use Rattle.flit_sched.proofs.TurnFacts.{turning_of}
use Rattle.flit_sched.proofs.runs.Sched.turn.Goals as goal

pub returns-then-is_out-clause-is : goal.returns-then-is_out-clause-is
returns-then-is_out-clause-is g c =
    subst (λ r. StaysOut (g.S.Structure.meaning r.structure) r.run c.args.worker r.run) c.self.view_is
    (facts.stays_out (g.met.S.Structure.lawful c.self.inside.structure) c.self.invariant
    (seen.index_seen g.S.Structure.meaning g.met.S.Structure.lawful c.self.inside.structure c.self.invariant c.args.self.now c.self.view_is c.args.worker
    c.requires.0 c.requires.1) c.index.ensures c.args.worker refl c.requires.0 (c.is_out.ensures.0 c.if-is_out.true))

pub start_turn-event-requires-clause-within : goal.start_turn-event-requires-clause-within
start_turn-event-requires-clause-within g c =
    let t = turning_of (c.args.worker - 1) (g.met.S.Structure.lawful c.self.inside.structure) c.self.invariant
    (seen.index_seen g.S.Structure.meaning g.met.S.Structure.lawful c.self.inside.structure c.self.invariant c.args.self.now c.self.view_is c.args.worker
    c.requires.0 c.requires.1)
    c.index.ensures c.index_mut-player.ensures.value
    c.is_out.result c.if-is_out.false c.is_out.ensures.1 in
    facts.over_own t

pub start_turn-event-requires-clause-named : goal.start_turn-event-requires-clause-named
start_turn-event-requires-clause-named g c =
    let t = turning_of (c.args.worker - 1) (g.met.S.Structure.lawful c.self.inside.structure) c.self.invariant
    (seen.index_seen g.S.Structure.meaning g.met.S.Structure.lawful c.self.inside.structure c.self.invariant c.args.self.now c.self.view_is c.args.worker
    c.requires.0 c.requires.1)
    c.index.ensures c.index_mut-player.ensures.value
    c.is_out.result c.if-is_out.false c.is_out.ensures.1 in
    facts.name_low t

pub start_turn-event-requires-clause-may : goal.start_turn-event-requires-clause-may
start_turn-event-requires-clause-may g c =
    let t = turning_of (c.args.worker - 1) (g.met.S.Structure.lawful c.self.inside.structure) c.self.invariant
    (seen.index_seen g.S.Structure.meaning g.met.S.Structure.lawful c.self.inside.structure c.self.invariant c.args.self.now c.self.view_is c.args.worker
    c.requires.0 c.requires.1)
    c.index.ensures c.index_mut-player.ensures.value
    c.is_out.result c.if-is_out.false c.is_out.ensures.1 in
    rw c.deref.ensures.value (facts.may t)

pub start_turn-event-requires-clause-asks : goal.start_turn-event-requires-clause-asks
start_turn-event-requires-clause-asks g c =
    let t = turning_of (c.args.worker - 1) (g.met.S.Structure.lawful c.self.inside.structure) c.self.invariant
    (seen.index_seen g.S.Structure.meaning g.met.S.Structure.lawful c.self.inside.structure c.self.invariant c.args.self.now c.self.view_is c.args.worker
    c.requires.0 c.requires.1)
    c.index.ensures c.index_mut-player.ensures.value
    c.is_out.result c.if-is_out.false c.is_out.ensures.1 in
    facts.asks t

pub start_turn-event-requires-clause-rising : goal.start_turn-event-requires-clause-rising
start_turn-event-requires-clause-rising g c =
    rw c.deref.ensures.value c.self.invariant.kept.book.rising

pub apply-answer-requires : goal.apply-answer-requires
apply-answer-requires g c =
    let t = turning_of (c.args.worker - 1) (g.met.S.Structure.lawful c.self.inside.structure) c.self.invariant
    (seen.index_seen g.S.Structure.meaning g.met.S.Structure.lawful c.self.inside.structure c.self.invariant c.args.self.now c.self.view_is c.args.worker
    c.requires.0 c.requires.1)
    c.index.ensures c.index_mut-player.ensures.value
    c.is_out.result c.if-is_out.false c.is_out.ensures.1 in
    let b = c.start_turn-event.ensures in
    let s = facts.starting_of t c.start_turn-event.new.player c.start_turn-event.result b.begun b.ended b.raw b.asks
    (rw c.deref.ensures.value at (rw c.deref-2.ensures.value at b.noted)) in
    facts.allowed s

pub wait-requires-clause-within : goal.wait-requires-clause-within
wait-requires-clause-within g c =
    let t = turning_of (c.args.worker - 1) (g.met.S.Structure.lawful c.self.inside.structure) c.self.invariant
    (seen.index_seen g.S.Structure.meaning g.met.S.Structure.lawful c.self.inside.structure c.self.invariant c.args.self.now c.self.view_is c.args.worker
    c.requires.0 c.requires.1)
    c.index.ensures c.index_mut-player.ensures.value
    c.is_out.result c.if-is_out.false c.is_out.ensures.1 in
    let b = c.start_turn-event.ensures in
    let s = facts.starting_of t c.start_turn-event.new.player c.start_turn-event.result b.begun b.ended b.raw b.asks
    (rw c.deref.ensures.value at (rw c.deref-2.ensures.value at b.noted)) in
    facts.exchanged s

pub wait-requires-clause-small : goal.wait-requires-clause-small
wait-requires-clause-small g c =
    let t = turning_of (c.args.worker - 1) (g.met.S.Structure.lawful c.self.inside.structure) c.self.invariant
    (seen.index_seen g.S.Structure.meaning g.met.S.Structure.lawful c.self.inside.structure c.self.invariant c.args.self.now c.self.view_is c.args.worker
    c.requires.0 c.requires.1)
    c.index.ensures c.index_mut-player.ensures.value
    c.is_out.result c.if-is_out.false c.is_out.ensures.1 in
    let b = c.start_turn-event.ensures in
    let s = facts.starting_of t c.start_turn-event.new.player c.start_turn-event.result b.begun b.ended b.raw b.asks
    (rw c.deref.ensures.value at (rw c.deref-2.ensures.value at b.noted)) in
    facts.small s

pub settle-requires-clause-rising : goal.settle-requires-clause-rising
settle-requires-clause-rising g c =
    rw c.deref-4.ensures.value c.self.invariant.kept.book.rising

pub settle-requires-clause-has : goal.settle-requires-clause-has
settle-requires-clause-has g c =
    let t = turning_of (c.args.worker - 1) (g.met.S.Structure.lawful c.self.inside.structure) c.self.invariant
    (seen.index_seen g.S.Structure.meaning g.met.S.Structure.lawful c.self.inside.structure c.self.invariant c.args.self.now c.self.view_is c.args.worker
    c.requires.0 c.requires.1)
    c.index.ensures c.index_mut-player.ensures.value
    c.is_out.result c.if-is_out.false c.is_out.ensures.1 in
    let b = c.start_turn-event.ensures in
    let s = facts.starting_of t c.start_turn-event.new.player c.start_turn-event.result b.begun b.ended b.raw b.asks
    (rw c.deref.ensures.value at (rw c.deref-2.ensures.value at b.noted)) in
    let k = facts.making_of s c.apply-answer.ensures.answer c.wait.ensures.waits c.wait.ensures.last in
    rw c.deref-4.ensures.value (facts.has k)

pub settle-requires-clause-room : goal.settle-requires-clause-room
settle-requires-clause-room g c =
    let t = turning_of (c.args.worker - 1) (g.met.S.Structure.lawful c.self.inside.structure) c.self.invariant
    (seen.index_seen g.S.Structure.meaning g.met.S.Structure.lawful c.self.inside.structure c.self.invariant c.args.self.now c.self.view_is c.args.worker
    c.requires.0 c.requires.1)
    c.index.ensures c.index_mut-player.ensures.value
    c.is_out.result c.if-is_out.false c.is_out.ensures.1 in
    let b = c.start_turn-event.ensures in
    let s = facts.starting_of t c.start_turn-event.new.player c.start_turn-event.result b.begun b.ended b.raw b.asks
    (rw c.deref.ensures.value at (rw c.deref-2.ensures.value at b.noted)) in
    let k = facts.making_of s c.apply-answer.ensures.answer c.wait.ensures.waits c.wait.ensures.last in
    λ up some. let n = facts.room k up some in let o = c.self.inside.settled.ok in omega (arith, n, o.0)

pub settle-requires-clause-within : goal.settle-requires-clause-within
settle-requires-clause-within g c =
    let t = turning_of (c.args.worker - 1) (g.met.S.Structure.lawful c.self.inside.structure) c.self.invariant
    (seen.index_seen g.S.Structure.meaning g.met.S.Structure.lawful c.self.inside.structure c.self.invariant c.args.self.now c.self.view_is c.args.worker
    c.requires.0 c.requires.1)
    c.index.ensures c.index_mut-player.ensures.value
    c.is_out.result c.if-is_out.false c.is_out.ensures.1 in
    let b = c.start_turn-event.ensures in
    let s = facts.starting_of t c.start_turn-event.new.player c.start_turn-event.result b.begun b.ended b.raw b.asks
    (rw c.deref.ensures.value at (rw c.deref-2.ensures.value at b.noted)) in
    let k = facts.making_of s c.apply-answer.ensures.answer c.wait.ensures.waits c.wait.ensures.last in
    rw c.deref-3.ensures.value (λ word is. let n = facts.raised_within s _ word is in let o = facts.last_long k in omega (arith, n, o))

pub settle-requires-clause-last : goal.settle-requires-clause-last
settle-requires-clause-last g c =
    let t = turning_of (c.args.worker - 1) (g.met.S.Structure.lawful c.self.inside.structure) c.self.invariant
    (seen.index_seen g.S.Structure.meaning g.met.S.Structure.lawful c.self.inside.structure c.self.invariant c.args.self.now c.self.view_is c.args.worker
    c.requires.0 c.requires.1)
    c.index.ensures c.index_mut-player.ensures.value
    c.is_out.result c.if-is_out.false c.is_out.ensures.1 in
    let b = c.start_turn-event.ensures in
    let s = facts.starting_of t c.start_turn-event.new.player c.start_turn-event.result b.begun b.ended b.raw b.asks
    (rw c.deref.ensures.value at (rw c.deref-2.ensures.value at b.noted)) in
    let k = facts.making_of s c.apply-answer.ensures.answer c.wait.ensures.waits c.wait.ensures.last in
    rw c.deref-3.ensures.value (facts.last_made k)

pub index_mut-player-requires-2 : goal.index_mut-player-requires-2
index_mut-player-requires-2 g c =
    let t = turning_of (c.args.worker - 1) (g.met.S.Structure.lawful c.self.inside.structure) c.self.invariant
    (seen.index_seen g.S.Structure.meaning g.met.S.Structure.lawful c.self.inside.structure c.self.invariant c.args.self.now c.self.view_is c.args.worker
    c.requires.0 c.requires.1)
    c.index.ensures c.index_mut-player.ensures.value
    c.is_out.result c.if-is_out.false c.is_out.ensures.1 in
    let b = c.start_turn-event.ensures in
    let s = facts.starting_of t c.start_turn-event.new.player c.start_turn-event.result b.begun b.ended b.raw b.asks
    (rw c.deref.ensures.value at (rw c.deref-2.ensures.value at b.noted)) in
    let k = facts.making_of s c.apply-answer.ensures.answer c.wait.ensures.waits c.wait.ensures.last in
    let w = facts.settling_of k (rw c.deref-4.ensures.value at c.settle.ensures.settles) in
    let n = facts.within_later w in let o = c.settle.new.players.ok in omega (arith, n, o.0)

pub end_turn-read-requires-clause-asks : goal.end_turn-read-requires-clause-asks
end_turn-read-requires-clause-asks g c =
    let t = turning_of (c.args.worker - 1) (g.met.S.Structure.lawful c.self.inside.structure) c.self.invariant
    (seen.index_seen g.S.Structure.meaning g.met.S.Structure.lawful c.self.inside.structure c.self.invariant c.args.self.now c.self.view_is c.args.worker
    c.requires.0 c.requires.1)
    c.index.ensures c.index_mut-player.ensures.value
    c.is_out.result c.if-is_out.false c.is_out.ensures.1 in
    let b = c.start_turn-event.ensures in
    let s = facts.starting_of t c.start_turn-event.new.player c.start_turn-event.result b.begun b.ended b.raw b.asks
    (rw c.deref.ensures.value at (rw c.deref-2.ensures.value at b.noted)) in
    let k = facts.making_of s c.apply-answer.ensures.answer c.wait.ensures.waits c.wait.ensures.last in
    let w = facts.settling_of k (rw c.deref-4.ensures.value at c.settle.ensures.settles) in
    facts.asks_later w c.index_mut-player-2.ensures.value

pub end_turn-read-requires-clause-told : goal.end_turn-read-requires-clause-told
end_turn-read-requires-clause-told g c =
    let t = turning_of (c.args.worker - 1) (g.met.S.Structure.lawful c.self.inside.structure) c.self.invariant
    (seen.index_seen g.S.Structure.meaning g.met.S.Structure.lawful c.self.inside.structure c.self.invariant c.args.self.now c.self.view_is c.args.worker
    c.requires.0 c.requires.1)
    c.index.ensures c.index_mut-player.ensures.value
    c.is_out.result c.if-is_out.false c.is_out.ensures.1 in
    let b = c.start_turn-event.ensures in
    let s = facts.starting_of t c.start_turn-event.new.player c.start_turn-event.result b.begun b.ended b.raw b.asks
    (rw c.deref.ensures.value at (rw c.deref-2.ensures.value at b.noted)) in
    let k = facts.making_of s c.apply-answer.ensures.answer c.wait.ensures.waits c.wait.ensures.last in
    let w = facts.settling_of k (rw c.deref-4.ensures.value at c.settle.ensures.settles) in
    facts.told_later w c.index_mut-player-2.ensures.value

pub end_turn-read-requires-clause-within : goal.end_turn-read-requires-clause-within
end_turn-read-requires-clause-within g c =
    let t = turning_of (c.args.worker - 1) (g.met.S.Structure.lawful c.self.inside.structure) c.self.invariant
    (seen.index_seen g.S.Structure.meaning g.met.S.Structure.lawful c.self.inside.structure c.self.invariant c.args.self.now c.self.view_is c.args.worker
    c.requires.0 c.requires.1)
    c.index.ensures c.index_mut-player.ensures.value
    c.is_out.result c.if-is_out.false c.is_out.ensures.1 in
    let b = c.start_turn-event.ensures in
    let s = facts.starting_of t c.start_turn-event.new.player c.start_turn-event.result b.begun b.ended b.raw b.asks
    (rw c.deref.ensures.value at (rw c.deref-2.ensures.value at b.noted)) in
    let k = facts.making_of s c.apply-answer.ensures.answer c.wait.ensures.waits c.wait.ensures.last in
    let w = facts.settling_of k (rw c.deref-4.ensures.value at c.settle.ensures.settles) in
    facts.over_later w c.index_mut-player-2.ensures.value

pub end_turn-read-requires-clause-outcomes : goal.end_turn-read-requires-clause-outcomes
end_turn-read-requires-clause-outcomes g c =
    let t = turning_of (c.args.worker - 1) (g.met.S.Structure.lawful c.self.inside.structure) c.self.invariant
    (seen.index_seen g.S.Structure.meaning g.met.S.Structure.lawful c.self.inside.structure c.self.invariant c.args.self.now c.self.view_is c.args.worker
    c.requires.0 c.requires.1)
    c.index.ensures c.index_mut-player.ensures.value
    c.is_out.result c.if-is_out.false c.is_out.ensures.1 in
    let b = c.start_turn-event.ensures in
    let s = facts.starting_of t c.start_turn-event.new.player c.start_turn-event.result b.begun b.ended b.raw b.asks
    (rw c.deref.ensures.value at (rw c.deref-2.ensures.value at b.noted)) in
    let k = facts.making_of s c.apply-answer.ensures.answer c.wait.ensures.waits c.wait.ensures.last in
    let w = facts.settling_of k (rw c.deref-4.ensures.value at c.settle.ensures.settles) in
    facts.outcomes_later w c.index_mut-player-2.ensures.value

pub place-requires-clause-first : goal.place-requires-clause-first
place-requires-clause-first g c =
    let t = turning_of (c.args.worker - 1) (g.met.S.Structure.lawful c.self.inside.structure) c.self.invariant
    (seen.index_seen g.S.Structure.meaning g.met.S.Structure.lawful c.self.inside.structure c.self.invariant c.args.self.now c.self.view_is c.args.worker
    c.requires.0 c.requires.1)
    c.index.ensures c.index_mut-player.ensures.value
    c.is_out.result c.if-is_out.false c.is_out.ensures.1 in
    let b = c.start_turn-event.ensures in
    let s = facts.starting_of t c.start_turn-event.new.player c.start_turn-event.result b.begun b.ended b.raw b.asks
    (rw c.deref.ensures.value at (rw c.deref-2.ensures.value at b.noted)) in
    let k = facts.making_of s c.apply-answer.ensures.answer c.wait.ensures.waits c.wait.ensures.last in
    let w = facts.settling_of k (rw c.deref-4.ensures.value at c.settle.ensures.settles) in
    let e = c.end_turn-read.ensures in
    let d = facts.ending_of c.end_turn-read.new.player w c.index_mut-player-2.ensures.value (c.len-settled.ensures ∙ c.self.inside.settled.ok.0) e.part e.same
    e.read e.ended in
    rw c.deref-in-Some.ensures.value (facts.first_in d c.in-Some.is)

pub place-requires-clause-small : goal.place-requires-clause-small
place-requires-clause-small g c =
    let t = turning_of (c.args.worker - 1) (g.met.S.Structure.lawful c.self.inside.structure) c.self.invariant
    (seen.index_seen g.S.Structure.meaning g.met.S.Structure.lawful c.self.inside.structure c.self.invariant c.args.self.now c.self.view_is c.args.worker
    c.requires.0 c.requires.1)
    c.index.ensures c.index_mut-player.ensures.value
    c.is_out.result c.if-is_out.false c.is_out.ensures.1 in
    let b = c.start_turn-event.ensures in
    let s = facts.starting_of t c.start_turn-event.new.player c.start_turn-event.result b.begun b.ended b.raw b.asks
    (rw c.deref.ensures.value at (rw c.deref-2.ensures.value at b.noted)) in
    let k = facts.making_of s c.apply-answer.ensures.answer c.wait.ensures.waits c.wait.ensures.last in
    let w = facts.settling_of k (rw c.deref-4.ensures.value at c.settle.ensures.settles) in
    let e = c.end_turn-read.ensures in
    let d = facts.ending_of c.end_turn-read.new.player w c.index_mut-player-2.ensures.value (c.len-settled.ensures ∙ c.self.inside.settled.ok.0) e.part e.same
    e.read e.ended in
    rw c.deref-in-Some.ensures.value (facts.small_grown d)

pub place-requires-clause-room : goal.place-requires-clause-room
place-requires-clause-room g c =
    let t = turning_of (c.args.worker - 1) (g.met.S.Structure.lawful c.self.inside.structure) c.self.invariant
    (seen.index_seen g.S.Structure.meaning g.met.S.Structure.lawful c.self.inside.structure c.self.invariant c.args.self.now c.self.view_is c.args.worker
    c.requires.0 c.requires.1)
    c.index.ensures c.index_mut-player.ensures.value
    c.is_out.result c.if-is_out.false c.is_out.ensures.1 in
    let n = facts.place_room t in let o = c.self.inside.placed.ok in omega (arith, n, o.0)

pub invariant_of-self : goal.invariant_of-self
invariant_of-self g c =
    let t = turning_of (c.args.worker - 1) (g.met.S.Structure.lawful c.self.inside.structure) c.self.invariant
    (seen.index_seen g.S.Structure.meaning g.met.S.Structure.lawful c.self.inside.structure c.self.invariant c.args.self.now c.self.view_is c.args.worker
    c.requires.0 c.requires.1)
    c.index.ensures c.index_mut-player.ensures.value
    c.is_out.result c.if-is_out.false c.is_out.ensures.1 in
    let b = c.start_turn-event.ensures in
    let s = facts.starting_of t c.start_turn-event.new.player c.start_turn-event.result b.begun b.ended b.raw b.asks
    (rw c.deref.ensures.value at (rw c.deref-2.ensures.value at b.noted)) in
    let k = facts.making_of s c.apply-answer.ensures.answer c.wait.ensures.waits c.wait.ensures.last in
    let w = facts.settling_of k (rw c.deref-4.ensures.value at c.settle.ensures.settles) in
    let e = c.end_turn-read.ensures in
    let d = facts.ending_of c.end_turn-read.new.player w c.index_mut-player-2.ensures.value (c.len-settled.ensures ∙ c.self.inside.settled.ok.0) e.part e.same
    e.read e.ended in
    let at = (rw c.deref-in-Some.ensures.value at c.place.ensures.placed) (content_of c.self.inside.first_keys.items c.self.inside.first_values.items)
    (facts.noted_is d c.in-Some.is) (facts.placed_from d c.in-Some.is c.args.worker refl c.requires.0) (facts.is_read d c.in-Some.is) in
    rw c.apply-answer.ensures.effect
    (facts.held_read d c.in-Some.is c.args.worker refl c.requires.0 c.place.new.placed.items at _ _ c.settle.ensures.capacity c.place.ensures.capacity)

pub invariant_of-self-in_default : goal.invariant_of-self-in_default
invariant_of-self-in_default g c =
    let t = turning_of (c.args.worker - 1) (g.met.S.Structure.lawful c.self.inside.structure) c.self.invariant
    (seen.index_seen g.S.Structure.meaning g.met.S.Structure.lawful c.self.inside.structure c.self.invariant c.args.self.now c.self.view_is c.args.worker
    c.requires.0 c.requires.1)
    c.index.ensures c.index_mut-player.ensures.value
    c.is_out.result c.if-is_out.false c.is_out.ensures.1 in
    let b = c.start_turn-event.ensures in
    let s = facts.starting_of t c.start_turn-event.new.player c.start_turn-event.result b.begun b.ended b.raw b.asks
    (rw c.deref.ensures.value at (rw c.deref-2.ensures.value at b.noted)) in
    let k = facts.making_of s c.apply-answer.ensures.answer c.wait.ensures.waits c.wait.ensures.last in
    let w = facts.settling_of k (rw c.deref-4.ensures.value at c.settle.ensures.settles) in
    let e = c.end_turn-read.ensures in
    let d = facts.ending_of c.end_turn-read.new.player w c.index_mut-player-2.ensures.value (c.len-settled.ensures ∙ c.self.inside.settled.ok.0) e.part e.same
    e.read e.ended in
    rw c.apply-answer.ensures.effect (facts.held_still d _ _ c.settle.ensures.capacity (omega arith))

pub returns-in-Some-clause-is : goal.returns-in-Some-clause-is
returns-in-Some-clause-is g c =
    let t = turning_of (c.args.worker - 1) (g.met.S.Structure.lawful c.self.inside.structure) c.self.invariant
    (seen.index_seen g.S.Structure.meaning g.met.S.Structure.lawful c.self.inside.structure c.self.invariant c.args.self.now c.self.view_is c.args.worker
    c.requires.0 c.requires.1)
    c.index.ensures c.index_mut-player.ensures.value
    c.is_out.result c.if-is_out.false c.is_out.ensures.1 in
    let b = c.start_turn-event.ensures in
    let s = facts.starting_of t c.start_turn-event.new.player c.start_turn-event.result b.begun b.ended b.raw b.asks
    (rw c.deref.ensures.value at (rw c.deref-2.ensures.value at b.noted)) in
    let k = facts.making_of s c.apply-answer.ensures.answer c.wait.ensures.waits c.wait.ensures.last in
    let w = facts.settling_of k (rw c.deref-4.ensures.value at c.settle.ensures.settles) in
    let e = c.end_turn-read.ensures in
    let d = facts.ending_of c.end_turn-read.new.player w c.index_mut-player-2.ensures.value (c.len-settled.ensures ∙ c.self.inside.settled.ok.0) e.part e.same
    e.read e.ended in
    let at = (rw c.deref-in-Some.ensures.value at c.place.ensures.placed) (content_of c.self.inside.first_keys.items c.self.inside.first_values.items)
    (facts.noted_is d c.in-Some.is) (facts.placed_from d c.in-Some.is c.args.worker refl c.requires.0) (facts.is_read d c.in-Some.is) in
    rw c.apply-answer.ensures.effect
    (seen.turned_seen g.S.Structure.meaning g.met.S.Structure.lawful c.self.inside.structure c.self.invariant c.args.self.now c.self.view_is
    (facts.turned_read d c.in-Some.is c.args.worker refl c.requires.0 c.place.new.placed.items at))

pub returns-in_default-clause-is : goal.returns-in_default-clause-is
returns-in_default-clause-is g c =
    let t = turning_of (c.args.worker - 1) (g.met.S.Structure.lawful c.self.inside.structure) c.self.invariant
    (seen.index_seen g.S.Structure.meaning g.met.S.Structure.lawful c.self.inside.structure c.self.invariant c.args.self.now c.self.view_is c.args.worker
    c.requires.0 c.requires.1)
    c.index.ensures c.index_mut-player.ensures.value
    c.is_out.result c.if-is_out.false c.is_out.ensures.1 in
    let b = c.start_turn-event.ensures in
    let s = facts.starting_of t c.start_turn-event.new.player c.start_turn-event.result b.begun b.ended b.raw b.asks
    (rw c.deref.ensures.value at (rw c.deref-2.ensures.value at b.noted)) in
    let k = facts.making_of s c.apply-answer.ensures.answer c.wait.ensures.waits c.wait.ensures.last in
    let w = facts.settling_of k (rw c.deref-4.ensures.value at c.settle.ensures.settles) in
    let e = c.end_turn-read.ensures in
    let d = facts.ending_of c.end_turn-read.new.player w c.index_mut-player-2.ensures.value (c.len-settled.ensures ∙ c.self.inside.settled.ok.0) e.part e.same
    e.read e.ended in
    rw c.apply-answer.ensures.effect
    (seen.turned_seen g.S.Structure.meaning g.met.S.Structure.lawful c.self.inside.structure c.self.invariant c.args.self.now c.self.view_is
    (facts.turned_still d c.args.worker refl c.requires.0 c.in_default.not-Some))

pub returns-in-Some-clause-replies : goal.returns-in-Some-clause-replies
returns-in-Some-clause-replies g c =
    seen.replies_seen g.S.Structure.meaning g.met.S.Structure.lawful c.self.inside.structure c.self.invariant c.args.self.now c.self.view_is
    c.args.worker c.start_turn-event.result c.apply-answer.result _ (returns-in-Some-clause-is g c)

pub returns-in-Some-clause-goes_down : goal.returns-in-Some-clause-goes_down
returns-in-Some-clause-goes_down g c =
    seen.falls_seen g.S.Structure.meaning g.met.S.Structure.lawful c.self.inside.structure c.self.invariant c.args.self.now c.self.view_is
    c.args.worker c.start_turn-event.result c.apply-answer.result _ (returns-in-Some-clause-is g c)

pub returns-in_default-clause-replies : goal.returns-in_default-clause-replies
returns-in_default-clause-replies g c =
    seen.replies_seen g.S.Structure.meaning g.met.S.Structure.lawful c.self.inside.structure c.self.invariant c.args.self.now c.self.view_is
    c.args.worker c.start_turn-event.result c.apply-answer.result _ (returns-in_default-clause-is g c)

pub returns-in_default-clause-goes_down : goal.returns-in_default-clause-goes_down
returns-in_default-clause-goes_down g c =
    seen.falls_seen g.S.Structure.meaning g.met.S.Structure.lawful c.self.inside.structure c.self.invariant c.args.self.now c.self.view_is
    c.args.worker c.start_turn-event.result c.apply-answer.result _ (returns-in_default-clause-is g c)
