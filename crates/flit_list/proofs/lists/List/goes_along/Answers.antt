use Rattle.std.proofs.Common.{◌≡◌, ◌+◌, ◌-◌, arith, sym, ap, ◌∙◌}
use Rattle.flit_structure.specs.Meanings.{key_of}
use Rattle.flit_list_steps.specs.Steps.{hand_at, key_word, row_of, FitsLink}
use Rattle.flit_list_steps.specs.Phases.{same_hand}
use Rattle.flit_list.proofs.AlongRows.{IsLoad, HasLink, IsAtKey, HasKey, begins, put_back, stops_further, stops_at_once, row_fits, link_loaded, along_none}
use Rattle.flit_list.proofs.AlongRows.{row_marked, row_unmarked, key_comes, key_loaded, row_ends, row_last, row_further}
use Rattle.flit_list.proofs.lists.List.goes_along.Given.{Over}
use Rattle.flit_list.proofs.lists.List.goes_along.Goals as goal
use Rattle.flit_list.proofs.lists.List.goes_along.Goals.{After-loaded-next, After-key_word, After-unpack-key}

-- ---- the row that is looked at

first_load : (g : Over) (c : After-loaded-next g) → IsLoad (g.L.Loader.stands c.args.loader.now) (g.L.Loader.meaning c.args.loader.now)
    c.loop-left.word c.loop-left.seat c.load-raw.result c.load-raw.new.seat
first_load g c = record { may = c.load-raw.ensures.may; stands = c.load-raw.ensures.stands }

fits : (g : Over) (c : After-loaded-next g) → FitsLink (hand_at c.loop-left.op.at)
fits g c = row_fits c.loop-left.invariant.along g.P.Placement.place c.args.self.now c.requires.alike (first_load g c) c.requires.stands

link : (g : Over) (c : After-loaded-next g) → HasLink g.P.Placement.place c.args.self.now (g.L.Loader.stands c.args.loader.now) c.args.seat.now c.args.op.now
    c.load-raw.new.seat c.loop-left.op c.loop-left.back c.loop-left.pred c.loaded-next.result c.load-raw.result (c.args.most - c.loop-left.left + 1)
link g c = link_loaded c.loop-left.invariant.along g.P.Placement.place c.args.self.now c.requires.alike (first_load g c) c.loaded-next.ensures

at_key : (g : Over) (c : After-key_word g) → HasLink g.P.Placement.place c.args.self.now (g.L.Loader.stands c.args.loader.now) c.args.seat.now c.args.op.now
    c.load-raw.new.seat c.loop-left.op c.loop-left.back c.loop-left.pred c.loaded-next.result c.load-raw.result (c.args.most - c.loop-left.left + 1) →
    IsAtKey (g.L.Loader.stands c.args.loader.now) c.args.seat.now c.args.op.now c.load-raw.new.seat c.loop-left.op c.loop-left.back c.loop-left.pred
    c.loaded-next.result c.key_word.result (c.args.most - c.loop-left.left + 1)
at_key g c has = row_unmarked has c.link_of-link.ensures.is c.if-link.false
    (c.key_word.ensures.is ∙ ap (key_word c.args.self.now.layout) c.loop-left.invariant.row)

key : (g : Over) (c : After-unpack-key g) → IsAtKey (g.L.Loader.stands c.args.loader.now) c.args.seat.now c.args.op.now c.load-raw.new.seat c.loop-left.op
    c.loop-left.back c.loop-left.pred c.loaded-next.result c.key_word.result (c.args.most - c.loop-left.left + 1) →
    HasKey g.P.Placement.place c.args.self.now (g.L.Loader.stands c.args.loader.now) c.args.seat.now c.args.op.now c.load.new.seat c.loop-left.op
    c.loop-left.back c.loop-left.pred c.loaded-next.result c.unpack-key.result.value (c.args.most - (c.loop-left.left - 2))
key g c at =
    let load : IsLoad (g.L.Loader.stands c.args.loader.now) (g.L.Loader.meaning c.args.loader.now) c.key_word.result c.load-raw.new.seat
    c.load.result c.load.new.seat = record { may = c.load.ensures.may; stands = c.load.ensures.stands } in
    key_loaded at g.P.Placement.place c.args.self.now c.requires.alike load (ap (λ w. w.value) c.unpack-key.ensures.is) (omega arith)

wanted : (g : Over) (c : After-loaded-next g) → c.key_of-wanted.result ≡ key_of c.loop-left.op.call
wanted g c = c.key_of-wanted.ensures ∙ ap (λ o. key_of o.call) (c.op.view_is ∙ sym c.loop-left.invariant.along.same)

-- ---- the goals

pub loop-left-init : goal.loop-left-init
loop-left-init g c = record {
  most = omega arith;
  row = ap (λ k. k.row) c.link_of-row.ensures.is;
  along = along_none (omega arith) (begins (g.L.Loader.stands c.args.loader.now) c.args.seat.now c.args.op.now c.op.inside.path c.args.word
      (ap (λ o. o.path) (sym c.op.view_is)) c.requires.at);
}

pub leaves-requires : goal.leaves-requires
leaves-requires g c = fits g (goal.at.leaves-requires g c).After-loaded-next

pub returns-then-link-clause-stands : goal.returns-then-link-clause-stands
returns-then-link-clause-stands g c =
    let before = goal.at.returns-then-link-clause-stands g c in
    (row_marked (link g before.After-loaded-next) c.link_of-link.ensures.is c.if-link.true c.leaves.ensures).goes

pub load-requires : goal.load-requires
load-requires g c =
    let before = goal.at.load-requires g c in
    record { asked = key_comes (at_key g c (link g before.After-loaded-next)) g.P.Placement.place c.args.self.now c.requires.alike c.requires.stands }

pub leaves-requires-then-wanted-key : goal.leaves-requires-then-wanted-key
leaves-requires-then-wanted-key g c = fits g (goal.at.leaves-requires-then-wanted-key g c).After-loaded-next

pub returns-then-wanted-key-clause-stands : goal.returns-then-wanted-key-clause-stands
returns-then-wanted-key-clause-stands g c =
    let before = goal.at.returns-then-wanted-key-clause-stands g c in
    let has = key g before.After-unpack-key (at_key g before.After-key_word (link g before.After-loaded-next)) in
    (row_ends has (wanted g before.After-loaded-next) c.if-wanted-key.true c.goal_at.ensures c.leaves-then-wanted-key.ensures).goes

pub leaves-requires-then-row-eq0 : goal.leaves-requires-then-row-eq0
leaves-requires-then-row-eq0 g c = fits g (goal.at.leaves-requires-then-row-eq0 g c).After-loaded-next

pub returns-then-row-eq0-clause-stands : goal.returns-then-row-eq0-clause-stands
returns-then-row-eq0-clause-stands g c =
    let before = goal.at.returns-then-row-eq0-clause-stands g c in
    let has = key g before.After-unpack-key (at_key g before.After-key_word (link g before.After-loaded-next)) in
    (row_last has (wanted g before.After-loaded-next) c.if-wanted-key.false c.loaded-next.ensures c.link_of-link.ensures.is c.if-row-eq0.true
    c.leaves-then-row-eq0.ensures).goes

pub loop-left-preserved : goal.loop-left-preserved
loop-left-preserved g c =
    let before = goal.at.loop-left-preserved g c in
    let has = key g before.After-unpack-key (at_key g before.After-key_word (link g before.After-loaded-next)) in record {
      most = omega arith;
      row = ap (λ k. k.row) c.link_of-link.ensures.is ∙ ap (λ x. row_of x.raw) (sym c.loaded-next.ensures);
      along = row_further has (wanted g before.After-loaded-next) c.if-wanted-key.false c.loaded-next.ensures c.link_of-link.ensures.is c.if-row-eq0.false
          c.link_word-word.ensures c.loop-left.invariant.along.same (omega arith);
    }

pub returns-then-left-most-clause-stands : goal.returns-then-left-most-clause-stands
returns-then-left-most-clause-stands g c = (stops_at_once c.loop-left.invariant.along (omega arith)).goes

pub returns-clause-stands : goal.returns-clause-stands
returns-clause-stands g c =
    let hand = sym (same_hand c.op-2.inside.hand c.op-2.inside.store c.op-2.inside.at) ∙ ap (λ o. hand_at o.at) c.op-2.view_is in
    (stops_further c.loop-left.invariant.along (omega (arith, c.if-left-most.false)) _
    (put_back c.loop-left.op c.op-2.inside.call c.op-2.inside.reply c.op-2.inside.hand c.loop-left.back c.loop-left.pred c.loop-left.word c.start.result
    (ap (λ o. o.call) c.op-2.view_is) (ap (λ o. o.reply) c.op-2.view_is) hand c.start.ensures)).goes
