use Rattle.std.proofs.Common.{sym, ◌∙◌}
use Rattle.flit_plain.proofs.SameMaps.{same_inserted, same_removed}
use Rattle.flit_plain.proofs.playing.reply_to.Goals as goal

pub returns-in_ok-insert-in-Insert-clause-map : goal.returns-in_ok-insert-in-Insert-clause-map
returns-in_ok-insert-in-Insert-clause-map c m same =
    rw c.in-Insert.is (same_inserted m c.args.map.now c.insert.new.self c.in-Insert.key same c.in-Insert.value (sym c.contains_key.ensures
    ∙ c.if-contains_key.false) c.in_ok-insert-in-Insert.ensures.updates.0)

pub returns-in-Some-clause-map : goal.returns-in-Some-clause-map
returns-in-Some-clause-map c m same = rw c.in-Remove.is (same_removed m c.args.map.now c.remove.new.self c.in-Remove.key same c.in-Some.ensures.updates.0)

pub returns-in-None-clause-map : goal.returns-in-None-clause-map
returns-in-None-clause-map c m same = rw c.in-Remove.is (same_removed m c.args.map.now c.remove.new.self c.in-Remove.key same c.in-None.ensures.updates.0)
