use Rattle.std.proofs.Common.{refl}
use Rattle.flit_table.proofs.EventCounts.{events_rise, events_stay, events_join, items_join}
use Rattle.flit_table.proofs.view_laws.events_counted.Goals as goal

pub returns-clause-rise : goal.returns-clause-rise
returns-clause-rise g c = events_rise

pub returns-clause-others : goal.returns-clause-others
returns-clause-others g c = events_stay

pub returns-clause-split : goal.returns-clause-split
returns-clause-split g c = λ v give name. refl

pub returns-clause-join : goal.returns-clause-join
returns-clause-join g c = events_join

pub returns-clause-items : goal.returns-clause-items
returns-clause-items g c = items_join
