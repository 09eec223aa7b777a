use Rattle.flit_sched.proofs.FoundOpens.{found_opens, found_book}
use Rattle.flit_sched.proofs.ShapeLaws.{same_shape_recovery}
use Rattle.flit_sched.proofs.opening_laws.recovered_opens.Goals as goal

pub returns-clause-opening : goal.returns-clause-opening
returns-clause-opening c l r found = found_opens l r found

pub returns-clause-book : goal.returns-clause-book
returns-clause-book c l r found = found_book l r found

pub returns-clause-shape : goal.returns-clause-shape
returns-clause-shape c l k words keys values free same found = same_shape_recovery l k words keys values free same found
