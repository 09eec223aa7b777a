use Rattle.flit_place.proofs.CountLaws.{covers-none}
use Rattle.flit_place.proofs.counting.nothing_under_way.Goals as goal

pub returns : goal.returns
returns c = covers-none
