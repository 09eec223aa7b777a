use Rattle.flit_list_laws.proofs.Reading as reading
use Rattle.flit_list_laws.proofs.laws.loads.Goals as goal

pub returns : goal.returns
returns c = record { heads = reading.read_head; nexts = reading.read_next; keys = reading.read_key; values = reading.read_value }
