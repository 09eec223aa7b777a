use Rattle.flit_place.proofs.NearSteps.{near-persist, near-won, near-cleared, near-lost, near-apart, near-exchange_apart}
use Rattle.flit_place.proofs.nearness.all_near.Goals as goal

pub returns : goal.returns
returns c = record {
  load = λ m ws word h. h;
  read_tag = λ m ws s h. h;
  raise = λ m ws s h. h;
  lower = λ m ws s h. h;
  draw = λ m ws h. h;
  write_back = near-persist;
  next = near-won;
  cleared = near-cleared;
  lost = near-lost;
  store = near-apart;
  exchange = near-exchange_apart;
}
