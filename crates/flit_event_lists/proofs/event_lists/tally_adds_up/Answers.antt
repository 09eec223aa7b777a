use Rattle.std.proofs.Common.{rules}
use Rattle.flit_event_lists.proofs.event_lists.tally_adds_up.Goals as goal

pub returns : goal.returns
returns c = record {
  load = λ p hand word list after raw is adds. search rules;
  confirm = λ p hand word raw list after is adds. search rules;
  exchange = λ p hand word old value limit list after how is adds. search rules;
  store = λ hand first values limit list after how is adds. search rules;
  fence = λ hand list after is adds. search rules;
  evict = λ hand word list after is adds. search rules;
}
