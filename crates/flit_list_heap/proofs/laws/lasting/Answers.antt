use Rattle.flit_list_heap.proofs.Seen as seen
use Rattle.flit_list_heap.proofs.laws.lasting.Goals as goal

pub returns : goal.returns
returns c = record {
  saw = λ l free who h k key x u goes kept. seen.saw_lasts l who h k goes free kept key x u;
  spot = λ l free who h k key back pred u goes kept. seen.spot_lasts l who h k goes free kept key back pred u;
  next = λ l free who h k key u n marked goes kept. seen.next_lasts l who h k goes free kept key u n marked;
  had = λ l who h k first key o goes. seen.had_lasts l who h k goes first key o;
  gone = λ l who h k first key x u goes. seen.gone_lasts l who h k goes first key x u;
  here = λ l who h k first key r goes. seen.here_lasts l who h k goes first key r;
  not_mine = λ l who h k name r goes. seen.not_mine_lasts l who h k goes name r;
}
