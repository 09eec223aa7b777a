use Rattle.flit_list_heap.proofs.Blinding.{same, kept_blind, later_blind}
use Rattle.flit_list_heap.proofs.Writing.{ghost_after, kept_written, later_written}
use Rattle.flit_list_heap.proofs.laws.changes.Goals as goal

pub returns : goal.returns
returns c = record {
  nothing = same;
  write_backs = λ l free h w kept reached ahead. (
    ghost_after l free h kept w reached.within (kept.bare w reached),
    kept_written l free h kept w reached.within (kept.bare w reached),
    later_written l free h kept w reached.within (kept.bare w reached) ahead,
  );
  shut_words = λ l free h k who kept alike. (kept_blind l free h k kept alike, later_blind l free h k kept alike who);
}
