use Rattle.flit_image.proofs.Cuts.{contains_cut}
use Rattle.flit_image.proofs.pieces.cut_at.Goals as goal

pub returns-in_err-place-clause-none : goal.returns-in_err-place-clause-none
returns-in_err-place-clause-none c =
    rw c.from_residual.ensures (λ front back is. c.in_err-place.ensures.none (contains_cut c.args.text.now front back c.args.byte is))
