use Rattle.flit_one_key_limits.proofs.OneKeyKeepsLimits.{one_key_is_bounded}
use Rattle.flit_one_key_limits.proofs.laws.one_key_is_bounded.Goals as goal

pub returns : goal.returns
returns c = one_key_is_bounded
