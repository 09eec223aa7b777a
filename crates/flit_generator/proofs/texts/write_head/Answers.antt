use Rattle.flit_generator.proofs.CallLines.{head_is}
use Rattle.flit_generator.proofs.texts.write_head.Goals as goal

pub returns : goal.returns
returns c = head_is _ _ _ _ _ _ c.in_ok-push_str.ensures.bytes c.in_ok-writeln.ensures.bytes c.in_ok-writeln-2.ensures.bytes
