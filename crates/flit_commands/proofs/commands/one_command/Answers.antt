use Rattle.flit_commands.proofs.CommandLaws.{no_two}
use Rattle.flit_commands.proofs.commands.one_command.Goals as goal

pub returns : goal.returns
returns c = no_two
