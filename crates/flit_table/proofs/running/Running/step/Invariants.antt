use Rattle.flit_table.proofs.running.Running.step.Given as goal

abbrev pub ghosts-step_as : goal.ghosts-step_as
ghosts-step_as g a = record { start = a._start.now }
