use Rattle.flit_table.proofs.running.Running.cut.Given as goal

abbrev pub ghosts-cut_as : goal.ghosts-cut_as
ghosts-cut_as g a = record { give = a._give }
