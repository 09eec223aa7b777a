use Rattle.flit_table.proofs.running.Running.join_seats.Given as goal

abbrev pub ghosts-join_as : goal.ghosts-join_as
ghosts-join_as g a = record { start = a._start.now }
