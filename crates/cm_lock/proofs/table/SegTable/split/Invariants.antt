use Rattle.cm_lock.proofs.table.SegTable.split.Given as goal

abbrev pub ghosts-number_as : goal.ghosts-number_as
ghosts-number_as a = record { number = a._number }
