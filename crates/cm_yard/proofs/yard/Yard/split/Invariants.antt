use Rattle.cm_yard.proofs.yard.Yard.split.Given as goal

abbrev pub ghosts-number_as : goal.ghosts-number_as
ghosts-number_as a = record { says = a._number }
