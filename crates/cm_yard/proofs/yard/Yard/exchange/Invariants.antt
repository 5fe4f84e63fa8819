use Rattle.cm_yard.proofs.yard.Yard.exchange.Given as goal

abbrev pub ghosts-exchange_as : goal.ghosts-exchange_as
ghosts-exchange_as a = record { says = a._index }
