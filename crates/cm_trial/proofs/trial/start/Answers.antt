use Rattle.std.proofs.Common.{sym, subst}
use Rattle.cm_words.specs.LawfulMaps.{IsLawfulMap}
use Rattle.cm_trial.proofs.trial.start.Goals as goal

pub start_over-requires : goal.start_over-requires
start_over-requires c = subst IsLawfulMap (sym c.in_ok-empty.ensures) (c.empty_words_are_lawful.ensures c.args.geo.now)
