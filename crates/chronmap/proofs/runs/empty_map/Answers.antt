use Rattle.std.proofs.Common.{subst, sym}
use Rattle.cm_words.specs.LawfulMaps.{IsLawfulMap}
use Rattle.chronmap.proofs.runs.empty_map.Goals as goal

pub returns-in_ok-empty-in-Ok-clause-lawful : goal.returns-in_ok-empty-in-Ok-clause-lawful
returns-in_ok-empty-in-Ok-clause-lawful c = subst IsLawfulMap (sym c.in_ok-empty-in-Ok.ensures) (c.empty_words_are_lawful.ensures c.in-Ok.geo)
