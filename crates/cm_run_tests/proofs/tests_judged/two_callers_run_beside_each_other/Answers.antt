use Rattle.std.proofs.Common.{sym, subst}
use Rattle.cm_words.specs.LawfulMaps.{IsLawfulMap}
use Rattle.cm_run_tests.proofs.tests_judged.two_callers_run_beside_each_other.Goals as goal

pub run_script-requires-clause-lawful : goal.run_script-requires-clause-lawful
run_script-requires-clause-lawful g c κs = subst IsLawfulMap (sym c.in_ok-words.ensures) (c.empty_words_are_lawful.ensures c.in_ok-geo.geo)
