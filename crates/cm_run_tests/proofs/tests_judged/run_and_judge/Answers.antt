use Rattle.std.proofs.Common.{sym, subst}
use Rattle.cm_words.specs.LawfulMaps.{IsLawfulMap}
use Rattle.cm_run.specs.GateCounts.{kill_gates_seen}
use Rattle.cm_run_tests.proofs.NewGates.{new_countable}
use Rattle.cm_run_tests.proofs.tests_judged.run_and_judge.Goals as goal

pub run_script-requires-clause-lawful : goal.run_script-requires-clause-lawful
run_script-requires-clause-lawful g c = λ κs within. subst IsLawfulMap (sym c.in_ok-words.ensures) (c.empty_words_are_lawful.ensures _)

pub run_script-requires-clause-countable : goal.run_script-requires-clause-countable
run_script-requires-clause-countable g c = λ κs within. new_countable (kill_gates_seen c.new-gates.result) c.new-gates.ensures
