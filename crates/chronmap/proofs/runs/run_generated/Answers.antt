use Rattle.std.proofs.Common.{refl, subst, sym}
use Rattle.std.proofs.lemmas.Result.{IfOk-weaker}
use Rattle.cm_command.specs.Numbers.{default_numbers}
use Rattle.cm_words.specs.LawfulMaps.{IsLawfulMap}
use Rattle.chronmap.proofs.RunCauses.{empty-is}
use Rattle.chronmap.proofs.runs.run_generated.Goals as goal

pub run_script-requires-clause-lawful : goal.run_script-requires-clause-lawful
run_script-requires-clause-lawful g c κs within = subst IsLawfulMap (sym c.in_ok-first.ensures) (c.empty_words_are_lawful.ensures c.default_geo-geo.result)

pub returns : goal.returns
returns g c = IfOk-weaker c.made_record.result _ _ (λ text is. record {
  first = c.in_ok-first.first;
  begins = empty-is default_numbers c.default_geo-geo.result c.in_ok-first.first refl c.default_geo-geo.ensures c.in_ok-first.ensures;
  report = c.in_ok-outcome.outcome.report;
  last = c.in_ok-outcome.outcome.words;
  runs = record { geo_same = c.in_ok-outcome.ensures.geo; explained = rw c.in_ok-script.ensures.lines at c.in_ok-outcome.ensures.explained };
  text_is = is;
}) c.made_record.ensures
