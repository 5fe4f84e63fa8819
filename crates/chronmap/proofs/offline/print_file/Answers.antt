use Rattle.std.proofs.Common.{List, rules, subst}
use Rattle.cm_plain.specs.declared.found.SegFound.{SegFound}
use Rattle.chronmap.specs.Done.{ReportsMap}
use Rattle.chronmap.proofs.offline.print_file.Goals as goal

pub returns-clause-gives : goal.returns-clause-gives
returns-clause-gives g c = record {
  map = c.in_ok-words.words;
  holds = c.in_ok-words.ensures.map;
  report = c.in_ok-report.report;
  reports = subst (λ (found : List SegFound). ReportsMap found c.in_ok-words.words c.in_ok-report.report) c.new.ensures.items c.in_ok-report.ensures;
  text_is = search rules;
  kept = c.read_lawful.ensures.keeps;
}
