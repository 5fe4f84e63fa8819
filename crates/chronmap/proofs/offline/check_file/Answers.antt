use Rattle.std.proofs.Common.{rules}
use Rattle.chronmap.proofs.offline.check_file.Goals as goal

pub returns-clause-gives : goal.returns-clause-gives
returns-clause-gives g c = record {
  map = c.in_ok-read_lawful.field-0;
  holds = c.in_ok-read_lawful.ensures.map;
  text_is = search rules;
  kept = c.read_lawful.ensures.keeps;
}
