use Rattle.std.proofs.Common.{rules}
use Rattle.std.proofs.lemmas.Result.{err_from_is_err_and}
use Rattle.cm_words.specs.Maps.{segment_in}
use Rattle.chronmap.proofs.FileCauses.{lawful-recovered, not-saved, saves-after}
use Rattle.chronmap.proofs.offline.recover_file.Goals as goal

pub map_report-requires : goal.map_report-requires
map_report-requires g c =
    let recovered = c.in_ok-found.ensures.words in
    lawful-recovered c.in_ok-words.words c.recover.new.words c.in_ok-found.ensures.geo recovered
    (c.recovery_keeps_what_stood.ensures.second c.in_ok-words.words.geo (segment_in c.in_ok-words.words) (segment_in c.recover.new.words) recovered).allowance

pub returns-in_err-save-clause-cause : goal.returns-in_err-save-clause-cause
returns-in_err-save-clause-cause g c =
    let stop = err_from_is_err_and c.from_residual-in_err-save.result c.from_residual-in_err-save.ensures.1 in
    rw (stop.1, stop.2) (not-saved _ _ _ _ _ c.in_err-save.field-0.0 c.read_map.ensures.keeps c.in_err-save.ensures.cause)

pub returns-clause-gives : goal.returns-clause-gives
returns-clause-gives g c = record {
  map = c.in_ok-words.words;
  holds = c.in_ok-words.ensures.map;
  found = c.in_ok-found.found.items;
  found_in = c.in_ok-found.ensures.report;
  recovered = c.recover.new.words;
  geo_same = c.in_ok-found.ensures.geo;
  words = c.in_ok-found.ensures.words;
  report = c.in_ok-report.report;
  reports = c.in_ok-report.ensures;
  text_is = search rules;
  saved = saves-after _ _ _ _ _ c.read_map.ensures.keeps c.in_ok-save.ensures.saved;
}
