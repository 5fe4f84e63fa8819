-- What a command gives when it is done (own): the text for the sink, and the files.
use Rattle.std.specs.Prelude.{◌≡◌, ℕ, List, [], Option, codes, sum}
use Rattle.cm_words.specs.Maps.{MapWords, segment_in}
use Rattle.cm_plain.specs.declared.found.SegFound.{SegFound}
use Rattle.cm_check.specs.Contents.{ListsMap}
use Rattle.cm_recover.specs.Recovered.{Recovered}
use Rattle.cm_recover.specs.Tallies.{AreFoundIn}
use Rattle.cm_store.specs.Tables.{linked_of}
use Rattle.cm_script.specs.declared.line.Line.{Line}
use Rattle.cm_script.specs.declared.report.Report.{Report}
use Rattle.cm_script.specs.Reports.{text_of}
use Rattle.cm_make.specs.Generated.{generated_lines}
use Rattle.cm_make.specs.Made.{made_text}
use Rattle.cm_command.specs.Numbers.{default_numbers}
use Rattle.cm_command.specs.declared.command.Command.{Command}
use Rattle.cm_command.specs.declared.command.Command.TheVariants as command
use Rattle.cm_command.specs.declared.command.Origin.{Origin}
use Rattle.cm_command.specs.declared.kill.Kill.{Kill}
use Rattle.cm_run.specs.Gates.{MakerSeen}
use Rattle.chronmap.specs.Lent.{Lent}
use Rattle.chronmap.specs.Runs.{BeginsWith, HoldsLawful, IsEmptyMapOf, ReadsScript, Runs}
use Rattle.chronmap.specs.Vaults.{Holds, IsSaved, KeepsFiles, Saves, VaultView}

-- `run`: the text of a report that explains a run of the input's script, from the map with which the words let it begin; the last words are saved
pub record GivesRun (from : Origin) (save : Option (List ℕ)) (kills : List Kill) (old new : Lent) (text : List ℕ) : Type 0 where
  pub first : MapWords
  pub begins : BeginsWith from old.vault first
  pub script : List Line
  pub reads : ReadsScript first.geo old.source new.source script
  pub report : Report
  pub last : MapWords
  pub runs : Runs first script kills old.gates new.gates report last
  pub text_is : text ≡ text_of report
  pub saved : IsSaved save last old.vault new.vault

-- `make`: the summary of a report that explains a run of the generated script, from the empty map of the default numbers
pub record GivesMade (records seed : ℕ) (gates later_gates : MakerSeen) (text : List ℕ) : Type 0 where
  pub first : MapWords
  pub begins : IsEmptyMapOf default_numbers first
  pub report : Report
  pub last : MapWords
  pub runs : Runs first (generated_lines records seed) [] gates later_gates report last
  pub text_is : text ≡ made_text records report

-- `check`: the file holds the image of a lawful map
abbrev pub lawful_text : List ℕ
lawful_text = codes "lawful\n"

pub record GivesChecked (name : List ℕ) (old new : VaultView) (text : List ℕ) : Type 0 where
  pub map : MapWords
  pub holds : HoldsLawful old name map
  pub text_is : text ≡ lawful_text
  pub kept : KeepsFiles old new

-- a report of no call: what was found, the pairs of a map, and its tiers beyond one per segment
pub record ReportsMap (found : List SegFound) (map : MapWords) (report : Report) : Type 0 where
  pub no_calls : report.receipts ≡ []
  pub no_ends : report.ends ≡ []
  pub found_is : report.found ≡ found
  pub pairs : ListsMap map report.map
  pub extra : report.extra ≡ sum (linked_of map)

-- `print`: the pairs of the lawful map whose image the file holds
pub record GivesPrinted (name : List ℕ) (old new : VaultView) (text : List ℕ) : Type 0 where
  pub map : MapWords
  pub holds : HoldsLawful old name map
  pub report : Report
  pub reports : ReportsMap [] map report
  pub text_is : text ≡ text_of report
  pub kept : KeepsFiles old new

-- `recover`: what was found in the words of any image, and the pairs of the lawful map that was made of them and saved
pub record GivesRecovered (name later_name : List ℕ) (old new : VaultView) (text : List ℕ) : Type 0 where
  pub map : MapWords
  pub holds : Holds old name map
  pub found : List SegFound
  pub found_in : AreFoundIn map.geo (segment_in map) found
  pub recovered : MapWords
  pub geo_same : recovered.geo ≡ map.geo
  pub words : Recovered map.geo (segment_in map) (segment_in recovered)
  pub report : Report
  pub reports : ReportsMap found recovered report
  pub text_is : text ≡ text_of report
  pub saved : Saves later_name recovered old new

-- by the command
abbrev pub Gives : Command → Lent → Lent → List ℕ → Type 0
Gives (command.Run from save kills) old new text = GivesRun from save kills old new text
Gives (command.Make records seed) old new text = GivesMade records seed old.gates new.gates text
Gives (command.Check name) old new text = GivesChecked name old.vault new.vault text
Gives (command.Print name) old new text = GivesPrinted name old.vault new.vault text
Gives (command.Recover name later_name) old new text = GivesRecovered name later_name old.vault new.vault text
