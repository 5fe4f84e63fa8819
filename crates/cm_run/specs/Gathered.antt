-- What is gathered from callers that performed their records (own).
use Rattle.std.specs.Prelude.{ℕ, ◌≡◌, ◌<◌, ◌==◌, ◌⊎◌, false, All, List, [], ◌∷◌, ◌++◌, filter, flat_map, sum, Option, Some, None}
use Rattle.std.specs.List.{range_with_len}
use Rattle.cm_geo.specs.declared.geo.Geo.{Geo}
use Rattle.cm_plain.specs.declared.receipt.Receipt.{Receipt}
use Rattle.cm_words.specs.Maps.{MapWords}
use Rattle.cm_yard.specs.declared.view.View.{View as YardView}
use Rattle.cm_check.specs.Contents.{ListsMap}
use Rattle.cm_store.specs.declared.pass.Pass.{Pass}
use Rattle.cm_store.specs.declared.store.Store.{Store}
use Rattle.cm_store.specs.Passes.{claims_view}
use Rattle.cm_store.specs.Tables.{linked_of}
use Rattle.cm_script.specs.Answers.{calls_in}
use Rattle.cm_run.specs.Callers.{HasJoined, RootKeeps, askers_below, askers_of}
use Rattle.cm_script.specs.declared.report.Report.{Report}
use Rattle.cm_run.specs.declared.run.Gathered.{Gathered}
use Rattle.cm_script.specs.declared.line.Line.{Line}
use Rattle.cm_script.specs.declared.report.CallerEnd.{CallerEnd}
use Rattle.cm_history.specs.Endings.{HasFoundStop}
use Rattle.cm_caller.specs.Records.{HasFront}

-- ends with that of a caller, if it has one
abbrev pub with_end : List CallerEnd → Option CallerEnd → List CallerEnd
with_end ends None = ends
with_end ends (Some end) = ends ++ end ∷ []

-- the receipts of one caller
abbrev pub receipts_by : ℕ → List Receipt → List Receipt
receipts_by caller receipts = filter (λ receipt. receipt.caller == caller) receipts

-- the receipts of callers below a number stand by caller; and a stop word was found raised, or no caller has an end, and each of these has the
-- answers to all its records
pub record GathersBelow (geo : Geo) (script : List Line) (number : ℕ) (receipts : List Receipt) (ends : List CallerEnd) (claims : YardView) : Type 0 where
  pub below : All (λ (receipt : Receipt). receipt.caller < number) receipts
  pub by_caller : receipts ≡ flat_map (λ caller. receipts_by caller receipts) (range_with_len 0 number)
  pub fronts : HasFoundStop claims ⊎ ((ends ≡ []) × ((caller : ℕ) → caller < number → HasFront geo script caller (receipts_by caller receipts) None))

-- the root joined the callers below a number, took over the calls of these receipts, and nothing else, and they are gathered so; where memory was missing for a caller, nothing is known
pub record RootGathers {F : Type 0} (store : Store) (script : List Line) (number : ℕ) (all : Gathered) (root : Pass F) : Type 0 where
  pub keeps : RootKeeps store (calls_in script all.receipts.items) root
  pub joined : HasJoined (askers_of script) (askers_below script number) root
  pub gathers : GathersBelow store.geo script number all.receipts.items all.ends.items (claims_view root)

abbrev pub Gathers : {F : Type 0} → Store → List Line → ℕ → Gathered → Pass F → Type 0
Gathers store script number all root = all.starved ≡ false → RootGathers store script number all root

-- a report has what was gathered, what the words list, and their extra tiers; nobody died, so nothing was looked for
pub record ReportsRun (words : MapWords) (all : Gathered) (report : Report) : Type 0 where
  pub receipts_are : report.receipts ≡ all.receipts.items
  pub ends_are : report.ends ≡ all.ends.items
  pub none_found : report.found ≡ []
  pub map_is : ListsMap words report.map
  pub extra_is : report.extra ≡ sum (linked_of words)
