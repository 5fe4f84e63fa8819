-- What the gates of a run tell of its deaths (own).
use Rattle.std.specs.Prelude.{ℕ, ◌≡◌, ◌+◌, ◌-◌, ◌^◌, ◌*◌, ◌<◌, ◌≤◌, ◌↔◌, ◌==◌, ◌&&◌, Bool, true, false, List, length, filter, find, Option, Some, None, Contains}
use Rattle.cm_geo.specs.declared.geo.Geo.{Geo}
use Rattle.cm_plain.specs.declared.receipt.Receipt.{Receipt}
use Rattle.cm_plain.specs.Limits.{segment_of}
use Rattle.cm_plain.specs.Steps.{is_change}
use Rattle.cm_script.specs.declared.line.Line.{Line}
use Rattle.cm_command.specs.declared.kill.Kill.{Kill}
use Rattle.cm_command.specs.declared.kill.KillKind.{KillKind}
use Rattle.cm_command.specs.declared.kill.KillKind.TheVariants as kind
use Rattle.cm_script.specs.declared.report.CallerEnd.{CallerEnd}
use Rattle.cm_script.specs.declared.report.Report.{Report}
use Rattle.cm_run.specs.Gates.{MakerSeen}
use Rattle.cm_script.specs.Answers.{line_at}
use Rattle.cm_script.specs.Ends.{dead_ends}
use Rattle.cm_script.specs.Locks.{Held, flight_at, writing}

-- the kill that is given for a caller
abbrev pub kill_for : List Kill → ℕ → Option Kill
kill_for kills caller = find (λ kill. kill.caller == caller) kills

-- the receipts of a caller, and how many of them are of changes
abbrev pub receipts_of : Report → ℕ → List Receipt
receipts_of report caller = filter (λ receipt. receipt.caller == caller) report.receipts

abbrev pub changes_of : Report → ℕ → ℕ
changes_of report caller = length (filter (λ receipt. is_change receipt.reply) (receipts_of report caller))

-- a caller has an end by death
pub record HasDied (report : Report) (caller : ℕ) : Type 0 where
  pub end : CallerEnd
  -- the end is by death
  pub there : Contains (dead_ends report.ends) end
  -- it is the caller's
  pub caller_is : end.caller ≡ caller

-- a caller that dies in place of a store dies as a writer
abbrev pub DiesWriting : Report → (ℕ → Held) → ℕ → Type 0
DiesWriting report held caller = HasDied report caller → held caller ≡ writing

-- a change is under way in the segment of this record
abbrev pub flight_for : Geo → Report → Option Line → Bool
flight_for geo report None = false
flight_for geo report (Some line) = flight_at report.found (segment_of geo line.op)

-- 1 where the caller died with a change under way in its end's segment
abbrev pub under_way : Geo → List Line → Report → ℕ → ℕ
under_way geo script report caller =
    length (filter (λ end. end.caller == caller && flight_for geo report (line_at script end.line)) (dead_ends report.ends))

-- a kill after so many events leaves at most so many answers; one after so many stores at most half as many changes, with a store of one under way,
-- and a writer's death
abbrev pub KeepsKillOf : KillKind → ℕ → Geo → List Line → Report → (ℕ → Held) → ℕ → Type 0
KeepsKillOf kind.Events many geo script report held caller = length (receipts_of report caller) ≤ many
KeepsKillOf kind.Stores many geo script report held caller =
    (2 * changes_of report caller + under_way geo script report caller ≤ many) × DiesWriting report held caller

-- by the kill, if there is one
abbrev pub KeepsKill : Option Kill → Geo → List Line → Report → (ℕ → Held) → ℕ → Type 0
KeepsKill None geo script report held caller = Unit {0}
KeepsKill (Some kill) geo script report held caller = KeepsKillOf kill.kind kill.after geo script report held caller

-- a gate of the caller died in this run
abbrev pub DeathRose : MakerSeen → MakerSeen → ℕ → Type 0
DeathRose before later caller = (before.of caller).deaths < (later.of caller).deaths

-- the deaths of a caller are those of the gate that was made for it
pub record KeepsGate (geo : Geo) (script : List Line) (kills : List Kill) (report : Report) (held : ℕ → Held) (before later : MakerSeen) (caller : ℕ) : Type 0 where
  -- one gate was made
  pub once : (later.of caller).made ≡ (before.of caller).made + 1
  -- for the kill that is given
  pub kill_is : (later.of caller).last_kill ≡ kill_for kills caller
  -- the caller is reported as dead exactly where its gate died
  pub dead_is : HasDied report caller ↔ DeathRose before later caller
  -- only where that gate could die
  pub could : DeathRose before later caller → before.can_die caller (kill_for kills caller) ≡ true
  -- and where the gate tells the kill's number, not before it was used up
  pub used_up : before.tells ≡ true → KeepsKill (kill_for kills caller) geo script report held caller

-- a caller has a record in the script
abbrev pub Asks : List Line → ℕ → Type 0
Asks script caller = (line : Line) × Contains script line × (line.caller ≡ caller)

-- it is so for each caller of the script; of any other one nothing was counted; and what the gates can and tell is as before
pub record KeepsGates (geo : Geo) (script : List Line) (kills : List Kill) (report : Report) (held : ℕ → Held) (before later : MakerSeen) : Type 0 where
  pub each : (caller : ℕ) → Asks script caller → KeepsGate geo script kills report held before later caller
  pub others : (caller : ℕ) → (Asks script caller → ⊥) → later.of caller ≡ before.of caller
  pub can_die : later.can_die ≡ before.can_die
  pub tells : later.tells ≡ before.tells

-- one gate more can be counted for each caller, and one death more
abbrev pub IsCountable : MakerSeen → Type 0
IsCountable m = (caller : ℕ) → caller < 64 → ((m.of caller).made < 2 ^ 64 - 1) × ((m.of caller).deaths < 2 ^ 64 - 1)

-- one death more can be counted for each caller
abbrev pub CanCountDeaths : MakerSeen → Type 0
CanCountDeaths m = (caller : ℕ) → caller < 64 → (m.of caller).deaths < 2 ^ 64 - 1

-- what a maker of gates tells is as before
pub record SameGates (old now : MakerSeen) : Type 0 where
  pub same : (caller : ℕ) → now.of caller ≡ old.of caller
  pub can_die : now.can_die ≡ old.can_die
  pub tells : now.tells ≡ old.tells
