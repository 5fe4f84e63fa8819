-- When a report explains a run of a script (own): from the first words to the last ones, with the kills that were given.
use Rattle.std.specs.Prelude.{ℕ, ◌+◌, ◌<◌, List, [], ◌∷◌}
use Rattle.cm_geo.specs.declared.geo.Geo.{Geo}
use Rattle.cm_plain.specs.States.{State}
use Rattle.cm_plain.specs.FoundChains.{KeepsAllowance}
use Rattle.cm_plain.specs.Lawful.{Lawful}
use Rattle.cm_script.specs.declared.line.Line.{Line}
use Rattle.cm_command.specs.declared.kill.Kill.{Kill}
use Rattle.cm_script.specs.declared.report.CallerEnd.{CallerEnd}
use Rattle.cm_script.specs.declared.report.Report.{Report}
use Rattle.cm_script.specs.Ends.{dead_ends}
use Rattle.cm_script.specs.Accounted.{Accounted, many_in}
use Rattle.cm_run.specs.Gates.{MakerSeen}
use Rattle.cm_run.specs.RunGates.{KeepsGates}

-- the number of the last words: it counts on, or begins again where somebody died
abbrev pub number_after : List CallerEnd → ℕ → ℕ
number_after [] number = number
number_after (dead ∷ others) number = 0

-- The report accounts for the script from the states of the first words to those of the last ones, and its deaths are the gates'.
pub record Explained (geo : Geo) (old : ℕ → List ℕ) (script : List Line) (kills : List Kill) (earlier later : MakerSeen) (report : Report)
    (new : ℕ → List ℕ) : Type 0 where
  pub first : ℕ → State
  pub before : ℕ → ℕ
  pub last : ℕ → State
  -- the first words stand for the first states, after so many changes
  pub begins : (segment : ℕ) → segment < geo.segments → Lawful geo segment (old segment) (before segment) (first segment)
  -- the report accounts for the script, from these states to the last ones
  pub accounted : Accounted geo first before script report last
  -- the deaths are those of the gates
  pub gates : KeepsGates geo script kills report accounted.held earlier later
  -- the last words stand for the last states
  pub ends : (segment : ℕ) → segment < geo.segments
      → Lawful geo segment (new segment) (number_after (dead_ends report.ends) (before segment + many_in script report segment)) (last segment)
  -- they keep the allowance
  pub allowance : KeepsAllowance geo new
