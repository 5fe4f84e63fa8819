-- When a report accounts for a script (own), by what it prints alone.
use Rattle.std.specs.Prelude.{ℕ, ◌≡◌, ◌+◌, ◌-◌, ◌<◌, ◌≤◌, List, length, map, filter, flat_map, sum_by, Contains, Option, Some}
use Rattle.std.specs.List.{filter_map, range_with_len}
use Rattle.cm_geo.specs.declared.geo.Geo.{Geo}
use Rattle.cm_plain.specs.declared.reply.Pair.{Pair}
use Rattle.cm_plain.specs.declared.reply.Reply.TheVariants as reply
use Rattle.cm_plain.specs.declared.receipt.MapLine.{MapLine}
use Rattle.cm_plain.specs.declared.receipt.Receipt.{Receipt}
use Rattle.cm_plain.specs.States.{IsState, Lists, State}
use Rattle.cm_script.specs.declared.limits.TheConstants.{MAX_CALLERS}
use Rattle.cm_script.specs.declared.line.Line.{Line}
use Rattle.cm_script.specs.declared.report.CallerEnd.{CallerEnd}
use Rattle.cm_script.specs.declared.report.How.TheVariants as how
use Rattle.cm_script.specs.declared.report.Report.{Report}
use Rattle.cm_plain.specs.History.{Legal, change_count}
use Rattle.cm_script.specs.Answers.{AnswersFront, Front, calls_in, own, records_of_caller}
use Rattle.cm_script.specs.Ends.{EndsAt}
use Rattle.cm_script.specs.Locks.{Held, has_write}
use Rattle.cm_script.specs.Found.{DeadCouldHold, Found, LeavesSweep, StoppedByDead}
use Rattle.cm_script.specs.Left.{IsLeft, Left, most_seen}

-- a pair of a segment in the map
abbrev pub map_line : ℕ → Pair → MapLine
map_line segment pair = record { segment = segment; key = pair.key; value = pair.value }

-- how many changes of a segment are answered
abbrev pub many_in : List Line → Report → ℕ → ℕ
many_in script report segment = change_count (calls_in script report.receipts segment)

-- The receipts, the ends, what was found and the map of a report account for a script, from each segment's first state after so many changes
-- to the states that the segments are left with. `states segment i` is the state of a segment after i more changes.
pub record Accounted (geo : Geo) (first : ℕ → State) (before : ℕ → ℕ) (script : List Line) (report : Report) (last : ℕ → State) : Type 0 where
  pub front : ℕ → Front
  pub end_of : ℕ → Option CallerEnd
  pub states : ℕ → ℕ → State
  pub left : ℕ → Left
  pub held : ℕ → Held
  pub pairs : ℕ → List Pair
  -- the receipts stand by caller, line and part
  pub receipts_are : report.receipts ≡ flat_map (λ caller. own (front caller)) (range_with_len 0 MAX_CALLERS)
  -- each caller has the answers to a front of its records
  pub answered : (caller : ℕ) → caller < MAX_CALLERS → AnswersFront geo (records_of_caller script caller) (front caller)
  -- the ends stand by caller, at most one each
  pub ends_are : report.ends ≡ filter_map end_of (range_with_len 0 MAX_CALLERS)
  -- a caller without an end has all its answers, and an end names where its caller stands
  pub ended : (caller : ℕ) → caller < MAX_CALLERS → EndsAt caller (front caller) (end_of caller)
  -- a caller was stopped only by what a dead one holds in its record's segment
  pub stopped : StoppedByDead geo script report.found report.ends
  -- a dead caller holds what its operation takes
  pub could_hold : DeadCouldHold script report.ends held
  -- one that died in a sweep holds what the sweep keeps
  pub in_sweep : (caller : ℕ) (end : CallerEnd) → caller < MAX_CALLERS → end_of caller ≡ Some end → end.how ≡ how.Dead → LeavesSweep end (front caller) (held caller)
  -- what was found in each segment is what the deaths there left
  pub found : Found geo script report.ends (λ segment. length (pairs segment)) held report.found
  -- each segment's answers are one legal history
  pub legal : (segment : ℕ) → segment < geo.segments
      → Legal geo segment (first segment) (before segment) (states segment) (most_seen (left segment) (many_in script report segment))
      (calls_in script report.receipts segment)
  -- each segment is left with the history's last state, or with what a dead caller made of it
  pub left_with : (segment : ℕ) → segment < geo.segments
      → IsLeft (left segment) geo script report.receipts report.ends held report.found segment (states segment) (before segment) (many_in script report segment) (last segment)
  -- which is a state
  pub is_state : (segment : ℕ) → segment < geo.segments → IsState geo segment (last segment)
  -- the pairs of a segment are the contents that it is left with
  pub listed : (segment : ℕ) → segment < geo.segments → Lists (last segment) (pairs segment)
  -- the map has them by segment
  pub map_is : report.map ≡ flat_map (λ segment. map (map_line segment) (pairs segment)) (range_with_len 0 geo.segments)
  -- the extra tiers are those beyond one per segment
  pub extra_is : report.extra ≡ sum_by (λ segment. length (last segment).chain - 1) (range_with_len 0 geo.segments)
  -- they are no more than the allowance
  pub extra_few : report.extra ≤ geo.extra
  -- a tier was refused only where the allowance is used up, but for one tier per segment in which a writer died
  pub spent : (receipt : Receipt) → Contains report.receipts receipt → receipt.reply ≡ reply.FullSpent
      → geo.extra ≤ report.extra + length (filter (λ seen. has_write seen.lock) report.found)
