-- The words of a map after its recovery (own).
use Rattle.std.specs.Prelude.{ℕ, ◌<◌, List}
use Rattle.cm_geo.specs.declared.geo.Geo.{Geo}
use Rattle.cm_plain.specs.Lawful.{IsSegmentWords, Lawful}
use Rattle.cm_recover.specs.KeptSlots.{kept_state}

-- the new words of each segment represent, after no change, the state that is kept of the old ones
pub record Recovered (geo : Geo) (old new : ℕ → List ℕ) : Type 0 where
  pub words : (segment : ℕ) → segment < geo.segments → IsSegmentWords geo (new segment)
  pub lawful : (segment : ℕ) → segment < geo.segments → Lawful geo segment (new segment) 0 (kept_state geo old segment)
