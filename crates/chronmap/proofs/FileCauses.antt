-- The maps that recovery leaves.
use Rattle.std.specs.Prelude.{◌≡◌, ◌<◌, ℕ, List}
use Rattle.std.proofs.Common.{subst, sym}
use Rattle.cm_geo.specs.declared.geo.Geo.{Geo}
use Rattle.cm_plain.specs.FoundChains.{KeepsAllowance}
use Rattle.cm_recover.specs.KeptSlots.{kept_state}
use Rattle.cm_recover.specs.Recovered.{Recovered}
use Rattle.cm_words.specs.LawfulMaps.{IsLawfulMap, IsLawfulSegment}
use Rattle.cm_words.specs.Maps.{MapWords, segment_in}
use Rattle.chronmap.specs.declared.stop.Stop.{Stop}
use Rattle.chronmap.specs.declared.stop.Stop.TheVariants as stop
use Rattle.chronmap.specs.FileStops.{StopsRecovering, StopsSaving}
use Rattle.chronmap.specs.Vaults.{KeepsFiles, Saves, VaultView}
use Rattle.chronmap.proofs.StopCauses.{counts-behind, keeps-then-others, keeps-two}

-- recovered words that keep the allowance are those of a lawful map
pub lawful-recovered : (old new : MapWords) → new.geo ≡ old.geo → Recovered old.geo (segment_in old) (segment_in new) → KeepsAllowance old.geo (segment_in new)
    → IsLawfulMap new
lawful-recovered old new same recovered kept = record {
  segments = λ segment below.
      let within : segment < old.geo.segments = subst (λ (g : Geo). segment < g.segments) same below in
      subst (λ (g : Geo). IsLawfulSegment g segment (segment_in new segment)) (sym same)
      (0, kept_state old.geo (segment_in old) segment, recovered.lawful segment within);
  allowance = subst (λ (g : Geo). KeepsAllowance g (segment_in new)) (sym same) kept;
}

-- a map that was read was not saved: why it was not recovered
pub not-saved : (name renewed : List ℕ) (one two three : VaultView) (why : Stop) → KeepsFiles one two → StopsSaving renewed two three why
    → StopsRecovering name renewed one three why
not-saved name renewed one two three stop.NoMemory kept stops = keeps-two one two three kept stops
not-saved name renewed one two three stop.Usage kept stops = absurd stops
not-saved name renewed one two three (stop.Geometry w) kept stops = absurd stops
not-saved name renewed one two three stop.Missing kept stops = absurd stops
not-saved name renewed one two three (stop.NotImage w) kept stops = absurd stops
not-saved name renewed one two three (stop.Broken b) kept stops = absurd stops
not-saved name renewed one two three stop.TooLong kept stops = absurd stops
not-saved name renewed one two three (stop.Refused line w) kept stops = absurd stops
not-saved name renewed one two three stop.ReadFault kept stops = absurd stops
not-saved name renewed one two three stop.VaultFault kept stops =
    (counts-behind one two three kept stops.0, keeps-then-others renewed one two three kept stops.1)

-- it was saved
pub saves-after : (name : List ℕ) (map : MapWords) (one two three : VaultView) → KeepsFiles one two → Saves name map two three → Saves name map one three
saves-after name map one two three kept saves = record {
  others = keeps-then-others name one two three kept saves.others;
  written = λ told. saves.written (kept.tells told);
}
