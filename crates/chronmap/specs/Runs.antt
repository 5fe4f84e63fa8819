-- The runs of scripts over maps (own).
use Rattle.std.specs.Prelude.{◌≡◌, ℕ, List, Option, None, Ok, replicate}
use Rattle.cm_geo.specs.declared.geo.Geo.{Geo}
use Rattle.cm_geo.specs.declared.refused.GeoRefused.{GeoRefused}
use Rattle.cm_geo.specs.Addresses.{words_in_map}
use Rattle.cm_geo.specs.Geometry.{IsGeoOf, refusal}
use Rattle.cm_words.specs.LawfulMaps.{IsLawfulMap}
use Rattle.cm_words.specs.Maps.{MapWords, segment_in}
use Rattle.cm_command.specs.declared.command.Origin.{Origin}
use Rattle.cm_command.specs.declared.command.Origin.TheVariants as origin
use Rattle.cm_command.specs.declared.kill.Kill.{Kill}
use Rattle.cm_command.specs.declared.numbers.Numbers.{Numbers}
use Rattle.cm_script.specs.declared.line.Line.{Line}
use Rattle.cm_script.specs.declared.report.Report.{Report}
use Rattle.cm_script.specs.Scripts.{script_of}
use Rattle.cm_run.specs.Explained.{Explained}
use Rattle.cm_run.specs.Gates.{MakerSeen}
use Rattle.chronmap.specs.declared.source.TheConstants.{MOST_TAKEN}
use Rattle.chronmap.specs.Streams.{StreamView, ReadsUpTo}
use Rattle.chronmap.specs.Vaults.{Holds, VaultView}

-- why numbers are no geometry, if they are none
abbrev pub refusal_of : Numbers → Option GeoRefused
refusal_of n = refusal n.segments n.tiers n.chunks n.chunk_words n.extra

-- the map of this geometry in which nothing was written
abbrev pub empty_map : Geo → MapWords
empty_map geo = record { geo = geo; words = replicate (words_in_map geo) 0 }

-- the empty map of these numbers
pub record IsEmptyMapOf (n : Numbers) (map : MapWords) : Type 0 where
  pub accepted : refusal_of n ≡ None
  pub geo_is : IsGeoOf map.geo n.segments n.tiers n.chunks n.chunk_words n.extra
  pub empty : map ≡ empty_map map.geo

-- the file holds the image of this lawful map
pub record HoldsLawful (vault : VaultView) (name : List ℕ) (map : MapWords) : Type 0 where
  pub holds : Holds vault name map
  pub lawful : IsLawfulMap map

-- the map that a run begins with
abbrev pub BeginsWith : Origin → VaultView → MapWords → Type 0
BeginsWith (origin.Numbers n) vault map = IsEmptyMapOf n map
BeginsWith (origin.Image name) vault map = HoldsLawful vault name map

-- the input was read, and it is this script
pub record ReadsScript (geo : Geo) (old new : StreamView) (script : List Line) : Type 0 where
  pub input : List ℕ
  pub reads : ReadsUpTo MOST_TAKEN old new input
  pub script_is : script_of geo input ≡ Ok script

-- the report explains a run of the script, from the words of one map to those of another: each segment's answers are one legal history of a
-- bounded map, each call once and in its caller's order
pub record Runs (old : MapWords) (script : List Line) (kills : List Kill) (gates later_gates : MakerSeen) (report : Report) (new : MapWords) : Type 0 where
  pub geo_same : new.geo ≡ old.geo
  pub explained : Explained old.geo (segment_in old) script kills gates later_gates report (segment_in new)
