-- What the callers in the tests need.
use Rattle.std.proofs.Common.{◌<◌, ◌≤◌, arith}
use Rattle.std.proofs.Math.Nat.{zero-mul}
use Rattle.cm_geo.specs.declared.geo.Geo.{Geo}
use Rattle.cm_geo.specs.Addresses.{words_in_map, words_in_segment}
use Rattle.cm_geo.proofs.AddressOrder.{segment_within}
use Rattle.cm_geo.proofs.Ranges.{segments_range, tiers_range}

-- a segment is in the map
pub segment_in_map : (geo : Geo) → words_in_segment geo ≤ words_in_map geo
segment_in_map geo = omega (arith, zero-mul (words_in_segment geo), segment_within geo 0 (omega (arith, segments_range geo)))

-- there is a tier
pub some_tier : (geo : Geo) → 0 < geo.tiers
some_tier geo = omega (arith, tiers_range geo)
