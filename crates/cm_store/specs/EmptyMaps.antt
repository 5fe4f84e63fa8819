-- The words that a new map has (own).
use Rattle.std.specs.Prelude.{replicate}
use Rattle.cm_geo.specs.declared.geo.Geo.{Geo}
use Rattle.cm_geo.specs.Addresses.{words_in_map}
use Rattle.cm_words.specs.LawfulMaps.{IsLawfulMap}

-- a map whose words are all 0 may be shared
abbrev pub EmptyIsLawful : Type 0
EmptyIsLawful = (geo : Geo) → IsLawfulMap (record { geo = geo; words = replicate (words_in_map geo) 0 })
