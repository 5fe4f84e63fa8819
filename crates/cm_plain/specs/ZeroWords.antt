-- Words in which nothing was written (own).
use Rattle.std.specs.Prelude.{ℕ, List, replicate}
use Rattle.cm_geo.specs.declared.geo.Geo.{Geo}
use Rattle.cm_geo.specs.Addresses.{words_in_segment}

-- those of a segment
abbrev pub zeros : Geo → ℕ → List ℕ
zeros geo segment = replicate (words_in_segment geo) 0
