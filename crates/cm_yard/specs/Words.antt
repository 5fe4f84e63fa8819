-- The words of a yard: a stop word for each segment, and behind these the claim words (own).
use Rattle.std.specs.Prelude.{ℕ, ◌+◌, ◌-◌, ◌++◌, List, [], ◌∷◌, count_by, drop, nat_lt, replicate, sum}
use Rattle.cm_geo.specs.declared.geo.Geo.{Geo}
use Rattle.cm_plain.specs.Slots.{word_at}

-- how many words a yard has
abbrev pub words_in_yard : Geo → ℕ
words_in_yard geo = geo.segments + geo.extra

-- the stop word of a segment
abbrev pub stop_at : List ℕ → ℕ → ℕ
stop_at words segment = word_at words segment

-- the claim word with an index: 0, or one more than the segment that owns it
abbrev pub claim_at : Geo → List ℕ → ℕ → ℕ
claim_at geo words index = word_at words (geo.segments + index)

-- how many claim words are owned
abbrev pub owned_in : Geo → List ℕ → ℕ
owned_in geo words = count_by (λ word. nat_lt 0 word) (drop geo.segments words)

-- claim words for tiers that are linked, from a segment on: as many for each segment as it has
abbrev pub owners_from : ℕ → List ℕ → List ℕ
owners_from segment [] = []
owners_from segment (count ∷ counts) = replicate count (segment + 1) ++ owners_from (segment + 1) counts

-- the words at the start: no stop word is raised, and the first claims belong to the tiers that are linked
abbrev pub first_words : Geo → List ℕ → List ℕ
first_words geo linked = replicate geo.segments 0 ++ (owners_from 0 linked ++ replicate (geo.extra - sum linked) 0)
