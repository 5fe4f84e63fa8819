-- The laws of a map's words in their order, and the first one that is broken (own). Each law is read under the laws before it.
use Rattle.std.specs.Prelude.{ℕ, ◌+◌, ◌-◌, List, [], ◌∷◌, ◌++◌, length, map, filter, flat_map, sum_by, nat_lt, Option}
use Rattle.std.specs.List.{range_with_len}
use Rattle.cm_geo.specs.declared.geo.Geo.{Geo}
use Rattle.cm_words.specs.Maps.{MapWords, segment_in}
use Rattle.cm_check.specs.declared.law.Broken.{Broken}
use Rattle.cm_check.specs.declared.law.Law.{Law}
use Rattle.cm_check.specs.declared.law.Law.TheVariants.{Lock, Number, Header, Chain, Reserved, Slot, Gap, Duplicate, Overlap, Bits, TierCount, SegmentCount, Unlinked, Allowance}
use Rattle.cm_check.specs.Findings.{first_of}
use Rattle.cm_check.specs.Places.{chain_in}
use Rattle.cm_check.specs.HeadLaws.{chain_broken, header_broken, lock_broken, number_broken, reserved_broken, unlinked_broken}
use Rattle.cm_check.specs.SlotLaws.{duplicate_broken, gap_broken, overlap_broken, slot_broken}
use Rattle.cm_check.specs.CountLaws.{bits_broken, segment_count_broken, tier_count_broken}

-- the words of a segment at which a law is broken; the allowance is a law of the whole map
abbrev pub words_broken : Geo → ℕ → List ℕ → Law → List ℕ
words_broken geo segment words Lock = lock_broken words
words_broken geo segment words Number = number_broken words
words_broken geo segment words Header = header_broken words
words_broken geo segment words Chain = chain_broken geo words
words_broken geo segment words Reserved = reserved_broken geo words
words_broken geo segment words Slot = slot_broken geo segment words
words_broken geo segment words Gap = gap_broken geo words
words_broken geo segment words Duplicate = duplicate_broken geo words
words_broken geo segment words Overlap = overlap_broken geo words
words_broken geo segment words Bits = bits_broken geo words
words_broken geo segment words TierCount = tier_count_broken geo words
words_broken geo segment words SegmentCount = segment_count_broken geo words
words_broken geo segment words Unlinked = unlinked_broken geo words
words_broken geo segment words Allowance = []

-- the laws of a segment, in the order in which they are asked
abbrev pub head_laws : List Law
head_laws = Lock ∷ Number ∷ Header ∷ Chain ∷ Reserved ∷ []

abbrev pub slot_laws : List Law
slot_laws = Slot ∷ Gap ∷ Duplicate ∷ Overlap ∷ []

abbrev pub count_laws : List Law
count_laws = Bits ∷ TierCount ∷ SegmentCount ∷ Unlinked ∷ []

-- a law that is broken at a word of a segment
abbrev pub broken_at : ℕ → Law → ℕ → Broken
broken_at segment law word = record { law = law; segment = segment; word = word }

-- where some laws are broken in a segment
unfoldable pub breaks_of : List Law → Geo → ℕ → List ℕ → List Broken
breaks_of laws geo segment words = flat_map (λ law. map (broken_at segment law) (words_broken geo segment words law)) laws

-- where the laws of a segment are broken
unfoldable pub breaks_in : Geo → ℕ → List ℕ → List Broken
breaks_in geo segment words = breaks_of (head_laws ++ slot_laws ++ count_laws) geo segment words

-- how many tiers beyond the first one of each segment are chained in the segments before this one
unfoldable pub extra_before : Geo → (ℕ → List ℕ) → ℕ → ℕ
extra_before geo words_of segment = sum_by (λ earlier. length (chain_in geo (words_of earlier)) - 1) (range_with_len 0 segment)

-- the segments up to which more such tiers are chained than the geometry allows
unfoldable pub allowance_broken : Geo → (ℕ → List ℕ) → List Broken
allowance_broken geo words_of =
    map (λ segment. broken_at segment Allowance 0) (filter (λ segment. nat_lt geo.extra (extra_before geo words_of (segment + 1))) (range_with_len 0 geo.segments))

-- where the laws of a map are broken: segment after segment, and then the allowance
unfoldable pub breaks : MapWords → List Broken
breaks words =
    flat_map (λ segment. breaks_in words.geo segment (segment_in words segment)) (range_with_len 0 words.geo.segments)
    ++ allowance_broken words.geo (segment_in words)

-- the first broken law of a map, if one is broken
abbrev pub first_broken : MapWords → Option Broken
first_broken words = first_of (breaks words)
