-- What recovery counts (own).
use Rattle.std.specs.Prelude.{ℕ, ◌≡◌, ◌==◌, ◌%◌, Bool, true, false, List, length, filter, slice_get, Some}
use Rattle.cm_geo.specs.declared.geo.Geo.{Geo}
use Rattle.cm_plain.specs.Lawful.{Lawful}
use Rattle.cm_plain.specs.Slots.{word_at}
use Rattle.cm_plain.specs.FoundChains.{chain_of}
use Rattle.cm_plain.specs.declared.found.Drops.{Drops}
use Rattle.cm_plain.specs.declared.found.SegFound.{SegFound}
use Rattle.cm_tiers.specs.declared.places.Chain.{Chain}
use Rattle.cm_recover.specs.declared.cause.Cause.{Cause}
use Rattle.cm_recover.specs.declared.cause.Cause.TheVariants as cause
use Rattle.cm_recover.specs.declared.tally.Tally.{Tally}
use Rattle.cm_recover.specs.KeptSlots.{KeptEntries, drops_for, kept_state, rank}

-- one, where it is so
abbrev pub one_if : Bool → ℕ
one_if true = 1
one_if false = 0

-- the count of a cause
abbrev pub count_for : Drops → Cause → ℕ
count_for drops cause.Allowance = drops.allowance
count_for drops cause.Range = drops.range
count_for drops cause.Lengths = drops.lengths
count_for drops cause.Checksum = drops.checksum
count_for drops cause.Padding = drops.padding
count_for drops cause.Segment = drops.segment
count_for drops cause.Fingerprint = drops.fingerprint
count_for drops cause.Duplicate = drops.duplicate
count_for drops cause.Overlap = drops.overlap

-- the counts are those of what is kept and dropped
pub record Counts (tally : Tally) (kept : KeptEntries) : Type 0 where
  pub kept_is : tally.kept ≡ length kept.entries
  pub drops : (why : Cause) → count_for tally.drops why ≡ length (filter (λ other. rank other == rank why) kept.drops)

-- what is found in a segment of a map with these words
pub record IsFoundIn (geo : Geo) (words_of : ℕ → List ℕ) (segment : ℕ) (found : SegFound) : Type 0 where
  pub segment_is : found.segment ≡ segment
  pub kept : found.kept ≡ length (kept_state geo words_of segment).entries
  pub drops : (why : Cause) → count_for found.drops why ≡ drops_for geo words_of segment why
  pub lock : found.lock ≡ word_at (words_of segment) 0
  pub in_flight : found.in_flight ≡ (word_at (words_of segment) 1 % 2 == 1)
  pub cut : found.cut ≡ (chain_of geo (words_of segment)).cut

-- what is told of a segment with this chain, this tally and these old words
pub record IsToldOf (segment : ℕ) (chain : Chain) (tally : Tally) (old : List ℕ) (found : SegFound) : Type 0 where
  pub segment_is : found.segment ≡ segment
  pub kept : found.kept ≡ tally.kept
  pub drops : found.drops ≡ tally.drops
  pub lock : found.lock ≡ word_at old 0
  pub in_flight : found.in_flight ≡ (word_at old 1 % 2 == 1)
  pub cut : found.cut ≡ chain.cut

-- a segment's new words represent, after no change, the state that is kept of the old ones, and this is found in it
pub record IsRecovered (geo : Geo) (words_of : ℕ → List ℕ) (segment : ℕ) (words : List ℕ) (found : SegFound) : Type 0 where
  pub lawful : Lawful geo segment words 0 (kept_state geo words_of segment)
  pub found_is : IsFoundIn geo words_of segment found

-- what is found in the segments of a map with these words, in their order
pub record AreFoundIn (geo : Geo) (words_of : ℕ → List ℕ) (found : List SegFound) : Type 0 where
  pub length_is : length found ≡ geo.segments
  pub each : (segment : ℕ) (one : SegFound) → slice_get found segment ≡ Some one → IsFoundIn geo words_of segment one
