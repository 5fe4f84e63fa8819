-- Words that meet the premises of the laws (own).
use Rattle.std.specs.Prelude.{ℕ, ◌≡◌, ◌≢◌, ◌*◌, ◌<◌, List, length, Some}
use Rattle.cm_geo.specs.declared.geo.Geo.{Geo}
use Rattle.cm_geo.specs.Addresses.{tier_at, words_in_segment}
use Rattle.cm_geo.specs.Hash.{segment_of_key}
use Rattle.cm_geo.specs.Need.{Fits}
use Rattle.cm_plain.specs.declared.op.Op.{Op}
use Rattle.cm_plain.specs.declared.op.Op.TheVariants.{Put}
use Rattle.cm_plain.specs.States.{State, one_tier}
use Rattle.cm_plain.specs.Changes.{Change, entry_at, planned_change}
use Rattle.cm_plain.specs.Steps.{Plans}
use Rattle.cm_plain.specs.Slots.{Slot, slot_for, slot_in, word_at}
use Rattle.cm_plain.specs.Readings.{Stands}
use Rattle.cm_plain.specs.FoundChains.{IsZero, KeepsAllowance}
use Rattle.cm_plain.specs.Lawful.{LawfulApart, Resting}
use Rattle.cm_plain.specs.ZeroWords.{zeros}
use Rattle.cm_recover.specs.Laws.{IsTorn}

-- words that rest for a state are torn for each change that is planned for it
abbrev pub RestingIsTorn : Geo → Type 0
RestingIsTorn geo =
    (segment : ℕ) (words : List ℕ) (state : State) (op : Op) (change : Change)
    → Resting geo segment words state → Plans geo segment state op change → IsTorn geo segment words state op change

-- a slot points to an entry of this key and value, which stands at the first chunk
pub record PointsWhole (geo : Geo) (words key value : List ℕ) (slot : Slot) : Type 0 where
  pub slot_is : slot ≡ slot_for geo key 0
  pub stands : Stands geo words (entry_at key value 0 0)

-- The words of a segment, as many as it has, into which one entry is written: the first tier is alone, and a slot that isn't empty points to
-- the entry, which stands then. Bits, counts and what no slot points to may be anything.
pub record IsFirstWritten (geo : Geo) (words key value : List ℕ) : Type 0 where
  pub length_is : length words ≡ words_in_segment geo
  pub alone : word_at words (tier_at geo 0) ≡ 0
  pub slots : (number : ℕ) (slot : Slot) → number < 2 * geo.chunks → slot_in geo words 0 number ≡ Some slot → PointsWhole geo words key value slot
  pub unlinked : (place : ℕ) → place < geo.tiers → place ≢ 0 → IsZero geo words place

-- such words are torn for the put of the entry into one empty tier
abbrev pub FirstWrittenIsTorn : Geo → Type 0
FirstWrittenIsTorn geo =
    (words key value : List ℕ) → Fits geo (length key) (length value) → IsFirstWritten geo words key value
    → IsTorn geo (segment_of_key geo key) words one_tier (Put key value) (planned_change geo one_tier (Put key value) key)

-- the words of a map in which nothing was written keep the allowance, represent one empty tier in each segment, and are torn for each put of a key that may be stored there
pub record ZerosAreTorn (geo : Geo) : Type 0 where
  pub allowance : KeepsAllowance geo (zeros geo)
  pub lawful_apart : (segment : ℕ) → LawfulApart geo segment (zeros geo segment) one_tier
  pub torn : (key value : List ℕ) → Fits geo (length key) (length value)
      → IsTorn geo (segment_of_key geo key) (zeros geo (segment_of_key geo key)) one_tier (Put key value) (planned_change geo one_tier (Put key value) key)
