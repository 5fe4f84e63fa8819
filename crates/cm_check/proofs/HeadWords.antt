-- Where the words of a segment's head and of its tiers stand.
use Rattle.std.proofs.Common.{◌≡◌, ℕ, ◌+◌, ◌-◌, ◌*◌, ◌/◌, ◌<◌, ◌≤◌, ◌^◌, arith, refl, ap, ◌∙◌}
use Rattle.std.proofs.Math.Nat.{mul-div_cancel_left}
use Rattle.cm_geo.specs.declared.geo.Geo.{Geo}
use Rattle.cm_geo.specs.Addresses.{tier_at, words_in_segment, words_in_tier}
use Rattle.cm_geo.proofs.Ranges.{map_limit, segments_range, tiers_range}

-- a segment has a head and its tiers
segment_parts : (geo : Geo) → words_in_segment geo ≡ 4 + geo.tiers * words_in_tier geo
unfolding words_in_segment words_in_tier
segment_parts geo = refl

pub head_inside : (geo : Geo) → 4 ≤ words_in_segment geo
head_inside geo = omega (arith, segment_parts geo)

-- the words behind the head, divided among the tiers
pub tier_part : (geo : Geo) → (words_in_segment geo - 4) / geo.tiers ≡ words_in_tier geo
tier_part geo = by_numbers (words_in_segment geo) geo.tiers (words_in_tier geo) (segment_parts geo) (tiers_range geo).0
  where
    by_numbers : (all tiers tier : ℕ) → all ≡ 4 + tiers * tier → 1 ≤ tiers → (all - 4) / tiers ≡ tier
    by_numbers all tiers tier is some = rw is (let e : 4 + tiers * tier - 4 ≡ tiers * tier = omega arith in ap (λ (n : ℕ). n / tiers) e ∙ mul-div_cancel_left tier some)

-- a tier lies in the segment
pub tier_inside : (geo : Geo) (place : ℕ) → place < geo.tiers → tier_at geo place + words_in_tier geo ≤ words_in_segment geo
unfolding tier_at
tier_inside geo place below = by_numbers (words_in_segment geo) geo.tiers (words_in_tier geo) place (segment_parts geo) below
  where
    by_numbers : (all tiers tier place : ℕ) → all ≡ 4 + tiers * tier → place < tiers → 4 + place * tier + tier ≤ all
    by_numbers all tiers tier place is below = grind arith

-- a segment's words are few
pub segment_few : (geo : Geo) → words_in_segment geo ≤ 2 ^ 22
segment_few geo = by_numbers geo.segments (words_in_segment geo) (segments_range geo).0 (map_limit geo)
  where
    by_numbers : (segments all : ℕ) → 1 ≤ segments → segments * all ≤ 2 ^ 22 → all ≤ 2 ^ 22
    by_numbers segments all some limit = grind arith
