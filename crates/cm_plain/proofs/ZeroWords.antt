-- Words in which nothing was written represent one empty tier.
use Rattle.std.proofs.Common.{◌≡◌, ℕ, ◌+◌, ◌/◌, ◌%◌, ◌<◌, ◌^◌, Some, None, List, [], ◌∷◌, replicate, bit_and, refl, sym, ◌∙◌, arith, zero, suc, false, inl, inr}
use Rattle.std.specs.List.{Contains}
use Rattle.std.proofs.lemmas.Bool.{cases_lt}
use Rattle.std.proofs.lemmas.Grind.{common_steps}
use Rattle.std.proofs.lemmas.List.Elements.{All-from_recursion}
use Rattle.std.proofs.lemmas.List.{get_or-replicate, get_or_past, length-replicate}
use Rattle.cm_geo.specs.declared.geo.Geo.{Geo}
use Rattle.cm_geo.specs.declared.limits.TheConstants.{WORD_BITS}
use Rattle.cm_geo.specs.Addresses.{bits_at, slot_at, tier_at, words_in_segment}
use Rattle.cm_geo.proofs.Ranges.{tiers_range}
use Rattle.cm_plain.specs.States.{IsState, one_tier}
use Rattle.cm_plain.specs.Slots.{slot_in, word_at}
use Rattle.cm_plain.specs.FoundChains.{chain_from, chain_of}
use Rattle.cm_plain.specs.Lawful.{EndsHead, HasBit, LawfulApart, Represents, Resting, TierRepresents}
use Rattle.cm_plain.specs.ZeroWords.{zeros}

-- each word is 0, also behind the last
pub all_zero : (n at : ℕ) → word_at (replicate n 0) at ≡ 0
all_zero n at = elim (cases_lt at n) [
  | inl inside ↦ get_or-replicate n at 0 0 inside
  | inr behind ↦ get_or_past (replicate n 0) at 0 (omega (arith, length-replicate {A = ℕ} n 0))
]

-- nothing is in an empty list
pub none_in : {X : Type 0} {x : X} → Contains [] x → ⊥
none_in c = omega (arith, c.1)

pub no_slot : (geo : Geo) (segment place number : ℕ) → slot_in geo (zeros geo segment) place number ≡ None
unfolding slot_in
no_slot geo segment place number = rw (all_zero (words_in_segment geo) (slot_at geo place number)) refl

-- the chain has the first tier alone
alone_from : (links : ℕ) (geo : Geo) (words : List ℕ) → word_at words (tier_at geo 0) ≡ 0 → chain_from links geo words (0 ∷ []) 0 ≡ record { places = 0 ∷ []; cut = false }
alone_from zero geo words none = refl
alone_from (suc links) geo words none = rw none refl

pub alone_is : (geo : Geo) (words : List ℕ) → word_at words (tier_at geo 0) ≡ 0 → chain_of geo words ≡ record { places = 0 ∷ []; cut = false }
unfolding chain_of
alone_is geo words none = alone_from geo.tiers geo words none

pub alone : (geo : Geo) (segment : ℕ) → chain_of geo (zeros geo segment) ≡ record { places = 0 ∷ []; cut = false }
alone geo segment = alone_is geo (zeros geo segment) (all_zero (words_in_segment geo) (tier_at geo 0))

no_bit : (geo : Geo) (segment place chunk : ℕ) → HasBit geo (zeros geo segment) place chunk → ⊥
no_bit geo segment place chunk set = set (rw (all_zero (words_in_segment geo) (bits_at geo place (chunk / WORD_BITS))) (none_set (2 ^ (chunk % WORD_BITS))))
  where
    none_set : (mask : ℕ) → bit_and 0 mask ≡ 0
    none_set mask = grind (arith, common_steps)

tier_represents : (geo : Geo) (segment place : ℕ) → TierRepresents geo (zeros geo segment) one_tier place
tier_represents geo segment place = record {
  slots = λ number slot inside e. absurd (clash (sym (no_slot geo segment place number) ∙ e));
  reached = λ number slot inside e. absurd (clash (sym (no_slot geo segment place number) ∙ e));
  bits = λ chunk inside. (λ set. absurd (no_bit geo segment place chunk set), λ taken. absurd (none_in taken.at.there));
  count = all_zero (words_in_segment geo) (tier_at geo place + 1);
}
  where
    clash : {X : Type 0} {x : X} → None ≡ Some x → ⊥
    clash e = cc e

-- one empty tier is a state
pub one_is : (geo : Geo) (segment : ℕ) → IsState geo segment one_tier
one_is geo segment = record {
  chain = record {
    first = refl;
    within_limit = omega (arith, tiers_range geo);
    inside = All-from_recursion (λ place. place < geo.tiers) (0 ∷ []) (omega (arith, tiers_range geo), tt);
    apart = λ i j d before below. absurd (omega arith);
  };
  placed = λ k d inside. absurd (omega arith);
  runs = λ i j d before below. absurd (omega arith);
  keys = λ i j d before below. absurd (omega arith);
}

zeros_represent : (geo : Geo) (segment : ℕ) → Represents geo segment (zeros geo segment) one_tier
zeros_represent geo segment = record {
  is_state = one_is geo segment;
  whole = rw (alone geo segment) refl;
  chain = rw (alone geo segment) refl;
  tiers = All-from_recursion (TierRepresents geo (zeros geo segment) one_tier) (0 ∷ []) (tier_represents geo segment 0, tt);
  stand = λ placed there. absurd (none_in there);
  pointed = λ placed there. absurd (none_in there);
  count = all_zero (words_in_segment geo) 2;
  unlinked = λ place inside out offset below. all_zero (words_in_segment geo) (tier_at geo place + offset);
}

pub zeros_lawful : (geo : Geo) (segment : ℕ) → LawfulApart geo segment (zeros geo segment) one_tier
zeros_lawful geo segment = record {
  length_is = length-replicate (words_in_segment geo) 0;
  fourth = all_zero (words_in_segment geo) 3;
  heads = All-from_recursion (EndsHead geo (zeros geo segment)) (0 ∷ [])
      (record { third = all_zero (words_in_segment geo) (tier_at geo 0 + 2); fourth = all_zero (words_in_segment geo) (tier_at geo 0 + 3) }, tt);
  represents = zeros_represent geo segment;
}

-- so such words rest for it
pub zeros_rest : (geo : Geo) (segment : ℕ) → Resting geo segment (zeros geo segment) one_tier
unfolding Resting
zeros_rest geo segment = zeros_lawful geo segment
