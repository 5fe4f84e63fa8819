-- The tiers of a state's chain, as they are found in words that represent it.
use Rattle.std.proofs.Common.{◌≡◌, ℕ, ◌<◌, List, length, Some, Contains, ap, sym, subst, ◌∙◌}
use Rattle.std.specs.List.{slice_get}
use Rattle.std.proofs.lemmas.List.Elements.{All-contains}
use Rattle.std.proofs.lemmas.Option.{get_or_from_slice_get, slice_get-get_or, slice_get_within}
use Rattle.cm_geo.specs.declared.geo.Geo.{Geo}
use Rattle.cm_plain.specs.States.{State}
use Rattle.cm_plain.specs.FoundChains.{FoundChain, chain_of}
use Rattle.cm_plain.specs.Lawful.{Represents, Resting, TierRepresents}
use Rattle.cm_plain.proofs.OutsideHead.{resting_represents}
use Rattle.cm_words.specs.Memory.{MemSeen}
use Rattle.cm_words.specs.Effects.{Reads}
use Rattle.cm_tiers.specs.declared.places.Chain.{Chain}
use Rattle.cm_tiers.specs.Chains.{IsLinked, places_of}

-- loads leave the segment's number
pub segment_before : (a b : MemSeen) (IsSo : ℕ → Type 0) → Reads a b → IsSo b.setting.segment → IsSo a.setting.segment
segment_before a b IsSo reads is = subst IsSo (ap (λ s. s.segment) reads.keeps.setting) is

-- so words that represent a state represented it before, and words that rest rested before
pub represents_before : (a b : MemSeen) (geo : Geo) (words : List ℕ) (state : State) → Reads a b → Represents geo b.setting.segment words state
    → Represents geo a.setting.segment words state
represents_before a b geo words state reads has = segment_before a b (λ (s : ℕ). Represents geo s words state) reads has

pub rests_before : (a b : MemSeen) (geo : Geo) (words : List ℕ) (state : State) → Reads a b → Resting geo b.setting.segment words state
    → Resting geo a.setting.segment words state
rests_before a b geo words state reads rests = segment_before a b (λ (s : ℕ). Resting geo s words state) reads rests

-- the chain of a state is that of its words
pub chain_is : (geo : Geo) (segment : ℕ) (words : List ℕ) (state : State) → Resting geo segment words state → (chain_of geo words).places ≡ state.chain
chain_is geo segment words state rests = (resting_represents geo segment words state rests).chain

-- so it is the one that was read
pub places_are : (geo : Geo) (segment : ℕ) (words : List ℕ) (state : State) (chain : Chain) → Resting geo segment words state → IsLinked geo words chain
    → state.chain ≡ places_of chain
places_are geo segment words state chain rests is = sym (chain_is geo segment words state rests) ∙ ap (λ (l : FoundChain). l.places) is

-- the words of a tier of the chain represent its entries
pub tier_in : (geo : Geo) (segment : ℕ) (words : List ℕ) (state : State) (place : ℕ) → Represents geo segment words state → Contains state.chain place
    → TierRepresents geo words state place
tier_in geo segment words state place has chained = All-contains (TierRepresents geo words state) state.chain place has.tiers chained

pub tier_of : (geo : Geo) (segment : ℕ) (words : List ℕ) (state : State) (place : ℕ) → Resting geo segment words state → Contains state.chain place
    → TierRepresents geo words state place
tier_of geo segment words state place rests chained = tier_in geo segment words state place (resting_represents geo segment words state rests) chained

-- a place of a number in a list is one of the list
pub contains_at : (places : List ℕ) (number place : ℕ) → slice_get places number ≡ Some place → Contains places place
contains_at places number place is = (number, slice_get_within places number place is, get_or_from_slice_get places number place place is)

-- and each one of the list has a number
pub number_of : (places : List ℕ) (place : ℕ) → Contains places place → (number : ℕ) × (number < length places) × (slice_get places number ≡ Some place)
number_of places place there = (there.0, there.1, slice_get-get_or places there.0 place there.1 ∙ ap (λ (p : ℕ). Some p) there.2)
