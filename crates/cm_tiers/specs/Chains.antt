-- What a chain and a link are (own).
use Rattle.std.specs.Prelude.{ℕ, ◌≡◌, ◌+◌, ◌-◌, ◌<◌, ◌≤◌, ◌⊎◌, All, Bool, true, false, List, length, take, drop, get_or, Option, Some, None}
use Rattle.cm_geo.specs.declared.geo.Geo.{Geo}
use Rattle.cm_plain.specs.States.{IsChain}
use Rattle.cm_plain.specs.FoundChains.{chain_from, chain_of}
use Rattle.cm_words.specs.Memory.{FitsNotes, MemSeen}
use Rattle.cm_tiers.specs.declared.places.Chain.{Chain}
use Rattle.cm_tiers.specs.declared.stepwise.Tiers.{Tiers}

-- the places of a chain: the first so many
abbrev pub places_of : Chain → List ℕ
places_of chain = take chain.len chain.places

-- a chain that was read has 1 to the most tiers, at different places, the first at place 0; behind them stands 0
pub record IsRead (geo : Geo) (chain : Chain) : Type 0 where
  pub nonzero : 1 ≤ chain.len
  pub within_limit : chain.len ≤ geo.tiers
  pub is_chain : IsChain geo (places_of chain)
  pub rest : All (λ place. place ≡ 0) (drop chain.len chain.places)

-- it is the chain of these words
abbrev pub IsLinked : Geo → List ℕ → Chain → Type 0
IsLinked geo words chain = chain_of geo words ≡ record { places = places_of chain; cut = chain.cut }

-- the chain of a list has ended with these tiers, or goes on behind the last of them
abbrev pub GoesOn : Geo → List ℕ → Chain → Bool → Type 0
GoesOn geo words found true = (chain_of geo words).places ≡ places_of found
GoesOn geo words found false =
    chain_of geo words ≡ chain_from (geo.tiers + 1 - found.len) geo words (places_of found) (get_or found.places (found.len - 1) 0)

-- these tiers were found so far: the chain of each list that fits begins with them
pub record AreFound (m : MemSeen) (geo : Geo) (tiers : Tiers) : Type 0 where
  pub eight : length tiers.found.places ≡ 8
  pub read : IsRead geo tiers.found
  pub goes_on : (words : List ℕ) → FitsNotes m words → GoesOn geo words tiers.found tiers.ended

-- they are all tiers of the chain of each list that fits
abbrev pub AreAll : MemSeen → Geo → Tiers → Type 0
AreAll m geo tiers = (words : List ℕ) → FitsNotes m words → (chain_of geo words).places ≡ places_of tiers.found

-- the tier of a number was found at this place
pub record IsFoundAt (geo : Geo) (tiers : Tiers) (number place : ℕ) : Type 0 where
  pub found : number < tiers.found.len
  pub below : place < geo.tiers

-- a link leads to this place
pub record IsLinkTo (geo : Geo) (link place : ℕ) : Type 0 where
  pub link_is : link ≡ place
  pub nonzero : 0 < place
  pub below : place < geo.tiers

-- a link leads to a place of the geometry, or it is 0 or beyond them
abbrev pub LinksTo : Geo → ℕ → Option ℕ → Type 0
LinksTo geo link None = (link ≡ 0) ⊎ (geo.tiers ≤ link)
LinksTo geo link (Some place) = IsLinkTo geo link place
