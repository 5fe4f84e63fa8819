-- Where links stand, and where they lead.
use Rattle.std.proofs.Common.{ℕ, ◌<◌, Option, Some, None, IfSome, arith}
use Rattle.cm_geo.specs.declared.geo.Geo.{Geo}
use Rattle.cm_geo.specs.Addresses.{tier_at}
use Rattle.cm_geo.proofs.AddressOrder.{tier_behind_head}
use Rattle.cm_tiers.specs.Chains.{LinksTo}

-- a link is neither the lock word nor the change number
pub link_inner : (geo : Geo) (place : ℕ) → 1 < tier_at geo place
link_inner geo place = omega (arith, tier_behind_head geo place)

-- a place to which one leads is one of the geometry's
pub link_below : (geo : Geo) (link : ℕ) (next : Option ℕ) → LinksTo geo link next → IfSome next (λ place. place < geo.tiers)
link_below geo link None to = tt
link_below geo link (Some place) to = to.below
