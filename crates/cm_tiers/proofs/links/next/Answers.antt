-- The link that was loaded stands in each list that fits.
use Rattle.std.proofs.Common.{ℕ, sym, subst}
use Rattle.cm_tiers.specs.Chains.{LinksTo}
use Rattle.cm_geo.specs.Addresses.{tier_at}
use Rattle.cm_words.proofs.FittingLists.{known_word}
use Rattle.cm_tiers.proofs.Inner.{link_below, link_inner}
use Rattle.cm_tiers.proofs.links.next.Goals as goal

pub returns-clause-below : goal.returns-clause-below
returns-clause-below g c = link_below c.args.geo.now c.in_ok-link.link c.place_of.result c.place_of.ensures

pub returns-clause-linked : goal.returns-clause-linked
returns-clause-linked g c = λ words fits.
    subst (λ (link : ℕ). LinksTo c.args.geo.now link c.place_of.result)
    (sym (known_word (g.M.Mem.seen c.load.new.self) (tier_at c.args.geo.now c.args.place) c.tier_at.result c.in_ok-link.link (link_inner c.args.geo.now c.args.place) c.tier_at.ensures.value c.in_ok-link.ensures.word words fits)) c.place_of.ensures
