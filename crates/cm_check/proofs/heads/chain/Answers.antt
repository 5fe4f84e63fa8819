-- A chain has a last tier.
use Rattle.std.proofs.Common.{◌≡◌, ℕ, ◌-◌, List, length, arith, ap, ◌∙◌, subst, refl, Bool, true, false, not, [], ◌∷◌, filter, slice_index, Result}
use Rattle.cm_geo.specs.Addresses.{tier_at}
use Rattle.cm_check.specs.Findings.{NamesFirst}
use Rattle.cm_check.specs.HeadLaws.{chain_broken, last_place}
use Rattle.cm_check.specs.Places.{chain_in}
use Rattle.cm_check.specs.Quiets.{geo_of, words_of}
use Rattle.cm_check.proofs.QuietReads.{chain_is, last_low, places_some}
use Rattle.cm_check.proofs.heads.chain.Goals as goal

pub overflow_sub-last : goal.overflow_sub-last
overflow_sub-last c = rw c.places-places.ensures (places_some (chain_is c.args.quiet.now))

pub bounds-places-places : goal.bounds-places-places
bounds-places-places c = rw c.places-places.ensures (let some = places_some (chain_is c.args.quiet.now) in omega (arith, some))

pub tier_at-requires : goal.tier_at-requires
tier_at-requires c = record { place = rw (c.places-places.ensures, c.geo.ensures) (last_low (chain_is c.args.quiet.now)) }

-- what is said twice over
not_not : (b : Bool) → not (not b) ≡ b
not_not true = refl
not_not false = refl

named_last : (at at' : ℕ) (cut cut' : Bool) (result : Result (Unit {0}) ℕ) → at ≡ at' → cut ≡ cut' → NamesFirst (filter (λ here. not (not cut)) (at ∷ [])) result → NamesFirst (filter (λ here. cut') (at' ∷ [])) result
named_last at at' cut cut' result e f named =
    let there = subst (λ (n : ℕ). NamesFirst (filter (λ here. not (not cut)) (n ∷ [])) result) e named in
    subst (λ (b : Bool). NamesFirst (filter (λ here. b) (at' ∷ [])) result) (not_not cut ∙ f) there

pub returns : goal.returns
unfolding chain_broken
returns c =
    let at : c.tier_at.result ≡ tier_at (geo_of c.args.quiet.now) (last_place (chain_in (geo_of c.args.quiet.now) (words_of c.args.quiet.now))) =
    c.tier_at.ensures.value ∙ (ap (λ g. tier_at g (slice_index c.places-places.result.now (length c.places-places.result.now - 1))) c.geo.ensures ∙ ap (λ (places : List ℕ). tier_at (geo_of c.args.quiet.now) (last_place places)) c.places-places.ensures) in
    named_last c.tier_at.result _ c.is_cut.result _ c.named_unless.result at c.is_cut.ensures c.named_unless.ensures
