-- Each tier of the chain was asked, with those before it.
use Rattle.std.proofs.Common.{◌≡◌, ◌≢◌, ℕ, ◌<◌, List, [], length, take, get_or, arith, ap, sym, subst, flat_map, AllPairs, below_more}
use Rattle.std.proofs.lemmas.Result.{err_from_is_err_and}
use Rattle.cm_plain.proofs.Each.{pairs_from_all}
use Rattle.cm_check.specs.Findings.{Begins}
use Rattle.cm_check.specs.Places.{chain_in, places_before}
use Rattle.cm_check.specs.Quiets.{geo_of, words_of}
use Rattle.cm_check.specs.SlotLaws.{duplicate_broken, is_again, slots_where}
use Rattle.cm_check.proofs.QuietReads.{chain_is}
use Rattle.cm_check.proofs.FirstFound.{first_joined, joined_all}
use Rattle.cm_check.proofs.KeySearch.{before_at}
use Rattle.cm_check.proofs.repeats.repeats.Goals as goal

-- the tiers before one
earlier_are : (chain places : List ℕ) (link : ℕ) → places ≡ chain → AllPairs (λ place other. place ≢ other) chain → link < length places → take link places ≡ places_before chain (get_or places link 0)
earlier_are chain places link e apart below =
    subst (λ (xs : List ℕ). link < length xs → take link xs ≡ places_before chain (get_or xs link 0)) (sym e) (λ inside. sym (before_at chain link (pairs_from_all (λ place other. place ≢ other) chain apart) inside)) below

pub returns-in_err-again_in : goal.returns-in_err-again_in
unfolding duplicate_broken
returns-in_err-again_in c =
    let p = err_from_is_err_and c.from_residual.result c.from_residual.ensures.1 in
    let q = c.args.quiet.now in
    let places : List ℕ = c.places-places.result.now in
    let earlier = earlier_are (chain_in (geo_of q) (words_of q)) places c.loop-link.link c.places-places.ensures (chain_is q).apart c.loop-link-test.true in
    let here : Begins (slots_where (geo_of q) (get_or places c.loop-link.link 0) (is_again (geo_of q) (words_of q) (places_before (chain_in (geo_of q) (words_of q)) (get_or places c.loop-link.link 0)) (get_or places c.loop-link.link 0))) c.in_err-again_in.field-0.0 =
    subst (λ (xs : List ℕ). Begins (slots_where (geo_of q) (get_or places c.loop-link.link 0) (is_again (geo_of q) (words_of q) xs (get_or places c.loop-link.link 0))) c.in_err-again_in.field-0.0) earlier c.in_err-again_in.ensures in
    let first = first_joined (λ place. slots_where (geo_of q) place (is_again (geo_of q) (words_of q) (places_before (chain_in (geo_of q) (words_of q)) place) place)) places c.loop-link.link 0 c.in_err-again_in.field-0.0
    c.loop-link.invariant c.loop-link-test.true here in
    rw (p.1, p.2) (subst (λ (xs : List ℕ). Begins (flat_map (λ place. slots_where (geo_of q) place (is_again (geo_of q) (words_of q) (places_before (chain_in (geo_of q) (words_of q)) place) place)) xs) c.in_err-again_in.field-0.0) c.places-places.ensures first)

pub loop-link-preserved : goal.loop-link-preserved
loop-link-preserved c =
    let q = c.args.quiet.now in
    let places : List ℕ = c.places-places.result.now in
    let earlier = earlier_are (chain_in (geo_of q) (words_of q)) places c.loop-link.link c.places-places.ensures (chain_is q).apart c.loop-link-test.true in
    below_more _ _ c.loop-link.invariant (subst (λ (xs : List ℕ). slots_where (geo_of q) (get_or places c.loop-link.link 0) (is_again (geo_of q) (words_of q) xs (get_or places c.loop-link.link 0)) ≡ []) earlier c.in_ok-again_in.ensures)

pub returns : goal.returns
unfolding duplicate_broken
returns c =
    let q = c.args.quiet.now in
    joined_all (λ place. slots_where (geo_of q) place (is_again (geo_of q) (words_of q) (places_before (chain_in (geo_of q) (words_of q)) place) place)) (chain_in (geo_of q) (words_of q)) c.loop-link.link 0
    (λ k below. subst (λ (places : List ℕ). slots_where (geo_of q) (get_or places k 0) (is_again (geo_of q) (words_of q) (places_before (chain_in (geo_of q) (words_of q)) (get_or places k 0)) (get_or places k 0)) ≡ []) c.places-places.ensures (c.loop-link.invariant k below))
    (omega (arith, c.loop-link-test.false, ap (λ (xs : List ℕ). length xs) c.places-places.ensures))
