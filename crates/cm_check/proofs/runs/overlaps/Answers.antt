-- Each tier of the chain was asked.
use Rattle.std.proofs.Common.{◌≡◌, ℕ, ◌<◌, List, [], length, get_or, flat_map, subst, Contains}
use Rattle.std.proofs.lemmas.Result.{err_from_is_err_and}
use Rattle.cm_plain.proofs.ListElements.{in_to}
use Rattle.cm_plain.proofs.States.{place_low}
use Rattle.cm_check.specs.Findings.{Begins}
use Rattle.cm_check.specs.Places.{chain_in}
use Rattle.cm_check.specs.SlotLaws.{is_overlapping, overlap_broken, slots_where}
use Rattle.cm_check.specs.Quiets.{geo_of, words_of}
use Rattle.cm_check.proofs.QuietReads.{chain_is}
use Rattle.cm_check.proofs.FirstFound.{first_joined, joined_all}
use Rattle.cm_check.proofs.KeySearch.{in_at}
use Rattle.cm_check.proofs.runs.overlaps.Goals as goal

-- a place of the list that was read is one of the chain
chained : (chain places : List ℕ) (k : ℕ) → places ≡ chain → k < length places → Contains chain (get_or places k 0)
chained chain places k e below = subst (λ (xs : List ℕ). Contains xs (get_or places k 0)) e (in_to places (get_or places k 0) (in_at places k 0 below))

pub taken_in-requires-clause-place : goal.taken_in-requires-clause-place
taken_in-requires-clause-place c =
    let q = c.args.quiet.now in
    place_low (chain_is q) (get_or c.places-places.result.now c.loop-place.place-index 0) (chained (chain_in (geo_of q) (words_of q)) c.places-places.result.now c.loop-place.place-index c.places-places.ensures c.loop-place-test.true)

pub returns-in_err-taken_in : goal.returns-in_err-taken_in
unfolding overlap_broken
returns-in_err-taken_in c =
    let p = err_from_is_err_and c.from_residual.result c.from_residual.ensures.1 in
    let q = c.args.quiet.now in
    let first = first_joined (λ place. slots_where (geo_of q) place (is_overlapping (geo_of q) (words_of q) place)) c.places-places.result.now c.loop-place.place-index 0 c.in_err-taken_in.field-0.0
    c.loop-place.invariant c.loop-place-test.true c.in_err-taken_in.ensures.first in
    rw (p.1, p.2) (subst (λ (xs : List ℕ). Begins (flat_map (λ place. slots_where (geo_of q) place (is_overlapping (geo_of q) (words_of q) place)) xs) c.in_err-taken_in.field-0.0) c.places-places.ensures first)

pub returns : goal.returns
unfolding overlap_broken
returns c =
    let q = c.args.quiet.now in
    subst (λ (xs : List ℕ). flat_map (λ place. slots_where (geo_of q) place (is_overlapping (geo_of q) (words_of q) place)) xs ≡ []) c.places-places.ensures
    (joined_all (λ place. slots_where (geo_of q) place (is_overlapping (geo_of q) (words_of q) place)) c.places-places.result.now c.loop-place.place-index 0 c.loop-place.invariant c.loop-place-test.false)
