-- No earlier tier has the key, so the tier itself decides.
use Rattle.std.proofs.Common.{◌*◌, get_or, arith}
use Rattle.cm_plain.proofs.States.{place_low}
use Rattle.cm_plain.proofs.ListElements.{in_to}
use Rattle.cm_check.specs.SlotLaws.{is_key_among}
use Rattle.cm_check.specs.Quiets.{geo_of, words_of}
use Rattle.cm_check.proofs.QuietReads.{chain_is}
use Rattle.cm_check.proofs.KeySearch.{in_at, none_by_place}
use Rattle.cm_check.proofs.repeats.is_again.Goals as goal

pub is_among-requires-clause-place : goal.is_among-requires-clause-place
is_among-requires-clause-place c =
    place_low (chain_is c.args.quiet.now) (get_or c.args.earlier.now c.loop-other.other-index 0)
    (c.requires.earlier (get_or c.args.earlier.now c.loop-other.other-index 0) (in_to c.args.earlier.now (get_or c.args.earlier.now c.loop-other.other-index 0) (in_at c.args.earlier.now c.loop-other.other-index 0 c.loop-other-test.true)))

pub returns : goal.returns
returns c =
    let q = c.args.quiet.now in
    let none = none_by_place (is_key_among (geo_of q) (words_of q) c.args.key.now (2 * (geo_of q).chunks)) c.args.earlier.now 0 (λ k below. c.loop-other.invariant k (omega (arith, below, c.loop-other-test.false))) in
    rw none c.is_among-2.ensures
