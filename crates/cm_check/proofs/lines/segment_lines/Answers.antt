-- The lines are those of the entries, and are sorted.
use Rattle.std.proofs.Common.{◌≡◌, ℕ, ◌<◌, Bool, List, length, get_or, rules, ap, subst, ◌∙◌, Contains}
use Rattle.std.specs.Ordering.{is_lt, nat_cmp}
use Rattle.std.specs.Cmp.Lexicographic.{slice_cmp}
use Rattle.std.specs.List.Sorted.{IsSortedByKey}
use Rattle.std.proofs.lemmas.Cmp.{nat_list_cmp_total}
use Rattle.std.proofs.lemmas.List.{take_all}
use Rattle.std.proofs.lemmas.List.Sorted.{ranks_by}
use Rattle.std.proofs.lemmas.Fn.{always_returns_same}
use Rattle.cm_plain.specs.declared.receipt.MapLine.{MapLine}
use Rattle.cm_plain.proofs.ListElements.{in_to}
use Rattle.cm_plain.proofs.States.{place_low}
use Rattle.cm_check.specs.Contents.{slot_lines}
use Rattle.cm_check.specs.Places.{chain_in}
use Rattle.cm_check.specs.Quiets.{geo_of, words_of}
use Rattle.cm_check.proofs.QuietReads.{chain_is}
use Rattle.cm_check.proofs.KeySearch.{in_at}
use Rattle.cm_check.proofs.MapLines.{lawful_rightful, segment_listed}
use Rattle.cm_check.proofs.lines.segment_lines.Goals as goal

-- a place of the list that was read is one of the chain
chained : (chain places : List ℕ) (k : ℕ) → places ≡ chain → k < length places → Contains chain (get_or places k 0)
chained chain places k e below = subst (λ (xs : List ℕ). Contains xs (get_or places k 0)) e (in_to places (get_or places k 0) (in_at places k 0 below))

pub push_tier-requires-clause-place : goal.push_tier-requires-clause-place
push_tier-requires-clause-place c =
    let q = c.args.quiet.now in
    place_low (chain_is q) (get_or c.places-places.result.now c.loop-place.place-index 0) (chained (chain_in (geo_of q) (words_of q)) c.places-places.result.now c.loop-place.place-index c.places-places.ensures c.loop-place-test.true)

pub push_tier-requires-clause-rightful : goal.push_tier-requires-clause-rightful
push_tier-requires-clause-rightful c =
    let q = c.args.quiet.now in
    lawful_rightful (geo_of q) q.segment (words_of q) c.requires (get_or c.places-places.result.now c.loop-place.place-index 0) (chained (chain_in (geo_of q) (words_of q)) c.places-places.result.now c.loop-place.place-index c.places-places.ensures c.loop-place-test.true)

pub returns : goal.returns
returns c =
    let q = c.args.quiet.now in
    let below : MapLine → MapLine → Bool = λ one other. is_lt (slice_cmp nat_cmp one.key other.key) in
    let in_order : IsSortedByKey (λ line. line.key) (slice_cmp nat_cmp) c.sort_unstable_by.new.self.items =
    c.sort_unstable_by.ensures.sorted below (ranks_by nat_list_cmp_total (λ (line : MapLine). line.key)) (always_returns_same _ (λ a r. is_lt r ≡ below a.0.now a.1.0.now) _ (λ a r f k. search rules)) in
    let found : c.loop-place.lines.items ≡ slot_lines (geo_of q) q.segment (words_of q) (chain_in (geo_of q) (words_of q)) =
    c.loop-place.invariant ∙ (ap (slot_lines (geo_of q) q.segment (words_of q)) (take_all c.loop-place.place-index c.places-places.result.now c.loop-place-test.false) ∙ ap (slot_lines (geo_of q) q.segment (words_of q)) c.places-places.ensures) in
    segment_listed (geo_of q) q.segment (words_of q) c.loop-place.lines.items c.sort_unstable_by.new.self.items c.requires found c.sort_unstable_by.ensures.permutation in_order
