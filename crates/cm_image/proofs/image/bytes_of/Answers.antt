use Rattle.std.proofs.Common.{◌≡◌, ◌∙◌, ◌++◌, ◌*◌, ℕ, List, take, length, append_assoc, ap, arith, rules}
use Rattle.cm_geo.specs.declared.geo.Geo.{Geo}
use Rattle.cm_geo.specs.Addresses.{words_in_segment}
use Rattle.cm_words.specs.Maps.{segment_in}
use Rattle.cm_image.specs.Images.{header_bytes, word_bytes}
use Rattle.cm_image.proofs.Wholes.{image-none, image-room, image-segments, word_bytes-segment}
use Rattle.cm_image.proofs.image.bytes_of.Goals as goal

pub loop-segment-init : goal.loop-segment-init
loop-segment-init c =
    let items : c.extend_from_slice.new.self.items ≡ header_bytes c.args.words.now.geo = search rules in
    items ∙ image-none c.args.words.now.geo _ c.args.words.now.words

pub extend_bytes-requires : goal.extend_bytes-requires
extend_bytes-requires c =
    let map = c.args.words.now in
    let segment = c.loop-segment.segment in
    let room = image-room map c.loop-segment.bytes.items segment c.are_whole.ensures.whole c.loop-segment.invariant in
    let long : length c.segment.result.now ≡ length (segment_in map segment) = ap (λ (t : List ℕ). length t) c.segment.ensures in
    omega (arith, room, long, c.loop-segment.bytes.ok.0)

pub loop-segment-preserved : goal.loop-segment-preserved
loop-segment-preserved c =
    let map = c.args.words.now in
    let segment = c.loop-segment.segment in
    let before = take (segment * words_in_segment map.geo) map.words in
    c.in_ok-extend_bytes.ensures ∙ ap (λ (t : List ℕ). t ++ word_bytes c.segment.result.now) c.loop-segment.invariant
    ∙ append_assoc (header_bytes map.geo) (word_bytes before) (word_bytes c.segment.result.now)
    ∙ ap (λ (t : List ℕ). header_bytes map.geo ++ t) (ap (λ (t : List ℕ). word_bytes before ++ word_bytes t) c.segment.ensures ∙ word_bytes-segment map segment)

pub returns : goal.returns
returns c =
    let same = ap (λ (geo : Geo). geo.segments) c.geo-geo.ensures in
    c.loop-segment.invariant ∙ image-segments c.args.words.now c.loop-segment.segment c.are_whole.ensures.whole (omega (arith, same))
