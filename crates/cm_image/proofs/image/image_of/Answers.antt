use Rattle.std.proofs.Common.{◌≡◌, ◌∙◌, drop, length-drop, sym, arith, rules}
use Rattle.std.proofs.lemmas.List.{take_rest}
use Rattle.cm_image.specs.Images.{IsMap, image_bytes, word_bytes}
use Rattle.cm_image.proofs.Wholes.{image-whole, never-refused, one-image, word_bytes-first}
use Rattle.cm_image.proofs.image.image_of.Goals as goal

pub returns-in_err-geo-clause-each : goal.returns-in_err-geo-clause-each
returns-in_err-geo-clause-each c = λ map is image. absurd (never-refused c.args.bytes.now c.in_err-geo.field-0.0 map c.in_err-geo.ensures is image)

pub returns-clause-image : goal.returns-clause-image
returns-clause-image c =
    let bytes = c.args.bytes.now in
    let words = c.extend_words.new.words.items in
    let all = word_bytes-first c.in_ok-words.words.items words _ c.in_ok-words.ensures.items c.in_ok-extend_words.ensures.bytes in
    let rest : word_bytes words ≡ drop 64 bytes = rw take_rest at all in
    (search rules, rw c.of-map.ensures (image-whole bytes c.in_ok-geo.geo words (search rules) rest))

pub returns-clause-each : goal.returns-clause-each
returns-clause-each c = λ map is image.
    let bytes = c.args.bytes.now in
    let words = c.extend_words.new.words.items in
    let all = word_bytes-first c.in_ok-words.words.items words _ c.in_ok-words.ensures.items c.in_ok-extend_words.ensures.bytes in
    let rest : word_bytes words ≡ drop 64 bytes = rw take_rest at all in
    let made : bytes ≡ image_bytes c.of-map.result = rw c.of-map.ensures (image-whole bytes c.in_ok-geo.geo words (search rules) rest) in
    let fits : IsMap c.of-map.result = record { whole = c.are_whole.ensures.whole; fit = c.are_whole.ensures.fit } in
    one-image c.of-map.result map fits is (sym made ∙ image)

pub of-map-requires : goal.of-map-requires
of-map-requires c = omega (arith, length-drop 64 c.args.bytes.now, c.in_ok-geo.ensures.2, c.in_ok-words.ensures.len, c.in_ok-extend_words.ensures.count)
