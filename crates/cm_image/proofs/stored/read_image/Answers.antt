use Rattle.std.proofs.Common.{◌≡◌, ◌≤◌, ◌*◌, ◌∙◌, ℕ, List, Option, subst, take, ap, sym, arith}
use Rattle.std.proofs.lemmas.Result.{err_from_is_err_and}
use Rattle.cm_geo.specs.Addresses.{words_in_map}
use Rattle.cm_image.specs.Files.{bytes_from}
use Rattle.cm_image.specs.Images.{IsMap, word_bytes}
use Rattle.cm_image.specs.Stops.{BeginsImage}
use Rattle.cm_image.proofs.Refusing.{each-from_stops, holds-image, one-held, stops-read-from_geo, stops-read-from_words}
use Rattle.cm_image.proofs.stored.read_image.Goals as goal

pub returns-in_err-geo-clause-each : goal.returns-in_err-geo-clause-each
returns-in_err-geo-clause-each g c = λ map is tells there.
    let p = err_from_is_err_and c.from_residual-in_err-geo.result c.from_residual-in_err-geo.ensures.1 in
    let sized = c.in_ok-size.ensures in
    let stops = stops-read-from_geo _ _ _ _ c.in-Some.size _ _ _ c.in_err-geo.field-0.0 sized.tells (λ told. sized.files told c.args.name.now)
    (λ told. sym (sized.size told) ∙ c.in-Some.is) sized.cause.rises c.in_err-geo.ensures.cause in
    rw (p.1, p.2) (each-from_stops _ _ _ _ c.in_err-geo.field-0.0 map stops is tells there)

pub returns-in_err-words-clause-cause : goal.returns-in_err-words-clause-cause
returns-in_err-words-clause-cause g c =
    let p = err_from_is_err_and c.from_residual-in_err-words.result c.from_residual-in_err-words.ensures.1 in
    let sized = c.in_ok-size.ensures in
    let begun = c.in_ok-geo.ensures in
    rw (p.1, p.2) (stops-read-from_words _ _ _ _ c.in_ok-geo.geo c.in-Some.size _ _ _ c.in_err-words.field-0.0 (λ told. begun.tells (sized.tells told))
    (λ told. begun.files (sized.tells told) c.args.name.now ∙ sized.files told c.args.name.now) (λ told. sym (sized.size told) ∙ c.in-Some.is)
    begun.geo.0 (omega (arith, sized.cause.rises, begun.rises)) c.in_err-words.ensures.cause)

pub returns-in_err-words-clause-each : goal.returns-in_err-words-clause-each
returns-in_err-words-clause-each g c = λ map is tells there.
    let p = err_from_is_err_and c.from_residual-in_err-words.result c.from_residual-in_err-words.ensures.1 in
    let sized = c.in_ok-size.ensures in
    let begun = c.in_ok-geo.ensures in
    let rises : g.V.Vault.faults c.args.vault.now ≤ g.V.Vault.faults c.read_geo.new.vault = omega (arith, sized.cause.rises, begun.rises) in
    let stops = stops-read-from_words _ _ _ _ c.in_ok-geo.geo c.in-Some.size _ _ _ c.in_err-words.field-0.0 (λ told. begun.tells (sized.tells told))
    (λ told. begun.files (sized.tells told) c.args.name.now ∙ sized.files told c.args.name.now) (λ told. sym (sized.size told) ∙ c.in-Some.is)
    begun.geo.0 rises c.in_err-words.ensures.cause in
    rw (p.1, p.2) (each-from_stops _ _ _ _ c.in_err-words.field-0.0 map stops is tells there)

-- the image that was read is there
held : goal.returns-clause-image
held g c = λ tells.
    let sized = c.in_ok-size.ensures in
    let begun = c.in_ok-geo.ensures in
    let read = c.in_ok-words.ensures in
    let file = g.V.Vault.files c.args.vault.now c.args.name.now in
    let begins : BeginsImage file c.in_ok-geo.geo =
    subst (λ (f : Option (List ℕ)). BeginsImage f c.in_ok-geo.geo) (sized.files tells c.args.name.now) (begun.geo.1 (sized.tells tells)) in
    let words : word_bytes c.in_ok-words.words.items ≡ take (8 * words_in_map c.in_ok-geo.geo) (bytes_from file 64) =
    read.words (begun.tells (sized.tells tells))
    ∙ ap (λ (f : Option (List ℕ)). take (8 * words_in_map c.in_ok-geo.geo) (bytes_from f 64)) (begun.files (sized.tells tells) c.args.name.now ∙ sized.files tells c.args.name.now) in
    rw c.of-map.ensures (holds-image file c.in_ok-geo.geo c.in-Some.size c.in_ok-words.words.items (sym (sized.size tells) ∙ c.in-Some.is) begun.geo.0 begins words)

pub returns-clause-image : goal.returns-clause-image
returns-clause-image g c = held g c

pub returns-clause-each : goal.returns-clause-each
returns-clause-each g c = λ map is tells there.
    let fits : IsMap c.of-map.result = record { whole = c.are_whole.ensures.whole; fit = c.are_whole.ensures.fit } in
    one-held (g.V.Vault.files c.args.vault.now c.args.name.now) c.of-map.result map (held g c tells) fits is there
