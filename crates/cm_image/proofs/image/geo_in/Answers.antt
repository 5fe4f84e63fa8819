use Rattle.std.proofs.Common.{◌≡◌, ◌∙◌, Some, arith, rules}
use Rattle.cm_image.specs.Refusals.{refusal_of}
use Rattle.cm_image.proofs.Wholes.{accepts-length, refuses-header, refuses-length, refuses-short}
use Rattle.cm_image.proofs.image.geo_in.Goals as goal

pub returns-then-bytes-lt-HEADER : goal.returns-then-bytes-lt-HEADER
returns-then-bytes-lt-HEADER c = refuses-short c.args.bytes.now (search rules)

pub returns-in_err-geo : goal.returns-in_err-geo
returns-in_err-geo c =
    let refused : refusal_of c.args.bytes.now ≡ Some c.in_err-geo.field-0.0 = refuses-header c.args.bytes.now c.in_err-geo.field-0.0 (omega arith) c.in_err-geo.ensures in
    search rules

pub returns-in_err-check_length : goal.returns-in_err-check_length
returns-in_err-check_length c =
    let refused : refusal_of c.args.bytes.now ≡ Some c.in_err-check_length.field-0.0 =
    refuses-length c.args.bytes.now c.in_ok-geo.geo (omega arith) (search rules) ∙ c.in_err-check_length.ensures in
    search rules

pub returns : goal.returns
returns c =
    let header = c.in_ok-geo.ensures in
    let long = c.in_ok-check_length.ensures in
    (refuses-length c.args.bytes.now c.in_ok-geo.geo (omega arith) header.1 ∙ accepts-length _ _ long, header.1, long)
