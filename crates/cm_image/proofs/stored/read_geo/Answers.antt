use Rattle.std.proofs.Common.{arith}
use Rattle.std.proofs.lemmas.Result.{err_from_is_err_and}
use Rattle.cm_image.proofs.Refusing.{refuses-file-header, refuses-file-length, refuses-file-short, stops-geo-from_piece}
use Rattle.cm_image.proofs.stored.read_geo.Goals as goal

pub returns-then-size-clause-cause : goal.returns-then-size-clause-cause
returns-then-size-clause-cause g c = λ tells is. refuses-file-short _ c.args.size is c.if-size.true

pub returns-in_err-read_piece-clause-cause : goal.returns-in_err-read_piece-clause-cause
returns-in_err-read_piece-clause-cause g c =
    let p = err_from_is_err_and c.from_residual.result c.from_residual.ensures.1 in
    rw (p.1, p.2) (stops-geo-from_piece _ _ c.args.size _ _ c.in_err-read_piece.field-0.0 (omega arith) c.in_err-read_piece.ensures.cause)

pub returns-in_err-geo-clause-cause : goal.returns-in_err-geo-clause-cause
returns-in_err-geo-clause-cause g c =
    let p = err_from_is_err_and c.from_residual-in_err-geo.result c.from_residual-in_err-geo.ensures.1 in
    rw (p.1, p.2) (λ tells is. refuses-file-header _ c.args.size c.read_piece.new.piece c.in_err-geo.field-0.0 is (omega arith) (c.in_ok-read_piece.ensures.piece tells) c.in_err-geo.ensures)

pub returns-in_err-check_length-clause-cause : goal.returns-in_err-check_length-clause-cause
returns-in_err-check_length-clause-cause g c =
    let p = err_from_is_err_and c.from_residual-in_err-check_length.result c.from_residual-in_err-check_length.ensures.1 in
    rw (p.1, p.2) (λ tells is. refuses-file-length _ c.args.size c.read_piece.new.piece c.in_ok-geo.geo c.in_err-check_length.field-0.0 is (omega arith)
    (c.in_ok-read_piece.ensures.piece tells) c.in_ok-geo.ensures.1 c.in_err-check_length.ensures)
