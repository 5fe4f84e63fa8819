use Rattle.std.proofs.Common.{◌≡◌, ◌≤◌, ◌+◌, ◌*◌, ◌∙◌, [], ℕ, ap, length, length-take, take, vec_len, sym, arith, rules}
use Rattle.std.proofs.lemmas.Result.{err_from_is_err_and}
use Rattle.cm_geo.specs.Addresses.{words_in_map}
use Rattle.cm_image.specs.Files.{bytes_from}
use Rattle.cm_image.specs.Images.{word_bytes}
use Rattle.cm_image.proofs.Reading.{stops-piece-later, words-more}
use Rattle.cm_image.proofs.Wholes.{word_bytes-none}
use Rattle.cm_image.proofs.stored.read_words.Goals as goal

pub loop-piece-init : goal.loop-piece-init
loop-piece-init g c =
    let none = c.in_ok-words.ensures.len in
    record {
      within = omega (arith, none);
      rises = omega arith;
      tells = λ tells. tells;
      same = λ tells name. search rules;
      words = λ tells. ap word_bytes c.in_ok-words.ensures.items ∙ word_bytes-none []
          ∙ sym (ap (λ (n : ℕ). take (8 * n) (bytes_from (g.V.Vault.files c.args.vault.now c.args.name.now) 64)) none);
    }

pub returns-in_err-read_piece-clause-cause : goal.returns-in_err-read_piece-clause-cause
returns-in_err-read_piece-clause-cause g c =
    let kept = c.loop-piece.invariant in
    let part = length (take (8 * c.min-more.result) c.loop-piece.piece) in
    let whole : 8 * c.len-at.result + part ≤ 8 * words_in_map c.args.geo.now =
    omega (arith, length-take (8 * c.min-more.result) c.loop-piece.piece, c.len-at.ensures, c.min-more.ensures, c.total_words-count.ensures, kept.within) in
    let p = err_from_is_err_and c.from_residual-in_err-read_piece.result c.from_residual-in_err-read_piece.ensures.1 in
    rw (p.1, p.2) (stops-piece-later _ _ _ _ 64 (8 * c.len-at.result) _ _ _ _ _ c.in_err-read_piece.field-0.0
    kept.tells (λ tells. kept.same tells c.args.name.now) kept.rises whole c.in_err-read_piece.ensures.cause)

pub loop-piece-smaller : goal.loop-piece-smaller
loop-piece-smaller g c =
    let long : length c.read_piece.new.piece ≡ 8 * c.min-more.result =
    omega (arith, c.read_piece.auto.piece, length-take (8 * c.min-more.result) c.loop-piece.piece, c.min-more.array_long, c.min-more.ensures) in
    omega (arith, long, c.in_ok-extend_words.ensures.count, c.len-at.ensures, c.min-more.ensures)

pub loop-piece-preserved : goal.loop-piece-preserved
loop-piece-preserved g c =
    let kept = c.loop-piece.invariant in
    let read = c.in_ok-read_piece.ensures in
    let bytes = bytes_from (g.V.Vault.files c.args.vault.now c.args.name.now) 64 in
    let part = length (take (8 * c.min-more.result) c.loop-piece.piece) in
    let long : length c.read_piece.new.piece ≡ 8 * c.min-more.result =
    omega (arith, c.read_piece.auto.piece, length-take (8 * c.min-more.result) c.loop-piece.piece, c.min-more.array_long, c.min-more.ensures) in
    record {
      within = omega (arith, long, c.in_ok-extend_words.ensures.count, c.len-at.ensures, c.min-more.ensures, kept.within);
      rises = omega (arith, read.rises, kept.rises);
      tells = λ tells. read.tells (kept.tells tells);
      same = λ tells name. read.files (kept.tells tells) name ∙ kept.same tells name;
      words = λ tells. c.in_ok-extend_words.ensures.bytes
          ∙ words-more _ _ c.len-at.result (vec_len c.extend_words.new.words) part _ _ (kept.same tells c.args.name.now)
          (kept.words tells ∙ ap (λ (n : ℕ). take (8 * n) bytes) (sym c.len-at.ensures)) (read.piece (kept.tells tells))
          (omega (arith, long, c.read_piece.auto.piece, c.in_ok-extend_words.ensures.count, c.len-at.ensures));
    }
