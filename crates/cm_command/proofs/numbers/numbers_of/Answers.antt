use Rattle.cm_command.proofs.ReadNumbers.{all_five, no_fifth, no_first, no_fourth, no_second, no_third}
use Rattle.cm_command.proofs.numbers.numbers_of.Goals as goal

pub returns-in_err-segments : goal.returns-in_err-segments
returns-in_err-segments c = rw c.from_residual.ensures (no_first c.args.text.now c.in_err-segments.ensures)

pub returns-in_err-tiers : goal.returns-in_err-tiers
returns-in_err-tiers c = rw c.from_residual-in_err-tiers.ensures (no_second c.args.text.now _ _ c.in_ok-segments.ensures c.in_err-tiers.ensures)

pub returns-in_err-chunks : goal.returns-in_err-chunks
returns-in_err-chunks c =
    rw c.from_residual-in_err-chunks.ensures (no_third c.args.text.now _ _ _ _ c.in_ok-segments.ensures c.in_ok-tiers.ensures c.in_err-chunks.ensures)

pub returns-in_err-chunk_words : goal.returns-in_err-chunk_words
returns-in_err-chunk_words c =
    rw c.from_residual-in_err-chunk_words.ensures
    (no_fourth c.args.text.now _ _ _ _ _ _ c.in_ok-segments.ensures c.in_ok-tiers.ensures c.in_ok-chunks.ensures c.in_err-chunk_words.ensures)

pub returns-in_err-extra : goal.returns-in_err-extra
returns-in_err-extra c =
    rw c.from_residual-in_err-extra.ensures
    (no_fifth c.args.text.now _ _ _ _ _ _ _ _ c.in_ok-segments.ensures c.in_ok-tiers.ensures c.in_ok-chunks.ensures c.in_ok-chunk_words.ensures c.in_err-extra.ensures)

pub returns : goal.returns
returns c =
    all_five c.args.text.now _ _ _ _ _ _ _ _ _ c.in_ok-segments.ensures c.in_ok-tiers.ensures c.in_ok-chunks.ensures c.in_ok-chunk_words.ensures c.in_ok-extra.ensures
