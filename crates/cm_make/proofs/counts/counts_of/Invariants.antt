-- The answers so far have been counted.
use Rattle.std.proofs.Common.{◌≡◌, take}
use Rattle.cm_make.specs.Made.{answers, is_kept, is_missing, is_new, is_removed, is_replaced, is_value}
use Rattle.cm_make.proofs.counts.counts_of.Given as goal

abbrev pub invariant-loop-receipt : goal.invariant-loop-receipt
invariant-loop-receipt l = record {
  new : l.counts.new ≡ answers is_new (take l.receipt-index l.receipts);
  replaced : l.counts.replaced ≡ answers is_replaced (take l.receipt-index l.receipts);
  kept : l.counts.kept ≡ answers is_kept (take l.receipt-index l.receipts);
  missing : l.counts.missing ≡ answers is_missing (take l.receipt-index l.receipts);
  removed : l.counts.removed ≡ answers is_removed (take l.receipt-index l.receipts);
  value : l.counts.value ≡ answers is_value (take l.receipt-index l.receipts);
}
