-- So far no slot that the search passed points to an entry with the key.
use Rattle.std.proofs.Common.{◌≡◌, ℕ, ◌-◌, ◌*◌, ◌<◌, ◌≤◌, false}
use Rattle.cm_lookup.specs.Probing.{probe}
use Rattle.cm_check.specs.SlotEntries.{entry_in, has_key}
use Rattle.cm_check.specs.Quiets.{geo_of, words_of}
use Rattle.cm_check.proofs.repeats.is_among.Given as goal

abbrev pub invariant-loop-hit : goal.invariant-loop-hit
invariant-loop-hit l = record {
  inside : l.from ≤ 2 * (geo_of l.quiet).chunks;
  none : (steps : ℕ) → steps < l.from → probe (geo_of l.quiet) l.fingerprint steps < l.count → has_key l.key (entry_in (geo_of l.quiet) (words_of l.quiet) l.place (probe (geo_of l.quiet) l.fingerprint steps)) ≡ false;
}

abbrev pub decreases-loop-hit : goal.decreases-loop-hit
decreases-loop-hit l = 2 * (geo_of l.quiet).chunks - l.from
