use Rattle.std.proofs.Common.{◌≡◌, take}
use Rattle.cm_plain.specs.Readings.{bytes_of}
use Rattle.cm_words.specs.Calls.{HasDone}
use Rattle.cm_words.specs.Stores.{Writes}
use Rattle.cm_entry.specs.Packing.{hash_on, words_of}
use Rattle.cm_entry.specs.EntryStores.{stores_from}
use Rattle.cm_entry.proofs.store.store_bytes.Given as goal

abbrev pub invariant-loop-number : goal.invariant-loop-number
invariant-loop-number g l = record {
  stored : HasDone g.M.Mem.seen g.M.Mem.same_rest (λ old now. Writes old now (stores_from l.at (take l.number (words_of l.bytes)))) l.initial.mem l.mem;
  hash_is : l.hash ≡ hash_on l.state (bytes_of (take l.number (words_of l.bytes)));
}
