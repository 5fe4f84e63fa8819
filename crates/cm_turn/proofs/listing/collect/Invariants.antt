-- The pairs before the cursor were collected.
use Rattle.std.proofs.Common.{◌≡◌, ◌<◌, ◌≤◌, ◌*◌, ◌+◌, ◌-◌, List, ℕ, length}
use Rattle.cm_plain.specs.Lawful.{Resting}
use Rattle.cm_plain.specs.States.{State}
use Rattle.cm_words.specs.Calls.{HasLoaded}
use Rattle.cm_words.specs.Memory.{FitsNotes}
use Rattle.cm_turn.proofs.Cursors.{slots_before}
use Rattle.cm_turn.proofs.NextPairs.{ListsBefore}
use Rattle.cm_turn.proofs.listing.collect.Given as goal

abbrev pub invariant-loop-pairs : goal.invariant-loop-pairs
invariant-loop-pairs g l = record {
  loaded : HasLoaded g.M.Mem.seen g.M.Mem.same_rest l.initial.mem l.mem;
  link : l.from.link < l.geo.tiers;
  slot : l.from.slot ≤ 2 * l.geo.chunks;
  few : length l.pairs.items ≤ slots_before l.geo l.from;
  listed : (words : List ℕ) (state : State) → FitsNotes (g.M.Mem.seen l.mem) words → Resting l.geo (g.M.Mem.seen l.mem).setting.segment words state
      → ListsBefore l.geo words state l.from l.pairs.items;
  key_long : length l.key ≡ 256;
  value_long : length l.value ≡ 4096;
}

abbrev pub decreases-loop-pairs : goal.decreases-loop-pairs
decreases-loop-pairs g l = l.geo.tiers * (2 * l.geo.chunks + 1) - slots_before l.geo l.from
