-- The segments before this one are recovered, and the others are as they were.
use Rattle.std.proofs.Common.{◌≡◌, ◌≤◌, vec_len}
use Rattle.std.specs.Prelude.{vec_capacity}
use Rattle.cm_geo.specs.Addresses.{words_in_segment}
use Rattle.cm_recover.proofs.RecoveredMaps.{AreRecovered}
use Rattle.cm_recover.proofs.recovery.recover.Given as goal

abbrev pub invariant-loop-segment : goal.invariant-loop-segment
invariant-loop-segment l = record {
  room : vec_len l.old ≡ words_in_segment l.initial.words.geo;
  capacity : l.initial.words.geo.segments ≤ vec_capacity l.found;
  recovered : AreRecovered l.initial.words l.words l.segment l.extra l.found.items;
}
