-- No run of free chunks begins at a chunk that was passed over.
use Rattle.std.proofs.Common.{◌≡◌, ◌-◌, find}
use Rattle.std.specs.List.{range_with_len}
use Rattle.cm_plain.specs.Rooms.{is_free, least_free}
use Rattle.cm_plain.proofs.rooms.least_free.Given as goal

abbrev pub invariant-loop-chunk : goal.invariant-loop-chunk
invariant-loop-chunk l =
    least_free l.geo l.fn.entries l.chunks l.place ≡ find (λ chunk. is_free l.geo l.fn.entries l.place chunk l.chunks) (range_with_len l.chunk (l.chunk-end - l.chunk))
