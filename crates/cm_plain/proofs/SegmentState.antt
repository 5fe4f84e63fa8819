-- A segment as its callers see it.
use Rattle.std.proofs.Common.{◌≢◌, ◌+◌, ◌≤◌, ℕ, arith}
use Rattle.cm_plain.specs.declared.segment.PlainSegment.TheInside.{Inside}
use Rattle.cm_plain.specs.Segments.{IsSegment, Segment}
use Rattle.cm_plain.specs.Steps.{last_number}

-- the segment that fields stand for
abbrev pub seen_in : Inside → Segment
seen_in inside = record {
  geo = inside.geo;
  segment = inside.segment;
  number = inside.number;
  state = record { chain = inside.chain.items; entries = inside.entries.items };
}

-- where a number is left, one more change counts no further than it may
pub next_counted : {seen : Segment} → IsSegment seen → seen.number ≢ last_number → seen.number + 1 ≤ last_number
next_counted {seen} is counts = below seen.number last_number is.within_limit counts
  where
    below : (number last : ℕ) → number ≤ last → number ≢ last → number + 1 ≤ last
    below number last h ne = omega arith
