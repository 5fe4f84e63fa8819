-- What the lock word of a segment tells of callers that died (own).
use Rattle.std.specs.Prelude.{ℕ, ◌/◌, ◌%◌, ◌^◌, ◌==◌, Bool, true, false, List, Option, Some, None, slice_get}
use Rattle.cm_plain.specs.declared.op.Op.{Op}
use Rattle.cm_plain.specs.declared.op.Op.TheVariants.{Put, Get, PutIfAbsent, Replace, ReplaceIf, Remove, RemoveIf, Count, List as ListAll, Sweep}
use Rattle.cm_plain.specs.declared.found.SegFound.{SegFound}

-- what a dead caller holds of a segment
pub data Held : Type 0 where
  nothing : Held
  reading : Held
  updating : Held
  writing : Held

-- what it adds to the lock word
abbrev pub weight : Held → ℕ
weight nothing = 0
weight reading = 1
weight updating = 2 ^ 30
weight writing = 2 ^ 31

-- two callers may hold this beside that
abbrev pub stands_beside : Held → Held → Bool
stands_beside nothing held = true
stands_beside held nothing = true
stands_beside reading reading = true
stands_beside reading updating = true
stands_beside updating reading = true
stands_beside _ _ = false

-- a caller may die in an operation holding this
abbrev pub can_hold : Op → Held → Bool
can_hold op nothing = true
can_hold (Get key) reading = true
can_hold (Count segment) reading = true
can_hold (ListAll segment) reading = true
can_hold (Put key value) writing = true
can_hold (Remove key) writing = true
can_hold (PutIfAbsent key value) held = true
can_hold (Replace key value) updating = true
can_hold (Replace key value) writing = true
can_hold (ReplaceIf key expected value) updating = true
can_hold (ReplaceIf key expected value) writing = true
can_hold (RemoveIf key expected) updating = true
can_hold (RemoveIf key expected) writing = true
can_hold (Sweep segment prefix) updating = true
can_hold (Sweep segment prefix) writing = true
can_hold _ _ = false

-- a caller in a sweep may hold this: Update, or Write in a step
abbrev pub holds_in_sweep : Held → Bool
holds_in_sweep updating = true
holds_in_sweep writing = true
holds_in_sweep _ = false

-- an operation reads alone: only a writer stops it
abbrev pub only_reads : Op → Bool
only_reads (Get key) = true
only_reads (Count segment) = true
only_reads (ListAll segment) = true
only_reads _ = false

-- the write bit of a lock word
abbrev pub has_write : ℕ → Bool
has_write lock = (lock / 2 ^ 31) % 2 == 1

-- the lock word that was found, or 0 where nobody looked
abbrev pub lock_of : Option SegFound → ℕ
lock_of None = 0
lock_of (Some seen) = seen.lock

-- that of a segment
abbrev pub lock_at : List SegFound → ℕ → ℕ
lock_at found segment = lock_of (slice_get found segment)

-- a change was found under way, no where nobody looked
abbrev pub flight_of : Option SegFound → Bool
flight_of None = false
flight_of (Some seen) = seen.in_flight

-- in a segment
abbrev pub flight_at : List SegFound → ℕ → Bool
flight_at found segment = flight_of (slice_get found segment)
