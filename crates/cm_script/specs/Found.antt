-- What is found after deaths (own).
use Rattle.std.specs.Prelude.{ℕ, ◌≡◌, ◌≢◌, Bool, true, false, List, [], ◌∷◌, length, sum_by, All, AllPairs, Option, Some, None, slice_get}
use Rattle.cm_geo.specs.declared.geo.Geo.{Geo}
use Rattle.cm_plain.specs.declared.op.Op.{Op}
use Rattle.cm_plain.specs.Limits.{segment_of}
use Rattle.cm_script.specs.declared.line.Line.{Line}
use Rattle.cm_script.specs.declared.report.CallerEnd.{CallerEnd}
use Rattle.cm_plain.specs.declared.found.Drops.{Drops}
use Rattle.cm_plain.specs.declared.found.SegFound.{SegFound}
use Rattle.cm_script.specs.declared.report.How.TheVariants as how
use Rattle.cm_script.specs.Answers.{Front, line_at}
use Rattle.cm_script.specs.Ends.{NamesClosing, dead_ends, dead_ends_in}
use Rattle.cm_script.specs.Locks.{Held, can_hold, has_write, holds_in_sweep, lock_at, only_reads, stands_beside, updating, weight}

-- nothing was dropped for a cause that a change under way doesn't give
pub record DropsOfTorn (drops : Drops) : Type 0 where
  pub no_range : drops.range ≡ 0
  pub no_lengths : drops.lengths ≡ 0
  pub no_segment : drops.segment ≡ 0
  pub no_fingerprint : drops.fingerprint ≡ 0
  pub no_overlap : drops.overlap ≡ 0
  pub no_allowance : drops.allowance ≡ 0

-- nothing was dropped
pub record DropsNothing (drops : Drops) : Type 0 where
  pub of_torn : DropsOfTorn drops
  pub no_checksum : drops.checksum ≡ 0
  pub no_padding : drops.padding ≡ 0
  pub no_duplicate : drops.duplicate ≡ 0

-- the drops, by whether a change was under way
abbrev pub DropsBy : Bool → Drops → Type 0
DropsBy true drops = DropsOfTorn drops
DropsBy false drops = DropsNothing drops

-- what was found in a segment with so many pairs, where these callers died and held this
pub record IsFound (segment pairs : ℕ) (dead : List CallerEnd) (held : ℕ → Held) (seen : SegFound) : Type 0 where
  -- it is of this segment
  pub segment_is : seen.segment ≡ segment
  -- its chain was whole
  pub whole : seen.cut ≡ false
  -- as many entries were kept as the map has pairs there
  pub kept_is : seen.kept ≡ pairs
  -- the lock word is what its dead callers hold
  pub lock_is : seen.lock ≡ sum_by (λ end. weight (held end.caller)) dead
  -- they could hold it beside each other
  pub beside : AllPairs (λ end other. stands_beside (held end.caller) (held other.caller) ≡ true) dead
  -- a change was under way only where one of them wrote
  pub writing : seen.in_flight ≡ true → has_write seen.lock ≡ true
  -- slots were dropped only where a change was under way, and only for its causes
  pub drops : DropsBy seen.in_flight seen.drops

-- one is found per segment, in order
pub record FoundEach (geo : Geo) (script : List Line) (ends : List CallerEnd) (pairs : ℕ → ℕ) (held : ℕ → Held) (found : List SegFound) : Type 0 where
  -- there are as many as segments
  pub many : length found ≡ geo.segments
  -- each is what the deaths in its segment left
  pub each : (segment : ℕ) (seen : SegFound) → slice_get found segment ≡ Some seen
      → IsFound segment (pairs segment) (dead_ends_in geo script ends segment) held seen

-- by the deaths: without one, nothing is looked for
abbrev pub FoundBy : List CallerEnd → Geo → List Line → List CallerEnd → (ℕ → ℕ) → (ℕ → Held) → List SegFound → Type 0
FoundBy [] geo script ends pairs held found = found ≡ []
FoundBy (dead ∷ others) geo script ends pairs held found = FoundEach geo script ends pairs held found

abbrev pub Found : Geo → List Line → List CallerEnd → (ℕ → ℕ) → (ℕ → Held) → List SegFound → Type 0
Found geo script ends pairs held found = FoundBy (dead_ends ends) geo script ends pairs held found

-- a caller that died at this record could hold that
abbrev pub CouldHold : Option Line → Held → Type 0
CouldHold None held = ⊥
CouldHold (Some line) held = can_hold line.op held ≡ true

-- each dead caller could hold what it holds, at its end's record
abbrev pub DeadCouldHold : List Line → List CallerEnd → (ℕ → Held) → Type 0
DeadCouldHold script ends held = All (λ end. CouldHold (line_at script end.line) (held end.caller)) (dead_ends ends)

-- a death behind a key that a sweep took leaves Update or Write, and one at the closing Update
pub record LeavesSweep (end : CallerEnd) (front : Front) (held : Held) : Type 0 where
  pub on_its_way : front.part ≢ [] → holds_in_sweep held ≡ true
  pub closing : NamesClosing end front → held ≡ updating

-- an operation is stopped by this lock word: something is held, and a writer holds it where the operation reads alone
pub record Stops (op : Op) (lock : ℕ) : Type 0 where
  pub taken : lock ≢ 0
  pub by_writer : only_reads op ≡ true → has_write lock ≡ true

-- a caller was stopped at this record only by a dead one in its segment
abbrev pub StoppedAt : Geo → List SegFound → Option Line → Type 0
StoppedAt geo found None = ⊥
StoppedAt geo found (Some line) = Stops line.op (lock_at found (segment_of geo line.op))

-- each stopped caller was
abbrev pub StoppedByDead : Geo → List Line → List SegFound → List CallerEnd → Type 0
StoppedByDead geo script found ends = All (λ end. end.how ≡ how.Stopped → StoppedAt geo found (line_at script end.line)) ends
