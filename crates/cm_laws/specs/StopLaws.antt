-- Stop words, and the levels that dead passes left (own).
use Rattle.std.specs.Prelude.{ℕ, ◌≡◌, ◌≢◌, ◌+◌, ◌<◌, ◌⊎◌, Bool, true, false, All, Any, List, ◌∷◌, Result, Some, length, map, slice_get, slice_set}
use Rattle.cm_plain.specs.declared.op.Op.{Op}
use Rattle.cm_plain.specs.Slots.{word_at}
use Rattle.cm_words.specs.Maps.{MapWords, segment_in}
use Rattle.cm_lock.specs.declared.take.Stop.{Stop}
use Rattle.cm_lock.specs.declared.view.HeldLevel.{HeldLevel}
use Rattle.cm_lock.specs.declared.view.Key.{Key}
use Rattle.cm_lock.specs.declared.view.Level.TheVariants.{Free}
use Rattle.cm_lock.specs.declared.view.View.{View}
use Rattle.cm_lock.specs.Levels.{reads_in, updates_in, writes_in}
use Rattle.cm_lock.specs.Rule.{root_view}
use Rattle.cm_yard.specs.declared.view.Key.{Key as YardKey}
use Rattle.cm_yard.specs.declared.view.StopNumber.{StopNumber}
use Rattle.cm_yard.specs.declared.view.View.{View as YardView}
use Rattle.cm_yard.specs.Views.{new_view as yard_new_view, root_view as yard_root_view, with_joined as yard_with_joined, with_seat as yard_with_seat, with_stop}
use Rattle.cm_turn.specs.declared.turn.Settled.{Settled}
use Rattle.cm_turn.specs.Calls.{Leaves}
use Rattle.cm_store.specs.Closes.{ClosesAll, ClosesYard}
use Rattle.cm_store.specs.Splits.{joined_views, new_views, with_seats}
use Rattle.cm_store.specs.Stops.{RaisesStop, stop_number}

-- the levels that a pass left in the segment of a seat: those that it took over and, where it died, its own
abbrev pub levels_left : Bool → View → List HeldLevel
levels_left true v = v.own ∷ v.inherited
levels_left false v = v.inherited

-- a level that isn't Free, and stops others by this number
pub record StopsBy (number : ℕ) (h : HeldLevel) : Type 0 where
  pub held : h.level ≢ Free
  pub number_is : stop_number h.level ≡ number

-- a number that was raised in a segment is that of a level that was left there
pub record IsLeft (dead : Bool) (seats : List View) (s : StopNumber) : Type 0 where
  pub seat : View
  pub there : slice_get seats s.segment ≡ Some seat
  pub left : Any (StopsBy s.number) (levels_left dead seat)

-- so is each number that a pass raised, or took over; a live pass raised none itself
abbrev pub AreLeft : Bool → List View → YardView → Type 0
AreLeft dead seats claims = All (IsLeft dead seats) claims.raises

-- ---- kept by all that passes do

-- the root has raised nothing at the start
abbrev pub StartsLeaveStops : Type 0
StartsLeaveStops = (keys : List Key) → AreLeft false (map root_view keys) yard_root_view

-- a pass that is split off has raised nothing, and the root keeps what it took over
abbrev pub SplitsKeepStops : Type 0
SplitsKeepStops = (dead : Bool) (number : ℕ) (roots : List View) (claims : YardView) → AreLeft dead roots claims
    → AreLeft dead (with_seats number roots) (yard_with_seat claims number) × AreLeft false (new_views number roots) (yard_new_view number)

-- what a dead pass raises is the number of a level that it holds, and left
abbrev pub RaisesKeepStops : Type 0
RaisesKeepStops = (seats : List View) (old now : YardView) → RaisesStop seats old now → AreLeft true seats old → AreLeft true seats now

-- a look at a stop word raises nothing
abbrev pub LooksKeepStops : Type 0
LooksKeepStops = (dead : Bool) (seats : List View) (claims : YardView) (segment found : ℕ) → AreLeft dead seats claims → AreLeft dead seats (with_stop claims segment found)

-- a call of a live pass keeps it, whether it dies or not
abbrev pub CallsKeepStops : (View → Type 0) → Type 0
CallsKeepStops End = (dead : Bool) (extra segment : ℕ) (op : Op) (out : List ℕ) (seats : List View) (was now : View) (before later : YardView) (result : Result Settled Stop)
    → slice_get seats segment ≡ Some was → Leaves End (λ looks last v. Unit {0}) segment extra op out was now before later result
    → AreLeft false seats before → AreLeft dead (slice_set seats segment now) later

-- and so does a call that claims nothing and takes over no level: a listing, the opening of a sweep and its closing are such calls
abbrev pub UnclaimedCallsKeepStops : Type 0
UnclaimedCallsKeepStops = (dead : Bool) (segment : ℕ) (seats : List View) (was now : View) (claims : YardView) → slice_get seats segment ≡ Some was → now.inherited ≡ was.inherited
    → AreLeft false seats claims → AreLeft dead (slice_set seats segment now) claims

-- the root takes over levels and raised numbers together
abbrev pub JoinsKeepStops : Type 0
JoinsKeepStops = (root_dead dead : Bool) (roots others : List View) (claims taken : YardView) → length others ≡ length roots
    → AreLeft root_dead roots claims → AreLeft dead others taken → AreLeft root_dead (joined_views roots others) (yard_with_joined claims taken)

-- ---- at the end

-- levels were left in a segment, as a number that was found in its stop word says: a Write for 2, and a Read or an Update for 1. So the lock word isn't 0
pub record StandsFor (number : ℕ) (words : List ℕ) (v : View) : Type 0 where
  pub known : (number ≡ 1) ⊎ (number ≡ 2)
  pub writer : number ≡ 2 → writes_in v ≡ 1
  pub others : number ≡ 1 → (writes_in v ≡ 0) × (0 < reads_in v + updates_in v)
  pub locked : word_at words 0 ≢ 0

-- so it is of the segment in which the number was found
pub record StandsAt (roots : List View) (map_words : MapWords) (s : StopNumber) : Type 0 where
  pub seat : View
  pub there : slice_get roots s.segment ≡ Some seat
  pub stands : StandsFor s.number (segment_in map_words s.segment) seat

-- each number but 0 that any pass found in a stop word stands for such a level
abbrev pub StopsStandForLevels : Type 0
StopsStandForLevels = (keys : List Key) (roots : List View) (map_words : MapWords) (key : YardKey) (claims : YardView) → length roots ≡ length keys
    → ClosesAll keys roots map_words → ClosesYard key claims → AreLeft false roots claims
    → All (λ (s : StopNumber). s.number ≢ 0 → StandsAt roots map_words s) claims.stops
