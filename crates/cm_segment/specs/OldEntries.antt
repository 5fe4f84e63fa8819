-- The entry that a key has, as it was found in words (own): its run, and the slot that points to it.
use Rattle.std.specs.Prelude.{ℕ, ◌≡◌, ◌*◌, ◌<◌, ◌≤◌, List, Contains, length, Option, Some, None, MatchOption}
use Rattle.std.specs.Option.{option_map}
use Rattle.cm_geo.specs.declared.geo.Geo.{Geo}
use Rattle.cm_geo.specs.declared.limits.TheConstants.{MAX_KEY_BYTES}
use Rattle.cm_plain.specs.declared.placed.Placed.{Placed}
use Rattle.cm_plain.specs.declared.plan.Run.{Run}
use Rattle.cm_plain.specs.States.{State, entry_of}
use Rattle.cm_plain.specs.Changes.{run_of}
use Rattle.cm_plain.specs.Slots.{Points}
use Rattle.cm_chunks.specs.RunBits.{IsRunIn}
use Rattle.cm_segment.specs.declared.planning.Old.{Old}

-- its numbers lie in the geometry, and its key is one that may be stored, whatever words stand there
pub record IsOldIn (geo : Geo) (key : List ℕ) (old : Old) : Type 0 where
  pub key_within_limit : length key ≤ MAX_KEY_BYTES
  pub run_in : IsRunIn geo old.run
  pub slot_low : old.slot < 2 * geo.chunks

-- it is the entry of a key in a state, and this slot points to it
pub record IsOldOf (geo : Geo) (words : List ℕ) (state : State) (key : List ℕ) (old : Old) : Type 0 where
  pub placed : Placed
  pub there : Contains state.entries placed
  pub found_is : entry_of key state ≡ Some placed
  pub run_is : old.run ≡ run_of geo placed
  pub points : Points geo words old.run.place key old.run.chunk old.slot

-- what is found is the entry of the key, if it has one
abbrev pub FindsOld : Geo → List ℕ → State → List ℕ → Option Old → Type 0
FindsOld geo words state key old = MatchOption old (entry_of key state ≡ None) (IsOldOf geo words state key)

-- the run of that entry
abbrev pub run_of_old : Option Old → Option Run
run_of_old old = option_map (λ old. old.run) old

-- the slot that points to it; 0 where there is none
abbrev pub slot_of_old : Option Old → ℕ
slot_of_old None = 0
slot_of_old (Some old) = old.slot
