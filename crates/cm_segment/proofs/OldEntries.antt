-- The entry that was found of a key, as the old one of a change.
use Rattle.std.proofs.Common.{◌≡◌, ℕ, ◌+◌, ◌≤◌, List, Option, Some, None, Contains, IfSome, refl, ap, sym, ◌∙◌}
use Rattle.std.specs.Option.{option_map}
use Rattle.cm_geo.specs.declared.geo.Geo.{Geo}
use Rattle.cm_geo.specs.Need.{Fits, need}
use Rattle.cm_plain.specs.declared.plan.Run.{Run}
use Rattle.cm_plain.specs.States.{State, chunks_of, entry_of}
use Rattle.cm_plain.specs.Changes.{run_of}
use Rattle.cm_plain.specs.Lawful.{Resting}
use Rattle.cm_plain.specs.Slots.{Points}
use Rattle.cm_plain.proofs.EntrySets.{found_is, found_none}
use Rattle.cm_plain.proofs.ListElements.{in_to}
use Rattle.cm_plain.proofs.OutsideHead.{resting_represents}
use Rattle.cm_plain.proofs.States.{is_placed}
use Rattle.cm_segment.specs.declared.seek.Sight.{Sight}
use Rattle.cm_segment.specs.declared.planning.Old.{Old}
use Rattle.cm_segment.specs.Sights.{IsAbsent, IsSight}
use Rattle.cm_segment.specs.OldEntries.{FindsOld, IsOldOf, run_of_old, slot_of_old}

pub old_none : (key : List ℕ) (state : State) → IsAbsent state key → entry_of key state ≡ None
old_none key state absent = found_none key state.entries (λ placed i. absent placed (in_to state.entries placed i))

pub old_some : (geo : Geo) (segment : ℕ) (words : List ℕ) (state : State) (key : List ℕ) (sight : Sight) (run : Run) → Resting geo segment words state
    → IsSight geo words state key sight → run.place ≡ sight.place → run.chunk ≡ sight.chunk
    → (Fits geo sight.key_len sight.value_len → sight.chunk + need geo sight.key_len sight.value_len ≤ geo.chunks
    → run.chunks ≡ need geo sight.key_len sight.value_len)
    → IsOldOf geo words state key (record { run = run; slot = sight.slot })
old_some geo segment words state key sight run rests is place chunk chunks =
    let state_is = (resting_represents geo segment words state rests).is_state in
    let has = (is_placed state_is is.placed is.there).run in
    let fits : Fits geo sight.key_len sight.value_len = rw (is.key_len_is, is.value_len_is) has.fits in
    let inside : sight.chunk + need geo sight.key_len sight.value_len ≤ geo.chunks = rw (is.key_len_is, is.value_len_is, sym is.chunk_is) has.inside in
    let size : run.chunks ≡ chunks_of geo is.placed = chunks fits inside ∙ rw (is.key_len_is, is.value_len_is) refl in
    record {
      placed = is.placed;
      there = is.there;
      found_is = found_is geo segment state key is.placed state_is is.there is.key_is;
      run_is = same_run run (run_of geo is.placed) (place ∙ sym is.place_is) (chunk ∙ sym is.chunk_is) size;
      points = rw (place, chunk) is.points;
    }
  where
    same_run : (r s : Run) → r.place ≡ s.place → r.chunk ≡ s.chunk → r.chunks ≡ s.chunks → r ≡ s
    same_run r s e f h = rw (e, f, h) refl

-- its run is that of the key's entry, which is there
pub run_is_old : (geo : Geo) (words : List ℕ) (state : State) (key : List ℕ) (old : Option Old) → FindsOld geo words state key old
    → option_map (run_of geo) (entry_of key state) ≡ run_of_old old
run_is_old geo words state key None finds = ap (option_map (run_of geo)) finds
run_is_old geo words state key (Some old) finds = ap (option_map (run_of geo)) finds.found_is ∙ ap (λ (r : Run). Some r) (sym finds.run_is)

pub entry_there : (geo : Geo) (words : List ℕ) (state : State) (key : List ℕ) (old : Option Old) → FindsOld geo words state key old
    → IfSome (entry_of key state) (Contains state.entries)
entry_there geo words state key None finds = rw finds tt
entry_there geo words state key (Some old) finds = rw finds.found_is finds.there

-- its slot points to it
pub points_old : (geo : Geo) (words : List ℕ) (state : State) (key : List ℕ) (old : Option Old) (run : Option Run) (slot : ℕ) → FindsOld geo words state key old
    → run ≡ run_of_old old → slot ≡ slot_of_old old → IfSome run (λ run. Points geo words run.place key run.chunk slot)
points_old geo words state key None run slot finds run_is slot_is = rw run_is tt
points_old geo words state key (Some old) run slot finds run_is slot_is = rw (run_is, slot_is) finds.points
