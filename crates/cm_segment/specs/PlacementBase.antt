-- The words on which an entry is placed elsewhere than where an old one stands: those at the start, or with the link of its tier (own).
use Rattle.std.specs.Prelude.{ℕ, ◌≡◌, ◌≢◌, ◌-◌, List, [], ◌∷◌, ◌++◌, length, slice_index, slice_set, Some, if◌then◌else◌}
use Rattle.cm_geo.specs.declared.geo.Geo.{Geo}
use Rattle.cm_geo.specs.Addresses.{tier_at}
use Rattle.cm_plain.specs.declared.plan.Run.{Run}
use Rattle.cm_plain.specs.declared.plan.PlanKind.TheVariants as kind
use Rattle.cm_plain.specs.States.{State}
use Rattle.cm_plain.specs.Changes.{Change}
use Rattle.cm_segment.specs.Phases.{Phase}
use Rattle.cm_segment.specs.PlanNumbers.{IsNewIn}

-- a change places its entry in this run, elsewhere than where an old one stands
pub record PlacesElsewhere (geo : Geo) (change : Change) (run : Run) : Type 0 where
  pub kind_not : change.kind ≢ kind.InPlace
  pub run_is : change.new_run ≡ Some run
  pub new_in : IsNewIn geo change run

-- the last tier of a chain
abbrev pub last_tier : List ℕ → ℕ
last_tier chain = slice_index chain (length chain - 1)

-- the state with one more tier, which is empty
abbrev pub with_tier : ℕ → State → State
with_tier place state = record { chain = state.chain ++ place ∷ []; entries = state.entries }

-- the state in whose tiers the entry is placed
abbrev pub base_state : Change → Run → State → State
base_state change run state = if change.link then with_tier run.place state else state

-- its words
abbrev pub base_words : Geo → Change → Run → State → List ℕ → List ℕ
base_words geo change run state start = if change.link then slice_set start (tier_at geo (last_tier state.chain)) run.place else start

-- a phase, counted from these words in place of those at the start
abbrev pub FromBase : Geo → Change → Run → Phase → Phase
FromBase geo change run phase state start words = phase state (base_words geo change run state start) words
