-- What a state says of its entries.
use Rattle.std.proofs.Common.{◌≡◌, ◌≢◌, ℕ, ◌<◌, List, Contains, refl}
use Rattle.std.specs.List.{AllByRecursion}
use Rattle.std.proofs.lemmas.List.Elements.{All-contains, recursion_from_All}
use Rattle.cm_geo.specs.declared.geo.Geo.{Geo}
use Rattle.cm_plain.specs.declared.placed.Placed.{Placed}
use Rattle.cm_plain.specs.States.{HasRun, IsChain, IsPlaced, IsState, State}
use Rattle.cm_plain.proofs.Each.{Pairs, each_weaker, pairs_from_all}
use Rattle.cm_plain.proofs.Apart.{Rising}

-- two entries have different keys
abbrev pub Differs : Placed → Placed → Type 0
Differs entry later = entry.key ≢ later.key

-- an entry of a state is placed
pub is_placed : {geo : Geo} {segment : ℕ} {state : State} → IsState geo segment state → (placed : Placed) → Contains state.entries placed → IsPlaced geo segment state.chain placed
is_placed {geo} {segment} {state} is placed there = All-contains (IsPlaced geo segment state.chain) state.entries placed is.placed there

-- so is each
pub each_placed : {geo : Geo} {segment : ℕ} {state : State} → IsState geo segment state → AllByRecursion (IsPlaced geo segment state.chain) state.entries
each_placed {geo} {segment} {state} is = recursion_from_All (IsPlaced geo segment state.chain) state.entries is.placed

-- each has a run
pub each_run : {geo : Geo} {segment : ℕ} {state : State} → IsState geo segment state → AllByRecursion (HasRun geo) state.entries
each_run {geo} {segment} {state} is = each_weaker (IsPlaced geo segment state.chain) (HasRun geo) (λ entry h. h.run) state.entries (each_placed is)

-- the runs rise
pub each_rising : {geo : Geo} {segment : ℕ} {state : State} → IsState geo segment state → Pairs (Rising geo) state.entries
each_rising {geo} {segment} {state} is = pairs_from_all (Rising geo) state.entries is.runs

-- the keys differ
pub each_differs : {geo : Geo} {segment : ℕ} {state : State} → IsState geo segment state → Pairs Differs state.entries
each_differs {geo} {segment} {state} is = pairs_from_all Differs state.entries is.keys

-- a linked place is one of the geometry's
pub place_low : {geo : Geo} {chain : List ℕ} → IsChain geo chain → (place : ℕ) → Contains chain place → place < geo.tiers
place_low {geo} {chain} is place chained = All-contains (λ it. it < geo.tiers) chain place is.inside chained

-- states with one chain and the same entries are one
pub same_state : (one other : State) → one.chain ≡ other.chain → one.entries ≡ other.entries → one ≡ other
same_state one other chain entries =
    let of : List ℕ → List Placed → State = λ chain entries. record { chain = chain; entries = entries } in
    let e : of one.chain one.entries ≡ of other.chain other.entries = rw (chain, entries) refl in e
