-- Placing a value where there is room leads from a state to a state.
use Rattle.std.proofs.Common.{◌≡◌, ◌≢◌, ℕ, ◌+◌, ◌-◌, ◌<◌, ◌≤◌, Bool, true, false, not, List, [], ◌∷◌, ◌++◌, length, filter, nat_lt, nat_le, All, Contains, Option, Some, None, refl, sym, subst, arith, inl, inr}
use Rattle.std.specs.List.{AllByRecursion, AllPairs, range_with_len}
use Rattle.std.specs.Option.{option_or}
use Rattle.std.specs.Str.{bytes_eq}
use Rattle.std.proofs.lemmas.Bool.{cases_Bool, not-true}
use Rattle.std.proofs.lemmas.Bool.Decides.{nat_tests}
use Rattle.std.proofs.lemmas.Option.{same_Some}
use Rattle.std.proofs.lemmas.List.Elements.{All-contains, All-from_recursion, All-weaker, filter_passes, recursion_from_All, Contains-append_left, Contains-push}
use Rattle.cm_geo.proofs.Ranges.{chunks_range}
use Rattle.cm_geo.specs.declared.geo.Geo.{Geo}
use Rattle.cm_geo.specs.Hash.{segment_of_key}
use Rattle.cm_geo.specs.Need.{Fits, need}
use Rattle.cm_plain.specs.declared.placed.Placed.{Placed}
use Rattle.cm_plain.specs.declared.room.Spot.{Spot}
use Rattle.cm_plain.specs.declared.room.Room.{Room}
use Rattle.cm_plain.specs.declared.room.Room.TheVariants.{InPlace, Elsewhere, NewTier, Nowhere}
use Rattle.cm_plain.specs.States.{HasRun, IsChain, IsPlaced, IsState, State, chunks_of, entry_of, run_start}
use Rattle.cm_plain.specs.Rooms.{can_stay, first_fit, fit_among, is_free, least_free, lowest_unlinked, meets, room_apart, room_beside, room_for, spot_at, spot_in}
use Rattle.cm_plain.specs.Changes.{entry_at, with_entry, without}
use Rattle.cm_plain.proofs.Each.{Pairs, across_tests, all_from_pairs, each_append, each_both, each_filter, each_kept, each_weaker, found_has, found_passes, pairs_append, pairs_kept}
use Rattle.cm_plain.proofs.Apart.{IsApart, Rising, apart_places, apart_starts, begins_before, begins_behind, free_run, fresh_apart, longer, others_apart, rising_with, shorter}
use Rattle.cm_plain.proofs.Keys.{keys_apart}
use Rattle.cm_plain.proofs.ListElements.{contains_more}
use Rattle.cm_plain.proofs.States.{Differs, each_differs, each_placed, each_rising, each_run}
use Rattle.cm_plain.proofs.Chains.{IsOutside, chain_with, each_other, lowest_outside}

-- an entry may stand in a chain, beside all entries but its key's
pub record MayStand (geo : Geo) (entries : List Placed) (chain : List ℕ) (entry : Placed) : Type 0 where
  pub chain_is : IsChain geo chain
  pub inside : entry.chunk + chunks_of geo entry ≤ geo.chunks
  pub chained : Contains chain entry.place
  pub apart : AllByRecursion (λ other. IsApart geo other entry) entries

-- the chain after a value went to a room
abbrev pub chain_for : Room → List ℕ → List ℕ
chain_for (NewTier place) chain = chain ++ place ∷ []
chain_for _ chain = chain

-- what a first fit tells
pub record IsFit (geo : Geo) (entries : List Placed) (chunks : ℕ) (places : List ℕ) (spot : Spot) : Type 0 where
  pub among : Contains places spot.place
  pub free : is_free geo entries spot.place spot.chunk chunks ≡ true

-- the first fit among places, by whether the first of them has room
by_least : (geo : Geo) (entries : List Placed) (chunks place : ℕ) (places : List ℕ) (spot : Spot)
    → (fit_among geo entries chunks places ≡ Some spot → IsFit geo entries chunks places spot) → (least : Option ℕ) → least_free geo entries chunks place ≡ least
    → option_or (spot_at place least) (fit_among geo entries chunks places) ≡ Some spot → IsFit geo entries chunks (place ∷ places) spot
by_least geo entries chunks place places spot behind None is e =
    let fit = behind e in record { among = contains_more spot.place place places fit.among; free = fit.free }
by_least geo entries chunks place places spot behind (Some chunk) is e =
    let here : Spot = record { place = place; chunk = chunk } in
    subst (IsFit geo entries chunks (place ∷ places)) (same_Some here spot e) (record {
      among = (0, omega arith, refl);
      free = found_passes (λ chunk. is_free geo entries place chunk chunks) (range_with_len 0 geo.chunks) chunk is;
    })

-- a first fit is a fit
pub fit_is : (geo : Geo) (entries : List Placed) (chunks : ℕ) (places : List ℕ) (spot : Spot) → fit_among geo entries chunks places ≡ Some spot → IsFit geo entries chunks places spot
fit_is geo entries chunks [] spot e = cc e
fit_is geo entries chunks (place ∷ places) spot e =
    by_least geo entries chunks place places spot (fit_is geo entries chunks places spot) (least_free geo entries chunks place) refl e

-- the test of a key
abbrev pub is_at : List ℕ → Placed → Bool
is_at key entry = bytes_eq entry.key key

-- without the key's entry the others are apart from a run that is apart from all
apart_without : (geo : Geo) (entry : Placed) (key : List ℕ) (entries : List Placed) → AllByRecursion (λ other. IsApart geo other entry) entries
    → AllByRecursion (λ other. IsApart geo other entry) (without key entries)
apart_without geo entry key entries h = each_filter (λ other. IsApart geo other entry) (λ other. not (is_at key other)) entries h

-- an entry goes to a chunk where the room is apart from the old place
at_fit : (geo : Geo) (segment : ℕ) (state : State) (key value : List ℕ) (spot : Spot) → IsState geo segment state
    → first_fit geo state (need geo (length key) (length value)) ≡ Some spot → MayStand geo (without key state.entries) state.chain (entry_at key value spot.place spot.chunk)
at_fit geo segment state key value spot is e =
    let fit = fit_is geo state.entries (need geo (length key) (length value)) state.chain spot e in
    let entry : Placed = entry_at key value spot.place spot.chunk in
    record {
      chain_is = is.chain;
      inside = (free_run geo state.entries spot.place spot.chunk (need geo (length key) (length value)) fit.free).inside;
      chained = fit.among;
      apart = apart_without geo entry key state.entries (fresh_apart geo entry state.entries (each_run is) fit.free);
    }

-- a linked place is another than one outside the chain
differs_from : (place : ℕ) (chain : List ℕ) → AllByRecursion (λ linked. linked ≢ place) chain → (at : ℕ) → Contains chain at → at ≢ place
differs_from place chain others at c = All-contains (λ linked. linked ≢ place) chain at (All-from_recursion (λ linked. linked ≢ place) chain others) c

-- the first chunk of a tier that is linked by it
at_new_tier : (geo : Geo) (segment : ℕ) (state : State) (key value : List ℕ) (place : ℕ) → IsState geo segment state → Fits geo (length key) (length value)
    → length state.chain < geo.tiers → IsOutside geo state.chain place → MayStand geo (without key state.entries) (state.chain ++ place ∷ []) (entry_at key value place 0)
at_new_tier geo segment state key value place is fits short outside =
    let entry : Placed = entry_at key value place 0 in
    let inside : entry.chunk + chunks_of geo entry ≤ geo.chunks = omega (arith, fits.run_short, chunks_range geo) in
    record {
      chain_is = chain_with geo state.chain place is.chain short outside;
      inside = inside;
      chained = Contains-push state.chain place;
      apart = apart_without geo entry key state.entries (each_weaker (IsPlaced geo segment state.chain) (λ other. IsApart geo other entry)
          (λ other h. apart_places geo other entry h.run.inside inside (differs_from place state.chain (each_other state.chain place outside.unlinked) other.place h.chained)) state.entries (each_placed is));
    }

-- the entries of other keys, which were apart from the old run, are apart from a new one
others_than : (geo : Geo) (old entry : Placed) (key : List ℕ) (entries : List Placed)
    → ((other : Placed) → HasRun geo other → IsApart geo other old → IsApart geo other entry) → AllByRecursion (HasRun geo) entries
    → AllByRecursion (λ other. is_at key other ≡ false → IsApart geo other old) entries → AllByRecursion (λ other. IsApart geo other entry) (without key entries)
others_than geo old entry key entries gives runs others =
    each_kept (λ other. HasRun geo other × (is_at key other ≡ false → IsApart geo other old)) (λ other. IsApart geo other entry) (λ other. not (is_at key other))
    (λ other h e. gives other h.0 (h.1 (not-true (is_at key other) e))) entries
    (each_both (HasRun geo) (λ other. is_at key other ≡ false → IsApart geo other old) (λ other. HasRun geo other × (is_at key other ≡ false → IsApart geo other old)) (λ other r a. (r, a)) entries runs others)

-- the same, with chunks behind the old run that were free
others_than_free : (geo : Geo) (old entry : Placed) (key : List ℕ) (entries : List Placed) → entry.place ≡ old.place → entry.chunk ≡ old.chunk
    → chunks_of geo old ≤ chunks_of geo entry → entry.chunk + chunks_of geo entry ≤ geo.chunks → AllByRecursion (HasRun geo) entries
    → AllByRecursion (λ other. meets geo old.place (old.chunk + chunks_of geo old) (chunks_of geo entry - chunks_of geo old) other ≡ false) entries
    → AllByRecursion (λ other. is_at key other ≡ false → IsApart geo other old) entries → AllByRecursion (λ other. IsApart geo other entry) (without key entries)
others_than_free geo old entry key entries place chunk length_is inside runs alone others =
    let Behind : Placed → Type 0 = λ other. HasRun geo other × (meets geo old.place (old.chunk + chunks_of geo old) (chunks_of geo entry - chunks_of geo old) other ≡ false) in
    each_kept (λ other. Behind other × (is_at key other ≡ false → IsApart geo other old)) (λ other. IsApart geo other entry) (λ other. not (is_at key other))
    (λ other h e. longer geo old entry other place chunk length_is h.0.0 inside h.0.1 (h.1 (not-true (is_at key other) e))) entries
    (each_both Behind (λ other. is_at key other ≡ false → IsApart geo other old) (λ other. Behind other × (is_at key other ≡ false → IsApart geo other old)) (λ other r a. (r, a)) entries
    (each_both (HasRun geo) (λ other. meets geo old.place (old.chunk + chunks_of geo old) (chunks_of geo entry - chunks_of geo old) other ≡ false) Behind (λ other r m. (r, m)) entries runs alone) others)

-- where the old value stands
at_old : (geo : Geo) (segment : ℕ) (state : State) (key value : List ℕ) (old : Placed) → IsState geo segment state → entry_of key state ≡ Some old
    → can_stay geo state.entries old (need geo (length key) (length value)) ≡ true → MayStand geo (without key state.entries) state.chain (entry_at key value old.place old.chunk)
at_old geo segment state key value old is e stay =
    let entry : Placed = entry_at key value old.place old.chunk in
    let here : IsPlaced geo segment state.chain old = found_has (IsPlaced geo segment state.chain) (is_at key) state.entries old (each_placed is) e in
    let others = others_apart geo (is_at key) state.entries old (each_rising is) e in
    elim (cases_Bool (nat_le (chunks_of geo entry) (chunks_of geo old))) [
      | inl within_limit ↦
          let fewer : chunks_of geo entry ≤ chunks_of geo old = grind (arith, nat_tests) in
          record {
            chain_is = is.chain;
            inside = omega (arith, here.run.inside, fewer);
            chained = here.chained;
            apart = others_than geo old entry key state.entries (λ other r apart. shorter geo old entry other refl refl fewer apart) (each_run is) others;
          }
      | inr length_is ↦
          let more : chunks_of geo old ≤ chunks_of geo entry = grind (arith, nat_tests) in
          let free = free_run geo state.entries old.place (old.chunk + chunks_of geo old) (chunks_of geo entry - chunks_of geo old) (rw length_is at stay) in
          let inside : entry.chunk + chunks_of geo entry ≤ geo.chunks = ends_at old.chunk (chunks_of geo old) (chunks_of geo entry) geo.chunks more free.inside in
          record {
            chain_is = is.chain;
            inside = inside;
            chained = here.chained;
            apart = others_than_free geo old entry key state.entries refl refl more inside (each_run is) free.alone others;
          }
    ]
  where
    ends_at : (chunk short long most : ℕ) → short ≤ long → chunk + short + (long - short) ≤ most → chunk + long ≤ most
    ends_at chunk short long most h k = omega arith

-- a value goes where its room is
record MayStandIn (geo : Geo) (state : State) (key value : List ℕ) (room : Room) (spot : Spot) : Type 0 where
  goes : MayStand geo (without key state.entries) (chain_for room state.chain) (entry_at key value spot.place spot.chunk)

-- the same at an equal spot
as_spot : (geo : Geo) (state : State) (key value : List ℕ) (room : Room) (here spot : Spot) → here ≡ spot
    → MayStand geo (without key state.entries) (chain_for room state.chain) (entry_at key value here.place here.chunk) → MayStandIn geo state key value room spot
as_spot geo state key value room here spot same goes = subst (MayStandIn geo state key value room) same (record { goes = goes })

-- a value goes to a room apart from its old place
may_stand_apart : (geo : Geo) (segment : ℕ) (state : State) (key value : List ℕ) (old : Option Placed) (spot : Spot) → IsState geo segment state → Fits geo (length key) (length value)
    → (fit : Option Spot) → first_fit geo state (need geo (length key) (length value)) ≡ fit → spot_in (room_apart geo state.chain fit) old ≡ Some spot
    → MayStandIn geo state key value (room_apart geo state.chain fit) spot
may_stand_apart geo segment state key value old spot is fits (Some fit) e at =
    as_spot geo state key value (Elsewhere fit) fit spot (same_Some fit spot at) (at_fit geo segment state key value fit is e)
may_stand_apart geo segment state key value old spot is fits None e at = elim (cases_Bool (nat_lt (length state.chain) geo.tiers)) [
  | inl short ↦
      let place = lowest_unlinked geo state.chain in
      let here : Spot = record { place = place; chunk = 0 } in
      let room : room_apart geo state.chain None ≡ NewTier place = rw short refl in
      let at' : Some here ≡ Some spot = rw short at at in
      let shorter : length state.chain < geo.tiers = grind (arith, nat_tests) in
      subst (λ (it : Room). MayStandIn geo state key value it spot) (sym room)
      (as_spot geo state key value (NewTier place) here spot (same_Some here spot at') (at_new_tier geo segment state key value place is fits shorter (lowest_outside geo state.chain shorter)))
  | inr long ↦ let at' : None ≡ Some spot = rw long at at in cc at'
]

-- a value goes to its room, beside its old place
may_stand_beside : (geo : Geo) (segment : ℕ) (state : State) (key value : List ℕ) (spot : Spot) → IsState geo segment state → Fits geo (length key) (length value)
    → (old : Option Placed) → entry_of key state ≡ old → spot_in (room_beside geo state old (need geo (length key) (length value))) old ≡ Some spot
    → MayStandIn geo state key value (room_beside geo state old (need geo (length key) (length value))) spot
may_stand_beside geo segment state key value spot is fits None e at =
    may_stand_apart geo segment state key value None spot is fits (first_fit geo state (need geo (length key) (length value))) refl at
may_stand_beside geo segment state key value spot is fits (Some old) e at = elim (cases_Bool (can_stay geo state.entries old (need geo (length key) (length value)))) [
  | inl stays ↦
      let here : Spot = record { place = old.place; chunk = old.chunk } in
      let room : room_beside geo state (Some old) (need geo (length key) (length value)) ≡ InPlace = rw stays refl in
      let at' : Some here ≡ Some spot = rw stays at at in
      subst (λ (it : Room). MayStandIn geo state key value it spot) (sym room)
      (as_spot geo state key value InPlace here spot (same_Some here spot at') (at_old geo segment state key value old is e stays))
  | inr leaves ↦
      let fit = first_fit geo state (need geo (length key) (length value)) in
      let room : room_beside geo state (Some old) (need geo (length key) (length value)) ≡ room_apart geo state.chain fit = rw leaves refl in
      let at' : spot_in (room_apart geo state.chain fit) (Some old) ≡ Some spot = rw leaves at at in
      subst (λ (it : Room). MayStandIn geo state key value it spot) (sym room) (may_stand_apart geo segment state key value (Some old) spot is fits fit refl at')
]

-- the others have other keys
pub keys_differ : (key : List ℕ) (entries : List Placed) → AllByRecursion (λ other. other.key ≢ key) (without key entries)
keys_differ key entries =
    recursion_from_All (λ other. other.key ≢ key) (without key entries)
    (All-weaker (λ other. not (is_at key other) ≡ true) (λ other. other.key ≢ key) (λ other e. keys_apart other.key key (not-true (is_at key other) e)) (without key entries) (filter_passes (λ other. not (is_at key other)) entries))

-- one more key that is another than all others
pub keys_with : (geo : Geo) (entry : Placed) (entries : List Placed) → Pairs Differs entries → AllByRecursion (λ other. other.key ≢ entry.key) entries → Pairs Differs (with_entry geo entry entries)
keys_with geo entry entries differ others =
    let before = begins_before geo entry in
    let behind = begins_behind geo entry in
    let high : AllByRecursion (λ other. Differs entry other) (filter behind entries) = each_kept (λ other. other.key ≢ entry.key) (λ other. Differs entry other) behind (λ other h e same. h (sym same)) entries others in
    let low : AllByRecursion (λ other. Differs other entry) (filter before entries) = each_kept (λ other. other.key ≢ entry.key) (λ other. Differs other entry) before (λ other h e. h) entries others in
    pairs_append Differs (filter before entries) (entry ∷ filter behind entries) (pairs_kept Differs before entries differ) (high, pairs_kept Differs behind entries differ)
    (each_both (λ other. Differs other entry) (λ other. AllByRecursion (Differs other) (filter behind entries)) (λ other. AllByRecursion (Differs other) (entry ∷ filter behind entries)) (λ other h k. (h, k)) (filter before entries) low
    (across_tests Differs (λ x y h same. h (sym same)) before behind (λ x e. grind (arith, nat_tests)) entries differ))

-- one more entry of which the same holds
pub each_with : (geo : Geo) (P : Placed → Type 0) (entry : Placed) (entries : List Placed) → AllByRecursion P entries → P entry → AllByRecursion P (with_entry geo entry entries)
each_with geo P entry entries all one =
    let before = begins_before geo entry in
    let behind = begins_behind geo entry in
    each_append P (filter before entries) (entry ∷ filter behind entries) (each_filter P before entries all) (one, each_filter P behind entries all)

-- a linked place stays linked
in_longer : (room : Room) (chain : List ℕ) (at : ℕ) → Contains chain at → Contains (chain_for room chain) at
in_longer (NewTier place) chain at c = Contains-append_left chain (place ∷ []) at c
in_longer InPlace chain at c = c
in_longer (Elsewhere spot) chain at c = c
in_longer Nowhere chain at c = c

-- how an entry goes to its room
pub may_stand_in : (geo : Geo) (segment : ℕ) (state : State) (key value : List ℕ) (spot : Spot) → IsState geo segment state → Fits geo (length key) (length value)
    → (room : Room) → room_for geo state key (need geo (length key) (length value)) ≡ room → spot_in room (entry_of key state) ≡ Some spot
    → MayStand geo (without key state.entries) (chain_for room state.chain) (entry_at key value spot.place spot.chunk)
may_stand_in geo segment state key value spot is fits room room_is at =
    let at' : spot_in (room_for geo state key (need geo (length key) (length value))) (entry_of key state) ≡ Some spot = rw room_is at in
    (subst (λ (it : Room). MayStandIn geo state key value it spot) room_is (may_stand_beside geo segment state key value spot is fits (entry_of key state) refl at')).goes

-- so its run begins where no other does
pub starts_apart : (geo : Geo) (segment : ℕ) (state : State) (key value : List ℕ) (spot : Spot) → IsState geo segment state → Fits geo (length key) (length value)
    → (room : Room) → room_for geo state key (need geo (length key) (length value)) ≡ room → spot_in room (entry_of key state) ≡ Some spot
    → All (λ other. run_start geo other ≢ run_start geo (entry_at key value spot.place spot.chunk)) (without key state.entries)
starts_apart geo segment state key value spot is fits room room_is at =
    let entry : Placed = entry_at key value spot.place spot.chunk in
    let goes = may_stand_in geo segment state key value spot is fits room room_is at in
    All-from_recursion (λ other. run_start geo other ≢ run_start geo entry) (without key state.entries)
    (each_weaker (λ other. IsApart geo other entry) (λ other. run_start geo other ≢ run_start geo entry)
    (λ other h. apart_starts geo entry other h) (without key state.entries) goes.apart)

-- the runs of the others rise
others_rising : {geo : Geo} {segment : ℕ} {state : State} (key : List ℕ) → IsState geo segment state → Pairs (Rising geo) (without key state.entries)
others_rising {geo} {segment} {state} key is = pairs_kept (Rising geo) (λ other. not (is_at key other)) state.entries (each_rising is)

-- their keys differ
others_differ : {geo : Geo} {segment : ℕ} {state : State} (key : List ℕ) → IsState geo segment state → Pairs Differs (without key state.entries)
others_differ {geo} {segment} {state} key is = pairs_kept Differs (λ other. not (is_at key other)) state.entries (each_differs is)

-- the others stay in rising order
pub rising_without : (geo : Geo) (segment : ℕ) (state : State) (key : List ℕ) → IsState geo segment state → AllPairs (Rising geo) (without key state.entries)
rising_without geo segment state key is = all_from_pairs (Rising geo) (without key state.entries) (others_rising key is)

-- an entry that is found has a run
pub found_run : (geo : Geo) (segment : ℕ) (state : State) (key : List ℕ) (old : Placed) → IsState geo segment state → entry_of key state ≡ Some old → HasRun geo old
found_run geo segment state key old is e = found_has (HasRun geo) (is_at key) state.entries old (each_run is) e

-- the state with the value in its room is a state
pub placed_state : (geo : Geo) (segment : ℕ) (state : State) (key value : List ℕ) (spot : Spot) → IsState geo segment state → Fits geo (length key) (length value)
    → segment_of_key geo key ≡ segment → (room : Room) → room_for geo state key (need geo (length key) (length value)) ≡ room → spot_in room (entry_of key state) ≡ Some spot
    → IsState geo segment (record { chain = chain_for room state.chain; entries = with_entry geo (entry_at key value spot.place spot.chunk) (without key state.entries) })
placed_state geo segment state key value spot is fits here room room_is at =
    let entry : Placed = entry_at key value spot.place spot.chunk in
    let others = without key state.entries in
    let chain = chain_for room state.chain in
    let goes = may_stand_in geo segment state key value spot is fits room room_is at in
    let kept : AllByRecursion (IsPlaced geo segment chain) others = each_kept (IsPlaced geo segment state.chain) (IsPlaced geo segment chain) (λ other. not (is_at key other))
    (λ other h e. record { here = h.here; chained = in_longer room state.chain other.place h.chained; run = h.run }) state.entries (each_placed is) in
    let one : IsPlaced geo segment chain entry = record { here = here; chained = goes.chained; run = record { fits = fits; inside = goes.inside } } in
    record {
      chain = goes.chain_is;
      placed = All-from_recursion (IsPlaced geo segment chain) (with_entry geo entry others) (each_with geo (IsPlaced geo segment chain) entry others kept one);
      runs = all_from_pairs (Rising geo) (with_entry geo entry others) (rising_with geo entry others (others_rising key is) goes.apart);
      keys = all_from_pairs Differs (with_entry geo entry others) (keys_with geo entry others (others_differ key is) (keys_differ key state.entries));
    }

-- the state without a key's entry is a state
pub removed_state : (geo : Geo) (segment : ℕ) (state : State) (key : List ℕ) → IsState geo segment state
    → IsState geo segment (record { chain = state.chain; entries = without key state.entries })
removed_state geo segment state key is =
    let others = without key state.entries in
    record {
      chain = is.chain;
      placed = All-from_recursion (IsPlaced geo segment state.chain) others (each_filter (IsPlaced geo segment state.chain) (λ other. not (is_at key other)) state.entries (each_placed is));
      runs = all_from_pairs (Rising geo) others (others_rising key is);
      keys = all_from_pairs Differs others (others_differ key is);
    }
