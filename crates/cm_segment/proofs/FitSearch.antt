-- The search for free chunks along the chain, and the room that it gives.
use Rattle.std.proofs.Common.{◌≡◌, ◌≢◌, ℕ, zero, suc, ◌+◌, ◌-◌, ◌<◌, ◌≤◌, ◌↔◌, ◌||◌, Bool, IsTrue, true, false, List, [], ◌∷◌, length, drop, nat_le, nat_lt, Option, Some, None, Contains, Ok, Err, IfOk, OnOk, refl, ap, sym, subst, ◌∙◌, arith}
use Rattle.std.specs.declared.result.Result.{Result}
use Rattle.std.specs.List.{slice_get}
use Rattle.std.specs.Option.{option_or}
use Rattle.std.proofs.lemmas.Bool.Decides.{nat_tests}
use Rattle.std.proofs.lemmas.List.{drop_more, length-take-le}
use Rattle.std.proofs.lemmas.Option.{get_or_from_slice_get, slice_get_within}
use Rattle.cm_geo.specs.declared.geo.Geo.{Geo}
use Rattle.cm_plain.specs.declared.placed.Placed.{Placed}
use Rattle.cm_plain.specs.declared.plan.Run.{Run}
use Rattle.cm_plain.specs.declared.room.Room.{Room}
use Rattle.cm_plain.specs.declared.room.Room.TheVariants.{InPlace, NewTier, Nowhere}
use Rattle.cm_plain.specs.States.{State}
use Rattle.cm_plain.specs.Rooms.{can_stay, first_fit, fit_among, is_free, least_free, lowest_unlinked, room_apart, spot_at}
use Rattle.cm_plain.specs.Changes.{run_of}
use Rattle.cm_plain.specs.FoundChains.{chain_of}
use Rattle.cm_plain.specs.Lawful.{BitsRepresent, Resting}
use Rattle.cm_plain.proofs.OutsideHead.{resting_represents}
use Rattle.cm_plain.proofs.States.{is_placed}
use Rattle.cm_words.specs.declared.fuse.Dead.{Dead}
use Rattle.cm_words.specs.Memory.{FitsNotes, MemSeen}
use Rattle.cm_words.specs.Effects.{Reads}
use Rattle.cm_chunks.specs.Free.{FindsFit, IsFreeRun}
use Rattle.cm_chunks.proofs.StateRuns.{fit_as_state, free_as_state}
use Rattle.cm_tiers.specs.declared.places.Chain.{Chain}
use Rattle.cm_tiers.specs.Chains.{places_of}
use Rattle.cm_segment.specs.declared.planning.Old.{Old}
use Rattle.cm_segment.specs.RoomPlans.{IsRoomFor}
use Rattle.cm_segment.proofs.ChainedTiers.{chain_is, rests_before, tier_of}
use Rattle.cm_segment.proofs.ChainSearch.{IsTierOf, all_before, tier_chained, tier_is, tiers_within}

-- ---- the first fit

-- the first fit of each state for which a list that fits rests is none of the tiers before a number
abbrev pub HasNoFit : MemSeen → Geo → ℕ → ℕ → Type 0
HasNoFit m geo chunks number =
    (words : List ℕ) (state : State) → FitsNotes m words → Resting geo m.setting.segment words state
    → first_fit geo state chunks ≡ fit_among geo state.entries chunks (drop number state.chain)

pub no_fit_none : (m : MemSeen) (geo : Geo) (chunks : ℕ) → HasNoFit m geo chunks 0
no_fit_none m geo chunks words state fits rests = refl

-- a tier of the chain, and those behind it
next_tier : (chain : List ℕ) (number place : ℕ) → slice_get chain number ≡ Some place → drop number chain ≡ place ∷ drop (number + 1) chain
next_tier chain number place is =
    drop_more chain number 0 (slice_get_within chain number place is) ∙ ap (λ (p : ℕ). p ∷ drop (number + 1) chain)
    (get_or_from_slice_get chain number place 0 is)

-- behind all tiers there is none
no_tier : (xs : List ℕ) (n : ℕ) → length xs ≤ n → drop n xs ≡ []
no_tier [] zero h = refl
no_tier [] (suc n) h = refl
no_tier (x ∷ xs) zero h = absurd (omega arith)
no_tier (x ∷ xs) (suc n) h = no_tier xs n (omega arith)

-- the least chunk that was found in a tier, and then the tiers behind it
along : (geo : Geo) (state : State) (chunks place : ℕ) (places : List ℕ) (found : Option ℕ) → found ≡ least_free geo state.entries chunks place
    → fit_among geo state.entries chunks (place ∷ places) ≡ option_or (spot_at place found) (fit_among geo state.entries chunks places)
along geo state chunks place places found e = rw e refl

-- what is found from a tier on
from_tier : (a b c : MemSeen) (geo : Geo) (chunks number place : ℕ) (found : Option ℕ) → HasNoFit a geo chunks number → Reads a b
    → IsTierOf b geo number (Some place) → Reads b c → 1 ≤ chunks
    → ((words : List ℕ) → FitsNotes c words → FindsFit geo words place chunks found)
    → (words : List ℕ) (state : State) → FitsNotes c words → Resting geo c.setting.segment words state
    → first_fit geo state chunks ≡ option_or (spot_at place found) (fit_among geo state.entries chunks (drop (number + 1) state.chain))
from_tier a b c geo chunks number place found none one is two nonzero finds words state fits rests =
    let fits_b = two.fits words fits in
    let rests_b = rests_before b c geo words state two rests in
    let bits = (tier_of geo c.setting.segment words state place rests (tier_chained b geo number place words state is fits_b rests_b)).bits in
    none words state (one.fits words fits_b) (rests_before a b geo words state one rests_b)
    ∙ (ap (fit_among geo state.entries chunks) (next_tier state.chain number place (tier_is b geo number (Some place) words state is fits_b rests_b))
    ∙ along geo state chunks place (drop (number + 1) state.chain) found (fit_as_state geo words state place chunks found bits nonzero (finds words fits)))

-- a tier without so many free chunks in a row
pub no_fit_more : (a b c : MemSeen) (geo : Geo) (chunks number place : ℕ) → HasNoFit a geo chunks number → Reads a b → IsTierOf b geo number (Some place)
    → Reads b c → 1 ≤ chunks
    → ((words : List ℕ) → FitsNotes c words → FindsFit geo words place chunks None) → HasNoFit c geo chunks (number + 1)
no_fit_more a b c geo chunks number place none one is two nonzero finds words state fits rests =
    from_tier a b c geo chunks number place None none one is two nonzero finds words state fits rests

-- the first tier with them
pub fit_is : (a b c : MemSeen) (geo : Geo) (chunks number place chunk : ℕ) → HasNoFit a geo chunks number → Reads a b → IsTierOf b geo number (Some place)
    → Reads b c → 1 ≤ chunks
    → ((words : List ℕ) → FitsNotes c words → FindsFit geo words place chunks (Some chunk))
    → (words : List ℕ) (state : State) → FitsNotes c words → Resting geo c.setting.segment words state
    → Some (record { place = place; chunk = chunk }) ≡ first_fit geo state chunks
fit_is a b c geo chunks number place chunk none one is two nonzero finds words state fits rests =
    sym (from_tier a b c geo chunks number place (Some chunk) none one is two nonzero finds words state fits rests)

-- no tier with them
no_fit_all : (geo : Geo) (state : State) (chunks number : ℕ) → first_fit geo state chunks ≡ fit_among geo state.entries chunks (drop number state.chain)
    → length state.chain ≤ number → None ≡ first_fit geo state chunks
no_fit_all geo state chunks number is past = sym (is ∙ ap (fit_among geo state.entries chunks) (no_tier state.chain number past))

pub no_fit_behind : (a b : MemSeen) (geo : Geo) (chunks number : ℕ) → HasNoFit a geo chunks number → Reads a b → IsTierOf b geo number None
    → (words : List ℕ) (state : State) → FitsNotes b words → Resting geo b.setting.segment words state → None ≡ first_fit geo state chunks
no_fit_behind a b geo chunks number none reads is words state fits rests =
    no_fit_all geo state chunks number (none words state (reads.fits words fits) (rests_before a b geo words state reads rests))
    (all_before state.chain number (sym (tier_is b geo number None words state is fits rests)))

pub no_fit_end : (m : MemSeen) (geo : Geo) (chunks number : ℕ) → HasNoFit m geo chunks number → geo.tiers ≤ number
    → (words : List ℕ) (state : State) → FitsNotes m words → Resting geo m.setting.segment words state → None ≡ first_fit geo state chunks
no_fit_end m geo chunks number none past words state fits rests =
    no_fit_all geo state chunks number (none words state fits rests) (tiers_within geo m.setting.segment words state number rests past)

-- ---- the room apart from an old entry

-- where no tier has room, and all tiers were found, a new one or none
pub apart_new : (geo : Geo) (segment : ℕ) (words : List ℕ) (state : State) (chain : Chain) (chunks place : ℕ) → Resting geo segment words state
    → (chain_of geo words).places ≡ places_of chain → chain.len ≤ length chain.places → chain.len ≤ geo.tiers → chain.len ≢ geo.tiers
    → place ≡ lowest_unlinked geo (places_of chain) → None ≡ first_fit geo state chunks
    → NewTier place ≡ room_apart geo state.chain (first_fit geo state chunks)
apart_new geo segment words state chain chunks place rests all long within not_all place_is none =
    let places : state.chain ≡ places_of chain = sym (chain_is geo segment words state rests) ∙ all in
    let as_many : length (places_of chain) ≡ chain.len = length-take-le chain.len chain.places long in
    let shorter : nat_lt (length state.chain) geo.tiers ≡ true = rw places (is_below (length (places_of chain)) chain.len geo.tiers as_many within not_all) in
    let here : NewTier place ≡ room_apart geo state.chain None = rw shorter (ap (λ (p : ℕ). NewTier p) (place_is ∙ ap (lowest_unlinked geo) (sym places))) in
    here ∙ ap (room_apart geo state.chain) none
  where
    is_below : (a b c : ℕ) → a ≡ b → b ≤ c → b ≢ c → nat_lt a c ≡ true
    is_below a b c e h d = grind (arith, nat_tests)

pub apart_nowhere : (geo : Geo) (segment : ℕ) (words : List ℕ) (state : State) (chain : Chain) (chunks : ℕ) → Resting geo segment words state
    → (chain_of geo words).places ≡ places_of chain → chain.len ≤ length chain.places → chain.len ≡ geo.tiers
    → None ≡ first_fit geo state chunks → Nowhere ≡ room_apart geo state.chain (first_fit geo state chunks)
apart_nowhere geo segment words state chain chunks rests all long full none =
    let places : state.chain ≡ places_of chain = sym (chain_is geo segment words state rests) ∙ all in
    let as_many : length (places_of chain) ≡ chain.len = length-take-le chain.len chain.places long in
    let not_shorter : nat_lt (length state.chain) geo.tiers ≡ false = rw places (not_below (length (places_of chain)) geo.tiers (as_many ∙ full)) in
    let here : Nowhere ≡ room_apart geo state.chain None = rw not_shorter refl in
    here ∙ ap (room_apart geo state.chain) none
  where
    not_below : (a c : ℕ) → a ≡ c → nat_lt a c ≡ false
    not_below a c e = grind (arith, nat_tests)

-- ---- the room beside it

-- so many chunks can stay where a run is, as the bits tell it
abbrev pub TellsStay : Geo → List ℕ → State → Run → ℕ → Bool → Type 0
TellsStay geo words state old chunks stays =
    BitsRepresent geo words state old.place → stays ≡ (nat_le chunks old.chunks || is_free geo state.entries old.place (old.chunk + old.chunks)
    (chunks - old.chunks))

-- this is so of the entry in that run
stay_is : (geo : Geo) (segment : ℕ) (words : List ℕ) (state : State) (old : Run) (placed : Placed) (chunks : ℕ) (stays : Bool) → Resting geo segment words state
    → Contains state.entries placed → run_of geo placed ≡ old
    → TellsStay geo words state old chunks stays → can_stay geo state.entries placed chunks ≡ stays
stay_is geo segment words state old placed chunks stays rests there run_is tells =
    let chained = (is_placed (resting_represents geo segment words state rests).is_state placed there).chained in
    let bits = (tier_of geo segment words state placed.place rests chained).bits in
    sym (subst (λ (r : Run). TellsStay geo words state r chunks stays) (sym run_is) tells bits)

same_run : (geo : Geo) (placed : Placed) (old : Old) → Some (run_of geo placed) ≡ Some old.run → run_of geo placed ≡ old.run
same_run geo placed old e = cc e

pub beside_stays : (geo : Geo) (segment : ℕ) (words : List ℕ) (state : State) (old : Old) (chunks : ℕ) → Resting geo segment words state
    → TellsStay geo words state old.run chunks true → IsRoomFor geo state (Some old) chunks InPlace
beside_stays geo segment words state old chunks rests tells None is there = cc is
beside_stays geo segment words state old chunks rests tells (Some placed) is there =
    let e = stay_is geo segment words state old.run placed chunks true rests there (same_run geo placed old is) tells in rw e refl

pub beside_leaves : (geo : Geo) (segment : ℕ) (words : List ℕ) (state : State) (old : Old) (chunks : ℕ) (room : Room) → Resting geo segment words state
    → TellsStay geo words state old.run chunks false
    → room ≡ room_apart geo state.chain (first_fit geo state chunks) → IsRoomFor geo state (Some old) chunks room
beside_leaves geo segment words state old chunks room rests tells room_is None is there = cc is
beside_leaves geo segment words state old chunks room rests tells room_is (Some placed) is there =
    let e = stay_is geo segment words state old.run placed chunks false rests there (same_run geo placed old is) tells in rw e room_is

-- the room that a call finds apart from an entry that can't stay
pub room_answer : (b c : MemSeen) (geo : Geo) (old : Old) (chunks : ℕ) (result : Result Room Dead) → OnOk result (Reads b c)
    → ((words : List ℕ) (state : State) → FitsNotes b words → TellsStay geo words state old.run chunks false)
    → IfOk result (λ room. (words : List ℕ) (state : State) → FitsNotes c words → Resting geo c.setting.segment words state
    → room ≡ room_apart geo state.chain (first_fit geo state chunks))
    → IfOk result (λ room. (words : List ℕ) (state : State) → FitsNotes c words → Resting geo c.setting.segment words state
    → IsRoomFor geo state (Some old) chunks room)
room_answer b c geo old chunks (Ok room) reads tells is =
    λ words state fits rests. beside_leaves geo c.setting.segment words state old chunks room rests (tells words state (reads.fits words fits))
    (is words state fits rests)
room_answer b c geo old chunks (Err dead) reads tells is = is

-- where a value takes more chunks, the chunks behind tell whether it stays
pub stays_by : (geo : Geo) (words : List ℕ) (state : State) (old : Run) (chunks : ℕ) (free : Bool) → old.chunks < chunks
    → (IsTrue free ↔ IsFreeRun geo words old.place (old.chunk + old.chunks) (chunks - old.chunks)) → TellsStay geo words state old chunks free
stays_by geo words state old chunks free more tells bits =
    let longer : nat_le chunks old.chunks ≡ false = not_within chunks old.chunks more in
    let same = free_as_state geo words state old.place (old.chunk + old.chunks) (chunks - old.chunks) bits (omega (arith, more)) in
    rw longer (by free (is_free geo state.entries old.place (old.chunk + old.chunks) (chunks - old.chunks)) (λ yes. same.0 (tells.0 yes))
    (λ is. tells.1 (same.1 is)))
  where
    not_within : (a b : ℕ) → b < a → nat_le a b ≡ false
    not_within a b h = grind (arith, nat_tests)

    by : (free is : Bool) → (IsTrue free → is ≡ true) → (is ≡ true → IsTrue free) → free ≡ is
    by true is there back = sym (there refl)
    by false true there back = absurd (let no = back refl in cc no)
    by false false there back = refl
