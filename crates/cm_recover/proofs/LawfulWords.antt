-- Of words that represent a state that state is kept, and nothing is dropped.
use Rattle.std.proofs.Common.{◌≡◌, ◌≢◌, ℕ, List, [], Some, refl, ap, sym, subst, ◌∙◌, inl, inr}
use Rattle.std.specs.List.{AllByRecursion}
use Rattle.std.proofs.lemmas.List.Elements.{recursion_from_All}
use Rattle.cm_geo.specs.declared.geo.Geo.{Geo}
use Rattle.cm_plain.specs.declared.placed.Placed.{Placed}
use Rattle.cm_plain.specs.States.{State}
use Rattle.cm_plain.specs.Slots.{slot_for}
use Rattle.cm_plain.specs.FoundChains.{KeepsAllowance, chain_of}
use Rattle.cm_plain.specs.Lawful.{IsSlotOf, Represents, TierRepresents}
use Rattle.cm_plain.proofs.Apart.{begins_low}
use Rattle.cm_plain.proofs.Each.{pairs_from_all, pairs_weaker}
use Rattle.cm_plain.proofs.OneState.{same_entries}
use Rattle.cm_plain.proofs.ListElements.{In, all_in, in_from, in_has, in_to}
use Rattle.cm_plain.proofs.StatePairs.{apart_in, placed_in, same_in}
use Rattle.cm_plain.proofs.States.{each_differs, each_rising, same_state}
use Rattle.cm_recover.specs.OccupiedSlots.{OccupiedSlot, occupied_slots}
use Rattle.cm_recover.specs.Judgements.{judgement}
use Rattle.cm_recover.specs.KeptSlots.{KeptEntries, kept_in, kept_of, kept_state}
use Rattle.cm_recover.specs.Laws.{KeepsStates}
use Rattle.cm_recover.proofs.Allowance.{all_allowed}
use Rattle.cm_recover.proofs.OccupiedSlots.{IsElsewhere, StandsIn, occupied_from, occupied_once, occupied_to}
use Rattle.cm_recover.proofs.KeptSlots.{HasKey, IsJudge, IsKeeping, keeps}
use Rattle.cm_recover.proofs.NoDrops.{AreOfKeys, all_kept}
use Rattle.cm_recover.proofs.SlotJudgements.{by_entry}

-- a slot is that of an entry of the state
record IsOf (geo : Geo) (words : List ℕ) (state : State) (at : OccupiedSlot) (placed : Placed) : Type 0 where
  stands : StandsIn geo words at
  there : In placed state.entries
  place_is : placed.place ≡ at.place
  slot_is : at.slot ≡ slot_for geo placed.key placed.chunk

judges : (geo : Geo) (segment : ℕ) (words : List ℕ) (state : State) → Represents geo segment words state
    → IsJudge geo (judgement geo segment words (chain_of geo words).places) (λ placed. In placed state.entries) (IsOf geo words state)
judges geo segment words state tells = record {
  alone = λ one other i j ne. apart_in geo state.entries one other (each_rising tells.is_state) i j ne;
  may = λ at placed of. of.there;
  beside = λ at placed kept of. (let is = placed_in geo segment state placed tells.is_state of.there in
      by_entry geo segment words (chain_of geo words).places kept at placed of.stands.chained of.place_is of.slot_is (begins_low geo placed is.run) (tells.stand placed (in_to state.entries placed of.there)) is.here);
}

-- each slot that isn't empty is one of those
slot_of : (geo : Geo) (segment : ℕ) (words : List ℕ) (state : State) (at : OccupiedSlot) → Represents geo segment words state → StandsIn geo words at → (placed : Placed) × IsOf geo words state at placed
slot_of geo segment words state at tells stands =
    let tier : TierRepresents geo words state at.place = in_has (TierRepresents geo words state) state.chain at.place (recursion_from_All (TierRepresents geo words state) state.chain tells.tiers)
    (subst (λ (c : List ℕ). In at.place c) tells.chain stands.chained) in
    let of : IsSlotOf geo state at.place at.slot = tier.slots at.number at.slot stands.inside stands.slot_is in
    (of.placed, record { stands = stands; there = in_from state.entries of.placed of.at.there; place_is = of.at.place_is; slot_is = of.slot_is })

-- slots at two numbers are those of two entries
two_keys : (geo : Geo) (segment : ℕ) (words : List ℕ) (state : State) (at other : OccupiedSlot) → Represents geo segment words state → IsElsewhere at other → AreOfKeys (IsOf geo words state) at other
two_keys geo segment words state at other tells elsewhere one two of of' key_same =
    let same : one ≡ two = same_in state.entries one two (each_differs tells.is_state) of.there of'.there key_same in
    let place : at.place ≡ other.place = sym of.place_is ∙ ap (λ (p : Placed). p.place) same ∙ of'.place_is in
    let once = tells.pointed one (in_to state.entries one of.there) in
    let number : at.number ≡ other.number =
    once.2 at.number (record { inside = of.stands.inside; slot_is = rw of.place_is (of.stands.slot_is ∙ ap Some of.slot_is) })
    ∙ sym (once.2 other.number (record {
      inside = of'.stands.inside;
      slot_is = rw (ap (λ (p : Placed). p.place) same ∙ of'.place_is) (of'.stands.slot_is ∙ ap Some (of'.slot_is ∙ ap (λ (p : Placed). slot_for geo p.key p.chunk) (sym same)));
    })) in
    clash elsewhere place number
  where
    clash : IsElsewhere at other → at.place ≡ other.place → at.number ≡ other.number → ⊥
    clash (inl ne) place number = ne place
    clash (inr ne) place number = ne number

-- what is kept and dropped of a segment's slots
record IsAllKept (kept : KeptEntries) (state : State) : Type 0 where
  entries : kept.entries ≡ state.entries
  drops : kept.drops ≡ []

keeps_all : (geo : Geo) (segment : ℕ) (words : List ℕ) (state : State) → Represents geo segment words state
    → IsAllKept (kept_of geo segment words (chain_of geo words).places (record { entries = []; drops = [] }) (occupied_slots geo words)) state
keeps_all geo segment words state tells =
    let is = judges geo segment words state tells in
    let of : AllByRecursion (λ at. (placed : Placed) × IsOf geo words state at placed) (occupied_slots geo words) =
    all_in (λ at. (placed : Placed) × IsOf geo words state at placed) (occupied_slots geo words) (λ at i. slot_of geo segment words state at tells (occupied_from geo words at i)) in
    let once = occupied_once geo words (pairs_from_all (λ place other. place ≢ other) (chain_of geo words).places (rw tells.chain tells.is_state.chain.apart)) in
    let keeping = keeps geo (judgement geo segment words (chain_of geo words).places) (λ placed. In placed state.entries) (IsOf geo words state) (record { entries = []; drops = [] }) (occupied_slots geo words)
    is (record { may = tt; rising = tt; keys = tt; drops = tt })
    (all_in _ (occupied_slots geo words) (λ at i. inl (slot_of geo segment words state at tells (occupied_from geo words at i)))) in
    let entries : List Placed = (kept_of geo segment words (chain_of geo words).places (record { entries = []; drops = [] }) (occupied_slots geo words)).entries in
    record {
      entries = same_entries geo entries state.entries keeping.more.sound.rising (each_rising tells.is_state)
          (λ placed i. in_has (λ placed. In placed state.entries) entries placed keeping.more.sound.may i)
          (λ placed i. back placed i (kept_of geo segment words (chain_of geo words).places (record { entries = []; drops = [] }) (occupied_slots geo words)) keeping);
      drops = all_kept geo (judgement geo segment words (chain_of geo words).places) (λ placed. In placed state.entries) (IsOf geo words state) (occupied_slots geo words) is of
          (pairs_weaker IsElsewhere (AreOfKeys (IsOf geo words state)) (λ at other elsewhere. two_keys geo segment words state at other tells elsewhere) (occupied_slots geo words) once);
    }
  where
    back : (placed : Placed) → In placed state.entries → (later : KeptEntries)
        → IsKeeping geo (λ placed. In placed state.entries) (IsOf geo words state) (record { entries = []; drops = [] }) (occupied_slots geo words) later → In placed later.entries
    back placed i later keeping =
        let point = tells.pointed placed (in_to state.entries placed i) in
        let is = placed_in geo segment state placed tells.is_state i in
        let chained : In placed.place (chain_of geo words).places = rw tells.chain (in_from state.chain placed.place is.chained) in
        let at : OccupiedSlot = record { place = placed.place; number = point.0; slot = slot_for geo placed.key placed.chunk } in
        let stands : StandsIn geo words at = record { chained = chained; inside = point.1.inside; slot_is = point.1.slot_is } in
        let has : HasKey later placed.key = keeping.has at placed (occupied_to geo words placed.place point.0 (slot_for geo placed.key placed.chunk) chained point.1.inside point.1.slot_is)
        (record { stands = stands; there = i; place_is = refl; slot_is = refl }) in
        let may = in_has (λ placed. In placed state.entries) later.entries has.placed keeping.more.sound.may has.is_in in
        let same : has.placed ≡ placed = same_in state.entries has.placed placed (each_differs tells.is_state) may i has.key_is in
        subst (λ (p : Placed). In p later.entries) same has.is_in

-- the law of words that represent a state
pub keeps_states : (geo : Geo) (words_of : ℕ → List ℕ) → KeepsAllowance geo words_of → KeepsStates geo words_of
unfolding kept_in
keeps_states geo words_of keeps segment state below lawful =
    let words : List ℕ = words_of segment in
    let all = keeps_all geo segment words state lawful.represents in
    let allowed_is = all_allowed geo words_of segment keeps below in
    let entries : (kept_in geo words_of segment).entries ≡ state.entries = rw allowed_is all.entries in
    record {
      state_is = same_state (kept_state geo words_of segment) state (allowed_is ∙ lawful.represents.chain) entries;
      no_drops = rw allowed_is all.drops;
    }
