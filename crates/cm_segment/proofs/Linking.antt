-- The store of a new tier's link.
use Rattle.std.proofs.Common.{◌≡◌, ℕ, ◌-◌, ◌<◌, false, true, List, length, length-set, get_or, get_or-take, slice_set, refl, ap, sym, subst, ◌∙◌, arith}
use Rattle.std.proofs.lemmas.List.{length-take-le}
use Rattle.std.specs.declared.result.Result.{Result}
use Rattle.cm_geo.specs.declared.geo.Geo.{Geo}
use Rattle.cm_geo.specs.Addresses.{tier_at}
use Rattle.cm_geo.proofs.Ranges.{tiers_range}
use Rattle.cm_plain.specs.declared.plan.Run.{Run}
use Rattle.cm_plain.specs.Changes.{Change}
use Rattle.cm_plain.specs.FoundChains.{FoundChain}
use Rattle.cm_plain.specs.Lawful.{Resting}
use Rattle.cm_plain.specs.Torn.{Torn}
use Rattle.cm_plain.proofs.OutsideHead.{resting_represents}
use Rattle.cm_plain.proofs.RestingTorn.{resting_torn}
use Rattle.cm_words.specs.Memory.{FitsNotes, MayStore, MemSeen}
use Rattle.cm_words.specs.Calls.{Loads, StoresOnce}
use Rattle.cm_tiers.specs.declared.places.Chain.{Chain}
use Rattle.cm_tiers.specs.Chains.{IsLinked, IsRead, places_of}
use Rattle.cm_segment.specs.PlacementBase.{FromBase, PlacesElsewhere, last_tier}
use Rattle.cm_segment.specs.Phases.{Advances, IsInPhase, IsTornFor, IsUntouched, Phase}
use Rattle.cm_segment.proofs.Phases.{LeadsTo, leads_then, loads_advance, may_store_in, store_advances}
use Rattle.cm_segment.proofs.PlacementTorn.{untouched_is_torn}

-- nothing was stored: the words are torn
pub start_is_torn : (geo : Geo) (segment : ℕ) (change : Change) → LeadsTo geo segment change IsUntouched (IsTornFor geo change) (λ words. words)
start_is_torn geo segment change state start words long is same =
    subst (λ (w : List ℕ). Torn geo w state change) (sym same) (resting_torn geo segment start state change.op change is.rests is.planned)

-- ---- the last tier

-- nothing was stored, and this is the last tier of the chain
abbrev pub IsLastTier : ℕ → Phase
IsLastTier last state start words = (words ≡ start) × (last ≡ last_tier state.chain)

-- a chain that was read is as long as it says
long_chain : (geo : Geo) (chain : Chain) → length chain.places ≡ 8 → IsRead geo chain → length (places_of chain) ≡ chain.len
long_chain geo chain eight read = length-take-le chain.len chain.places (omega (arith, eight, read.within_limit, tiers_range geo))

last_read : (geo : Geo) (chain : Chain) → length chain.places ≡ 8 → IsRead geo chain → get_or chain.places (chain.len - 1) 0 ≡ last_tier (places_of chain)
last_read geo chain eight read =
    sym (ap (λ (n : ℕ). get_or (places_of chain) (n - 1) 0) (long_chain geo chain eight read) ∙ get_or-take chain.len chain.places (chain.len - 1) 0
    (omega (arith, read.nonzero)))

pub last_inside : (geo : Geo) (chain : Chain) → length chain.places ≡ 8 → IsRead geo chain → get_or chain.places (chain.len - 1) 0 < geo.tiers
last_inside geo chain eight read =
    subst (λ (p : ℕ). p < geo.tiers) (get_or-take chain.len chain.places (chain.len - 1) 0 (omega (arith, read.nonzero)))
    (read.is_chain.inside (chain.len - 1) 0 (omega (arith, long_chain geo chain eight read, read.nonzero)))

-- the last tier of the chain that was read is the last one of the state's
pub last_is : (m : MemSeen) (geo : Geo) (change : Change) (chain : Chain) → IsInPhase m geo change IsUntouched → length chain.places ≡ 8 → IsRead geo chain
    → ((words : List ℕ) → FitsNotes m words → IsLinked geo words chain) → IsInPhase m geo change (IsLastTier (get_or chain.places (chain.len - 1) 0))
last_is m geo change chain at eight read linked = record {
  writable = at.writable;
  plan_is = at.plan_is;
  lists = λ words state fits is.
      let same = at.lists words state fits is in
      let rests = subst (λ (w : List ℕ). Resting geo m.setting.segment w state) (sym same) is.rests in
      let places : places_of chain ≡ state.chain =
      sym (ap (λ (l : FoundChain). l.places) (linked words fits)) ∙ (resting_represents geo m.setting.segment words state rests).chain in
      (same, last_read geo chain eight read ∙ ap (λ (c : List ℕ). last_tier c) places);
}

-- ---- its link

-- the link of the new tier leads to the words on which the entry is placed
pub link_leads : (geo : Geo) (segment : ℕ) (change : Change) (run : Run) (last : ℕ) → change.link ≡ true
    → LeadsTo geo segment change (IsLastTier last) (FromBase geo change run IsUntouched) (λ words. slice_set words (tier_at geo last) run.place)
link_leads geo segment change run last links state start words long is at = rw (links, at.0, at.1) refl

pub may_link : (m : MemSeen) (geo : Geo) (change : Change) (run : Run) (last : ℕ) → PlacesElsewhere geo change run → change.link ≡ true
    → IsInPhase m geo change (IsLastTier last) → MayStore m (tier_at geo last) run.place
may_link m geo change run last places links at =
    may_store_in m geo change (IsLastTier last) (tier_at geo last) run.place at
    (leads_then geo m.setting.segment change (IsLastTier last) (FromBase geo change run IsUntouched) (IsTornFor geo change)
    (λ words. slice_set words (tier_at geo last) run.place) (λ words. length-set words (tier_at geo last) run.place)
    (link_leads geo m.setting.segment change run last links) (untouched_is_torn geo m.setting.segment change run places))

pub last_is_torn : (geo : Geo) (segment : ℕ) (change : Change) (last : ℕ) → LeadsTo geo segment change (IsLastTier last) (IsTornFor geo change) (λ words. words)
last_is_torn geo segment change last state start words long is at = start_is_torn geo segment change state start words long is at.0

-- where no tier is linked nothing is stored
pub unlinked_leads : (geo : Geo) (segment : ℕ) (change : Change) (run : Run) → change.link ≡ false
    → LeadsTo geo segment change IsUntouched (FromBase geo change run IsUntouched) (λ words. words)
unlinked_leads geo segment change run links_not state start words long is same = rw links_not same

-- ---- as parts of a change

pub chain_advances : {M T E : Type 0} {seen : M → MemSeen} {rest : M → M → Type 0} {geo : Geo} {change : Change} {a b : M} {result : Result T E}
    → IsInPhase (seen a) geo change IsUntouched → Loads seen rest a b result
    → Advances seen rest geo change IsUntouched a b result
chain_advances {seen} {rest} {geo} {change} {a} {b} {result} at loads =
    loads_advance seen rest geo change IsUntouched a b result at loads (start_is_torn geo (seen a).setting.segment change)

pub link_advances : {M T E : Type 0} {seen : M → MemSeen} {rest : M → M → Type 0} {geo : Geo} {change : Change} {a b : M} {result : Result T E} {last : ℕ}
    (run : Run)
    → change.link ≡ true → IsInPhase (seen a) geo change (IsLastTier last)
    → StoresOnce seen rest (tier_at geo last) run.place a b result → Advances seen rest geo change (FromBase geo change run IsUntouched) a b result
link_advances {seen} {rest} {geo} {change} {a} {b} {result} {last} run links at store =
    store_advances seen rest geo change (IsLastTier last) (FromBase geo change run IsUntouched) (tier_at geo last) run.place a b result at store
    (link_leads geo (seen a).setting.segment change run last links) (last_is_torn geo (seen a).setting.segment change last)
