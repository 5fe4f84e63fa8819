-- The calls that set or clear the bits of a run, in a phase of a change: which stores they may make, and the phase to which they lead.
use Rattle.std.proofs.Common.{◌≡◌, ℕ, List, [], ◌++◌, length, refl, subst}
use Rattle.std.specs.declared.result.Result.{Result}
use Rattle.std.proofs.lemmas.List.{append-nil}
use Rattle.cm_geo.specs.declared.geo.Geo.{Geo}
use Rattle.cm_geo.specs.Addresses.{words_in_segment}
use Rattle.cm_plain.specs.declared.plan.Run.{Run}
use Rattle.cm_plain.specs.States.{State}
use Rattle.cm_plain.specs.Changes.{Change}
use Rattle.cm_words.specs.Calls.{Performs}
use Rattle.cm_words.specs.Memory.{MemSeen}
use Rattle.cm_words.specs.Stores.{MayStoreEach, WordStore, WritesPrefixEach, after_stores}
use Rattle.cm_chunks.specs.RunBits.{Clears, HasCleared, HasSet, IsRunIn, LeadsCleared, LeadsSet, Sets}
use Rattle.cm_chunks.specs.Turns.{stores_to_clear, stores_to_set}
use Rattle.cm_segment.specs.Frames.{DiffersAt, IsBitOfTier}
use Rattle.cm_segment.specs.Phases.{Advances, IsInPhase, IsStart, IsTornFor, Phase, Reaches}
use Rattle.cm_segment.proofs.Frames.{IsTouchedAt, differs_none, differs_stores}
use Rattle.cm_segment.proofs.Phases.{PrefixesLeadTo, call_as, may_store_each_in, phase_after, phase_prefix_each}
use Rattle.cm_segment.proofs.TouchedWords.{bits_touched, each_front}

-- what is in a phase leads to another one where bits of a tier alone have changed
abbrev pub BitsLeadTo : Geo → ℕ → Change → ℕ → Phase → Phase → Type 0
BitsLeadTo geo segment change index phase later =
    (state : State) (start before words : List ℕ) → length before ≡ words_in_segment geo → IsStart geo segment change start state → phase state start before
    → DiffersAt geo (IsBitOfTier geo index) before words → later state start words

-- ---- cleared bits

clear_differs : (geo : Geo) (run : Run) (words : List ℕ) (made left : List WordStore) → IsRunIn geo run → made ++ left ≡ stores_to_clear geo run words
    → DiffersAt geo (IsBitOfTier geo run.place) words (after_stores words made)
clear_differs geo run words made left at parts = differs_stores geo (IsBitOfTier geo run.place) words words made
    (each_front (λ store. IsTouchedAt geo (IsBitOfTier geo run.place) store.at) made left (stores_to_clear geo run words) parts
    (bits_touched geo (IsBitOfTier geo run.place) run _ at (λ i h. (refl, h)))) (differs_none geo (IsBitOfTier geo run.place) words)

clear_leads : (geo : Geo) (segment : ℕ) (change : Change) (run : Run) (phase later : Phase) → IsRunIn geo run
    → BitsLeadTo geo segment change run.place phase later → PrefixesLeadTo geo segment change phase later (stores_to_clear geo run)
clear_leads geo segment change run phase later at leads state start words made left parts long is here =
    leads state start words (after_stores words made) long is here (clear_differs geo run words made left at parts)

pub may_clear_in : (m : MemSeen) (geo : Geo) (change : Change) (run : Run) (phase : Phase) → IsInPhase m geo change phase → IsRunIn geo run
    → BitsLeadTo geo m.setting.segment change run.place phase (IsTornFor geo change) → MayStoreEach m (stores_to_clear geo run)
may_clear_in m geo change run phase here at torn =
    may_store_each_in m geo change phase (stores_to_clear geo run) here (clear_leads geo m.setting.segment change run phase (IsTornFor geo change) at torn)

pub clear_advances : {M T E : Type 0} (seen : M → MemSeen) (rest : M → M → Type 0) (geo : Geo) (change : Change) (run : Run) (phase later : Phase) (a b : M)
    (result : Result T E)
    → IsInPhase (seen a) geo change phase → IsRunIn geo run
    → Performs seen rest (λ old now. Clears old now geo run) (λ old now. WritesPrefixEach old now (stores_to_clear geo run)) a b result
    → ((state : State) (start before words : List ℕ) → length before
    ≡ words_in_segment geo → IsStart geo (seen a).setting.segment change start state → phase state start before
    → DiffersAt geo (IsBitOfTier geo run.place) before words → HasCleared geo run before words → later state start words)
    → BitsLeadTo geo (seen a).setting.segment change run.place phase (IsTornFor geo change) → Advances seen rest geo change later a b result
clear_advances seen rest geo change run phase later a b result here at call leads torn =
    call_as seen rest (λ old now. Clears old now geo run) (λ old now. WritesPrefixEach old now (stores_to_clear geo run)) (Reaches geo change later)
    (Reaches geo change (IsTornFor geo change)) a b result call
    (λ clears. phase_after (seen a) (seen b) geo change phase later (LeadsCleared (seen a) (seen b) geo run) here clears
    (λ state start before words fits long is was cleared. leads state start before words long is was
    (subst (DiffersAt geo (IsBitOfTier geo run.place) before) cleared.by.leads
    (clear_differs geo run before (stores_to_clear geo run before) [] at (append-nil (stores_to_clear geo run before)))) cleared.has))
    (λ prefix. phase_prefix_each (seen a) (seen b) geo change phase (IsTornFor geo change) (stores_to_clear geo run) here prefix
    (clear_leads geo (seen a).setting.segment change run phase (IsTornFor geo change) at torn))

-- ---- set bits

set_differs : (geo : Geo) (run : Run) (words : List ℕ) (made left : List WordStore) → IsRunIn geo run → made ++ left ≡ stores_to_set geo run words
    → DiffersAt geo (IsBitOfTier geo run.place) words (after_stores words made)
set_differs geo run words made left at parts = differs_stores geo (IsBitOfTier geo run.place) words words made
    (each_front (λ store. IsTouchedAt geo (IsBitOfTier geo run.place) store.at) made left (stores_to_set geo run words) parts
    (bits_touched geo (IsBitOfTier geo run.place) run _ at (λ i h. (refl, h)))) (differs_none geo (IsBitOfTier geo run.place) words)

set_leads : (geo : Geo) (segment : ℕ) (change : Change) (run : Run) (phase later : Phase) → IsRunIn geo run
    → BitsLeadTo geo segment change run.place phase later → PrefixesLeadTo geo segment change phase later (stores_to_set geo run)
set_leads geo segment change run phase later at leads state start words made left parts long is here =
    leads state start words (after_stores words made) long is here (set_differs geo run words made left at parts)

pub may_set_in : (m : MemSeen) (geo : Geo) (change : Change) (run : Run) (phase : Phase) → IsInPhase m geo change phase → IsRunIn geo run
    → BitsLeadTo geo m.setting.segment change run.place phase (IsTornFor geo change) → MayStoreEach m (stores_to_set geo run)
may_set_in m geo change run phase here at torn =
    may_store_each_in m geo change phase (stores_to_set geo run) here (set_leads geo m.setting.segment change run phase (IsTornFor geo change) at torn)

pub set_advances : {M T E : Type 0} (seen : M → MemSeen) (rest : M → M → Type 0) (geo : Geo) (change : Change) (run : Run) (phase later : Phase) (a b : M)
    (result : Result T E)
    → IsInPhase (seen a) geo change phase → IsRunIn geo run
    → Performs seen rest (λ old now. Sets old now geo run) (λ old now. WritesPrefixEach old now (stores_to_set geo run)) a b result
    → ((state : State) (start before words : List ℕ) → length before
    ≡ words_in_segment geo → IsStart geo (seen a).setting.segment change start state → phase state start before
    → DiffersAt geo (IsBitOfTier geo run.place) before words → HasSet geo run before words → later state start words)
    → BitsLeadTo geo (seen a).setting.segment change run.place phase (IsTornFor geo change) → Advances seen rest geo change later a b result
set_advances seen rest geo change run phase later a b result here at call leads torn =
    call_as seen rest (λ old now. Sets old now geo run) (λ old now. WritesPrefixEach old now (stores_to_set geo run)) (Reaches geo change later)
    (Reaches geo change (IsTornFor geo change)) a b result call
    (λ sets. phase_after (seen a) (seen b) geo change phase later (LeadsSet (seen a) (seen b) geo run) here sets
    (λ state start before words fits long is was set. leads state start before words long is was
    (subst (DiffersAt geo (IsBitOfTier geo run.place) before) set.by.leads
    (set_differs geo run before (stores_to_set geo run before) [] at (append-nil (stores_to_set geo run before)))) set.has))
    (λ prefix. phase_prefix_each (seen a) (seen b) geo change phase (IsTornFor geo change) (stores_to_set geo run) here prefix
    (set_leads geo (seen a).setting.segment change run phase (IsTornFor geo change) at torn))
