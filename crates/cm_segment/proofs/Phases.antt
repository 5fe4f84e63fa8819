-- How calls over a memory lead a change from phase to phase, and which stores they may make.
use Rattle.std.proofs.Common.{◌≡◌, ℕ, List, [], ◌∷◌, ◌++◌, length, Option, Some, slice_set, refl, sym, subst, ap, ◌∙◌, append_assoc, Ok, Err}
use Rattle.std.proofs.lemmas.List.{append-nil}
use Rattle.std.specs.declared.result.Result.{Result}
use Rattle.cm_geo.specs.declared.geo.Geo.{Geo}
use Rattle.cm_geo.specs.Addresses.{words_in_segment}
use Rattle.cm_plain.specs.States.{State}
use Rattle.cm_plain.specs.Changes.{Change}
use Rattle.cm_plain.specs.Torn.{Torn}
use Rattle.cm_words.specs.Memory.{FitsNotes, IsAllowed, MayStore, MemSeen, origin}
use Rattle.cm_words.specs.Effects.{Changes, IsAsBefore, Keeps, Reads}
use Rattle.cm_words.specs.declared.access.Access.TheVariants.{Closed, Writable}
use Rattle.cm_words.specs.Calls.{IsReadable, IsWritable, Loads, Performs, StoresOnce}
use Rattle.cm_words.specs.Stores.{Leads, LeadsPrefix, MayStoreAll, MayStoreEach, WordStore, Writes, WritesEach, WritesPrefix, WritesPrefixEach, after_stores, store_at}
use Rattle.cm_words.proofs.CallSequences.{ends_ok}
use Rattle.cm_words.proofs.FittingLists.{reads_reflexive}
use Rattle.cm_words.proofs.ListChanges.{changes_none}
use Rattle.cm_words.proofs.MeterCounts.{survives_reflexive}
use Rattle.cm_words.proofs.StoreLists.{after_stores_append, allows_each}
use Rattle.cm_entry.proofs.WordStores.{after_len}
use Rattle.cm_segment.specs.Phases.{Advances, IsInPhase, IsStart, IsTornFor, KeepsOrigins, Phase, Reaches}

-- what is in a phase, of a list with as many words as a segment, leads to another one
abbrev pub LeadsTo : Geo → ℕ → Change → Phase → Phase → (List ℕ → List ℕ) → Type 0
LeadsTo geo segment change phase later made =
    (state : State) (start words : List ℕ) → length words ≡ words_in_segment geo → IsStart geo segment change start state → phase state start words
    → later state start (made words)

-- so does each prefix of these stores
abbrev pub PrefixesLeadTo : Geo → ℕ → Change → Phase → Phase → (List ℕ → List WordStore) → Type 0
PrefixesLeadTo geo segment change phase later stores =
    (state : State) (start words : List ℕ) (made left : List WordStore) → made ++ left ≡ stores words → length words ≡ words_in_segment geo
    → IsStart geo segment change start state → phase state start words
    → later state start (after_stores words made)

-- the whole of them is one
pub whole_leads : (geo : Geo) (segment : ℕ) (change : Change) (phase later : Phase) (stores : List ℕ → List WordStore)
    → PrefixesLeadTo geo segment change phase later stores → LeadsTo geo segment change phase later (λ words. after_stores words (stores words))
whole_leads geo segment change phase later stores leads state start words long is at =
    leads state start words (stores words) [] (append-nil (stores words)) long is at

-- what leads to a phase leads to all that follows from it
pub leads_then : (geo : Geo) (segment : ℕ) (change : Change) (phase mid later : Phase) (made : List ℕ → List ℕ)
    → ((words : List ℕ) → length (made words) ≡ length words)
    → LeadsTo geo segment change phase mid made → LeadsTo geo segment change mid later (λ words. words) → LeadsTo geo segment change phase later made
leads_then geo segment change phase mid later made same first then state start words long is here =
    then state start (made words) (same words ∙ long) is (first state start words long is here)

pub prefixes_then : (geo : Geo) (segment : ℕ) (change : Change) (phase mid later : Phase) (stores : List ℕ → List WordStore)
    → PrefixesLeadTo geo segment change phase mid stores → LeadsTo geo segment change mid later (λ words. words)
    → PrefixesLeadTo geo segment change phase later stores
prefixes_then geo segment change phase mid later stores first then state start words made left parts long is here =
    then state start (after_stores words made) (after_len words made ∙ long) is (first state start words made left parts long is here)

-- ---- the condition

-- lists that fit have as many words as a segment
pub long_in : (m : MemSeen) (geo : Geo) (words : List ℕ) → IsWritable m geo → FitsNotes m words → length words ≡ words_in_segment geo
long_in m geo words writable fits = fits.are.length_is ∙ ap words_in_segment writable.geo_is

-- the same start, in another memory with the same setting
start_in : (a b : MemSeen) (geo : Geo) (change : Change) (p q : List ℕ) (state : State) → Keeps a b → p ≡ q → IsStart geo b.setting.segment change p state
    → IsStart geo a.setting.segment change q state
start_in a b geo change p q state kept e is =
    subst (λ (start : List ℕ). IsStart geo a.setting.segment change start state) e
    (subst (λ (segment : ℕ). IsStart geo segment change p state) (ap (λ s. s.segment) kept.setting) is)

-- what may be stored in may be loaded from
pub readable_in : (m : MemSeen) (geo : Geo) → IsWritable m geo → IsReadable m geo
readable_in m geo at = record { not_closed = λ closed. (let no : Writable ≡ Closed = sym at.writable ∙ closed in cc no); geo_is = at.geo_is }

pub writable_after : (a b : MemSeen) (geo : Geo) → IsWritable a geo → Keeps a b → IsWritable b geo
writable_after a b geo at kept = record { writable = ap (λ s. s.access) kept.setting ∙ at.writable; geo_is = ap (λ s. s.geo) kept.setting ∙ at.geo_is }

-- what follows from a phase
pub phase_weaker : (m : MemSeen) (geo : Geo) (change : Change) (phase later : Phase) → IsInPhase m geo change phase
    → LeadsTo geo m.setting.segment change phase later (λ words. words) → IsInPhase m geo change later
phase_weaker m geo change phase later at leads = record {
  writable = at.writable;
  plan_is = at.plan_is;
  lists = λ words state fits is. leads state (origin m words) words (long_in m geo words at.writable fits) is (at.lists words state fits is);
}

-- ---- the relation

-- lists that came from lists in a phase
pub phase_after : (a b : MemSeen) (geo : Geo) (change : Change) (phase later : Phase) (Relates : List ℕ → List ℕ → Type 0)
    → IsInPhase a geo change phase → Changes a b Relates
    → ((state : State) (start before words : List ℕ) → FitsNotes b words → length before
    ≡ words_in_segment geo → IsStart geo a.setting.segment change start state → phase state start before → Relates before words → later state start words)
    → Reaches geo change later a b
phase_after a b geo change phase later Relates at changes leads = record {
  here = record {
    writable = writable_after a b geo at.writable changes.keeps;
    plan_is = changes.keeps.plan ∙ at.plan_is;
    lists = λ words state fits is.
        let far = changes.came words fits in
        let is' = start_in a b geo change (origin b words) (origin a far.0) state changes.keeps far.1.origin is in
        subst (λ (start : List ℕ). later state start words) (sym far.1.origin)
        (leads state (origin a far.0) far.0 words fits (long_in a geo far.0 at.writable far.1.fits) is' (at.lists far.0 state far.1.fits is') far.1.relates);
  };
  from = record { setting = changes.keeps.setting; origins = λ words fits. (let far = changes.came words fits in (far.0, far.1.fits, far.1.origin)) };
}

-- loads leave each phase, and lead to all that follows from it
pub phase_loads : (a b : MemSeen) (geo : Geo) (change : Change) (phase later : Phase) → IsInPhase a geo change phase → Reads a b
    → LeadsTo geo a.setting.segment change phase later (λ words. words) → Reaches geo change later a b
phase_loads a b geo change phase later at reads leads =
    phase_after a b geo change phase later (λ before words. words ≡ before) at (changes_none a b (λ before words. words ≡ before) reads (λ words. refl))
    (λ state start before words fits long is here same. subst (later state start) (sym same) (leads state start before long is here))

pub phase_reads : (a b : MemSeen) (geo : Geo) (change : Change) (phase : Phase) → IsInPhase a geo change phase → Reads a b
    → Reaches geo change phase a b
phase_reads a b geo change phase at reads = phase_loads a b geo change phase phase at reads (λ state start words long is here. here)

-- stores lead to another one
pub phase_each : (a b : MemSeen) (geo : Geo) (change : Change) (phase later : Phase) (stores : List ℕ → List WordStore)
    → IsInPhase a geo change phase → WritesEach a b stores
    → LeadsTo geo a.setting.segment change phase later (λ words. after_stores words (stores words)) → Reaches geo change later a b
phase_each a b geo change phase later stores at writes leads =
    phase_after a b geo change phase later (λ before words. Leads a b (stores before) before words) at writes
    (λ state start before words fits long is here by. subst (later state start) by.leads (leads state start before long is here))

pub phase_writes : (a b : MemSeen) (geo : Geo) (change : Change) (phase later : Phase) (stores : List WordStore)
    → IsInPhase a geo change phase → Writes a b stores
    → LeadsTo geo a.setting.segment change phase later (λ words. after_stores words stores) → Reaches geo change later a b
phase_writes a b geo change phase later stores at writes leads = phase_each a b geo change phase later (λ _. stores) at writes leads

-- and so does a prefix of them
pub phase_prefix_each : (a b : MemSeen) (geo : Geo) (change : Change) (phase later : Phase) (stores : List ℕ → List WordStore)
    → IsInPhase a geo change phase → WritesPrefixEach a b stores
    → PrefixesLeadTo geo a.setting.segment change phase later stores → Reaches geo change later a b
phase_prefix_each a b geo change phase later stores at writes leads =
    phase_after a b geo change phase later (λ before words. LeadsPrefix a b (stores before) before words) at writes
    (λ state start before words fits long is here part. subst (later state start) part.by.leads
    (leads state start before part.made part.left part.parts long is here))

pub phase_prefix : (a b : MemSeen) (geo : Geo) (change : Change) (phase later : Phase) (stores : List WordStore)
    → IsInPhase a geo change phase → WritesPrefix a b stores
    → PrefixesLeadTo geo a.setting.segment change phase later (λ _. stores) → Reaches geo change later a b
phase_prefix a b geo change phase later stores at prefix leads =
    phase_writes a b geo change phase later prefix.made at prefix.writes
    (λ state start words long is here. leads state start words prefix.made prefix.left prefix.parts long is here)

-- one phase after another
pub reaches_then : (a b c : MemSeen) (geo : Geo) (change : Change) (first phase : Phase) → Reaches geo change first a b
    → Reaches geo change phase b c → Reaches geo change phase a c
reaches_then a b c geo change first phase p q = record {
  here = q.here;
  from = record {
    setting = q.from.setting ∙ p.from.setting;
    origins = λ words fits. (let mid = q.from.origins words fits in let far = p.from.origins mid.0 mid.1 in (far.0, far.1, mid.2 ∙ far.2));
  };
}

pub reaches_weaker : (a b : MemSeen) (geo : Geo) (change : Change) (phase later : Phase) → Reaches geo change phase a b
    → LeadsTo geo b.setting.segment change phase later (λ words. words) → Reaches geo change later a b
reaches_weaker a b geo change phase later p leads = record { here = phase_weaker b geo change phase later p.here leads; from = p.from }

-- what a phase says of the start alone stays
pub phase_of_start : (a b : MemSeen) (geo : Geo) (change : Change) (phase : Phase)
    → ((state : State) (start words later : List ℕ) → phase state start words → phase state start later)
    → IsInPhase a geo change phase → IsWritable b geo → b.plan ≡ Some change → KeepsOrigins a b → IsInPhase b geo change phase
phase_of_start a b geo change phase alone at writable plan_is from = record {
  writable = writable;
  plan_is = plan_is;
  lists = λ words state fits is.
      let far = from.origins words fits in
      let is' = subst (λ (segment : ℕ). IsStart geo segment change (origin b words) state) (ap (λ s. s.segment) from.setting) is in
      let is'' = subst (λ (start : List ℕ). IsStart geo a.setting.segment change start state) far.2 is' in
      subst (λ (start : List ℕ). phase state start words) (sym far.2) (alone state (origin a far.0) far.0 words (at.lists far.0 state far.1 is''));
}

-- two phases together
pub phase_both : (m : MemSeen) (geo : Geo) (change : Change) (one other : Phase) → IsInPhase m geo change one
    → IsInPhase m geo change other
    → IsInPhase m geo change (λ state start words. one state start words × other state start words)
phase_both m geo change one other p q =
    record { writable = p.writable; plan_is = p.plan_is; lists = λ words state fits is. (p.lists words state fits is, q.lists words state fits is) }

-- ---- which stores may be made

-- a list is allowed where it is torn for each state that the change started from
pub allowed_in : (m : MemSeen) (geo : Geo) (change : Change) (start words later : List ℕ) → IsWritable m geo → m.plan ≡ Some change
    → ((state : State) → IsStart geo m.setting.segment change start state → Torn geo later state change) → IsAllowed m.setting m.plan start words later
allowed_in m geo change start words later writable plan_is torn =
    subst (λ (p : Option Change). IsAllowed m.setting p start words later) (sym plan_is)
    (λ guarded state at. subst (λ (g : Geo). Torn g later state change) (sym writable.geo_is)
    (torn state (subst (λ (g : Geo). IsStart g m.setting.segment change start state) writable.geo_is (record { planned = at.planned; rests = at.rests }))))

-- one store
pub may_store_in : (m : MemSeen) (geo : Geo) (change : Change) (phase : Phase) (at word : ℕ) → IsInPhase m geo change phase
    → LeadsTo geo m.setting.segment change phase (IsTornFor geo change) (λ words. slice_set words at word) → MayStore m at word
may_store_in m geo change phase at word here leads words fits =
    allowed_in m geo change (origin m words) words (slice_set words at word) here.writable here.plan_is
    (λ state is. leads state (origin m words) words (long_in m geo words here.writable fits) is (here.lists words state fits is))

-- stores, each of them after those before it
pub may_store_each_in : (m : MemSeen) (geo : Geo) (change : Change) (phase : Phase) (stores : List ℕ → List WordStore)
    → IsInPhase m geo change phase
    → PrefixesLeadTo geo m.setting.segment change phase (IsTornFor geo change) stores → MayStoreEach m stores
may_store_each_in m geo change phase stores here leads words fits =
    allows_each m.setting m.plan (origin m words) words (stores words) (λ made left at word e.
    allowed_in m geo change (origin m words) (after_stores words made) (slice_set (after_stores words made) at word) here.writable here.plan_is (λ state is.
    subst (λ (later : List ℕ). Torn geo later state change) (after_stores_append words made (store_at at word ∷ []))
    (leads state (origin m words) words (made ++ store_at at word ∷ []) left (append_assoc made (store_at at word ∷ []) left ∙ e)
    (long_in m geo words here.writable fits) is (here.lists words state fits is))))

pub may_store_all_in : (m : MemSeen) (geo : Geo) (change : Change) (phase : Phase) (stores : List WordStore)
    → IsInPhase m geo change phase
    → PrefixesLeadTo geo m.setting.segment change phase (IsTornFor geo change) (λ _. stores) → MayStoreAll m stores
may_store_all_in m geo change phase stores here leads = may_store_each_in m geo change phase (λ _. stores) here leads

-- one store, of what is made of the list
pub may_store_one_in : (m : MemSeen) (geo : Geo) (change : Change) (phase : Phase) (at : ℕ) (make : List ℕ → ℕ)
    → IsInPhase m geo change phase
    → LeadsTo geo m.setting.segment change phase (IsTornFor geo change) (λ words. slice_set words at (make words))
    → MayStoreEach m (λ words. store_at at (make words) ∷ [])
may_store_one_in m geo change phase at make here leads words fits = (
  allowed_in m geo change (origin m words) words (slice_set words at (make words)) here.writable here.plan_is
      (λ state is. leads state (origin m words) words (long_in m geo words here.writable fits) is (here.lists words state fits is)),
  tt,
)

-- ---- calls

-- a call that does this, in other words
pub call_as : {M T E : Type 0} (seen : M → MemSeen) (rest : M → M → Type 0) (Done Cut All Part : MemSeen → MemSeen → Type 0) (a b : M) (result : Result T E)
    → Performs seen rest Done Cut a b result
    → (Done (seen a) (seen b) → All (seen a) (seen b)) → (Cut (seen a) (seen b) → Part (seen a) (seen b)) → Performs seen rest All Part a b result
call_as seen rest Done Cut All Part a b (Ok value) p all part = record { rest = p.rest; fuse = p.fuse; done = all p.done; cut = tt }
call_as seen rest Done Cut All Part a b (Err error) p all part = record { rest = p.rest; fuse = p.fuse; done = tt; cut = part p.cut }

-- nothing was done
pub advances_none : {M T E : Type 0} (seen : M → MemSeen) (rest : M → M → Type 0) (geo : Geo) (change : Change) (phase : Phase) (a : M) (value : T)
    → rest a a → IsInPhase (seen a) geo change phase
    → Advances {T = T} {E = E} seen rest geo change phase a a (Ok value)
advances_none seen rest geo change phase a value same here =
    ends_ok seen rest (Reaches geo change phase) (Reaches geo change (IsTornFor geo change)) a a value (record {
      rest = same;
      survives = survives_reflexive (seen a).meter;
      done = phase_reads (seen a) (seen a) geo change phase here (reads_reflexive (seen a));
    })

-- loads are a part of a change in each phase whose words are torn
pub loads_advance : {M T E : Type 0} (seen : M → MemSeen) (rest : M → M → Type 0) (geo : Geo) (change : Change) (phase : Phase) (a b : M) (result : Result T E)
    → IsInPhase (seen a) geo change phase → Loads seen rest a b result
    → LeadsTo geo (seen a).setting.segment change phase (IsTornFor geo change) (λ words. words) → Advances seen rest geo change phase a b result
loads_advance seen rest geo change phase a b result here loads torn =
    call_as seen rest Reads Reads (Reaches geo change phase) (Reaches geo change (IsTornFor geo change)) a b result loads
    (phase_reads (seen a) (seen b) geo change phase here) (λ reads. phase_loads (seen a) (seen b) geo change phase (IsTornFor geo change) here reads torn)

-- one store leads to the next phase
pub store_advances : {M T E : Type 0} (seen : M → MemSeen) (rest : M → M → Type 0) (geo : Geo) (change : Change) (phase later : Phase) (at word : ℕ) (a b : M)
    (result : Result T E)
    → IsInPhase (seen a) geo change phase → StoresOnce seen rest at word a b result
    → LeadsTo geo (seen a).setting.segment change phase later (λ words. slice_set words at word)
    → LeadsTo geo (seen a).setting.segment change phase (IsTornFor geo change) (λ words. words) → Advances seen rest geo change later a b result
store_advances seen rest geo change phase later at word a b result here store leads torn =
    call_as seen rest (λ old now. Writes old now (store_at at word ∷ [])) IsAsBefore (Reaches geo change later)
    (Reaches geo change (IsTornFor geo change)) a b result store.call
    (λ writes. phase_writes (seen a) (seen b) geo change phase later (store_at at word ∷ []) here writes leads)
    (λ same. phase_loads (seen a) (seen b) geo change phase (IsTornFor geo change) here same.reads torn)

-- so do stores for each list, of which none was made where an event died
pub stores_advance : {M T E : Type 0} (seen : M → MemSeen) (rest : M → M → Type 0) (geo : Geo) (change : Change) (phase later : Phase)
    (stores : List ℕ → List WordStore) (a b : M) (result : Result T E)
    → IsInPhase (seen a) geo change phase → Performs seen rest (λ old now. WritesEach old now stores) Reads a b result
    → LeadsTo geo (seen a).setting.segment change phase later (λ words. after_stores words (stores words))
    → LeadsTo geo (seen a).setting.segment change phase (IsTornFor geo change) (λ words. words) → Advances seen rest geo change later a b result
stores_advance seen rest geo change phase later stores a b result here call leads torn =
    call_as seen rest (λ old now. WritesEach old now stores) Reads (Reaches geo change later) (Reaches geo change (IsTornFor geo change)) a b result call
    (λ writes. phase_each (seen a) (seen b) geo change phase later stores here writes leads)
    (λ reads. phase_loads (seen a) (seen b) geo change phase (IsTornFor geo change) here reads torn)
