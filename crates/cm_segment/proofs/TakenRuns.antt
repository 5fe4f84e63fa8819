-- The bits of the new run: what their stores may be, and where they lead.
use Rattle.std.proofs.Common.{◌≡◌, ℕ, List, [], length, refl, ap, subst, ◌∙◌, arith}
use Rattle.std.specs.declared.result.Result.{Result}
use Rattle.std.proofs.lemmas.List.{append-nil}
use Rattle.cm_geo.specs.declared.geo.Geo.{Geo}
use Rattle.cm_geo.specs.Addresses.{words_in_segment}
use Rattle.cm_plain.specs.declared.plan.Run.{Run}
use Rattle.cm_plain.specs.States.{State}
use Rattle.cm_plain.specs.Changes.{Change}
use Rattle.cm_plain.specs.Slots.{word_at}
use Rattle.cm_words.specs.Memory.{MemSeen}
use Rattle.cm_words.specs.Calls.{Performs}
use Rattle.cm_words.specs.Stores.{MayStoreEach, WritesPrefixEach}
use Rattle.cm_chunks.specs.RunBits.{LeadsSet, Sets}
use Rattle.cm_chunks.specs.Turns.{stores_to_set}
use Rattle.cm_segment.specs.PlacementBase.{FromBase, PlacesElsewhere, base_words}
use Rattle.cm_segment.specs.Frames.{DiffersAt, IsBitOfTier}
use Rattle.cm_segment.specs.Phases.{Advances, IsInPhase, IsStart, IsTornFor, IsUntouched, Reaches}
use Rattle.cm_segment.specs.PlacementStages.{AddsBits, IsRunTaken, IsRunWord, IsWriting}
use Rattle.cm_segment.specs.PlacementStages.IsRunWord.{bits}
use Rattle.cm_segment.proofs.Frames.{differs_none, differs_stores}
use Rattle.cm_segment.proofs.UntouchedParts.{counts_left}
use Rattle.cm_segment.proofs.Phases.{PrefixesLeadTo, call_as, may_store_each_in, phase_after, phase_prefix_each, prefixes_then}
use Rattle.cm_segment.proofs.PlacementTorn.{writing_is_torn}
use Rattle.cm_segment.proofs.TouchedWords.{bits_touched, each_front}

-- a prefix of the stores writes words of the run
set_prefix : (geo : Geo) (segment : ℕ) (change : Change) (run : Run) → PlacesElsewhere geo change run
    → PrefixesLeadTo geo segment change (FromBase geo change run IsUntouched) (FromBase geo change run (λ _. IsWriting geo run)) (stores_to_set geo run)
set_prefix geo segment change run places state start words made left parts long is same =
    differs_stores geo (IsRunWord geo run) (base_words geo change run state start) words made
    (each_front _ made left (stores_to_set geo run words) parts (bits_touched geo (IsRunWord geo run) run _ places.new_in.run_in (λ i h. bits refl h)))
    (subst (λ (s : List ℕ). DiffersAt geo (IsRunWord geo run) s words) same (differs_none geo (IsRunWord geo run) words))

set_torn : (geo : Geo) (segment : ℕ) (change : Change) (run : Run) → PlacesElsewhere geo change run
    → PrefixesLeadTo geo segment change (FromBase geo change run IsUntouched) (IsTornFor geo change) (stores_to_set geo run)
set_torn geo segment change run places =
    prefixes_then geo segment change (FromBase geo change run IsUntouched) (FromBase geo change run (λ _. IsWriting geo run)) (IsTornFor geo change)
    (stores_to_set geo run)
    (set_prefix geo segment change run places) (writing_is_torn geo segment change run places)

pub may_take : (m : MemSeen) (geo : Geo) (change : Change) (run : Run) → PlacesElsewhere geo change run
    → IsInPhase m geo change (FromBase geo change run IsUntouched) → MayStoreEach m (stores_to_set geo run)
may_take m geo change run places at =
    may_store_each_in m geo change (FromBase geo change run IsUntouched) (stores_to_set geo run) at (set_torn geo m.setting.segment change run places)

run_taken : (a b : MemSeen) (geo : Geo) (segment : ℕ) (change : Change) (run : Run) → PlacesElsewhere geo change run
    → (state : State) (start before words : List ℕ) → length before ≡ words_in_segment geo → IsStart geo segment change start state
    → FromBase geo change run IsUntouched state start before → LeadsSet a b geo run before words
    → FromBase geo change run (IsRunTaken geo run) state start words
run_taken a b geo segment change run places state start before words long is same set = record {
  writing = subst (DiffersAt geo (IsRunWord geo run) (base_words geo change run state start)) set.by.leads
      (set_prefix geo segment change run places state start before (stores_to_set geo run before) [] (append-nil (stores_to_set geo run before)) long is same);
  bits = subst (λ (s : List ℕ). AddsBits geo run s words) same set.has.bits;
  counts = λ at count. subst (λ (w : List ℕ). word_at w at ≡ word_at (base_words geo change run state start) at) set.by.leads
      (counts_left geo run.place (IsBitOfTier geo run.place) before (stores_to_set geo run before) at count (λ h. omega (arith, h.1.from))
      (bits_touched geo (IsBitOfTier geo run.place) run _ places.new_in.run_in (λ i h. (refl, h)))
      ∙ ap (λ (w : List ℕ). word_at w at) same);
}

pub run_takes : {M T E : Type 0} {seen : M → MemSeen} {rest : M → M → Type 0} {geo : Geo} {change : Change} {run : Run} {a b : M} {result : Result T E}
    → PlacesElsewhere geo change run → IsInPhase (seen a) geo change (FromBase geo change run IsUntouched)
    → Performs seen rest (λ old now. Sets old now geo run) (λ old now. WritesPrefixEach old now (stores_to_set geo run)) a b result
    → Advances seen rest geo change (FromBase geo change run (IsRunTaken geo run)) a b result
run_takes {seen} {rest} {geo} {change} {run} {a} {b} {result} places at call =
    call_as seen rest (λ old now. Sets old now geo run) (λ old now. WritesPrefixEach old now (stores_to_set geo run))
    (Reaches geo change (FromBase geo change run (IsRunTaken geo run))) (Reaches geo change (IsTornFor geo change)) a b result call
    (λ sets. phase_after (seen a) (seen b) geo change (FromBase geo change run IsUntouched) (FromBase geo change run (IsRunTaken geo run))
    (LeadsSet (seen a) (seen b) geo run) at sets
    (λ state start before words fits long is same set. run_taken (seen a) (seen b) geo
    (seen a).setting.segment change run places state start before words long is same set))
    (λ prefix. phase_prefix_each (seen a) (seen b) geo change (FromBase geo change run IsUntouched) (IsTornFor geo change) (stores_to_set geo run) at prefix
    (set_torn geo (seen a).setting.segment change run places))
