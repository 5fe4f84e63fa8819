-- The words of the new entry: what their stores may be, and where they lead.
use Rattle.std.proofs.Common.{◌≡◌, ℕ, List, refl, subst, ◌∙◌, arith, Ok, Err, OnOk}
use Rattle.std.specs.List.{AllByRecursion}
use Rattle.std.specs.declared.result.Result.{Result}
use Rattle.cm_geo.specs.declared.geo.Geo.{Geo}
use Rattle.cm_geo.specs.Addresses.{chunk_at}
use Rattle.cm_plain.specs.declared.plan.Run.{Run}
use Rattle.cm_plain.specs.Changes.{Change}
use Rattle.cm_plain.specs.Readings.{HasEntry}
use Rattle.cm_words.specs.Memory.{FitsNotes, MemSeen}
use Rattle.cm_words.specs.Calls.{StoresAll}
use Rattle.cm_words.specs.Stores.{Leads, MayStoreAll, WordStore, after_stores}
use Rattle.cm_entry.specs.EntryStores.{entry_stores}
use Rattle.cm_segment.specs.PlacementBase.{FromBase, PlacesElsewhere, base_words}
use Rattle.cm_segment.specs.Frames.{IsChunkWord}
use Rattle.cm_segment.specs.Phases.{Advances, IsInPhase, IsTornFor}
use Rattle.cm_segment.specs.PlacementStages.{IsEntryWritten, IsRunTaken, IsRunWord, IsWriting}
use Rattle.cm_segment.specs.PlacementStages.IsRunWord.{chunks}
use Rattle.cm_segment.proofs.Frames.{IsTouchedAt, differs_none, differs_stores}
use Rattle.cm_segment.proofs.UntouchedParts.{added_bits_left, counts_left}
use Rattle.cm_segment.proofs.Phases.{LeadsTo, PrefixesLeadTo, may_store_all_in, phase_after, phase_prefix, prefixes_then, whole_leads}
use Rattle.cm_segment.proofs.PlacementTorn.{writing_is_torn}
use Rattle.cm_segment.proofs.TouchedWords.{each_front, entry_touched}

-- the stores of the new entry
abbrev pub new_stores : Geo → Change → Run → List WordStore
new_stores geo change run = entry_stores (chunk_at geo run.place run.chunk) change.key change.value

-- they are at words of its run
new_touched : (geo : Geo) (change : Change) (run : Run) (touched : ℕ → ℕ → Type 0) → PlacesElsewhere geo change run
    → ((offset : ℕ) → IsChunkWord geo run.chunk run.chunks offset → touched run.place offset)
    → AllByRecursion (λ store. IsTouchedAt geo touched store.at) (new_stores geo change run)
new_touched geo change run touched places touches =
    entry_touched geo touched run.place run.chunk run.chunks change.key change.value places.new_in.size places.new_in.run_in.inside touches

new_prefix : (geo : Geo) (segment : ℕ) (change : Change) (run : Run) → PlacesElsewhere geo change run
    → PrefixesLeadTo geo segment change (FromBase geo change run (IsRunTaken geo run)) (FromBase geo change run (λ _. IsWriting geo run))
    (λ _. new_stores geo change run)
new_prefix geo segment change run places state start words made left parts long is taken =
    differs_stores geo (IsRunWord geo run) (base_words geo change run state start) words made
    (each_front _ made left (new_stores geo change run) parts (new_touched geo change run (IsRunWord geo run) places (λ i h. chunks refl h))) taken.writing

new_torn : (geo : Geo) (segment : ℕ) (change : Change) (run : Run) → PlacesElsewhere geo change run
    → PrefixesLeadTo geo segment change (FromBase geo change run (IsRunTaken geo run)) (IsTornFor geo change) (λ _. new_stores geo change run)
new_torn geo segment change run places =
    prefixes_then geo segment change (FromBase geo change run (IsRunTaken geo run)) (FromBase geo change run (λ _. IsWriting geo run)) (IsTornFor geo change)
    (λ _. new_stores geo change run)
    (new_prefix geo segment change run places) (writing_is_torn geo segment change run places)

pub may_write_new : (m : MemSeen) (geo : Geo) (change : Change) (run : Run) → PlacesElsewhere geo change run
    → IsInPhase m geo change (FromBase geo change run (IsRunTaken geo run)) → MayStoreAll m (new_stores geo change run)
may_write_new m geo change run places at =
    may_store_all_in m geo change (FromBase geo change run (IsRunTaken geo run)) (new_stores geo change run) at
    (new_torn geo m.setting.segment change run places)

-- a word of the run's chunks
abbrev IsEntryWord : Geo → Run → ℕ → ℕ → Type 0
IsEntryWord geo run place offset = (place ≡ run.place) × IsChunkWord geo run.chunk run.chunks offset

-- the run stays taken
new_taken : (geo : Geo) (segment : ℕ) (change : Change) (run : Run) → PlacesElsewhere geo change run
    → LeadsTo geo segment change (FromBase geo change run (IsRunTaken geo run)) (FromBase geo change run (IsRunTaken geo run))
    (λ words. after_stores words (new_stores geo change run))
new_taken geo segment change run places state start words long is taken =
    let each = new_touched geo change run (IsEntryWord geo run) places (λ i h. (refl, h)) in
    record {
      writing = whole_leads geo segment change (FromBase geo change run (IsRunTaken geo run)) (FromBase geo change run (λ _. IsWriting geo run))
          (λ _. new_stores geo change run) (new_prefix geo segment change run places) state start words long is taken;
      bits = added_bits_left geo run (IsEntryWord geo run) (base_words geo change run state start) words (after_stores words (new_stores geo change run))
          (differs_stores geo (IsEntryWord geo run) words words (new_stores geo change run) each (differs_none geo (IsEntryWord geo run) words))
          (λ place offset bit h. omega (arith, bit.to, h.1.from)) taken.bits;
      counts = λ at count. counts_left geo run.place (IsEntryWord geo run) words (new_stores geo change run) at count (λ h. omega (arith, h.1.from)) each
          ∙ taken.counts at count;
    }

pub new_writes : {M T E : Type 0} {seen : M → MemSeen} {rest : M → M → Type 0} {geo : Geo} {change : Change} {run : Run} {a b : M} {result : Result T E}
    → PlacesElsewhere geo change run → IsInPhase (seen a) geo change (FromBase geo change run (IsRunTaken geo run))
    → StoresAll seen rest (new_stores geo change run) a b result
    → OnOk result ((words : List ℕ) → FitsNotes (seen b) words → HasEntry geo words run.place run.chunk change.key change.value)
    → Advances seen rest geo change (FromBase geo change run (IsEntryWritten geo change run)) a b result
new_writes {seen} {rest} {geo} {change} {run} {a} {b} {result = Ok value} places at call stands = record {
  rest = call.rest;
  fuse = call.fuse;
  done = phase_after (seen a) (seen b) geo change (FromBase geo change run (IsRunTaken geo run)) (FromBase geo change run (IsEntryWritten geo change run))
      (λ before words. Leads (seen a) (seen b) (new_stores geo change run) before words) at call.done
      (λ state start before words fits long is taken by. record {
        taken = subst (FromBase geo change run (IsRunTaken geo run) state start) by.leads
            (new_taken geo (seen a).setting.segment change run places state start before long is taken);
        stands = stands words fits;
      });
  cut = tt;
}
new_writes {seen} {rest} {geo} {change} {run} {a} {b} {result = Err error} places at call stands = record {
  rest = call.rest;
  fuse = call.fuse;
  done = tt;
  cut = phase_prefix (seen a) (seen b) geo change (FromBase geo change run (IsRunTaken geo run)) (IsTornFor geo change) (new_stores geo change run) at call.cut
      (new_torn geo (seen a).setting.segment change run places);
}
