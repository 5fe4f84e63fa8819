-- What is kept of slots whose entries have runs apart: one entry of each key that a slot reads, and no run is in the way of another.
use Rattle.std.proofs.Common.{◌≡◌, ◌≢◌, ℕ, ◌⊎◌, Bool, true, false, List, [], ◌∷◌, refl, sym, subst, ◌∙◌, inl, inr}
use Rattle.std.specs.List.{AllByRecursion, fold, list_any}
use Rattle.std.specs.Str.{bytes_eq}
use Rattle.std.proofs.lemmas.Bool.{cases_Bool}
use Rattle.std.proofs.lemmas.Slice.Eq.{bytes_eq-Decides}
use Rattle.cm_geo.specs.declared.geo.Geo.{Geo}
use Rattle.cm_plain.specs.declared.placed.Placed.{Placed}
use Rattle.cm_plain.specs.States.{chunks_of}
use Rattle.cm_plain.specs.Rooms.{meets}
use Rattle.cm_plain.proofs.Each.{Pairs, each_append, each_both, each_fails, each_weaker}
use Rattle.cm_plain.proofs.Apart.{IsApart, Rising, apart_not_met, apart_starts, rising_with}
use Rattle.cm_plain.proofs.Placements.{each_with, keys_with}
use Rattle.cm_plain.proofs.States.{Differs}
use Rattle.cm_plain.proofs.ListElements.{In, in_has, none_any, some_any}
use Rattle.cm_plain.proofs.EntrySets.{in_with, stays_with}
use Rattle.cm_recover.specs.declared.cause.Cause.{Cause}
use Rattle.cm_recover.specs.declared.cause.Cause.TheVariants as cause
use Rattle.cm_recover.specs.OccupiedSlots.{OccupiedSlot}
use Rattle.cm_recover.specs.Judgements.{Judgement, is_dropped, is_kept, judgement_beside}
use Rattle.cm_recover.specs.KeptSlots.{KeptEntries, kept_with}
use Rattle.cm_recover.specs.Laws.{IsCauseOfTorn}

-- What is kept is sound: its entries may be kept, they stand in the order of their runs and have different keys, and drops are for the causes
-- of torn words.
pub record IsSound (geo : Geo) (May : Placed → Type 0) (kept : KeptEntries) : Type 0 where
  pub may : AllByRecursion May kept.entries
  pub rising : Pairs (Rising geo) kept.entries
  pub keys : Pairs Differs kept.entries
  pub drops : AllByRecursion IsCauseOfTorn kept.drops

-- an entry with this key is kept
pub record HasKey (kept : KeptEntries) (key : List ℕ) : Type 0 where
  pub placed : Placed
  pub is_in : In placed kept.entries
  pub key_is : placed.key ≡ key

-- more is kept than before, and it is sound
pub record IsMore (geo : Geo) (May : Placed → Type 0) (before later : KeptEntries) : Type 0 where
  pub sound : IsSound geo May later
  pub stays : (placed : Placed) → In placed before.entries → In placed later.entries

-- entries of different keys that may be kept have runs apart
abbrev pub AreAlone : Geo → (Placed → Type 0) → Type 0
AreAlone geo May = (one other : Placed) → May one → May other → one.key ≢ other.key → IsApart geo one other

-- one more drop
dropped : (geo : Geo) (May : Placed → Type 0) (kept : KeptEntries) (why : Cause) → IsSound geo May kept → IsCauseOfTorn why → IsMore geo May kept (kept_with geo kept (is_dropped why))
dropped geo May kept why sound is = record {
  sound = record { may = sound.may; rising = sound.rising; keys = sound.keys; drops = each_append IsCauseOfTorn kept.drops (why ∷ []) sound.drops (is, tt) };
  stays = λ placed i. i;
}

-- entries of other keys
abbrev pub AreOthers : Placed → List Placed → Type 0
AreOthers placed entries = AllByRecursion (λ other. other.key ≢ placed.key) entries

apart_from : (geo : Geo) (May : Placed → Type 0) (kept : KeptEntries) (placed : Placed) → AreAlone geo May → IsSound geo May kept → May placed → AreOthers placed kept.entries
    → AllByRecursion (λ other. IsApart geo other placed) kept.entries
apart_from geo May kept placed alone sound may others =
    each_both May (λ other. other.key ≢ placed.key) (λ other. IsApart geo other placed) (λ other m ne. alone other placed m may ne) kept.entries sound.may others

-- an entry of a new key is kept
pub judgement_new : (geo : Geo) (May : Placed → Type 0) (kept : KeptEntries) (placed : Placed) → AreAlone geo May → IsSound geo May kept → May placed → AreOthers placed kept.entries
    → judgement_beside geo kept.entries placed ≡ is_kept placed
judgement_new geo May kept placed alone sound may others =
    let new : list_any (λ other. bytes_eq other.key placed.key) kept.entries ≡ false =
    none_any (λ other. bytes_eq other.key placed.key) kept.entries (each_weaker (λ other. other.key ≢ placed.key) (λ other. bytes_eq other.key placed.key ≡ false) (λ other ne. differs other.key placed.key ne) kept.entries others) in
    let free : list_any (meets geo placed.place placed.chunk (chunks_of geo placed)) kept.entries ≡ false =
    none_any (meets geo placed.place placed.chunk (chunks_of geo placed)) kept.entries
    (each_weaker (λ other. IsApart geo other placed) (λ other. meets geo placed.place placed.chunk (chunks_of geo placed) other ≡ false) (λ other a. apart_not_met geo placed other a) kept.entries (apart_from geo May kept placed alone sound may others)) in
    rw (new, free) refl
  where
    differs : (a b : List ℕ) → a ≢ b → bytes_eq a b ≡ false
    differs a b ne = elim (cases_Bool (bytes_eq a b)) [
      | inl same ↦ absurd (ne ((bytes_eq-Decides a b).0 same))
      | inr other ↦ other
    ]

-- and what is kept is sound with it
pub more_new : (geo : Geo) (May : Placed → Type 0) (kept : KeptEntries) (placed : Placed) → AreAlone geo May → IsSound geo May kept → May placed → AreOthers placed kept.entries
    → IsMore geo May kept (kept_with geo kept (is_kept placed))
more_new geo May kept placed alone sound may others =
    let apart = apart_from geo May kept placed alone sound may others in
    record {
      sound = record {
        may = each_with geo May placed kept.entries sound.may may;
        rising = rising_with geo placed kept.entries sound.rising apart;
        keys = keys_with geo placed kept.entries sound.keys others;
        drops = sound.drops;
      };
      stays = λ other i. stays_with geo placed kept.entries other (apart_starts geo placed other (has_apart other i apart)) i;
    }
  where
    has_apart : (other : Placed) → In other kept.entries → AllByRecursion (λ other. IsApart geo other placed) kept.entries → IsApart geo other placed
    has_apart other i apart = in_has (λ other. IsApart geo other placed) kept.entries other apart i

-- one more slot that reads an entry
record Reads (geo : Geo) (May : Placed → Type 0) (before later : KeptEntries) (placed : Placed) : Type 0 where
  more : IsMore geo May before later
  has : HasKey later placed.key

reads_more : (geo : Geo) (May : Placed → Type 0) (kept : KeptEntries) (placed : Placed) → AreAlone geo May → IsSound geo May kept → May placed
    → Reads geo May kept (kept_with geo kept (judgement_beside geo kept.entries placed)) placed
reads_more geo May kept placed alone sound may = elim (cases_Bool (list_any (λ other. bytes_eq other.key placed.key) kept.entries)) [
  | inl there ↦
      (let one = some_any (λ other. bytes_eq other.key placed.key) kept.entries there in
      let is : judgement_beside geo kept.entries placed ≡ is_dropped cause.Duplicate = rw there refl in
      subst (λ (v : Judgement). Reads geo May kept (kept_with geo kept v) placed) (sym is) (record {
        more = dropped geo May kept cause.Duplicate sound tt;
        has = record { placed = one.0; is_in = one.1; key_is = (bytes_eq-Decides one.0.key placed.key).0 one.2 };
      }))
  | inr none ↦
      (let others : AreOthers placed kept.entries =
      each_weaker (λ other. bytes_eq other.key placed.key ≡ false) (λ other. other.key ≢ placed.key) (λ other fails same. clash (bytes_eq other.key placed.key) ((bytes_eq-Decides other.key placed.key).1 same) fails) kept.entries
      (each_fails (λ other. bytes_eq other.key placed.key) kept.entries none) in
      subst (λ (v : Judgement). Reads geo May kept (kept_with geo kept v) placed) (sym (judgement_new geo May kept placed alone sound may others)) (record {
        more = more_new geo May kept placed alone sound may others;
        has = record { placed = placed; is_in = in_with geo placed kept.entries; key_is = refl };
      }))
]
  where
    clash : (b : Bool) → b ≡ true → b ≡ false → ⊥
    clash b one other = cc (sym one ∙ other)

-- A judge of slots: where a slot is of an entry, that may be kept, and it is unless its key was kept already.
pub record IsJudge (geo : Geo) (judge : List Placed → OccupiedSlot → Judgement) (May : Placed → Type 0) (Of : OccupiedSlot → Placed → Type 0) : Type 0 where
  pub alone : AreAlone geo May
  pub may : (at : OccupiedSlot) (placed : Placed) → Of at placed → May placed
  pub beside : (at : OccupiedSlot) (placed : Placed) (kept : List Placed) → Of at placed → judge kept at ≡ judgement_beside geo kept placed

-- a slot is dropped, whatever was kept before
pub record IsDropped (judge : List Placed → OccupiedSlot → Judgement) (at : OccupiedSlot) : Type 0 where
  pub why : Cause
  pub of_torn : IsCauseOfTorn why
  pub is : (kept : List Placed) → judge kept at ≡ is_dropped why

-- a slot is of an entry, or it is dropped
abbrev pub IsJudged : (List Placed → OccupiedSlot → Judgement) → (OccupiedSlot → Placed → Type 0) → OccupiedSlot → Type 0
IsJudged judge Of at = ((placed : Placed) × Of at placed) ⊎ IsDropped judge at

-- what is kept of slots, one after the other
abbrev pub kept_by : Geo → (List Placed → OccupiedSlot → Judgement) → KeptEntries → List OccupiedSlot → KeptEntries
kept_by geo judge before slots = fold (λ kept at. kept_with geo kept (judge kept.entries at)) before slots

-- it is more, and has the key of each entry that a slot is of
pub record IsKeeping (geo : Geo) (May : Placed → Type 0) (Of : OccupiedSlot → Placed → Type 0) (before : KeptEntries) (slots : List OccupiedSlot) (later : KeptEntries) : Type 0 where
  pub more : IsMore geo May before later
  pub has : (at : OccupiedSlot) (placed : Placed) → In at slots → Of at placed → HasKey later placed.key

-- one slot more
of_more : (geo : Geo) (judge : List Placed → OccupiedSlot → Judgement) (May : Placed → Type 0) (Of : OccupiedSlot → Placed → Type 0) (kept : KeptEntries) (at : OccupiedSlot) (placed : Placed)
    → IsJudge geo judge May Of → IsSound geo May kept → Of at placed → Reads geo May kept (kept_with geo kept (judge kept.entries at)) placed
of_more geo judge May Of kept at placed is sound of =
    subst (λ (v : Judgement). Reads geo May kept (kept_with geo kept v) placed) (sym (is.beside at placed kept.entries of)) (reads_more geo May kept placed is.alone sound (is.may at placed of))

one_more : (geo : Geo) (judge : List Placed → OccupiedSlot → Judgement) (May : Placed → Type 0) (Of : OccupiedSlot → Placed → Type 0) (kept : KeptEntries) (at : OccupiedSlot)
    → IsJudge geo judge May Of → IsSound geo May kept → IsJudged judge Of at → IsMore geo May kept (kept_with geo kept (judge kept.entries at))
one_more geo judge May Of kept at is sound (inl of) = (of_more geo judge May Of kept at of.0 is sound of.1).more
one_more geo judge May Of kept at is sound (inr drop) =
    subst (λ (v : Judgement). IsMore geo May kept (kept_with geo kept v)) (sym (drop.is kept.entries)) (dropped geo May kept drop.why sound drop.of_torn)

pub keeps : (geo : Geo) (judge : List Placed → OccupiedSlot → Judgement) (May : Placed → Type 0) (Of : OccupiedSlot → Placed → Type 0) (before : KeptEntries) (slots : List OccupiedSlot)
    → IsJudge geo judge May Of → IsSound geo May before → AllByRecursion (IsJudged judge Of) slots → IsKeeping geo May Of before slots (kept_by geo judge before slots)
keeps geo judge May Of before [] is sound judged = record { more = record { sound = sound; stays = λ placed i. i }; has = λ at placed i of. absurd i }
keeps geo judge May Of before (at ∷ slots) is sound judged =
    let next : KeptEntries = kept_with geo before (judge before.entries at) in
    let more = one_more geo judge May Of before at is sound judged.0 in
    let later = keeps geo judge May Of next slots is more.sound judged.1 in
    record {
      more = record { sound = later.more.sound; stays = λ placed i. later.more.stays placed (more.stays placed i) };
      has = has_each next (kept_by geo judge next slots) later refl;
    }
  where
    has_each : (next later : KeptEntries) → IsKeeping geo May Of next slots later → kept_with geo before (judge before.entries at) ≡ next
        → (at' : OccupiedSlot) (placed : Placed) → In at' (at ∷ slots) → Of at' placed → HasKey later placed.key
    has_each next later is_later e at' placed (inl same) of =
        let here = (of_more geo judge May Of before at placed is sound (subst (λ (o : OccupiedSlot). Of o placed) same of)).has in
        let has : HasKey next placed.key = subst (λ (k : KeptEntries). HasKey k placed.key) e here in
        record { placed = has.placed; is_in = is_later.more.stays has.placed has.is_in; key_is = has.key_is }
    has_each next later is_later e at' placed (inr i) of = is_later.has at' placed i of
