-- Slots of entries with different keys are all kept.
use Rattle.std.proofs.Common.{◌≡◌, ◌≢◌, List, [], ◌∷◌, refl, sym, subst, ◌∙◌}
use Rattle.std.specs.List.{AllByRecursion}
use Rattle.cm_geo.specs.declared.geo.Geo.{Geo}
use Rattle.cm_plain.specs.declared.placed.Placed.{Placed}
use Rattle.cm_plain.proofs.Each.{Pairs, each_both}
use Rattle.cm_plain.proofs.Placements.{each_with}
use Rattle.cm_recover.specs.OccupiedSlots.{OccupiedSlot}
use Rattle.cm_recover.specs.Judgements.{Judgement, is_kept}
use Rattle.cm_recover.specs.KeptSlots.{KeptEntries, kept_with}
use Rattle.cm_recover.proofs.KeptSlots.{AreOthers, IsJudge, IsSound, kept_by, more_new, judgement_new}

-- slots of two entries have two keys
abbrev pub AreOfKeys : (OccupiedSlot → Placed → Type 0) → OccupiedSlot → OccupiedSlot → Type 0
AreOfKeys Of at other = (one two : Placed) → Of at one → Of other two → one.key ≢ two.key

-- no entry that is kept has the key of the slot's entry
abbrev IsNew : (OccupiedSlot → Placed → Type 0) → List Placed → OccupiedSlot → Type 0
IsNew Of entries at = (placed : Placed) → Of at placed → AreOthers placed entries

none_dropped : (geo : Geo) (judge : List Placed → OccupiedSlot → Judgement) (May : Placed → Type 0) (Of : OccupiedSlot → Placed → Type 0) (before : KeptEntries) (slots : List OccupiedSlot)
    → IsJudge geo judge May Of → IsSound geo May before → AllByRecursion (λ at. (placed : Placed) × Of at placed) slots → Pairs (AreOfKeys Of) slots → AllByRecursion (IsNew Of before.entries) slots
    → (kept_by geo judge before slots).drops ≡ before.drops
none_dropped geo judge May Of before [] is sound of differ new = refl
none_dropped geo judge May Of before (at ∷ slots) is sound of differ new =
    let placed : Placed = of.0.0 in
    let may : May placed = is.may at placed of.0.1 in
    let others : AreOthers placed before.entries = new.0 placed of.0.1 in
    let kept_is : judge before.entries at ≡ is_kept placed = is.beside at placed before.entries of.0.1 ∙ judgement_new geo May before placed is.alone sound may others in
    let more = more_new geo May before placed is.alone sound may others in
    let next : KeptEntries = kept_with geo before (is_kept placed) in
    let later : (kept_by geo judge next slots).drops ≡ before.drops =
    none_dropped geo judge May Of next slots is more.sound of.1 differ.1
    (each_both (AreOfKeys Of at) (IsNew Of before.entries) (IsNew Of next.entries)
    (λ other keys fresh two of'. each_with geo (λ it. it.key ≢ two.key) placed before.entries (fresh two of') (keys placed two of.0.1 of')) slots differ.0 new.1) in
    subst (λ (v : Judgement). (kept_by geo judge (kept_with geo before v) slots).drops ≡ before.drops) (sym kept_is) later

-- none of them is dropped
pub all_kept : (geo : Geo) (judge : List Placed → OccupiedSlot → Judgement) (May : Placed → Type 0) (Of : OccupiedSlot → Placed → Type 0) (slots : List OccupiedSlot)
    → IsJudge geo judge May Of → AllByRecursion (λ at. (placed : Placed) × Of at placed) slots → Pairs (AreOfKeys Of) slots
    → (kept_by geo judge (record { entries = []; drops = [] }) slots).drops ≡ []
all_kept geo judge May Of slots is of differ =
    none_dropped geo judge May Of (record { entries = []; drops = [] }) slots is (record { may = tt; rising = tt; keys = tt; drops = tt }) of differ (none_yet slots)
  where
    none_yet : (slots : List OccupiedSlot) → AllByRecursion (IsNew Of []) slots
    none_yet [] = tt
    none_yet (at ∷ slots) = (λ placed of. tt, none_yet slots)
