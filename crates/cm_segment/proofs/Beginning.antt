-- After its begin a change has begun: nothing of it is stored, and the slot points to its old run.
use Rattle.std.proofs.Common.{◌≡◌, ℕ, ◌+◌, List, slice_set, Option, Some, None, IfSome, ap, sym, subst, ◌∙◌, arith}
use Rattle.cm_geo.specs.declared.geo.Geo.{Geo}
use Rattle.cm_plain.specs.declared.plan.Run.{Run}
use Rattle.cm_plain.specs.States.{State}
use Rattle.cm_plain.specs.Changes.{Change}
use Rattle.cm_plain.specs.Slots.{Points, word_at}
use Rattle.cm_plain.specs.Lawful.{Resting}
use Rattle.cm_plain.proofs.OutsideHead.{slot_same}
use Rattle.cm_words.specs.Memory.{FitsNotes, MemSeen}
use Rattle.cm_words.specs.Effects.{Begins}
use Rattle.cm_words.specs.Calls.{IsWritable}
use Rattle.cm_words.proofs.UnderPlan.{rested_before}
use Rattle.cm_segment.specs.Phases.{IsInPhase}
use Rattle.cm_segment.specs.PlanNumbers.{HasBegun, PointsAt}

-- the change number is no slot
points_on : (geo : Geo) (change : Change) (slot word : ℕ) (state : State) (words : List ℕ) → PointsAt geo change slot state words words
    → PointsAt geo change slot state (slice_set words 1 word) (slice_set words 1 word)
points_on geo change slot word state words points = by change.old_run points
  where
    by : (old : Option Run) → IfSome old (λ run. Points geo words run.place change.key run.chunk slot)
        → IfSome old (λ run. Points geo (slice_set words 1 word) run.place change.key run.chunk slot)
    by None h = h
    by (Some run) h = record { inside = h.inside; slot_is = slot_same geo words 1 word run.place slot (omega arith) ∙ h.slot_is }

pub has_begun : (a b : MemSeen) (geo : Geo) (change : Change) (slot : ℕ) → IsWritable a geo → Begins a b change
    → ((words : List ℕ) (state : State) → FitsNotes a words → Resting geo a.setting.segment words state → PointsAt geo change slot state words words)
    → IsInPhase b geo change (HasBegun geo change slot)
has_begun a b geo change slot at begins points = record {
  writable = record { writable = ap (λ s. s.access) begins.setting ∙ at.writable; geo_is = geo_is };
  plan_is = begins.plan;
  lists = λ words state fits is.
      let same = begins.origin words fits in
      let rests : Resting b.setting.geo b.setting.segment words state =
      subst (λ (g : Geo). Resting g b.setting.segment words state) (sym geo_is)
      (subst (λ (w : List ℕ). Resting geo b.setting.segment w state) same is.rests) in
      let from = rested_before a b change words state begins fits rests in
      let was = points from.0 state from.1 (subst (λ (g : Geo). Resting g a.setting.segment from.0 state) at.geo_is from.3) in
      let now = subst (λ (w : List ℕ). PointsAt geo change slot state w w) from.2 (points_on geo change slot (word_at from.0 1 + 1) state from.0 was) in
      record { untouched = sym same; points = subst (λ (w : List ℕ). PointsAt geo change slot state w words) (sym same) now };
}
  where
    geo_is : b.setting.geo ≡ geo
    geo_is = ap (λ s. s.geo) begins.setting ∙ at.geo_is
