-- The numbers of a plan (own): they lie in the geometry, whatever words stand there.
use Rattle.std.specs.Prelude.{ℕ, ◌≡◌, ◌*◌, ◌<◌, Bool, false, List, length, Option, Some, None, IfSome}
use Rattle.cm_geo.specs.declared.geo.Geo.{Geo}
use Rattle.cm_geo.specs.Need.{Fits, need}
use Rattle.cm_plain.specs.declared.plan.PlanKind.{PlanKind}
use Rattle.cm_plain.specs.declared.plan.PlanKind.TheVariants as kind
use Rattle.cm_plain.specs.declared.plan.Run.{Run}
use Rattle.cm_plain.specs.States.{State}
use Rattle.cm_plain.specs.Changes.{Change}
use Rattle.cm_plain.specs.Slots.{Points}
use Rattle.cm_chunks.specs.RunBits.{IsRunIn}
use Rattle.cm_segment.specs.Phases.{Phase}

-- the run of a change's new entry, which fits the geometry and takes all of the run
pub record IsNewIn (geo : Geo) (change : Change) (run : Run) : Type 0 where
  pub run_in : IsRunIn geo run
  pub fits : Fits geo (length change.key) (length change.value)
  pub size : run.chunks ≡ need geo (length change.key) (length change.value)

-- which runs a change of each kind has, and whether it may link a tier; in place the new run begins where the old one does
abbrev pub HasRuns : PlanKind → Option Run → Option Run → Bool → Type 0
HasRuns kind.Fresh None (Some run) link = Unit {0}
HasRuns kind.InPlace (Some old) (Some run) false = (run.place ≡ old.place) × (run.chunk ≡ old.chunk)
HasRuns kind.Relocate (Some old) (Some run) link = Unit {0}
HasRuns kind.Remove (Some old) None false = Unit {0}
HasRuns _ _ _ _ = ⊥

-- the numbers of a change and of the slot that points to its old run, whatever words stand there
pub record IsPlanIn (geo : Geo) (change : Change) (slot : ℕ) : Type 0 where
  pub slot_low : slot < 2 * geo.chunks
  pub old : IfSome change.old_run (IsRunIn geo)
  pub new : IfSome change.new_run (IsNewIn geo change)
  pub runs : HasRuns change.kind change.old_run change.new_run change.link

-- a slot points to the old run of a change, if there is one
abbrev pub PointsAt : Geo → Change → ℕ → Phase
PointsAt geo change slot state start words = IfSome change.old_run (λ run. Points geo start run.place change.key run.chunk slot)

-- nothing of a change was stored yet, and the slot points to its old run, if there is one
pub record HasBegun (geo : Geo) (change : Change) (slot : ℕ) (state : State) (start words : List ℕ) : Type 0 where
  pub untouched : words ≡ start
  pub points : PointsAt geo change slot state start words
