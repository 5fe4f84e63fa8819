-- A plan that was made may begin for the operation that it asks, whether it links a tier or not.
use Rattle.std.proofs.Common.{◌≡◌, ◌⊎◌, inl, inr, refl, sym, subst}
use Rattle.cm_geo.specs.declared.geo.Geo.{Geo}
use Rattle.cm_plain.specs.declared.op.Op.{Op}
use Rattle.cm_plain.specs.declared.plan.Plan.{Plan}
use Rattle.cm_plain.specs.Plans.{op_of_ask}
use Rattle.cm_words.specs.Memory.{MemSeen}
use Rattle.cm_segment.specs.Planning.{IfPlan, MayBegin}
use Rattle.cm_segment.specs.declared.planning.Planned.{Planned}
use Rattle.cm_segment.specs.declared.planning.Planned.TheVariants.{Ready, NeedsTier}

for_its_ask : (m : MemSeen) (geo : Geo) (op : Op) (plan : Plan) → MayBegin m geo op plan → MayBegin m geo (op_of_ask plan.ask) plan
for_its_ask m geo op plan may = record { plan_in = may.plan_in; op_is = refl; within_limits = may.within_limits; here = may.here; points = may.points }

pub may_begin : (m : MemSeen) (geo : Geo) (op : Op) (planned : Planned) (plan made : Plan) → plan ≡ made → (planned ≡ Ready made) ⊎ (planned ≡ NeedsTier made)
    → IfPlan (MayBegin m geo op) planned → MayBegin m geo (op_of_ask plan.ask) plan
may_begin m geo op planned plan made same is may =
    let of_made : MayBegin m geo op made = by is in
    subst (λ (p : Plan). MayBegin m geo (op_of_ask p.ask) p) (sym same) (for_its_ask m geo op made of_made)
  where
    by : (planned ≡ Ready made) ⊎ (planned ≡ NeedsTier made) → MayBegin m geo op made
    by (inl ready) = subst (IfPlan (MayBegin m geo op)) ready may
    by (inr needs) = subst (IfPlan (MayBegin m geo op)) needs may
