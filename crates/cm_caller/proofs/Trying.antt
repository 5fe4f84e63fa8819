-- What one try of a call leaves of a pass that can't die.
use Rattle.std.proofs.Common.{◌≡◌, ◌∙◌, ℕ, false, true≢false, List, Result, Ok, Err, refl, sym, ap, subst}
use Rattle.std.proofs.lemmas.Bool.{false_from_ne_true}
use Rattle.cm_plain.specs.declared.op.Op.{Op}
use Rattle.cm_plain.specs.declared.op.Op.TheVariants as operation
use Rattle.cm_plain.specs.History.{Call}
use Rattle.cm_plain.specs.Limits.{KeepsLimits, segment_of}
use Rattle.cm_words.specs.declared.fuse.Dead.{Dead}
use Rattle.cm_words.specs.Fuses.{FuseSeen}
use Rattle.cm_words.specs.Meters.{IsKilled, MeterSeen, Survives}
use Rattle.cm_lock.specs.declared.take.Stop.{Stop}
use Rattle.cm_lock.specs.declared.take.Stop.TheVariants.{Busy, Died}
use Rattle.cm_lock.specs.declared.view.View.{View}
use Rattle.cm_turn.specs.declared.answer.Done.{Done}
use Rattle.cm_turn.specs.declared.answer.Spot.{Spot}
use Rattle.cm_turn.specs.Calls.{ReportsStop}
use Rattle.cm_store.specs.declared.list.ListStop.{ListStop}
use Rattle.cm_store.specs.declared.list.ListStop.TheVariants as list
use Rattle.cm_store.specs.declared.list.Listed.{Listed}
use Rattle.cm_store.specs.declared.pass.Pass.{Pass}
use Rattle.cm_store.specs.declared.store.Store.{Store}
use Rattle.cm_store.specs.Lists.{CalledList, listing_of}
use Rattle.cm_store.specs.Passes.{Called, IsResting, MayCall, claims_view, is_died, number_of, pass_meter}
use Rattle.cm_store.specs.Sweeps.{ClosedSweep, IsInSweep, OpenedSweep, SteppedSweep}
use Rattle.cm_history.specs.Kept.{AddsCall, KeepsPass}
use Rattle.cm_history.proofs.Keeping.{keeps_busy, keeps_called, keeps_list_busy, keeps_listed, keeps_open_busy, keeps_step_busy, keeps_stepped}
use Rattle.cm_caller.specs.declared.tried.Tried.{Tried}
use Rattle.cm_caller.specs.declared.tried.Tried.TheVariants as try
use Rattle.cm_caller.specs.Tries.{IsSafe, LeavesTry, Stands, TellsList, TellsTry, Tries}

-- ---- fuses

survives_safe : (old now : MeterSeen) → IsSafe old.fuse → Survives old now → IsSafe now.fuse
survives_safe old now safe s = record {
  cannot = false_from_ne_true now.fuse.can_die (λ can. true≢false (sym (s.never_begins can) ∙ safe.cannot));
  alive = s.deaths ∙ safe.alive;
}

killed_safe : (old now : MeterSeen) → IsSafe old.fuse → IsKilled old now → ⊥
killed_safe old now safe k = true≢false (sym k.could ∙ safe.cannot)

-- a pass that can't die didn't, and still can't
lived : {T : Type 0} (old now : MeterSeen) (result : Result T Stop) → IsSafe old.fuse → ReportsStop old now result → IsSafe now.fuse × (is_died result ≡ false)
lived old now (Ok done) safe r = (survives_safe old now safe r, refl)
lived old now (Err (Busy looks last)) safe r = (survives_safe old now safe r, refl)
lived old now (Err Died) safe r = absurd (killed_safe old now safe r)

-- ---- a call

-- the operation may be written in another way
pub may_as : {F : Type 0} (store : Store) (op asked : Op) (pass : Pass F) → asked ≡ op → MayCall store op pass → MayCall store asked pass
may_as store op asked pass same may = record {
  its = may.its;
  resting = may.resting;
  limits = subst (KeepsLimits store.geo) (sym same) may.limits;
}

module _ {F : Type 0} (fused : F → FuseSeen) (store : Store) (Refused : ℕ → ℕ → View → Type 0) (op asked : Op) (out : List ℕ) (old now : Pass F) (same : asked ≡ op) (safe : IsSafe (fused old.fuse)) where
  called_leaves : (ended : Result Done Stop) (tried : Tried) (calls : ℕ → List Call) → KeepsPass store.geo.extra calls old → Called fused store Refused asked out old now ended
      → TellsTry ended out tried → LeavesTry store.geo op calls now tried
  called_leaves (Ok done) (try.Answered spot answer) calls kept c told = (
    ap (λ (s : Spot). s.segment) told.0 ∙ (c.spot ∙ ap (segment_of store.geo) same),
    λ call later op_is number_is reply_is adds.
        keeps_called fused store Refused asked out old now done call calls later kept c (op_is ∙ sym same) (number_is ∙ ap (λ (s : Spot). s.number) told.0) (reply_is ∙ told.1)
        (subst (λ (o : Op). AddsCall (segment_of store.geo o) call calls later) (sym same) adds),
  )
  called_leaves (Ok done) try.NoMemory calls kept c told = tt
  called_leaves (Err (Busy looks last)) try.Busy calls kept c told = keeps_busy fused store Refused asked out old now looks last calls kept c
  called_leaves (Err Died) try.Died calls kept c told = absurd (killed_safe (pass_meter fused old) (pass_meter fused now) safe c.fuse)
  called_leaves ended tried calls kept c told = absurd told

  pub called_tries : (ended : Result Done Stop) (tried : Tried) → Called fused store Refused asked out old now ended → TellsTry ended out tried → Tries fused store IsResting op old now tried
  called_tries ended tried c told =
      let l = lived (pass_meter fused old) (pass_meter fused now) ended safe c.fuse in
      record {
        stands = record { its = c.its; safe = l.0; number_is = c.number; rests = c.resting (c.dead ∙ l.1) };
        leaves = λ calls kept. called_leaves ended tried calls kept c told;
      }

-- ---- a listing

module _ {F : Type 0} (fused : F → FuseSeen) (store : Store) (tries segment : ℕ) (op : Op) (old now : Pass F) (same : operation.List segment ≡ op) (safe : IsSafe (fused old.fuse)) where
  listed_leaves : (ended : Result Listed ListStop) (tried : Tried) (calls : ℕ → List Call) → KeepsPass store.geo.extra calls old → CalledList fused store tries segment old now ended
      → TellsList ended tried → LeavesTry store.geo op calls now tried
  listed_leaves (Ok listed) (try.Answered spot answer) calls kept c told = (
    ap (λ (s : Spot). s.segment) told.0 ∙ (c.spot ∙ ap (segment_of store.geo) same),
    λ call later op_is number_is reply_is adds.
        keeps_listed fused store tries segment old now listed call calls later kept c (op_is ∙ sym same) (number_is ∙ ap (λ (s : Spot). s.number) told.0) (reply_is ∙ told.1)
        (subst (λ (o : Op). AddsCall (segment_of store.geo o) call calls later) (sym same) adds),
  )
  listed_leaves (Err (list.Busy looks last)) try.Busy calls kept c told = keeps_list_busy fused store tries segment old now looks last calls kept c
  listed_leaves (Err list.Died) try.Died calls kept c told = absurd (killed_safe (pass_meter fused old) (pass_meter fused now) safe c.fuse)
  listed_leaves (Err list.NoMemory) try.NoMemory calls kept c told = tt
  listed_leaves ended tried calls kept c told = absurd told

  pub listed_tries : (ended : Result Listed ListStop) (tried : Tried) → CalledList fused store tries segment old now ended → TellsList ended tried → Tries fused store IsResting op old now tried
  listed_tries ended tried c told =
      let l = lived (pass_meter fused old) (pass_meter fused now) (listing_of ended) safe c.fuse in
      record {
        stands = record { its = c.its; safe = l.0; number_is = c.number; rests = c.resting (c.dead ∙ l.1) };
        leaves = λ calls kept. listed_leaves ended tried calls kept c told;
      }

-- ---- sweeps

module _ {F : Type 0} (fused : F → FuseSeen) (store : Store) (tries segment : ℕ) (prefix out : List ℕ) (old now : Pass F)
    (within : IsInSweep store.geo segment prefix old) (safe : IsSafe (fused old.fuse)) where
  stepped_leaves : (ended : Result Done Stop) (tried : Tried) (calls : ℕ → List Call) → KeepsPass store.geo.extra calls old → SteppedSweep fused store tries out old now ended
      → TellsTry ended out tried → LeavesTry store.geo (operation.Sweep segment prefix) calls now tried
  stepped_leaves (Ok done) (try.Answered spot answer) calls kept s told = (
    ap (λ (x : Spot). x.segment) told.0 ∙ s.spot segment prefix within,
    λ call later op_is number_is reply_is adds.
        keeps_stepped fused store tries out old now done segment prefix call calls later kept within s op_is (number_is ∙ ap (λ (x : Spot). x.number) told.0) (reply_is ∙ told.1) adds,
  )
  stepped_leaves (Ok done) try.NoMemory calls kept s told = tt
  stepped_leaves (Err (Busy looks last)) try.Busy calls kept s told = keeps_step_busy fused store tries out old now looks last segment prefix calls kept within s
  stepped_leaves (Err Died) try.Died calls kept s told = absurd (killed_safe (pass_meter fused old) (pass_meter fused now) safe s.fuse)
  stepped_leaves ended tried calls kept s told = absurd told

  pub stepped_tries : (ended : Result Done Stop) (tried : Tried) → SteppedSweep fused store tries out old now ended → TellsTry ended out tried
      → Tries fused store (IsInSweep store.geo segment prefix) (operation.Sweep segment prefix) old now tried
  stepped_tries ended tried s told =
      let l = lived (pass_meter fused old) (pass_meter fused now) ended safe s.fuse in
      record {
        stands = record { its = s.its; safe = l.0; number_is = s.number; rests = s.stays segment prefix within (s.dead ∙ l.1) };
        leaves = λ calls kept. stepped_leaves ended tried calls kept s told;
      }

-- an opening that was refused is a try, too
pub refused_tries : {F : Type 0} (fused : F → FuseSeen) (store : Store) (tries segment : ℕ) (prefix : List ℕ) (op : Op) (old now : Pass F) (looks last : ℕ) → IsSafe (fused old.fuse)
    → OpenedSweep fused store tries segment prefix old now (Err (Busy looks last)) → Tries fused store IsResting op old now try.Busy
refused_tries fused store tries segment prefix op old now looks last safe o = record {
  stands = record { its = o.its; safe = survives_safe (pass_meter fused old) (pass_meter fused now) safe o.fuse; number_is = o.number; rests = o.leaves };
  leaves = λ calls kept. keeps_open_busy fused store tries segment prefix old now looks last calls kept o;
}

pub opened_stands : {F : Type 0} (fused : F → FuseSeen) (store : Store) (tries segment : ℕ) (prefix : List ℕ) (old now : Pass F) (done : Unit {0}) → IsSafe (fused old.fuse)
    → OpenedSweep fused store tries segment prefix old now (Ok done) → Stands fused store (IsInSweep store.geo segment prefix) (number_of old) now
opened_stands fused store tries segment prefix old now done safe o =
    record { its = o.its; safe = survives_safe (pass_meter fused old) (pass_meter fused now) safe o.fuse; number_is = o.number; rests = o.leaves.0 }

-- no opening died
pub opened_alive : {F : Type 0} (fused : F → FuseSeen) (store : Store) (tries segment : ℕ) (prefix : List ℕ) (old now : Pass F) → IsSafe (fused old.fuse)
    → OpenedSweep fused store tries segment prefix old now (Err Died) → ⊥
opened_alive fused store tries segment prefix old now safe o = killed_safe (pass_meter fused old) (pass_meter fused now) safe o.fuse

-- nor a closing
pub closed_alive : {F : Type 0} (fused : F → FuseSeen) (store : Store) (old now : Pass F) (why : Dead) → IsSafe (fused old.fuse) → ClosedSweep fused store old now (Err why) → ⊥
closed_alive fused store old now why safe d = killed_safe (pass_meter fused old) (pass_meter fused now) safe d.fuse.killed

pub closed_stands : {F : Type 0} (fused : F → FuseSeen) (store : Store) (old now : Pass F) (done : Unit {0}) → IsSafe (fused old.fuse) → ClosedSweep fused store old now (Ok done)
    → Stands fused store IsResting (number_of old) now
closed_stands fused store old now done safe d =
    record { its = d.its; safe = survives_safe (pass_meter fused old) (pass_meter fused now) safe d.fuse.survives; number_is = d.number; rests = d.resting d.dead }

-- a closing leaves the claims
pub closed_claims : {F : Type 0} (fused : F → FuseSeen) (store : Store) (segment : ℕ) (prefix : List ℕ) (old now : Pass F) (done : Unit {0}) → IsInSweep store.geo segment prefix old
    → ClosedSweep fused store old now (Ok done) → claims_view now ≡ claims_view old
closed_claims fused store segment prefix old now done within d = (d.closes segment prefix within).acts.claims
