-- A pass that opened a sweep, took a step of it, or closed it.
use Rattle.std.proofs.Common.{◌≡◌, ◌≢◌, ℕ, true, false, List, All, Option, Some, None, IsNone, IsSome, IsSomeAnd, true≢false, Ok, Err, refl, sym, ap, ◌∙◌, subst}
use Rattle.std.specs.declared.result.Result.{Result}
use Rattle.std.proofs.lemmas.List.Elements.{All-set}
use Rattle.cm_plain.specs.declared.op.Op.TheVariants as op
use Rattle.cm_geo.specs.declared.geo.Geo.{Geo}
use Rattle.cm_words.specs.declared.fuse.Dead.{Dead}
use Rattle.cm_words.specs.Fuses.{FuseSeen}
use Rattle.cm_lock.specs.declared.take.Stop.{Stop}
use Rattle.cm_lock.specs.declared.take.Stop.TheVariants.{Busy, Died}
use Rattle.cm_lock.specs.declared.view.Level.TheVariants.{Update, Write}
use Rattle.cm_lock.specs.declared.view.View.{View}
use Rattle.cm_yard.specs.declared.view.View.{View as YardView}
use Rattle.cm_turn.specs.declared.answer.Done.{Done}
use Rattle.cm_store.specs.declared.pass.Pass.{Pass}
use Rattle.cm_store.specs.declared.pass.Sweep.{Sweep}
use Rattle.cm_store.specs.declared.store.Store.{Store}
use Rattle.cm_turn.specs.Calls.{Fails, IsRefused}
use Rattle.cm_store.specs.Passes.{ActsAt, IsPassOf, IsResting, claims_view, is_dead, is_died, number_of, settled_of, sweep_of, views_of}
use Rattle.cm_turn.specs.Records.{Holds}
use Rattle.cm_store.specs.Sweeps.{ClosedSweep, IsInSweep, IsSweepOf, LeavesOpening, MayStep, OpenedSweep, SteppedSweep}
use Rattle.cm_turn.specs.SeatSweeps.{Opens, Releases}
use Rattle.cm_trial.specs.Trials.{IsPlayer}
use Rattle.cm_trial.proofs.Trials.{all_at, called_number, in_no_sweep}

-- the seats of a pass keep its number where one of them acted so
acted_seats : {F : Type 0} (Acts : View → View → YardView → YardView → Type 0) (segment : ℕ) (old now : Pass F) → number_of now ≡ number_of old
    → ((v w : View) (y z : YardView) → Acts v w y z → (w.own.number ≡ v.own.number) × (z.number ≡ y.number))
    → All (λ (v : View). v.own.number ≡ old.number) (views_of old) → (claims_view old).number ≡ old.number → ActsAt Acts segment old now
    → All (λ (v : View). v.own.number ≡ now.number) (views_of now) × ((claims_view now).number ≡ now.number)
acted_seats Acts segment old now same keeps seats claims a =
    let k = keeps a.was a.then (claims_view old) (claims_view now) a.acts in (
      subst (λ (vs : List View). All (λ (v : View). v.own.number ≡ now.number) vs) (sym a.others)
          (All-set (λ (v : View). v.own.number ≡ now.number) (views_of old) segment a.then
          (k.0 ∙ (all_at (λ (v : View). v.own.number ≡ old.number) (views_of old) seats segment a.was a.here ∙ sym same))
          (subst (λ (n : ℕ). All (λ (v : View). v.own.number ≡ n) (views_of old)) (sym same) seats)),
      k.1 ∙ (claims ∙ sym same),
    )

failed_number : (End : View → Type 0) (v w : View) (y z : YardView) → Fails End v w y z → (w.own.number ≡ v.own.number) × (z.number ≡ y.number)
failed_number End v w y z f = (ap (λ (x : View). x.own.number) f.adds.view, ap (λ (x : YardView). x.number) f.claims)

opened_number : (tries : ℕ) (result : Result (Unit {0}) Stop) (v w : View) (y z : YardView) → Opens tries v w y z result → (w.own.number ≡ v.own.number) × (z.number ≡ y.number)
opened_number tries (Ok done) v w y z o = failed_number _ v w y z o
opened_number tries (Err (Busy looks last)) v w y z o = failed_number _ v w y z o.0
opened_number tries (Err Died) v w y z o = failed_number _ v w y z o

released_number : (result : Result (Unit {0}) Dead) (v w : View) (y z : YardView) → Releases v w y z result → (w.own.number ≡ v.own.number) × (z.number ≡ y.number)
released_number (Ok done) v w y z r = failed_number _ v w y z r
released_number (Err error) v w y z r = failed_number _ v w y z r

-- a pass in a sweep has one
has_sweep : {T : Type 0} (P : T → Type 0) (o : Option T) → IsSomeAnd o P → IsSome o
has_sweep P (Some x) p = refl
has_sweep P None p = absurd p

in_a_sweep : {F : Type 0} (geo : Geo) (segment : ℕ) (prefix : List ℕ) (pass : Pass F) → IsInSweep geo segment prefix pass → IsNone (sweep_of pass) → ⊥
in_a_sweep geo segment prefix pass within none = true≢false (sym (has_sweep (IsSweepOf segment prefix) (sweep_of pass) within.sweep) ∙ none)

-- how an opening leaves a live pass
opened_resting : {F : Type 0} (geo : Geo) (segment : ℕ) (prefix : List ℕ) (old now : Pass F) (result : Result (Unit {0}) Stop)
    → is_dead now ≡ is_died result → LeavesOpening geo segment prefix old now result → is_dead now ≡ false → IsNone (sweep_of now) → IsResting now
opened_resting geo segment prefix old now (Ok done) dead leaves lives none = absurd (in_a_sweep geo segment prefix now leaves.0 none)
opened_resting geo segment prefix old now (Err (Busy looks last)) dead leaves lives none = leaves
opened_resting geo segment prefix old now (Err Died) dead leaves lives none = absurd (true≢false (sym dead ∙ lives))

opened_stepping : {F : Type 0} (store : Store) (segment : ℕ) (prefix : List ℕ) (old now : Pass F) (result : Result (Unit {0}) Stop) → IsPassOf now store
    → is_dead now ≡ is_died result → LeavesOpening store.geo segment prefix old now result → is_dead now ≡ false → IsSome (sweep_of now) → MayStep store now
opened_stepping store segment prefix old now (Ok done) its dead leaves lives some = record { its = its; segment = segment; prefix = prefix; in_sweep = leaves.0 }
opened_stepping store segment prefix old now (Err (Busy looks last)) its dead leaves lives some = absurd (in_no_sweep now leaves some)
opened_stepping store segment prefix old now (Err Died) its dead leaves lives some = absurd (true≢false (sym dead ∙ lives))

pub player_opened : {F : Type 0} (fused : F → FuseSeen) (store : Store) (tries segment : ℕ) (prefix : List ℕ) (old now : Pass F) (result : Result (Unit {0}) Stop)
    → IsPlayer store old → OpenedSweep fused store tries segment prefix old now result → IsPlayer store now
player_opened fused store tries segment prefix old now result p o =
    let seats = acted_seats _ segment old now o.number (opened_number tries result) p.seats p.claims o.opens in
    record {
      its = o.its;
      seats = seats.0;
      claims = seats.1;
      resting = opened_resting store.geo segment prefix old now result o.dead o.leaves;
      stepping = opened_stepping store segment prefix old now result o.its o.dead o.leaves;
    }

pub player_stepped : {F : Type 0} (fused : F → FuseSeen) (store : Store) (tries : ℕ) (out : List ℕ) (old now : Pass F) (result : Result Done Stop)
    → IsPlayer store old → MayStep store old → SteppedSweep fused store tries out old now result → IsPlayer store now
player_stepped fused store tries out old now result p m s =
    let stays = s.stays m.segment m.prefix m.in_sweep in
    let seats = acted_seats _ m.segment old now s.number
    (λ v w y z l. called_number (Holds Update) (IsRefused Update Write tries) m.segment store.geo.extra (op.Sweep m.segment m.prefix) out v w y z (settled_of result) l) p.seats p.claims (s.steps m.segment m.prefix m.in_sweep) in
    record {
      its = s.its;
      seats = seats.0;
      claims = seats.1;
      resting = λ lives none. absurd (in_a_sweep store.geo m.segment m.prefix now (stays lives) none);
      stepping = λ lives some. record { its = s.its; segment = m.segment; prefix = m.prefix; in_sweep = stays lives };
    }

pub player_closed : {F : Type 0} (fused : F → FuseSeen) (store : Store) (old now : Pass F) (result : Result (Unit {0}) Dead)
    → IsPlayer store old → MayStep store old → ClosedSweep fused store old now result → IsPlayer store now
player_closed fused store old now result p m d =
    let seats = acted_seats _ m.segment old now d.number (released_number result) p.seats p.claims (d.closes m.segment m.prefix m.in_sweep) in
    record {
      its = d.its;
      seats = seats.0;
      claims = seats.1;
      resting = λ lives none. d.resting lives;
      stepping = λ lives some. absurd (in_no_sweep now (d.resting lives) some);
    }
