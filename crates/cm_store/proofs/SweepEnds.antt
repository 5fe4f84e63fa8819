-- What the calls of a sweep leave of a pass.
use Rattle.std.proofs.Common.{◌≡◌, ◌≢◌, ◌∙◌, ℕ, ◌<◌, false, List, length, set, get_or, slice_get, All, Option, Some, Ok, Err, IfOk, inl, inr, refl, sym, ap, subst}
use Rattle.std.proofs.lemmas.Bool.{cases_eq}
use Rattle.std.proofs.lemmas.List.{get_or-set_other, get_or-set_same, length-set}
use Rattle.std.proofs.lemmas.Option.{get_or_from_slice_get, slice_get_read, slice_get_within}
use Rattle.std.specs.Option.{IsSomeAnd}
use Rattle.std.specs.declared.result.Result.{Result}
use Rattle.cm_geo.specs.declared.geo.Geo.{Geo}
use Rattle.cm_plain.specs.declared.op.Op.{Op}
use Rattle.cm_plain.specs.declared.op.Op.TheVariants as op
use Rattle.cm_plain.specs.Limits.{KeepsLimits, segment_of}
use Rattle.cm_words.specs.Meters.{MeterSeen}
use Rattle.cm_lock.specs.declared.take.Stop.{Stop}
use Rattle.cm_lock.specs.declared.take.Stop.TheVariants.{Busy, Died}
use Rattle.cm_lock.specs.declared.view.Level.TheVariants.{Update, Write}
use Rattle.cm_lock.specs.declared.view.View.{View}
use Rattle.cm_yard.specs.declared.view.View.{View as YardView}
use Rattle.cm_turn.specs.declared.answer.Done.{Done}
use Rattle.cm_store.specs.declared.pass.Pass.{Pass}
use Rattle.cm_store.specs.declared.pass.Sweep.{Sweep}
use Rattle.cm_turn.specs.declared.turn.Settled.{Settled}
use Rattle.cm_turn.specs.Calls.{IsRefused, Leaves, ReportsStop}
use Rattle.cm_store.specs.Passes.{ActsAt, claims_view, is_dead, is_died, settled_of, sweep_of, views, views_of}
use Rattle.cm_turn.specs.Records.{Holds, IsIdle}
use Rattle.cm_store.specs.Stops.{SameButClaims}
use Rattle.cm_store.specs.Sweeps.{IsInSweep, IsSweepOf, sweep_op}
use Rattle.cm_store.proofs.Elements.{element_at}

-- ---- all seats of a pass

module _ (seats : List View) (segment : ℕ) (w : View) where
  read_same : (v : View) → segment < length seats → slice_get (set seats segment w) segment ≡ Some v → v ≡ w
  read_same v inside there = sym (get_or_from_slice_get (set seats segment w) segment v v there) ∙ get_or-set_same seats segment w v inside

  read_other : (other : ℕ) (v : View) → other ≢ segment → slice_get (set seats segment w) other ≡ Some v → slice_get seats other ≡ Some v
  read_other other v ne there =
      let within : other < length seats = subst (λ (n : ℕ). other < n) (length-set seats segment w) (slice_get_within (set seats segment w) other v there) in
      slice_get_read seats (length seats) other v refl within
      (sym (sym (get_or-set_other seats segment other w v ne) ∙ get_or_from_slice_get (set seats segment w) other v v there))

  idle_all : segment < length seats → IsIdle w → ((other : ℕ) (v : View) → other ≢ segment → slice_get seats other ≡ Some v → IsIdle v) → All IsIdle (set seats segment w)
  idle_all inside idle others i d below =
      let within : i < length seats = subst (λ (n : ℕ). i < n) (length-set seats segment w) below in
      elim (cases_eq i segment) [
        | inl same ↦ subst IsIdle (sym (ap (λ (k : ℕ). get_or (set seats segment w) k d) same ∙ get_or-set_same seats segment w d inside)) idle
        | inr ne ↦ (let e = element_at seats i within in
            subst IsIdle (sym (get_or-set_other seats segment i w d ne ∙ get_or_from_slice_get seats i e.0 d e.1)) (others i e.0 ne e.1))
      ]

pub each_idle : (seats : List View) → All IsIdle seats → (other : ℕ) (v : View) → slice_get seats other ≡ Some v → IsIdle v
each_idle seats all other v there = subst IsIdle (get_or_from_slice_get seats other v v there) (all other v (slice_get_within seats other v there))

-- the other seats hold nothing
abbrev pub OthersIdle : {F : Type 0} → ℕ → Pass F → Type 0
OthersIdle segment pass = (other : ℕ) (v : View) → other ≢ segment → slice_get (views_of pass) other ≡ Some v → IsIdle v

module _ {F : Type 0} (Acts : View → View → YardView → YardView → Type 0) (segment : ℕ) (old now : Pass F) (a : ActsAt Acts segment old now) where
  -- what is so of the pass's seats is so whatever else of the pass is another, and whatever follows from it
  pub acts_with : (Other : View → View → YardView → YardView → Type 0) (later : Pass F) → views_of later ≡ views_of now → claims_view later ≡ claims_view now
      → ((v w : View) (y z : YardView) → Acts v w y z → Other v w y z) → ActsAt Other segment old later
  acts_with Other later same claims then_other = record {
    was = a.was;
    then = a.then;
    here = a.here;
    others = same ∙ a.others;
    acts = subst (λ (z : YardView). Other a.was a.then (claims_view old) z) (sym claims) (then_other a.was a.then (claims_view old) (claims_view now) a.acts);
  }

  -- a pass that holds nothing but Update of the segment is in a sweep of it
  pub in_sweep_then : (geo : Geo) (prefix : List ℕ) (later : Pass F) → views_of later ≡ views_of now → OthersIdle segment old → Holds Update a.then
      → KeepsLimits geo (op.Sweep segment prefix) → is_dead later ≡ false → IsSomeAnd (sweep_of later) (IsSweepOf segment prefix) → IsInSweep geo segment prefix later
  in_sweep_then geo prefix later same others holds limits live sweep = record {
    live = live;
    sweep = sweep;
    limits = limits;
    holds = λ v there.
        subst (Holds Update) (sym (read_same (views_of old) segment a.then v (slice_get_within (views_of old) segment a.was a.here)
        (subst (λ (l : List View). slice_get l segment ≡ Some v) (same ∙ a.others) there))) holds;
    others = λ other v ne there.
        others other v ne (read_other (views_of old) segment a.then other v ne (subst (λ (l : List View). slice_get l other ≡ Some v) (same ∙ a.others) there));
  }

  -- one that holds nothing at all rests
  pub idle_then : (later : Pass F) → views_of later ≡ views_of now → OthersIdle segment old → IsIdle a.then → All IsIdle (views_of later)
  idle_then later same others idle =
      subst (λ (l : List View). All IsIdle l) (sym (same ∙ a.others))
      (idle_all (views_of old) segment a.then (slice_get_within (views_of old) segment a.was a.here) idle others)

-- a seat that a call left alive
ends_by : (End : View → Type 0) (Refused : ℕ → ℕ → View → Type 0) (segment extra : ℕ) (asked : Op) (out : List ℕ) (v w : View) (y z : YardView) (result : Result Settled Stop)
    → is_died result ≡ false → Leaves End Refused segment extra asked out v w y z result → End w
ends_by End Refused segment extra asked out v w y z (Ok settled) lives l = l.ends
ends_by End Refused segment extra asked out v w y z (Err (Busy looks last)) lives l = l.0.ends
ends_by End Refused segment extra asked out v w y z (Err Died) lives l = absurd (cc lives)

-- a stop is reported alike, whatever the call would have answered
pub reports_stop : (T U : Type 0) (a b : MeterSeen) (stop : Stop) → ReportsStop {T = T} a b (Err stop) → ReportsStop {T = U} a b (Err stop)
reports_stop T U a b (Busy looks last) h = h
reports_stop T U a b Died h = h

pub died_stop : (T U : Type 0) (stop : Stop) → is_died {T = T} (Err stop) ≡ is_died {T = U} (Err stop)
died_stop T U (Busy looks last) = refl
died_stop T U Died = refl

died_settled : (result : Result Done Stop) → is_died (settled_of result) ≡ is_died result
died_settled (Ok done) = refl
died_settled (Err (Busy looks last)) = refl
died_settled (Err Died) = refl

-- ---- the sweep that a pass is in

-- it is the one that the pass was found in
found_sweep : {F : Type 0} (geo : Geo) (segment : ℕ) (prefix : List ℕ) (pass : Pass F) (sweep : Sweep) → sweep_of pass ≡ Some sweep → IsInSweep geo segment prefix pass → IsSweepOf segment prefix sweep
found_sweep geo segment prefix pass sweep is in_sweep = subst (λ (s : Option Sweep). IsSomeAnd s (IsSweepOf segment prefix)) is in_sweep.sweep

same_segment : (geo : Geo) (segment : ℕ) (prefix : List ℕ) (sweep : Sweep) → IsSweepOf segment prefix sweep → sweep.segment ≡ segment
same_segment geo segment prefix sweep its = ap (segment_of geo) its.op_is

-- a sweep that stands elsewhere is one of the same segment, with the same prefix
same_sweep : (segment : ℕ) (prefix : List ℕ) (sweep next : Sweep) → sweep_op next ≡ sweep_op sweep → next.prefix_len ≡ sweep.prefix_len → IsSweepOf segment prefix sweep → IsSweepOf segment prefix next
same_sweep segment prefix sweep next same len its = record { op_is = same ∙ its.op_is; len_is = len ∙ its.len_is }

-- a pass is in its sweep still where nothing but its seat of the yard is another
pub in_sweep_same : {F : Type 0} (geo : Geo) (segment : ℕ) (prefix : List ℕ) (old now : Pass F) → SameButClaims old now → IsInSweep geo segment prefix old → IsInSweep geo segment prefix now
in_sweep_same geo segment prefix old now same in_sweep =
    let seats : views_of now ≡ views_of old = ap (λ s. views s.items) same.seats in
    record {
      live = same.dead ∙ in_sweep.live;
      sweep = subst (λ (s : Option Sweep). IsSomeAnd s (IsSweepOf segment prefix)) (sym same.sweep) in_sweep.sweep;
      limits = in_sweep.limits;
      holds = λ v there. in_sweep.holds v (subst (λ (l : List View). slice_get l segment ≡ Some v) seats there);
      others = λ other v ne there. in_sweep.others other v ne (subst (λ (l : List View). slice_get l other ≡ Some v) seats there);
    }

-- a step's answer is that of the sweep that the pass is in
abbrev StepLeaves : ℕ → ℕ → Geo → Op → List ℕ → Result Settled Stop → View → View → YardView → YardView → Type 0
StepLeaves tries extra geo asked out result was then before later = Leaves (Holds Update) (IsRefused Update Write tries) (segment_of geo asked) extra asked out was then before later result

-- where the next step of a live pass begins
pub record StepsOn {F : Type 0} (sweep : Sweep) (pass : Pass F) : Type 0 where
  pub next : Sweep
  pub next_is : sweep_of pass ≡ Some next
  pub same : sweep_op next ≡ sweep_op sweep
  pub len : next.prefix_len ≡ sweep.prefix_len

module _ {F : Type 0} (geo : Geo) (tries extra : ℕ) (sweep : Sweep) (out : List ℕ) (result : Result Done Stop) (old now later : Pass F) (views : views_of later ≡ views_of now)
    (claims : claims_view later ≡ claims_view now) (is : sweep_of old ≡ Some sweep)
    (acts : ActsAt (λ was then before later. Leaves (Holds Update) (IsRefused Update Write tries) sweep.segment extra (sweep_op sweep) out was then before later (settled_of result)) sweep.segment old now) where
  pub stepped_acts : (segment : ℕ) (prefix : List ℕ) → IsInSweep geo segment prefix old
      → ActsAt (λ was then before later. Leaves (Holds Update) (IsRefused Update Write tries) segment extra (op.Sweep segment prefix) out was then before later (settled_of result)) segment old later
  stepped_acts segment prefix in_sweep =
      subst (λ (asked : Op). ActsAt (StepLeaves tries extra geo asked out (settled_of result)) (segment_of geo asked) old later) (found_sweep geo segment prefix old sweep is in_sweep).op_is
      (acts_with (StepLeaves tries extra geo (sweep_op sweep) out (settled_of result)) sweep.segment old now acts (StepLeaves tries extra geo (sweep_op sweep) out (settled_of result)) later views claims
      (λ v w y z l. l))

  pub stepped_stays : is_dead later ≡ is_died result → (is_dead later ≡ false → StepsOn sweep later) → (segment : ℕ) (prefix : List ℕ) → IsInSweep geo segment prefix old
      → is_dead later ≡ false → IsInSweep geo segment prefix later
  stepped_stays dead on segment prefix in_sweep lives =
      let its = found_sweep geo segment prefix old sweep is in_sweep in
      let next = on lives in
      let a = stepped_acts segment prefix in_sweep in
      in_sweep_then _ segment old later a geo prefix later refl in_sweep.others
      (ends_by (Holds Update) (IsRefused Update Write tries) segment extra (op.Sweep segment prefix) out a.was a.then (claims_view old) (claims_view later) (settled_of result)
      (died_settled result ∙ (sym dead ∙ lives)) a.acts)
      in_sweep.limits lives
      (subst (λ (s : Option Sweep). IsSomeAnd s (IsSweepOf segment prefix)) (sym next.next_is) (same_sweep segment prefix sweep next.next next.same next.len its))

  pub stepped_spot : IfOk result (λ done. done.spot.segment ≡ sweep.segment) → (segment : ℕ) (prefix : List ℕ) → IsInSweep geo segment prefix old
      → IfOk result (λ done. done.spot.segment ≡ segment)
  stepped_spot spot segment prefix in_sweep =
      subst (λ (n : ℕ). IfOk result (λ done. done.spot.segment ≡ n)) (same_segment geo segment prefix sweep (found_sweep geo segment prefix old sweep is in_sweep)) spot

module _ {F : Type 0} (geo : Geo) (sweep : Sweep) (old now later : Pass F) (views : views_of later ≡ views_of now) (claims : claims_view later ≡ claims_view now)
    (is : sweep_of old ≡ Some sweep) where
  -- what was done at the seat of the sweep's segment
  pub closed_acts : (Acts Other : View → View → YardView → YardView → Type 0) → ((v w : View) (y z : YardView) → Acts v w y z → Other v w y z) → ActsAt Acts sweep.segment old now
      → (segment : ℕ) (prefix : List ℕ) → IsInSweep geo segment prefix old → ActsAt Other segment old later
  closed_acts Acts Other other acts segment prefix in_sweep =
      subst (λ (n : ℕ). ActsAt Other n old later) (same_segment geo segment prefix sweep (found_sweep geo segment prefix old sweep is in_sweep))
      (acts_with Acts sweep.segment old now acts Other later views claims other)

  -- a pass that released Update holds nothing
  pub closed_idle : (Acts : View → View → YardView → YardView → Type 0) → ((v w : View) (y z : YardView) → Acts v w y z → IsIdle w) → ActsAt Acts sweep.segment old now
      → (segment : ℕ) (prefix : List ℕ) → IsInSweep geo segment prefix old → All IsIdle (views_of later)
  closed_idle Acts idle acts segment prefix in_sweep =
      let a = closed_acts Acts Acts (λ v w y z l. l) acts segment prefix in_sweep in
      idle_then Acts segment old later a later refl in_sweep.others (idle a.was a.then (claims_view old) (claims_view later) a.acts)
