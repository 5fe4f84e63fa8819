-- Passes that are split off and joined in the order of their numbers, and called between.
use Rattle.std.proofs.Common.{◌≡◌, ◌≢◌, ℕ, suc, ◌+◌, ◌<◌, ◌==◌, Bool, true, false, List, [], ◌∷◌, ◌++◌, map, get_or, All, Any, Some, Ok, Err, IsSome, is_some, true≢false, refl, sym, ap, ◌∙◌, subst, arith, inl, inr}
use Rattle.std.specs.List.{count_by, slice_get, zip}
use Rattle.std.specs.declared.result.Result.{Result}
use Rattle.std.proofs.lemmas.Bool.{cases_eq, ne_eqb}
use Rattle.std.proofs.lemmas.List.{get_or_default}
use Rattle.std.proofs.lemmas.List.Elements.{All-cons, All-head, All-nil, All-set, All-tail}
use Rattle.std.proofs.lemmas.Option.{get_or_from_slice_get, slice_get_within}
use Rattle.cm_plain.specs.declared.op.Op.{Op}
use Rattle.cm_plain.specs.declared.reply.Reply.{Reply}
use Rattle.cm_plain.specs.Limits.{segment_of}
use Rattle.cm_plain.specs.Steps.{is_change}
use Rattle.cm_words.specs.Fuses.{FuseSeen}
use Rattle.cm_lock.specs.declared.take.Stop.{Stop}
use Rattle.cm_lock.specs.declared.take.Stop.TheVariants.{Busy, Died}
use Rattle.cm_lock.specs.declared.view.HeldLevel.{HeldLevel}
use Rattle.cm_lock.specs.declared.view.Key.{Key}
use Rattle.cm_lock.specs.declared.view.View.{View}
use Rattle.cm_lock.specs.Rule.{root_view}
use Rattle.cm_lock.specs.Seats.{AllJoined, count_of}
use Rattle.cm_lock.specs.Views.{new_view, with_joined, with_seat}
use Rattle.cm_yard.specs.declared.view.View.{View as YardView}
use Rattle.cm_yard.specs.Ends.{AllJoined as YardAllJoined}
use Rattle.cm_yard.specs.Views.{root_view as yard_root_view, with_joined as yard_with_joined, with_seat as yard_with_seat}
use Rattle.cm_turn.specs.declared.answer.Done.{Done}
use Rattle.cm_store.specs.declared.pass.Pass.{Pass}
use Rattle.cm_store.specs.declared.store.Store.{Store}
use Rattle.cm_turn.specs.declared.turn.Settled.{Settled}
use Rattle.cm_turn.specs.Answers.{reply_in}
use Rattle.cm_turn.specs.Calls.{Leaves}
use Rattle.cm_turn.specs.Records.{AddsAs, Dies, IsIdle, before, within, behind}
use Rattle.cm_store.specs.Splits.{joined_views, new_views, with_seats}
use Rattle.cm_store.specs.Passes.{Called, IsResting, claims_view, settled_of, sweep_of, views_of}
use Rattle.cm_trial.specs.Trials.{HasMadeSeats, HasMadeClaimers, IsPlayer}
use Rattle.cm_store.proofs.Elements.{element_at}
use Rattle.cm_store.proofs.Elements.{mapped_at, zipped_left}

all_by : (P : View → Type 0) (vs : List View) → ((i : ℕ) (v : View) → slice_get vs i ≡ Some v → P v) → All P vs
all_by P vs each i d below = let (v, there) = element_at vs i below in
    subst P (sym (get_or_default vs i d v below ∙ get_or_from_slice_get vs i v v there)) (each i v there)

pub all_at : (P : View → Type 0) (vs : List View) → All P vs → (i : ℕ) (v : View) → slice_get vs i ≡ Some v → P v
all_at P vs all i v there = subst P (get_or_from_slice_get vs i v v there) (all i v (slice_get_within vs i v there))

-- ---- numbers

-- a number isn't among lesser ones
count_none : (number : ℕ) (ns : List ℕ) → All (λ (n : ℕ). n < number) ns → count_by (λ n. n == number) ns ≡ 0
count_none number [] below = refl
count_none number (n ∷ ns) below =
    let less = All-head (λ (k : ℕ). k < number) n ns below in
    let rest = count_none number ns (All-tail (λ (k : ℕ). k < number) n ns below) in
    rw (ne_eqb n number (λ same. omega arith)) rest

all_more : (number : ℕ) (ns : List ℕ) → All (λ (n : ℕ). n < number) ns → All (λ (n : ℕ). n < number + 1) (number ∷ ns)
all_more number ns below = All-cons (λ (n : ℕ). n < number + 1) number ns (omega arith) (λ i d inside. let less = below i d inside in omega arith)

-- ---- the root

pub starts_made : (keys : List Key) → All (HasMadeSeats 0 0) (map root_view keys)
starts_made keys = all_by (HasMadeSeats 0 0) (map root_view keys)
    (λ i v there. let m = mapped_at root_view keys i v there in
    subst (HasMadeSeats 0 0) (sym m.is) (record { below = All-nil (λ (n : ℕ). n < 0); joined = λ n less. absurd (omega arith) }))

pub starts_claims : HasMadeClaimers 0 0 yard_root_view
starts_claims = record { below = All-nil (λ (n : ℕ). n < 0); joined = λ n less. absurd (omega arith) }

-- a number was never given
pub never_made : (made back : ℕ) (vs : List View) → All (HasMadeSeats made back) vs → All (λ (v : View). count_of made v.made ≡ 0) vs
never_made made back vs all i d inside = count_none made (get_or vs i d).made (all i d inside).below

pub never_claimed : (made back : ℕ) (v : YardView) → HasMadeClaimers made back v → count_of made v.made ≡ 0
never_claimed made back v has = count_none made v.made has.below

-- it is given
pub splits_made : (made back : ℕ) (vs : List View) → All (HasMadeSeats made back) vs → All (HasMadeSeats (made + 1) back) (with_seats made vs)
splits_made made back vs all = all_by (HasMadeSeats (made + 1) back) (with_seats made vs)
    (λ i w there. let m = mapped_at (λ (v : View). with_seat v made) vs i w there in
    let has = all_at (HasMadeSeats made back) vs all i m.from m.there in
    subst (HasMadeSeats (made + 1) back) (sym m.is) (record { below = all_more made m.from.made has.below; joined = has.joined }))

pub splits_claims : (made back : ℕ) (v : YardView) → HasMadeClaimers made back v → HasMadeClaimers (made + 1) back (yard_with_seat v made)
splits_claims made back v has = record { below = all_more made v.made has.below; joined = has.joined }

pub new_numbers : (number : ℕ) (vs : List View) → All (λ (v : View). v.own.number ≡ number) (new_views number vs)
new_numbers number vs = all_by (λ (v : View). v.own.number ≡ number) (new_views number vs)
    (λ i w there. let m = mapped_at (λ (v : View). new_view number v.seen) vs i w there in ap (λ (v : View). v.own.number) m.is)

pub new_idle : (number : ℕ) (vs : List View) → All IsIdle (new_views number vs)
new_idle number vs = all_by IsIdle (new_views number vs)
    (λ i w there. let m = mapped_at (λ (v : View). new_view number v.seen) vs i w there in subst IsIdle (sym m.is) (record { free = refl; closed = refl }))

-- it is taken back
later : (h : HeldLevel) (hs : List HeldLevel) (n : ℕ) → Any (λ (k : HeldLevel). k.number ≡ n) hs → Any (λ (k : HeldLevel). k.number ≡ n) (h ∷ hs)
later h hs n any = (suc any.0, any.1, (let less = any.2 in omega arith), any.3, any.4)

behind_all : (gs hs : List HeldLevel) (n : ℕ) → Any (λ (k : HeldLevel). k.number ≡ n) hs → Any (λ (k : HeldLevel). k.number ≡ n) (gs ++ hs)
behind_all [] hs n any = any
behind_all (g ∷ gs) hs n any = later g (gs ++ hs) n (behind_all gs hs n any)

joins_one : (v w : View) (made back : ℕ) → w.own.number ≡ back → HasMadeSeats made back v → HasMadeSeats made (back + 1) (with_joined v w)
joins_one v w made back is has = record {
  below = has.below;
  joined = λ n less. elim (cases_eq n back) [
    | inl same ↦ (0, w.own, omega arith, refl, is ∙ sym same)
    | inr other ↦ later w.own (w.inherited ++ v.inherited) n (behind_all w.inherited v.inherited n (has.joined n (omega arith)))
  ];
}

pub joins_made : (made back : ℕ) (vs ws : List View) → All (HasMadeSeats made back) vs → All (λ (w : View). w.own.number ≡ back) ws → All (HasMadeSeats made (back + 1)) (joined_views vs ws)
joins_made made back vs ws all numbers = all_by (HasMadeSeats made (back + 1)) (joined_views vs ws)
    (λ i v there. let m = mapped_at (λ (p : View × View). with_joined p.0 p.1) (zip vs ws) i v there in
    let z = zipped_left vs ws i m.from m.there in
    subst (HasMadeSeats made (back + 1)) (sym m.is)
    (joins_one m.from.0 m.from.1 made back (all_at (λ (w : View). w.own.number ≡ back) ws numbers i m.from.1 z.1) (all_at (HasMadeSeats made back) vs all i m.from.0 z.0)))

pub joins_claims : (made back : ℕ) (v w : YardView) → w.number ≡ back → HasMadeClaimers made back v → HasMadeClaimers made (back + 1) (yard_with_joined v w)
joins_claims made back v w is has = record {
  below = has.below;
  joined = λ n less. elim (cases_eq n back) [
    | inl same ↦ (0, omega arith, is ∙ sym same)
    | inr other ↦ (let c = has.joined n (omega arith) in (suc c.0, (let l = c.1 in omega arith), c.2))
  ];
}

-- all are back
pub all_back : (made back : ℕ) (vs : List View) → made ≡ back → All (HasMadeSeats made back) vs → All AllJoined vs
all_back made back vs same all i d inside =
    let has = all i d inside in λ j e below. has.joined (get_or (get_or vs i d).made j e) (let less = has.below j e below in omega arith)

pub claimers_back : (made back : ℕ) (v : YardView) → made ≡ back → HasMadeClaimers made back v → YardAllJoined v
claimers_back made back v same has j e below = has.joined (get_or v.made j e) (let less = has.below j e below in omega arith)

-- ---- a call keeps the numbers

pub added_number : (changes : Bool) (op : Op) (number : ℕ) (reply : Reply) (v w : View) → AddsAs changes op number reply v w → w.own.number ≡ v.own.number
added_number true op number reply v w (c, is, op_is, reply_is, above) = ap (λ (z : View). z.own.number) is
added_number false op number reply v w (is, seen) = ap (λ (z : View). z.own.number) is

pub died_number : (op : Op) (v w : View) → Dies op v w → w.own.number ≡ v.own.number
died_number op v w (before a idle) = ap (λ (z : View). z.own.number) a.view
died_number op v w (within c is seen plan op_is level) = ap (λ (z : View). z.own.number) is
died_number op v w (behind number reply a idle h) = added_number (is_change reply) op number reply v w a.added

pub called_number : (End : View → Type 0) (Refused : ℕ → ℕ → View → Type 0) (segment extra : ℕ) (op : Op) (out : List ℕ) (v w : View) (y z : YardView) (result : Result Settled Stop)
    → Leaves End Refused segment extra op out v w y z result → (w.own.number ≡ v.own.number) × (z.number ≡ y.number)
called_number End Refused segment extra op out v w y z (Ok settled) l =
    (added_number (is_change (reply_in settled.answer out)) op settled.number (reply_in settled.answer out) v w l.adds.added, ap (λ (x : YardView). x.number) l.pays.alone.only)
called_number End Refused segment extra op out v w y z (Err (Busy looks last)) l = (ap (λ (x : View). x.own.number) l.0.adds.view, ap (λ (x : YardView). x.number) l.0.claims)
called_number End Refused segment extra op out v w y z (Err Died) l = (died_number op v w l.dies, ap (λ (x : YardView). x.number) l.owes.alone.only)

-- a pass that rests is in no sweep
pub in_no_sweep : {F : Type 0} (pass : Pass F) → IsResting pass → IsSome (sweep_of pass) → ⊥
in_no_sweep pass rests some = let none = rests.no_sweep in absurd (true≢false (sym some ∙ ap is_some none))

-- a pass that was called
pub player_called : {F : Type 0} (fused : F → FuseSeen) (store : Store) (Refused : ℕ → ℕ → View → Type 0) (op : Op) (out : List ℕ) (old now : Pass F) (result : Result Done Stop)
    → IsPlayer store old → Called fused store Refused op out old now result → IsPlayer store now
player_called fused store Refused op out old now result p c =
    let k = called_number IsIdle Refused (segment_of store.geo op) store.geo.extra op out c.calls.was c.calls.then (claims_view old) (claims_view now) (settled_of result) c.calls.acts in
    record {
      its = c.its;
      seats = subst (λ (vs : List View). All (λ (v : View). v.own.number ≡ now.number) vs) (sym c.calls.others)
          (All-set (λ (v : View). v.own.number ≡ now.number) (views_of old) (segment_of store.geo op) c.calls.then
          (k.0 ∙ (all_at (λ (v : View). v.own.number ≡ old.number) (views_of old) p.seats (segment_of store.geo op) c.calls.was c.calls.here ∙ sym c.number))
          (subst (λ (n : ℕ). All (λ (v : View). v.own.number ≡ n) (views_of old)) (sym c.number) p.seats));
      claims = k.1 ∙ (p.claims ∙ sym c.number);
      resting = λ lives none. c.resting lives;
      stepping = λ lives some. absurd (in_no_sweep now (c.resting lives) some);
    }
