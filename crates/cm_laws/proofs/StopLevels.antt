-- Stop words, and the levels that dead passes left.
use Rattle.std.proofs.Common.{◌≡◌, ◌≢◌, ◌⊎◌, ℕ, zero, suc, ◌+◌, ◌*◌, ◌<◌, ◌≤◌, Bool, true, false, List, [], ◌∷◌, ◌++◌, length, map, get_or, set, slice_get, sum_by, All, Any, Contains, Some, Ok, Err, inl, inr, refl, sym, ap, ◌∙◌, subst, arith}
use Rattle.std.specs.declared.result.Result.{Result}
use Rattle.std.specs.List.{zip}
use Rattle.std.proofs.lemmas.Bool.{cases_eq}
use Rattle.std.proofs.lemmas.List.{get_or-map, get_or-set_other, get_or-set_same, length-map, length-set}
use Rattle.std.proofs.lemmas.List.Elements.{All-append, All-head, All-cons}
use Rattle.std.proofs.lemmas.List.Sums.{get_or-le-sum_by}
use Rattle.std.proofs.lemmas.Option.{get_or_from_slice_get, slice_get_read, slice_get_within}
use Rattle.std.proofs.lemmas.Slice.Zip.{get_or-zip, length-zip}
use Rattle.cm_plain.specs.declared.op.Op.{Op}
use Rattle.cm_plain.specs.Slots.{word_at}
use Rattle.cm_words.specs.Maps.{MapWords, segment_in}
use Rattle.cm_lock.specs.declared.take.Stop.{Stop}
use Rattle.cm_lock.specs.declared.take.Stop.TheVariants.{Busy, Died}
use Rattle.cm_lock.specs.declared.view.HeldLevel.{HeldLevel}
use Rattle.cm_lock.specs.declared.view.Key.{Key}
use Rattle.cm_lock.specs.declared.view.Level.{Level}
use Rattle.cm_lock.specs.declared.view.Level.TheVariants.{Free, Read, Update, Write}
use Rattle.cm_lock.specs.declared.view.View.{View}
use Rattle.cm_lock.specs.Levels.{reads, reads_in, updates, updates_in, writes, writes_in}
use Rattle.cm_lock.specs.Rule.{root_view}
use Rattle.cm_lock.specs.Tables.{Closes}
use Rattle.cm_lock.specs.Views.{with_joined, with_seat}
use Rattle.cm_yard.specs.declared.view.Key.{Key as YardKey}
use Rattle.cm_yard.specs.declared.view.StopNumber.{StopNumber}
use Rattle.cm_yard.specs.declared.view.View.{View as YardView}
use Rattle.cm_yard.specs.Rule.{IsFound, IsRaised, KnowsStops}
use Rattle.cm_yard.specs.Views.{new_view as yard_new_view, root_view as yard_root_view, with_joined as yard_with_joined, with_seat as yard_with_seat, with_stop}
use Rattle.cm_turn.specs.declared.turn.Settled.{Settled}
use Rattle.cm_turn.specs.Calls.{Leaves}
use Rattle.cm_store.specs.Closes.{ClosesAll, ClosesYard}
use Rattle.cm_store.specs.Splits.{joined_views, new_views, with_seats}
use Rattle.cm_laws.specs.StopLaws.{AreLeft, IsLeft, StandsAt, StandsFor, StopsBy, levels_left}
use Rattle.cm_store.specs.Stops.{RaisesStop, stop_number}
use Rattle.cm_store.proofs.Elements.{element_at}
use Rattle.cm_laws.proofs.Balancing.{added_inherited, died_inherited}
use Rattle.cm_laws.proofs.Remains.{sum_one}

-- ---- lists

-- an element of a mapped list
pub map_there : {X Y : Type 0} (f : X → Y) (xs : List X) (i : ℕ) (x : X) → slice_get xs i ≡ Some x → slice_get (map f xs) i ≡ Some (f x)
map_there f xs i x there =
    let inside = slice_get_within xs i x there in
    slice_get_read (map f xs) (length xs) i (f x) (sym (length-map xs f)) inside
    (sym (get_or-map f xs i x (f x) inside ∙ ap f (get_or_from_slice_get xs i x x there)))

-- and of two lists side by side
zip_there : {X Y : Type 0} (xs : List X) (ys : List Y) (i : ℕ) (x : X) (y : Y) → slice_get xs i ≡ Some x → slice_get ys i ≡ Some y → slice_get (zip xs ys) i ≡ Some (x, y)
zip_there xs ys i x y x_there y_there =
    let left = slice_get_within xs i x x_there in let right = slice_get_within ys i y y_there in let long = length-zip xs ys in
    let inside : i < length (zip xs ys) = omega arith in
    slice_get_read (zip xs ys) (length (zip xs ys)) i (x, y) refl inside
    (sym (get_or-zip xs ys i (x, y) left right ∙ both (get_or_from_slice_get xs i x x x_there) (get_or_from_slice_get ys i y y y_there)))
  where
    both : {X Y : Type 0} {a x : X} {b y : Y} → a ≡ x → b ≡ y → ◌≡◌ {A = X × Y} (a, b) (x, y)
    both p q = λ i. (p i, q i)

first_any : {X : Type 0} (P : X → Type 0) (x : X) (xs : List X) → P x → Any P (x ∷ xs)
first_any P x xs p = (0, x, omega arith, refl, p)

later_any : {X : Type 0} (P : X → Type 0) (x : X) (xs : List X) → Any P xs → Any P (x ∷ xs)
later_any P x xs (k, y, inside, is, p) = (suc k, y, omega arith, is, p)

left_any : {X : Type 0} (P : X → Type 0) (xs ys : List X) → Any P xs → Any P (xs ++ ys)
left_any P [] ys (k, y, inside, is, p) = absurd (omega arith)
left_any P (x ∷ xs) ys (zero, y, inside, is, p) = (0, y, omega arith, is, p)
left_any P (x ∷ xs) ys (suc k, y, inside, is, p) = later_any P x (xs ++ ys) (left_any P xs ys (k, y, omega arith, is, p))

right_any : {X : Type 0} (P : X → Type 0) (xs ys : List X) → Any P ys → Any P (xs ++ ys)
right_any P [] ys any = any
right_any P (x ∷ xs) ys any = later_any P x (xs ++ ys) (right_any P xs ys any)

all_implied : {X : Type 0} (P Q : X → Type 0) (xs : List X) → ((x : X) → P x → Q x) → All P xs → All Q xs
all_implied P Q xs each all = λ k d below. each (get_or xs k d) (all k d below)

-- ---- what was left stays

-- a live pass left what it took over, and dead it left that too
still_left : (dead : Bool) (number : ℕ) (v w : View) → w.inherited ≡ v.inherited → Any (StopsBy number) v.inherited → Any (StopsBy number) (levels_left dead w)
still_left true number v w same any = later_any (StopsBy number) w.own w.inherited (subst (λ (hs : List HeldLevel). Any (StopsBy number) hs) (sym same) any)
still_left false number v w same any = subst (λ (hs : List HeldLevel). Any (StopsBy number) hs) (sym same) any

pub starts_left : (keys : List Key) → AreLeft false (map root_view keys) yard_root_view
starts_left keys k d below = absurd (omega arith)

seat_left : (dead : Bool) (number : ℕ) (roots : List View) (s : StopNumber) → IsLeft dead roots s → IsLeft dead (with_seats number roots) s
seat_left dead number roots s l = record {
  seat = with_seat l.seat number;
  there = map_there (λ (v : View). with_seat v number) roots s.segment l.seat l.there;
  left = same dead l.left;
}
  where
    same : (b : Bool) → Any (StopsBy s.number) (levels_left b l.seat) → Any (StopsBy s.number) (levels_left b (with_seat l.seat number))
    same true any = any
    same false any = any

none_left : (number : ℕ) (roots : List View) → AreLeft false (new_views number roots) (yard_new_view number)
none_left number roots k d below = absurd (omega arith)

pub splits_left : (dead : Bool) (number : ℕ) (roots : List View) (claims : YardView) → AreLeft dead roots claims
    → AreLeft dead (with_seats number roots) (yard_with_seat claims number) × AreLeft false (new_views number roots) (yard_new_view number)
splits_left dead number roots claims left =
    (all_implied (IsLeft dead roots) (IsLeft dead (with_seats number roots)) claims.raises (seat_left dead number roots) left, none_left number roots)

pub raises_left : (seats : List View) (old now : YardView) → RaisesStop seats old now → AreLeft true seats old → AreLeft true seats now
raises_left seats old now (RaisesStop.none free same) left = subst (λ (y : YardView). AreLeft true seats y) (sym same) left
raises_left seats old now (RaisesStop.held segment v there held is) left =
    let s : StopNumber = record { segment = segment; number = stop_number v.own.level } in
    let one : IsLeft true seats s = record { seat = v; there = there; left = first_any (StopsBy s.number) v.own v.inherited (record { held = held; number_is = refl }) } in
    subst (λ (y : YardView). AreLeft true seats y) (sym is)
    (All-append (IsLeft true seats) old.raises (s ∷ []) left (All-cons (IsLeft true seats) s [] one (λ k d below. absurd (omega arith))))

pub looks_left : (dead : Bool) (seats : List View) (claims : YardView) (segment found : ℕ) → AreLeft dead seats claims → AreLeft dead seats (with_stop claims segment found)
looks_left dead seats claims segment found left = left

-- whatever a live pass does at one seat but take over levels, and raise
pub acts_left : (dead : Bool) (segment : ℕ) (seats : List View) (was now : View) (before later : YardView) → slice_get seats segment ≡ Some was
    → now.inherited ≡ was.inherited → later.raises ≡ before.raises → AreLeft false seats before → AreLeft dead (set seats segment now) later
acts_left dead segment seats was now before later here same raises left =
    subst (λ (ss : List StopNumber). All (IsLeft dead (set seats segment now)) ss) (sym raises) (all_implied (IsLeft false seats) (IsLeft dead (set seats segment now)) before.raises each left)
  where
    long : length (set seats segment now) ≡ length seats
    long = length-set seats segment now

    each : (s : StopNumber) → IsLeft false seats s → IsLeft dead (set seats segment now) s
    each s l =
        let within = slice_get_within seats s.segment l.seat l.there in
        elim (cases_eq s.segment segment) [
          | inl is ↦ (
              let seat_is : l.seat ≡ was = some_same (sym l.there ∙ (ap (slice_get seats) is ∙ here)) in
              record {
                seat = now;
                there = slice_get_read (set seats segment now) (length seats) s.segment now (sym long) within
                    (sym (ap (λ (j : ℕ). get_or (set seats segment now) j now) is ∙ get_or-set_same seats segment now now (slice_get_within seats segment was here)));
                left = still_left dead s.number l.seat now (same ∙ sym (ap (λ (v : View). v.inherited) seat_is)) l.left;
              })
          | inr ne ↦ record {
            seat = l.seat;
            there = slice_get_read (set seats segment now) (length seats) s.segment l.seat (sym long) within
                (sym (get_or-set_other seats segment s.segment now l.seat ne ∙ get_or_from_slice_get seats s.segment l.seat l.seat l.there));
            left = still_left dead s.number l.seat l.seat refl l.left;
          }
        ]
      where
        some_same : {x y : View} → Some x ≡ Some y → x ≡ y
        some_same e = cc e

call_inherited : (End : View → Type 0) (Refused : ℕ → ℕ → View → Type 0) (extra segment : ℕ) (op : Op) (out : List ℕ) (was now : View) (before later : YardView) (result : Result Settled Stop)
    → Leaves End Refused segment extra op out was now before later result → now.inherited ≡ was.inherited
call_inherited End Refused extra segment op out was now before later (Ok settled) leaves = added_inherited _ op settled.number _ was now leaves.adds.added
call_inherited End Refused extra segment op out was now before later (Err (Busy looks last)) leaves = ap (λ (v : View). v.inherited) leaves.0.adds.view
call_inherited End Refused extra segment op out was now before later (Err Died) leaves = died_inherited op was now leaves.dies

call_raises : (End : View → Type 0) (Refused : ℕ → ℕ → View → Type 0) (extra segment : ℕ) (op : Op) (out : List ℕ) (was now : View) (before later : YardView) (result : Result Settled Stop)
    → Leaves End Refused segment extra op out was now before later result → later.raises ≡ before.raises
call_raises End Refused extra segment op out was now before later (Ok settled) leaves = ap (λ (y : YardView). y.raises) leaves.pays.alone.only
call_raises End Refused extra segment op out was now before later (Err (Busy looks last)) leaves = ap (λ (y : YardView). y.raises) leaves.0.claims
call_raises End Refused extra segment op out was now before later (Err Died) leaves = ap (λ (y : YardView). y.raises) leaves.owes.alone.only

pub calls_left : (End : View → Type 0) (Refused : ℕ → ℕ → View → Type 0) (dead : Bool) (extra segment : ℕ) (op : Op) (out : List ℕ) (seats : List View) (was now : View) (before later : YardView)
    (result : Result Settled Stop) → slice_get seats segment ≡ Some was → Leaves End Refused segment extra op out was now before later result
    → AreLeft false seats before → AreLeft dead (set seats segment now) later
calls_left End Refused dead extra segment op out seats was now before later result here leaves left =
    acts_left dead segment seats was now before later here (call_inherited End Refused extra segment op out was now before later result leaves)
    (call_raises End Refused extra segment op out was now before later result leaves) left

pub unclaimed_left : (dead : Bool) (segment : ℕ) (seats : List View) (was now : View) (claims : YardView) → slice_get seats segment ≡ Some was → now.inherited ≡ was.inherited
    → AreLeft false seats claims → AreLeft dead (set seats segment now) claims
unclaimed_left dead segment seats was now claims here same left = acts_left dead segment seats was now claims claims here same refl left

-- ---- joins

root_left : (dead : Bool) (number : ℕ) (v w : View) → Any (StopsBy number) (levels_left dead v) → Any (StopsBy number) (levels_left dead (with_joined v w))
root_left true number v w (zero, h, inside, is, stops) = (0, h, omega arith, is, stops)
root_left true number v w (suc k, h, inside, is, stops) =
    later_any (StopsBy number) v.own (w.own ∷ (w.inherited ++ v.inherited)) (later_any (StopsBy number) w.own (w.inherited ++ v.inherited)
    (right_any (StopsBy number) w.inherited v.inherited (k, h, omega arith, is, stops)))
root_left false number v w any =
    later_any (StopsBy number) w.own (w.inherited ++ v.inherited) (right_any (StopsBy number) w.inherited v.inherited any)

taken_left : (root_dead dead : Bool) (number : ℕ) (v w : View) → Any (StopsBy number) (levels_left dead w) → Any (StopsBy number) (levels_left root_dead (with_joined v w))
taken_left root_dead dead number v w any = by_root root_dead (left_any (StopsBy number) (w.own ∷ w.inherited) v.inherited (by_dead dead any))
  where
    by_dead : (b : Bool) → Any (StopsBy number) (levels_left b w) → Any (StopsBy number) (w.own ∷ w.inherited)
    by_dead true a = a
    by_dead false a = later_any (StopsBy number) w.own w.inherited a

    by_root : (b : Bool) → Any (StopsBy number) (w.own ∷ (w.inherited ++ v.inherited)) → Any (StopsBy number) (levels_left b (with_joined v w))
    by_root true a = later_any (StopsBy number) v.own (w.own ∷ (w.inherited ++ v.inherited)) a
    by_root false a = a

pub joins_left : (root_dead dead : Bool) (roots others : List View) (claims taken : YardView) → length others ≡ length roots
    → AreLeft root_dead roots claims → AreLeft dead others taken → AreLeft root_dead (joined_views roots others) (yard_with_joined claims taken)
joins_left root_dead dead roots others claims taken many left its =
    All-append (IsLeft root_dead (joined_views roots others)) claims.raises taken.raises
    (all_implied (IsLeft root_dead roots) (IsLeft root_dead (joined_views roots others)) claims.raises mine left)
    (all_implied (IsLeft dead others) (IsLeft root_dead (joined_views roots others)) taken.raises theirs its)
  where
    joined_there : (i : ℕ) (v w : View) → slice_get roots i ≡ Some v → slice_get others i ≡ Some w → slice_get (joined_views roots others) i ≡ Some (with_joined v w)
    joined_there i v w v_there w_there = map_there (λ (p : View × View). with_joined p.0 p.1) (zip roots others) i (v, w) (zip_there roots others i v w v_there w_there)

    mine : (s : StopNumber) → IsLeft root_dead roots s → IsLeft root_dead (joined_views roots others) s
    mine s l =
        let within = slice_get_within roots s.segment l.seat l.there in
        let (w, w_there) = element_at others s.segment (omega arith) in
        record { seat = with_joined l.seat w; there = joined_there s.segment l.seat w l.there w_there; left = root_left root_dead s.number l.seat w l.left }

    theirs : (s : StopNumber) → IsLeft dead others s → IsLeft root_dead (joined_views roots others) s
    theirs s l =
        let within = slice_get_within others s.segment l.seat l.there in
        let (v, v_there) = element_at roots s.segment (omega arith) in
        record { seat = with_joined v l.seat; there = joined_there s.segment v l.seat v_there l.there; left = taken_left root_dead dead s.number v l.seat l.left }

-- ---- at the end

level_counts : (level : Level) (number : ℕ) → level ≢ Free → stop_number level ≡ number
    → ((number ≡ 1) × (1 ≤ reads level + updates level)) ⊎ ((number ≡ 2) × (1 ≤ writes level))
level_counts Free number held is = absurd (held refl)
level_counts Read number held is = inl (sym is, omega arith)
level_counts Update number held is = inl (sym is, omega arith)
level_counts Write number held is = inr (sym is, omega arith)

-- a level that isn't counted
not_zero : (word reading updating writing : ℕ) → word ≡ reading + 1073741824 * updating + 2147483648 * writing → 0 < reading + updating + writing → word ≢ 0
not_zero word reading updating writing is some none = absurd (omega arith)

no_writer : (reading updating writing : ℕ) → updating + writing ≤ 1 → (0 < writing → reading ≡ 0) → 0 < reading + updating → writing ≡ 0
no_writer reading updating zero most none some = refl
no_writer reading updating (suc writing) most none some = let z = none (omega arith) in absurd (omega arith)

stands_for : (key : Key) (words : List ℕ) (v : View) (number : ℕ) → Closes key v words → Any (StopsBy number) v.inherited → StandsFor number words v
stands_for key words v number closes (k, h, inside, is, stops) = elim (level_counts h.level number stops.held stops.number_is) [
  | inl (one, some) ↦ record {
    known = inl one;
    writer = λ two. absurd (omega arith);
    others = λ _. (no_writer (reads_in v) (updates_in v) (writes_in v) only_one alone (let w = counted in omega arith), (let w = counted in omega arith));
    locked = not_zero (word_at words 0) (reads_in v) (updates_in v) (writes_in v) lock (let w = counted in omega arith);
  }
  | inr (two, some) ↦ record {
    known = inr two;
    writer = λ _. (let w = only_one in let c = counted in omega arith);
    others = λ one. absurd (omega arith);
    locked = not_zero (word_at words 0) (reads_in v) (updates_in v) (writes_in v) lock (let w = counted in omega arith);
  }
]
  where
    read_one : reads h.level ≤ sum_by (λ (x : HeldLevel). reads x.level) v.inherited
    read_one = subst (λ (x : HeldLevel). reads x.level ≤ sum_by (λ (y : HeldLevel). reads y.level) v.inherited) is (get_or-le-sum_by (λ (x : HeldLevel). reads x.level) v.inherited k h inside)

    update_one : updates h.level ≤ sum_by (λ (x : HeldLevel). updates x.level) v.inherited
    update_one = subst (λ (x : HeldLevel). updates x.level ≤ sum_by (λ (y : HeldLevel). updates y.level) v.inherited) is (get_or-le-sum_by (λ (x : HeldLevel). updates x.level) v.inherited k h inside)

    write_one : writes h.level ≤ sum_by (λ (x : HeldLevel). writes x.level) v.inherited
    write_one = subst (λ (x : HeldLevel). writes x.level ≤ sum_by (λ (y : HeldLevel). writes y.level) v.inherited) is (get_or-le-sum_by (λ (x : HeldLevel). writes x.level) v.inherited k h inside)

    counted : (reads h.level ≤ reads_in v) × (updates h.level ≤ updates_in v) × (writes h.level ≤ writes_in v)
    counted = ((let r = read_one in omega arith), (let u = update_one in omega arith), (let w = write_one in omega arith))

    only_one : updates_in v + writes_in v ≤ 1
    only_one = let a = closes.levels.at_most_one in let u = sum_one updates_in v in let w = sum_one writes_in v in omega arith

    alone : 0 < writes_in v → reads_in v ≡ 0
    alone some = sym (sum_one reads_in v) ∙ closes.levels.no_reader (let w = sum_one writes_in v in omega arith)

    lock : word_at words 0 ≡ reads_in v + 1073741824 * updates_in v + 2147483648 * writes_in v
    lock = let l = closes.levels.lock_word in let r = sum_one reads_in v in let u = sum_one updates_in v in let w = sum_one writes_in v in omega arith

raised_alone : (v : YardView) (s : StopNumber) → IsRaised (v ∷ []) s → Contains v.raises s
raised_alone v s (zero, x, inside, is, there) = subst (λ (y : YardView). Contains y.raises s) (sym is) there
raised_alone v s (suc k, x, inside, is, there) = absurd (omega arith)

pub stops_stand : (keys : List Key) (roots : List View) (map_words : MapWords) (key : YardKey) (claims : YardView) → length roots ≡ length keys
    → ClosesAll keys roots map_words → ClosesYard key claims → AreLeft false roots claims
    → All (λ (s : StopNumber). s.number ≢ 0 → StandsAt roots map_words s) claims.stops
stops_stand keys roots map_words key claims many closes yard left i d below = λ some.
    let found : IsFound (claims ∷ []) (get_or claims.stops i d) =
    (All-head (KnowsStops key.geo yard.closes.0 (claims ∷ [])) claims [] yard.closes.1.stops.each).found i d below in
    by (get_or claims.stops i d) (raised_alone claims (get_or claims.stops i d) (found some))
  where
    by : (s : StopNumber) → Contains claims.raises s → StandsAt roots map_words s
    by s (k, inside, is) =
        let l : IsLeft false roots s = subst (IsLeft false roots) is (left k s inside) in
        let within = slice_get_within roots s.segment l.seat l.there in
        let (key_here, key_there) = element_at keys s.segment (omega arith) in
        record {
          seat = l.seat;
          there = l.there;
          stands = stands_for key_here (segment_in map_words s.segment) l.seat s.number (closes.each s.segment key_here l.seat key_there l.there) l.left;
        }
