-- Numbers of seats: who is the root, what it made, and what it joined.
use Rattle.std.proofs.Common.{◌≡◌, ◌≢◌, ℕ, ◌+◌, ◌<◌, ◌≤◌, List, [], ◌∷◌, ◌++◌, Any, set, sum_by, refl, sym, ap, ◌∙◌, subst, arith}
use Rattle.std.proofs.lemmas.List.Elements.{All-set, All-push}
use Rattle.std.proofs.lemmas.List.Sums.{sum_by-append, sum_by-cons, sum_by_push}
use mathlib.Core.Logic.{dite}
use mathlib.Core.Option.{some}
use native.Mathlib.Decide.{ℕ_discrete}
use lib.ListN.{get_elem?}
use Rattle.cm_words.proofs.ListSums.{all_at, at_get, count_cons, count_here, count_there, counted_there, sum_part, one_if, one_if_other, one_if_same, sum_alone, sum_same, sum_set, sum_two}
use Rattle.cm_lock.specs.declared.view.HeldLevel.{HeldLevel}
use Rattle.cm_lock.specs.declared.view.View.{View}
use Rattle.cm_lock.specs.Seats.{AllJoined, AreSeats, IsSeat, count_of, held_count, made_count, owner_count}
use Rattle.cm_lock.specs.Views.{child, head_or_root, spent_view, with_due, with_joined, without_due}

-- a seat that is among levels is counted among them
among_counted : (n : ℕ) (hs : List HeldLevel) → Any (λ (h : HeldLevel). h.number ≡ n) hs → 0 < sum_by (owner_count n) hs
among_counted n hs any =
    let h = any.1 in
    let part = sum_part (owner_count n) hs any.0 h (at_get hs any.0 h any.2 ∙ ap some any.3) in
    let one = one_if_same h.number n any.4 in
    omega arith

-- 1 for the root
abbrev pub root_count : View → ℕ
root_count v = owner_count 64 v.own

-- a seat that has a number still keeps what is asked of it
pub still_seat : (v w : View) → v.own.number ≢ 65 → w.own.number ≡ v.own.number → w.made ≡ v.made → w.due ≡ v.due → w.inherited ≡ v.inherited → IsSeat v → IsSeat w
still_seat v w live n m d i k = record {
  within = subst (λ (z : ℕ). z ≤ 65) (sym n) k.within;
  only_root = λ ne. (let o = k.only_root (λ z. ne (n ∙ z)) in (m ∙ o.0, d ∙ o.1, i ∙ o.2));
  nothing = λ z. absurd (live (sym n ∙ z));
}

-- a seat in somebody's hand isn't spent
pub live_number : (n : ℕ) → n ≤ 64 → n ≢ 65
live_number n within e = omega arith

module _ (views : List View) (r : AreSeats views) (id : ℕ) (v : View) (at : get_elem? views id ≡ some v) where
  -- a seat that keeps its numbers
  pub seats_frame : (w : View) → v.own.number ≢ 65 → w.own.number ≡ v.own.number → w.made ≡ v.made → w.due ≡ v.due → w.inherited ≡ v.inherited → AreSeats (set views id w)
  seats_frame w live n m d i = record {
    one_root = sum_same root_count views id v w at (named 64) ∙ r.one_root;
    once = λ k. (let t = sum_same (made_count k) views id v w at (ap (count_of k) m) in let o = r.once k in omega arith);
    living = λ k small. sum_same (held_count k) views id v w at (has k) ∙ (r.living k small ∙ sym (sum_same (made_count k) views id v w at (ap (count_of k) m)));
    each = All-set IsSeat views id w (still_seat v w live n m d i (all_at IsSeat views id v at r.each)) r.each;
  }
    where
      named : (k : ℕ) → owner_count k w.own ≡ owner_count k v.own
      named k = ap (λ (z : ℕ). one_if z k) n

      has : (k : ℕ) → held_count k w ≡ held_count k v
      has k =
          let a = named k in
          let b : sum_by (owner_count k) w.inherited ≡ sum_by (owner_count k) v.inherited = ap (sum_by (owner_count k)) i in
          let c : count_of k w.due ≡ count_of k v.due = ap (count_of k) d in omega arith

  -- beside the root no seat is one
  pub others : v.own.number ≡ 64 → (j : ℕ) (u : View) → j ≢ id → get_elem? views j ≡ some u → u.own.number ≢ 64
  others is j u ne h e =
      let t = sum_two root_count views j id u v ne h at in
      let o = r.one_root in let a = one_if_same v.own.number 64 is in let b = one_if_same u.own.number 64 e in
      absurd (omega arith)

  -- what all seats made is what the root made
  made_alone : v.own.number ≡ 64 → (n : ℕ) → sum_by (made_count n) views ≡ made_count n v
  made_alone is n = sum_alone (made_count n) views id v at (λ j u ne h. ap (count_of n) ((all_at IsSeat views j u h r.each).only_root (others is j u ne h)).0)

  -- the root may change
  root_seat : (w : View) → w.own.number ≡ 64 → IsSeat w
  root_seat w is = record { within = omega arith; only_root = λ ne. absurd (ne is); nothing = λ z. absurd (omega arith) }

  -- the root notes a number that it never made
  pub seats_due : (k : ℕ) → v.own.number ≡ 64 → v.due ≡ [] → count_of k v.made ≡ 0 → AreSeats (set views id (with_due v k))
  seats_due k is none_due never =
      let w = with_due v k in record {
        one_root = (let t = sum_set root_count views id v w at in let o = r.one_root in omega arith);
        once = λ n. (let t = sum_set (made_count n) views id v w at in let o = r.once n in let a = made_alone is n in dite (ℕ_discrete k n)
            (λ e. let q : count_of n v.made ≡ 0 = ap (λ (z : ℕ). count_of z v.made) (sym e) ∙ never in let c : made_count n w ≡ 1 + made_count n v = subst (λ (z : ℕ). count_of n (z ∷ v.made) ≡ 1 + count_of n v.made) (sym e) (count_here n v.made) in omega arith)
            (λ ne. let c : made_count n w ≡ made_count n v = count_there n k v.made ne in omega arith));
        living = λ n small.
            (let t = sum_set (made_count n) views id v w at in let s = sum_set (held_count n) views id v w at in let o = r.living n small in
            let d : count_of n v.due ≡ 0 = ap (count_of n) none_due in let m = count_cons n k v.made in let q = count_cons n k [] in omega arith);
        each = All-set IsSeat views id w (root_seat w is) r.each;
      }

  -- the root makes the seat of the number that it noted
  pub seats_split : (k : ℕ) → v.own.number ≡ 64 → v.due ≡ k ∷ [] → k < 64 → AreSeats (set views id (without_due v) ++ child v ∷ [])
  seats_split k is due small =
      let w = without_due v in let u = child v in let mid = set views id w in
      let un : u.own.number ≡ k = ap head_or_root due in
      let child_has : (n : ℕ) → owner_count n u.own ≡ count_of n v.due = λ n. let a : owner_count n u.own ≡ one_if k n = ap (λ (z : ℕ). one_if z n) un in let b : count_of n v.due ≡ count_of n (k ∷ []) = ap (count_of n) due in let c = count_cons n k [] in omega arith in
      let not_root : owner_count 64 u.own ≡ 0 = one_if_other u.own.number 64 (λ e. omega arith) in record {
        one_root = (let t = sum_set root_count views id v w at in let q = sum_by_push root_count mid u in let o = r.one_root in omega arith);
        once = λ n. (let t = sum_set (made_count n) views id v w at in let q = sum_by_push (made_count n) mid u in let o = r.once n in omega arith);
        living = λ n less.
            (let t = sum_set (made_count n) views id v w at in let q = sum_by_push (made_count n) mid u in let s = sum_set (held_count n) views id v w at in let p = sum_by_push (held_count n) mid u in
            let o = r.living n less in let c = child_has n in omega arith);
        each = All-push IsSeat mid u (All-set IsSeat views id w (root_seat w is) r.each) record { within = omega arith; only_root = λ _. (refl, refl, refl); nothing = λ z. absurd (omega arith) };
      }

  -- the root joins another seat
  pub seats_join : (other : ℕ) (o : View) → v.own.number ≡ 64 → o.own.number < 64 → get_elem? views other ≡ some o → get_elem? (set views id (with_joined v o)) other ≡ some o → AreSeats (set (set views id (with_joined v o)) other spent_view)
  seats_join other o is small there there' =
      let w = with_joined v o in let mid = set views id w in
      let bare = (all_at IsSeat views other o there r.each).only_root (λ e. omega arith) in
      let no_name : (n : ℕ) → n < 65 → owner_count n spent_view.own ≡ 0 = λ n less. one_if_other spent_view.own.number n (λ e. absurd (omega arith)) in
      let not_root : owner_count 64 o.own ≡ 0 = one_if_other o.own.number 64 (λ e. omega arith) in record {
        one_root = (let t = sum_set root_count views id v w at in let q = sum_set root_count mid other o spent_view there' in let k = r.one_root in let z = no_name 64 (omega arith) in omega arith);
        once = λ n. (let t = sum_set (made_count n) views id v w at in let q = sum_set (made_count n) mid other o spent_view there' in let m : made_count n o ≡ 0 = ap (count_of n) bare.0 in let k = r.once n in omega arith);
        living = λ n less.
            (let t = sum_set (made_count n) views id v w at in let q = sum_set (made_count n) mid other o spent_view there' in let m : made_count n o ≡ 0 = ap (count_of n) bare.0 in
            let s = sum_set (held_count n) views id v w at in let p = sum_set (held_count n) mid other o spent_view there' in
            let d : count_of n o.due ≡ 0 = ap (count_of n) bare.1 in
            let c = sum_by-cons (owner_count n) o.own (o.inherited ++ v.inherited) in let a = sum_by-append (owner_count n) o.inherited v.inherited in
            let z = no_name n (omega arith) in let k = r.living n less in omega arith);
        each = All-set IsSeat mid other spent_view record { within = omega arith; only_root = λ _. (refl, refl, refl); nothing = λ _. refl } (All-set IsSeat views id w (root_seat w is) r.each);
      }

  -- where every seat that was made was joined, all others are spent
  pub alone : v.own.number ≡ 64 → AllJoined v → (j : ℕ) (u : View) → j ≢ id → get_elem? views j ≡ some u → u ≡ spent_view
  alone is all j u ne h =
      let k = all_at IsSeat views j u h r.each in
      k.nothing (dite (ℕ_discrete u.own.number 65) (λ e. e) (λ live.
      let within = k.within in let not_root = others is j u ne h in let small : u.own.number < 64 = omega arith in
      let n : ℕ = u.own.number in
      let made = made_alone is n in
      let two = sum_two (held_count n) views j id u v ne h at in
      let o = r.living n small in
      let m = one_if_same u.own.number n refl in
      let c : 0 < count_of n v.made = omega arith in
      let once = r.once n in
      let there = counted_there n v.made c in
      let joined = among_counted n v.inherited (subst (λ (k : ℕ). Any (λ (h : HeldLevel). h.number ≡ k) v.inherited) there.2 (all there.0 n there.1)) in
      absurd (omega arith)))
