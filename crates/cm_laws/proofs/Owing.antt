-- Claims that no change paid for, and what FullSpent says of the extra tiers at the end.
use Rattle.std.proofs.Common.{◌≡◌, ◌≢◌, ◌⊎◌, ℕ, zero, suc, ◌+◌, ◌-◌, ◌<◌, ◌≤◌, ◌==◌, nat_lt, List, [], ◌∷◌, ◌++◌, length, map, get_or, set, slice_get, sum, sum_by, count_by, Any, Some, Ok, Err, inl, inr, refl, sym, ap, ◌∙◌, subst, arith, length-append}
use Rattle.std.specs.declared.result.Result.{Result}
use Rattle.std.specs.List.{range_with_len}
use Rattle.std.proofs.lemmas.Bool.{cases_eq}
use Rattle.std.proofs.lemmas.Bool.Decides.{nat_tests}
use Rattle.std.proofs.lemmas.List.FromFn.{get_or-map-range_with_len, length-map-range_with_len}
use Rattle.std.proofs.lemmas.List.Sums.{sum-map, sum_by-cons, sum_by-set}
use Rattle.std.proofs.lemmas.Option.{get_or_from_slice_get, slice_get_read, slice_get_within}
use Rattle.cm_geo.specs.declared.geo.Geo.{Geo}
use Rattle.cm_plain.specs.declared.op.Op.{Op}
use Rattle.cm_plain.specs.declared.reply.Reply.TheVariants as reply
use Rattle.cm_plain.specs.FoundChains.{chain_of}
use Rattle.cm_words.specs.Maps.{MapWords, segment_in}
use Rattle.cm_lock.specs.declared.take.Stop.{Stop}
use Rattle.cm_lock.specs.declared.take.Stop.TheVariants.{Busy, Died}
use Rattle.cm_lock.specs.declared.view.Key.{Key}
use Rattle.cm_lock.specs.declared.view.NumberedChange.{NumberedChange}
use Rattle.cm_lock.specs.declared.view.View.{View}
use Rattle.cm_lock.specs.Rule.{root_view}
use Rattle.cm_lock.specs.Views.{with_joined, with_seat}
use Rattle.cm_yard.specs.declared.view.Key.{Key as YardKey}
use Rattle.cm_yard.specs.declared.view.OwnedWord.{OwnedWord}
use Rattle.cm_yard.specs.declared.view.View.{View as YardView}
use Rattle.cm_yard.specs.Claims.{HasFoundAll, claims_for}
use Rattle.cm_yard.specs.Views.{new_view as yard_new_view, root_view as yard_root_view, with_joined as yard_with_joined, with_seat as yard_with_seat}
use Rattle.cm_yard.specs.Words.{owned_in}
use Rattle.cm_yard.proofs.Finding.{finds_all}
use Rattle.cm_turn.specs.declared.turn.Settled.{Settled}
use Rattle.cm_turn.specs.Answers.{reply_in}
use Rattle.cm_store.specs.Balance.{OwesAtMost}
use Rattle.cm_turn.specs.Calls.{Leaves}
use Rattle.cm_store.specs.Closes.{ClosesAll, ClosesYard}
use Rattle.cm_laws.specs.SpentLaws.{deaths_in}
use Rattle.cm_store.specs.Splits.{joined_views, new_views, with_seats}
use Rattle.cm_store.specs.Tables.{key_in, keys_of, linked_in, linked_of}
use Rattle.cm_turn.specs.Turns.{KeepsFound, links_in}
use Rattle.cm_laws.proofs.Allowance.{claims_more}
use Rattle.cm_laws.proofs.Balancing.{claims_elsewhere, joined_links}
use Rattle.cm_laws.proofs.Linking.{chain_held, chain_there, one_if}

-- ---- all claims, and those for each segment

none_below : (os : List OwnedWord) → count_by (λ (o : OwnedWord). nat_lt o.segment 0) os ≡ 0
none_below [] = refl
none_below (o ∷ os) =
    let c = sum_by-cons (λ (x : OwnedWord). one_if (nat_lt x.segment 0)) o os in let r = none_below os in
    let z : one_if (nat_lt o.segment 0) ≡ 0 = grind (arith, nat_tests) in omega arith

-- a number above the segments of all claims
abbrev above_all : List OwnedWord → ℕ
above_all [] = 0
above_all (o ∷ os) = suc (o.segment + above_all os)

is_below : (a n : ℕ) → a < n → one_if (nat_lt a n) ≡ 1
is_below a n below = grind (arith, nat_tests)

all_below : (os : List OwnedWord) (n : ℕ) → above_all os ≤ n → count_by (λ (o : OwnedWord). nat_lt o.segment n) os ≡ length os
all_below [] n most = refl
all_below (o ∷ os) n most =
    let c = sum_by-cons (λ (x : OwnedWord). one_if (nat_lt x.segment n)) o os in
    let r = all_below os n (omega arith) in let b = is_below o.segment n (omega arith) in omega arith

-- claims for the segments below a number
abbrev claims_to : ℕ → List OwnedWord → ℕ
claims_to n os = count_by (λ (o : OwnedWord). nat_lt o.segment n) os

abbrev claims_at : ℕ → List OwnedWord → ℕ
claims_at segment os = count_by (λ (o : OwnedWord). o.segment == segment) os

-- where the claims for other segments are as many, all claims are more by as many as those for this one
to_alike : (segment n : ℕ) (xs ys : List OwnedWord) → ((other : ℕ) → other ≢ segment → claims_at other ys ≡ claims_at other xs)
    → (n ≤ segment → claims_to n ys ≡ claims_to n xs) × (segment < n → claims_to n ys + claims_at segment xs ≡ claims_to n xs + claims_at segment ys)
to_alike segment zero xs ys same = ((λ _. none_below ys ∙ sym (none_below xs)), λ below. absurd (omega arith))
to_alike segment (suc n) xs ys same =
    let (under, over) = to_alike segment n xs ys same in
    let x = claims_more n xs in let y = claims_more n ys in (
      (λ most. (let u = under (omega arith) in let e = same n (omega arith) in omega arith)),
      λ below. elim (cases_eq n segment) [
        | inl is ↦ (
            let u = under (omega arith) in
            let ex = ap (λ (s : ℕ). claims_at s xs) is in let ey = ap (λ (s : ℕ). claims_at s ys) is in omega arith)
        | inr ne ↦ (let o = over (omega arith) in let e = same n ne in omega arith)
      ],
    )

lengths_alike : (segment : ℕ) (xs ys : List OwnedWord) → ((other : ℕ) → other ≢ segment → claims_at other ys ≡ claims_at other xs)
    → length ys + claims_at segment xs ≡ length xs + claims_at segment ys
lengths_alike segment xs ys same =
    let n = suc (segment + (above_all xs + above_all ys)) in
    let t = (to_alike segment n xs ys same).1 (omega arith) in
    let x = all_below xs n (omega arith) in let y = all_below ys n (omega arith) in omega arith

-- ---- what is owed

pub starts_owing : (keys : List Key) → OwesAtMost 0 (map root_view keys) yard_root_view
starts_owing keys = omega arith

same_links : (f : View → View) (vs : List View) → ((v : View) → links_in (f v) ≡ links_in v) → sum_by links_in (map f vs) ≡ sum_by links_in vs
same_links f [] same = refl
same_links f (v ∷ vs) same =
    let a = sum_by-cons links_in (f v) (map f vs) in let b = sum_by-cons links_in v vs in
    let e = same v in let r = same_links f vs same in omega arith

pub splits_owing : (dead number : ℕ) (roots : List View) (claims : YardView) → OwesAtMost dead roots claims
    → OwesAtMost dead (with_seats number roots) (yard_with_seat claims number) × OwesAtMost 0 (new_views number roots) (yard_new_view number)
splits_owing dead number roots claims owes =
    ((let s = same_links (λ (v : View). with_seat v number) roots (λ v. refl) in omega arith), omega arith)

call_owed : (End : View → Type 0) (Refused : ℕ → ℕ → View → Type 0) (extra segment : ℕ) (op : Op) (out : List ℕ) (was now : View) (before later : YardView) (result : Result Settled Stop)
    → Leaves End Refused segment extra op out was now before later result → links_in was + claims_for segment later ≤ links_in now + claims_for segment before + deaths_in result
call_owed End Refused extra segment op out was now before later (Ok settled) leaves = let p = leaves.pays.paid in omega arith
call_owed End Refused extra segment op out was now before later (Err (Busy looks last)) leaves =
    let l = ap (λ (v : View). links_in v) leaves.0.adds.view in let c = ap (claims_for segment) leaves.0.claims in omega arith
call_owed End Refused extra segment op out was now before later (Err Died) leaves = leaves.owes.one_more

pub calls_owing : (End : View → Type 0) (Refused : ℕ → ℕ → View → Type 0) (dead extra segment : ℕ) (op : Op) (out : List ℕ) (seats : List View) (was now : View) (before later : YardView)
    (result : Result Settled Stop) → slice_get seats segment ≡ Some was → Leaves End Refused segment extra op out was now before later result
    → OwesAtMost dead seats before → OwesAtMost (dead + deaths_in result) (set seats segment now) later
calls_owing End Refused dead extra segment op out seats was now before later result here leaves owes =
    let c = call_owed End Refused extra segment op out was now before later result leaves in
    let l = lengths_alike segment before.claims later.claims (claims_elsewhere End Refused extra segment op out was now before later result leaves) in
    let s = sum_by-set links_in seats segment now was (slice_get_within seats segment was here) in
    let is : links_in (get_or seats segment was) ≡ links_in was = ap (λ (v : View). links_in v) (get_or_from_slice_get seats segment was was here) in
    omega arith

pub unclaimed_owing : (dead segment : ℕ) (seats : List View) (was now : View) (claims : YardView) → slice_get seats segment ≡ Some was → now.changes ≡ was.changes
    → OwesAtMost dead seats claims → OwesAtMost dead (set seats segment now) claims
unclaimed_owing dead segment seats was now claims here same owes =
    let s = sum_by-set links_in seats segment now was (slice_get_within seats segment was here) in
    let is : links_in (get_or seats segment was) ≡ links_in was = ap (λ (v : View). links_in v) (get_or_from_slice_get seats segment was was here) in
    let l : links_in now ≡ links_in was = ap (count_by (λ (c : NumberedChange). c.change.link)) same in
    omega arith

joined_sum : (vs ws : List View) → length ws ≡ length vs → sum_by links_in (joined_views vs ws) ≡ sum_by links_in vs + sum_by links_in ws
joined_sum [] [] many = refl
joined_sum [] (w ∷ ws) many = absurd (omega arith)
joined_sum (v ∷ vs) [] many = absurd (omega arith)
joined_sum (v ∷ vs) (w ∷ ws) many =
    let a = sum_by-cons links_in (with_joined v w) (joined_views vs ws) in
    let b = sum_by-cons links_in v vs in let c = sum_by-cons links_in w ws in
    let l = joined_links v w in let r = joined_sum vs ws (omega arith) in omega arith

pub joins_owing : (dead others_dead : ℕ) (roots others : List View) (claims taken : YardView) → length others ≡ length roots
    → OwesAtMost dead roots claims → OwesAtMost others_dead others taken → OwesAtMost (dead + others_dead) (joined_views roots others) (yard_with_joined claims taken)
joins_owing dead others_dead roots others claims taken many owes its =
    let s = joined_sum roots others many in let l = length-append claims.claims taken.claims in omega arith

-- ---- what was found owned

right_found : (index : ℕ) (xs ys : List OwnedWord) → Any (λ (o : OwnedWord). o.index ≡ index) ys → Any (λ (o : OwnedWord). o.index ≡ index) (xs ++ ys)
right_found index [] ys any = any
right_found index (x ∷ xs) ys any = let (k, o, inside, is, there) = right_found index xs ys any in (suc k, o, omega arith, is, there)

left_found : (index : ℕ) (xs ys : List OwnedWord) → Any (λ (o : OwnedWord). o.index ≡ index) xs → Any (λ (o : OwnedWord). o.index ≡ index) (xs ++ ys)
left_found index [] ys (k, o, inside, is, there) = absurd (omega arith)
left_found index (x ∷ xs) ys (zero, o, inside, is, there) = (0, o, omega arith, is, there)
left_found index (x ∷ xs) ys (suc k, o, inside, is, there) =
    let (j, p, within, same, here) = left_found index xs ys (k, o, omega arith, is, there) in (suc j, p, omega arith, same, here)

kept_found : (extra : ℕ) (old now : YardView) → KeepsFound old now → HasFoundAll extra old → HasFoundAll extra now
kept_found extra old now (words, is) found = λ index less.
    subst (λ (os : List OwnedWord). Any (λ (o : OwnedWord). o.index ≡ index) os) (sym is) (left_found index old.misses words (found index less))

pub spent_found : (End : View → Type 0) (Refused : ℕ → ℕ → View → Type 0) (extra segment : ℕ) (op : Op) (out : List ℕ) (was now : View) (before later : YardView) (settled : Settled)
    → Leaves End Refused segment extra op out was now before later (Ok settled) → reply_in settled.answer out ≡ reply.FullSpent → HasFoundAll extra later
spent_found End Refused extra segment op out was now before later settled leaves spent = finds_all before later extra (leaves.spent spent)

pub calls_found : (End : View → Type 0) (Refused : ℕ → ℕ → View → Type 0) (extra segment : ℕ) (op : Op) (out : List ℕ) (was now : View) (before later : YardView) (result : Result Settled Stop)
    → Leaves End Refused segment extra op out was now before later result → HasFoundAll extra before → HasFoundAll extra later
calls_found End Refused extra segment op out was now before later (Ok settled) leaves found = kept_found extra before later leaves.pays.alone.found found
calls_found End Refused extra segment op out was now before later (Err (Busy looks last)) leaves found = subst (HasFoundAll extra) (sym leaves.0.claims) found
calls_found End Refused extra segment op out was now before later (Err Died) leaves found = kept_found extra before later leaves.owes.alone.found found

pub joins_found : (extra : ℕ) (claims taken : YardView) → HasFoundAll extra claims ⊎ HasFoundAll extra taken → HasFoundAll extra (yard_with_joined claims taken)
joins_found extra claims taken (inl found) = λ index less. left_found index claims.misses taken.misses (found index less)
joins_found extra claims taken (inr found) = λ index less. right_found index claims.misses taken.misses (found index less)

-- ---- at the end

-- a sum over seats, beside sums over their numbers
sums_along : (f : View → ℕ) (g h : ℕ → ℕ) (a : ℕ) (vs : List View) → ((i : ℕ) (v : View) → slice_get vs i ≡ Some v → f v + g (a + i) ≤ h (a + i))
    → sum_by f vs + sum_by g (range_with_len a (length vs)) ≤ sum_by h (range_with_len a (length vs))
sums_along f g h a [] each = omega arith
sums_along f g h a (v ∷ vs) each =
    let first : f v + g a ≤ h a = subst (λ (n : ℕ). f v + g n ≤ h n) (plus_zero a) (each 0 v refl) in
    let rest = sums_along f g h (a + 1) vs
    (λ i w there. subst (λ (n : ℕ). f w + g n ≤ h n) (shifted a i)
    (each (suc i) w (slice_get_read (v ∷ vs) (length (v ∷ vs)) (suc i) w refl (let l = slice_get_within vs i w there in omega arith) (sym (get_or_from_slice_get vs i w w there))))) in
    let x = sum_by-cons f v vs in
    let y = sum_by-cons g a (range_with_len (a + 1) (length vs)) in
    let z = sum_by-cons h a (range_with_len (a + 1) (length vs)) in
    omega arith
  where
    plus_zero : (n : ℕ) → n + 0 ≡ n
    plus_zero n = omega arith

    shifted : (n i : ℕ) → n + suc i ≡ (n + 1) + i
    shifted n i = omega arith

less_one : (a b c : ℕ) → 0 < b → b + c ≤ a → c + (b - 1) ≤ a - 1
less_one a b c some h = omega arith

pub spent_near : (old now : MapWords) (roots : List View) (key : YardKey) (claims : YardView) (dead : ℕ) → now.geo ≡ old.geo → key.geo ≡ old.geo
    → owned_in key.geo key.first ≡ sum (linked_of old) → length roots ≡ old.geo.segments → ClosesAll (keys_of old) roots now → ClosesYard key claims
    → OwesAtMost dead roots claims → HasFoundAll old.geo.extra claims → old.geo.extra ≤ sum (linked_of now) + dead
spent_near old now roots key claims dead geo_is key_geo owned many closes yard owes found =
    let extra : key.geo.extra ≡ old.geo.extra = ap (λ (g : Geo). g.extra) key_geo in
    let all = yard.all (subst (λ (n : ℕ). HasFoundAll n claims) (sym extra) found) in
    let along = sums_along links_in (linked_in old) (linked_by old.geo) 0 roots (λ i v there. subst (λ (n : ℕ). links_in v + linked_in old n ≤ linked_by old.geo n) (plus i) (each i v there)) in
    let first = sum-map (linked_in old) (range_with_len 0 old.geo.segments) in
    let last = sum-map (linked_by old.geo) (range_with_len 0 old.geo.segments) in
    let long = ap (λ (n : ℕ). sum_by (linked_in old) (range_with_len 0 n)) many in
    let wide = ap (λ (n : ℕ). sum_by (linked_by old.geo) (range_with_len 0 n)) many in
    subst (λ (g : Geo). old.geo.extra ≤ sum (map (linked_by g) (range_with_len 0 g.segments)) + dead) (sym geo_is) (omega arith)
  where
    -- how many tiers a segment has at the end beyond its first one
    linked_by : Geo → ℕ → ℕ
    linked_by g s = length (chain_of g (segment_in now s)).places - 1

    plus : (n : ℕ) → n ≡ 0 + n
    plus n = omega arith

    each : (s : ℕ) (v : View) → slice_get roots s ≡ Some v → links_in v + linked_in old s ≤ linked_by old.geo s
    each s v there =
        let within = slice_get_within roots s v there in
        let long = length-map-range_with_len (key_in old) 0 old.geo.segments in
        let key_there : slice_get (keys_of old) s ≡ Some (key_in old s) =
        slice_get_read (keys_of old) (length (keys_of old)) s (key_in old s) refl (omega arith)
        (sym (get_or-map-range_with_len (key_in old) 0 old.geo.segments s s (key_in old s) (omega arith) (omega arith))) in
        let ends = closes.each s (key_in old s) v key_there there in
        less_one (length (chain_of old.geo (segment_in now s)).places) (length (chain_of old.geo (segment_in old s)).places) (links_in v)
        (chain_there (key_in old s) v (segment_in now s) ends) (chain_held (key_in old s) v (segment_in now s) ends)
