-- The allowance of extra tiers at the end.
use Rattle.std.proofs.Common.{◌≡◌, ℕ, zero, suc, ◌+◌, ◌-◌, ◌<◌, ◌≤◌, ◌==◌, nat_lt, List, [], ◌∷◌, ◌++◌, length, slice_get, sum, sum_by, count_by, Some, refl, sym, ap, ◌∙◌, subst, arith}
use Rattle.std.specs.List.{range_with_len}
use Rattle.std.proofs.lemmas.Bool.Decides.{nat_tests}
use Rattle.std.proofs.lemmas.List.FromFn.{get_or-map-range_with_len, length-map-range_with_len}
use Rattle.std.proofs.lemmas.List.Sums.{count_by-le-length, sum-map, sum_by-cons, sum_by_push}
use Rattle.std.proofs.lemmas.Option.{slice_get_read}
use Rattle.cm_geo.specs.declared.geo.Geo.{Geo}
use Rattle.cm_plain.specs.FoundChains.{KeepsAllowance, chain_of}
use Rattle.cm_words.specs.Maps.{MapWords, segment_in}
use Rattle.cm_lock.specs.declared.view.View.{View}
use Rattle.cm_yard.specs.declared.view.Key.{Key as YardKey}
use Rattle.cm_yard.specs.declared.view.OwnedWord.{OwnedWord}
use Rattle.cm_yard.specs.declared.view.View.{View as YardView}
use Rattle.cm_yard.specs.Claims.{claims_for}
use Rattle.cm_yard.specs.Words.{owned_in}
use Rattle.cm_store.specs.Balance.{Balances}
use Rattle.cm_store.specs.Closes.{ClosesAll, ClosesYard}
use Rattle.cm_store.specs.Tables.{key_in, keys_of, linked_in, linked_of}
use Rattle.cm_laws.proofs.Linking.{chain_bound, chain_there, one_if}
use Rattle.cm_store.proofs.Elements.{element_at}
use Rattle.cm_store.proofs.Sums.{sum_more}

sum_within : (f g h : ℕ → ℕ) (n : ℕ) → ((s : ℕ) → s < n → f s ≤ g s + h s) → sum_by f (range_with_len 0 n) ≤ sum_by g (range_with_len 0 n) + sum_by h (range_with_len 0 n)
sum_within f g h zero each = omega arith
sum_within f g h (suc n) each =
    let r = sum_within f g h n (λ s below. each s (omega arith)) in let e = each n (omega arith) in
    let a = sum_more f n in let b = sum_more g n in let c = sum_more h n in omega arith

-- claims for segments below a number
one_more : (x n : ℕ) → one_if (nat_lt x (suc n)) ≡ one_if (nat_lt x n) + one_if (x == n)
one_more x n = grind (arith, nat_tests)

pub claims_more : (n : ℕ) (os : List OwnedWord) → count_by (λ (o : OwnedWord). nat_lt o.segment (suc n)) os ≡ count_by (λ (o : OwnedWord). nat_lt o.segment n) os + count_by (λ (o : OwnedWord). o.segment == n) os
claims_more n [] = refl
claims_more n (o ∷ os) =
    let a = sum_by-cons (λ (x : OwnedWord). one_if (nat_lt x.segment (suc n))) o os in
    let b = sum_by-cons (λ (x : OwnedWord). one_if (nat_lt x.segment n)) o os in
    let c = sum_by-cons (λ (x : OwnedWord). one_if (x.segment == n)) o os in
    let m = one_more o.segment n in let r = claims_more n os in omega arith

claims_below : (y : YardView) (n : ℕ) → sum_by (λ s. claims_for s y) (range_with_len 0 n) ≤ count_by (λ (o : OwnedWord). nat_lt o.segment n) y.claims
claims_below y zero = omega arith
claims_below y (suc n) = let r = claims_below y n in let a = sum_more (λ s. claims_for s y) n in let m = claims_more n y.claims in omega arith

less_one : (a b c : ℕ) → 0 < b → a ≤ b + c → a - 1 ≤ (b - 1) + c
less_one a b c some h = omega arith

pub ends_allowed : (old now : MapWords) (roots : List View) (key : YardKey) (claims : YardView) → now.geo ≡ old.geo → key.geo ≡ old.geo
    → owned_in key.geo key.first ≡ sum (linked_of old) → length roots ≡ old.geo.segments → ClosesAll (keys_of old) roots now → ClosesYard key claims
    → Balances roots claims → KeepsAllowance now.geo (segment_in now)
ends_allowed old now roots key claims geo_is key_geo owned many closes yard balances =
    let within = sum_within (λ s. length (chain_of old.geo (segment_in now s)).places - 1) (linked_in old) (λ s. claims_for s claims) old.geo.segments each in
    let below = claims_below claims old.geo.segments in
    let few = count_by-le-length (λ (o : OwnedWord). nat_lt o.segment old.geo.segments) claims.claims in
    let linked = sum-map (linked_in old) (range_with_len 0 old.geo.segments) in
    let all = yard.claims in
    let extra : key.geo.extra ≡ old.geo.extra = ap (λ (g : Geo). g.extra) key_geo in
    subst (λ (g : Geo). KeepsAllowance g (segment_in now)) (sym geo_is) (omega arith)
  where
    key_there : (s : ℕ) → s < old.geo.segments → slice_get (keys_of old) s ≡ Some (key_in old s)
    key_there s below =
        let long = length-map-range_with_len (key_in old) 0 old.geo.segments in
        slice_get_read (keys_of old) (length (keys_of old)) s (key_in old s) refl (omega arith)
        (sym (get_or-map-range_with_len (key_in old) 0 old.geo.segments s s (key_in old s) below (omega arith)))

    each : (s : ℕ) → s < old.geo.segments → length (chain_of old.geo (segment_in now s)).places - 1 ≤ linked_in old s + claims_for s claims
    each s below =
        let (v, view_there) = element_at roots s (omega arith) in
        let ends = closes.each s (key_in old s) v (key_there s below) view_there in
        let bound = chain_bound (key_in old s) v (segment_in now s) ends in
        let some = chain_there (key_in old s) v (segment_in now s) ends in
        let paid = balances s v view_there in
        less_one (length (chain_of old.geo (segment_in now s)).places) (length (chain_of old.geo (segment_in old s)).places) (claims_for s claims) some (omega arith)
