-- The entries of the slots of all chained tiers, in order of chain and slot.
use Rattle.std.proofs.Common.{◌≡◌, ◌≢◌, ℕ, ◌*◌, ◌<◌, ◌==◌, ◌⊎◌, Bool, true, false, List, [], ◌∷◌, ◌++◌, length, filter, Option, Some, None, is_some, refl, sym, ap, subst, ◌∙◌, arith, suc, inl, inr, Contains, if◌then◌else◌}
use Rattle.std.specs.List.{AllByRecursion, cons_option, filter_map, flat_map, range_with_len, sum_by}
use Rattle.std.proofs.lemmas.Bool.Decides.{eqb_tells}
use Rattle.std.proofs.lemmas.List.Concat.{length-flat_map}
use Rattle.std.proofs.lemmas.List.Elements.{filter-append}
use Rattle.std.proofs.lemmas.List.Sums.{sum_by-cons}
use Rattle.cm_geo.specs.declared.geo.Geo.{Geo}
use Rattle.cm_geo.specs.Addresses.{words_in_segment}
use Rattle.cm_plain.specs.declared.placed.Placed.{Placed}
use Rattle.cm_plain.specs.Slots.{Slot, slot_in}
use Rattle.cm_plain.proofs.Each.{Pairs, pairs_append, pairs_from_all}
use Rattle.cm_plain.proofs.ListElements.{In, all_in, in_has, in_range, joined_from, joined_to, mapped_from, mapped_to, range_differs, range_from}
use Rattle.cm_plain.proofs.States.{place_low}
use Rattle.cm_check.specs.Places.{chain_in}
use Rattle.cm_check.specs.SlotEntries.{entry_in}
use Rattle.cm_check.specs.SlotReads.{AreRightful}
use Rattle.cm_check.specs.CountLaws.{occupied_among}
use Rattle.cm_check.proofs.AnyChain.{chain_of_any}
use Rattle.cm_check.proofs.EntryReads.{entry_none}
use Rattle.cm_check.proofs.GatheredEntries.{AreTwo}
use Rattle.cm_check.proofs.KeySearch.{slot_entry}
use Rattle.cm_check.proofs.TakenBits.{entry_place}

-- those of one tier
abbrev pub entries_of : Geo → List ℕ → ℕ → List Placed
entries_of geo words place = filter_map (entry_in geo words place) (range_with_len 0 (2 * geo.chunks))

-- and of tiers
abbrev pub entries_in : Geo → List ℕ → List ℕ → List Placed
entries_in geo words places = flat_map (entries_of geo words) places

-- an entry is that of a slot
pub record IsEntryOf (geo : Geo) (words places : List ℕ) (placed : Placed) : Type 0 where
  pub place : ℕ
  pub number : ℕ
  pub there : In place places
  pub below : number < 2 * geo.chunks
  pub entry_is : entry_in geo words place number ≡ Some placed

pub entry_from : (geo : Geo) (words places : List ℕ) (placed : Placed) → In placed (entries_in geo words places) → IsEntryOf geo words places placed
entry_from geo words places placed i =
    let tier = joined_from (entries_of geo words) places placed i in
    let slot = mapped_from (entry_in geo words tier.from) (range_with_len 0 (2 * geo.chunks)) placed tier.within in
    record { place = tier.from; number = slot.from; there = tier.is_in; below = (let r = range_from 0 (2 * geo.chunks) slot.from slot.is_in in omega (arith, r.1)); entry_is = slot.gives }

pub entry_to : (geo : Geo) (words places : List ℕ) (place number : ℕ) (placed : Placed) → In place places → number < 2 * geo.chunks → entry_in geo words place number ≡ Some placed → In placed (entries_in geo words places)
entry_to geo words places place number placed there below e =
    joined_to (entries_of geo words) places place placed there
    (mapped_to (entry_in geo words place) (range_with_len 0 (2 * geo.chunks)) number placed (in_range 0 (2 * geo.chunks) number (omega arith) (omega arith)) e)

-- ---- elements of different numbers

pairs_mapped_in : {X Y : Type 0} (R : Y → Y → Type 0) (h : X → Option Y) (xs : List X) → ((x x' : X) (y y' : Y) → In x xs → In x' xs → x ≢ x' → h x ≡ Some y → h x' ≡ Some y' → R y y')
    → Pairs (λ x x'. x ≢ x') xs → Pairs R (filter_map h xs)
pairs_mapped_in R h [] gives differ = tt
pairs_mapped_in {X} {Y} R h (x ∷ xs) gives differ = by (h x) refl (pairs_mapped_in R h xs (λ a a' y y' i i'. gives a a' y y' (inr i) (inr i')) differ.1)
  where
    by : (made : Option Y) → h x ≡ made → Pairs R (filter_map h xs) → Pairs R (cons_option made (filter_map h xs))
    by None e rest = rest
    by (Some y) e rest =
        (all_in (R y) (filter_map h xs) (λ y' i. (let m = mapped_from h xs y' i in gives x m.from y y' (inl refl) (inr m.is_in) (in_has (λ x'. x ≢ x') xs m.from differ.0 m.is_in) e m.gives)), rest)

pairs_joined_in : {X Y : Type 0} (R : Y → Y → Type 0) (f : X → List Y) (xs : List X) → ((x : X) → In x xs → Pairs R (f x))
    → ((x x' : X) (y y' : Y) → In x xs → In x' xs → x ≢ x' → In y (f x) → In y' (f x') → R y y') → Pairs (λ x x'. x ≢ x') xs → Pairs R (flat_map f xs)
pairs_joined_in R f [] each across differ = tt
pairs_joined_in R f (x ∷ xs) each across differ =
    pairs_append R (f x) (flat_map f xs) (each x (inl refl)) (pairs_joined_in R f xs (λ a i. each a (inr i)) (λ a a' y y' i i'. across a a' y y' (inr i) (inr i')) differ.1)
    (all_in (λ y. AllByRecursion (R y) (flat_map f xs)) (f x) (λ y i. all_in (R y) (flat_map f xs)
    (λ y' j. (let is = joined_from f xs y' j in across x is.from y y' (inl refl) (inr is.is_in) (in_has (λ x'. x ≢ x') xs is.from differ.0 is.is_in) i is.within))))

-- two entries of different slots are two
abbrev pub AreAllTwo : Geo → List ℕ → Type 0
AreAllTwo geo words = (place number other number' : ℕ) (one two : Placed) → In place (chain_in geo words) → In other (chain_in geo words) → number < 2 * geo.chunks → number' < 2 * geo.chunks
    → entry_in geo words place number ≡ Some one → entry_in geo words other number' ≡ Some two → (place ≢ other) ⊎ (number ≢ number') → AreTwo geo one two

pub entries_two : (geo : Geo) (words : List ℕ) → AreAllTwo geo words → Pairs (AreTwo geo) (entries_in geo words (chain_in geo words))
entries_two geo words two =
    pairs_joined_in (AreTwo geo) (entries_of geo words) (chain_in geo words)
    (λ place there. pairs_mapped_in (AreTwo geo) (entry_in geo words place) (range_with_len 0 (2 * geo.chunks))
    (λ n n' one other i i' ne e e'. two place n place n' one other there there (below n i) (below n' i') e e' (inr ne)) (range_differs 0 (2 * geo.chunks)))
    (λ place place' one other there there' ne i i'.
    (let from = mapped_from (entry_in geo words place) (range_with_len 0 (2 * geo.chunks)) one i in
    let from' = mapped_from (entry_in geo words place') (range_with_len 0 (2 * geo.chunks)) other i' in
    two place from.from place' from'.from one other there there' (below from.from from.is_in) (below from'.from from'.is_in) from.gives from'.gives (inl ne)))
    (pairs_from_all (λ place other. place ≢ other) (chain_in geo words) (chain_of_any geo words).apart)
  where
    below : (n : ℕ) → In n (range_with_len 0 (2 * geo.chunks)) → n < 2 * geo.chunks
    below n i = let r = range_from 0 (2 * geo.chunks) n i in omega (arith, r.1)

-- ---- how many there are

-- as many as give one
length_mapped : {Y : Type 0} (h : ℕ → Option Y) (test : ℕ → Bool) (xs : List ℕ) → ((x : ℕ) → In x xs → is_some (h x) ≡ test x) → length (filter_map h xs) ≡ length (filter test xs)
length_mapped h test [] same = refl
length_mapped {Y} h test (x ∷ xs) same = by (h x) (test x) (same x (inl refl)) (length_mapped h test xs (λ y i. same y (inr i)))
  where
    by : (made : Option Y) (b : Bool) → is_some made ≡ b → length (filter_map h xs) ≡ length (filter test xs) → length (cons_option made (filter_map h xs)) ≡ length (if b then x ∷ filter test xs else filter test xs)
    by None true e rest = cc e
    by None false e rest = rest
    by (Some y) true e rest = ap suc rest
    by (Some y) false e rest = cc e

-- a slot of a rightful tier that isn't empty has an entry
some_entry : (geo : Geo) (segment : ℕ) (words : List ℕ) (place number : ℕ) → length words ≡ words_in_segment geo → AreRightful geo segment words → Contains (chain_in geo words) place → number < 2 * geo.chunks
    → is_some (entry_in geo words place number) ≡ is_some (slot_in geo words place number)
some_entry geo segment words place number long rightful there below = by (slot_in geo words place number) refl
  where
    by : (slot : Option Slot) → slot_in geo words place number ≡ slot → is_some (entry_in geo words place number) ≡ is_some slot
    by None e = ap (λ o. is_some o) (entry_none geo words place number e)
    by (Some slot) e = (let at = slot_entry geo segment words place long (place_low (chain_of_any geo words) place there) (rightful place there) number slot below e in ap (λ o. is_some o) at.2.entry_is)

pub entries_counted : (geo : Geo) (segment : ℕ) (words : List ℕ) (place : ℕ) → length words ≡ words_in_segment geo → AreRightful geo segment words → Contains (chain_in geo words) place
    → length (entries_of geo words place) ≡ occupied_among geo words place (2 * geo.chunks)
unfolding occupied_among
entries_counted geo segment words place long rightful there =
    length_mapped (entry_in geo words place) (λ number. is_some (slot_in geo words place number)) (range_with_len 0 (2 * geo.chunks))
    (λ number i. some_entry geo segment words place number long rightful there (let r = range_from 0 (2 * geo.chunks) number i in omega (arith, r.1)))

-- those of a tier stand there, and no others
of_tier : (geo : Geo) (words : List ℕ) (place : ℕ) (tier : ℕ) → place ≡ tier → filter (λ placed. placed.place == place) (entries_of geo words tier) ≡ entries_of geo words tier
of_tier geo words place tier e =
    all_pass (λ placed. placed.place == place) (entries_of geo words tier) (λ placed i. (let m = mapped_from (entry_in geo words tier) (range_with_len 0 (2 * geo.chunks)) placed i in same placed.place place (entry_place geo words tier m.from placed m.gives ∙ sym e)))
  where
    same : (a b : ℕ) → a ≡ b → (a == b) ≡ true
    same a b e = elim (eqb_tells a b) [
      | inl yes' ↦ yes'.0
      | inr fails ↦ absurd (fails.1 e)
    ]

    all_pass : (test : Placed → Bool) (xs : List Placed) → ((x : Placed) → In x xs → test x ≡ true) → filter test xs ≡ xs
    all_pass test [] h = refl
    all_pass test (x ∷ xs) h = rw (h x (inl refl)) (ap (λ (ys : List Placed). x ∷ ys) (all_pass test xs (λ y i. h y (inr i))))

not_of_tier : (geo : Geo) (words : List ℕ) (place : ℕ) (tier : ℕ) → place ≢ tier → filter (λ placed. placed.place == place) (entries_of geo words tier) ≡ []
not_of_tier geo words place tier ne =
    none_pass (λ placed. placed.place == place) (entries_of geo words tier) (λ placed i. (let m = mapped_from (entry_in geo words tier) (range_with_len 0 (2 * geo.chunks)) placed i in other placed.place place (λ e. ne (sym e ∙ entry_place geo words tier m.from placed m.gives))))
  where
    other : (a b : ℕ) → a ≢ b → (a == b) ≡ false
    other a b ne = elim (eqb_tells a b) [
      | inl same ↦ absurd (ne same.1)
      | inr fails ↦ fails.0
    ]

    none_pass : (test : Placed → Bool) (xs : List Placed) → ((x : Placed) → In x xs → test x ≡ false) → filter test xs ≡ []
    none_pass test [] h = refl
    none_pass test (x ∷ xs) h = rw (h x (inl refl)) (none_pass test xs (λ y i. h y (inr i)))

-- of the entries of several tiers, those of one
none_in : (geo : Geo) (words : List ℕ) (place : ℕ) (places : List ℕ) → AllByRecursion (λ other. place ≢ other) places → filter (λ placed. placed.place == place) (entries_in geo words places) ≡ []
none_in geo words place [] differ = refl
none_in geo words place (tier ∷ places) differ =
    filter-append (λ placed. placed.place == place) (entries_of geo words tier) (entries_in geo words places) ∙ rw (not_of_tier geo words place tier differ.0) (none_in geo words place places differ.1)

pub one_tier_of : (geo : Geo) (words : List ℕ) (place : ℕ) (places : List ℕ) → Pairs (λ p q. p ≢ q) places → In place places → filter (λ placed. placed.place == place) (entries_in geo words places) ≡ entries_of geo words place
one_tier_of geo words place [] differ i = absurd i
one_tier_of geo words place (tier ∷ places) differ (inl e) =
    filter-append (λ placed. placed.place == place) (entries_of geo words tier) (entries_in geo words places)
    ∙ rw (of_tier geo words place tier e, none_in geo words place places (subst (λ (t : ℕ). AllByRecursion (λ other. t ≢ other) places) (sym e) differ.0)) (append_none (entries_of geo words tier) ∙ ap (entries_of geo words) (sym e))
  where
    append_none : (xs : List Placed) → xs ++ [] ≡ xs
    append_none [] = refl
    append_none (x ∷ xs) = ap (λ (ys : List Placed). x ∷ ys) (append_none xs)
one_tier_of geo words place (tier ∷ places) differ (inr i) =
    filter-append (λ placed. placed.place == place) (entries_of geo words tier) (entries_in geo words places)
    ∙ rw (not_of_tier geo words place tier (λ e. in_has (λ other. tier ≢ other) places place differ.0 i (sym e))) (one_tier_of geo words place places differ.1 i)

-- all of them are as many as those of the tiers together
pub entries_summed : (geo : Geo) (segment : ℕ) (words : List ℕ) (count : ℕ → ℕ) (places : List ℕ) → ((place : ℕ) → In place places → length (entries_of geo words place) ≡ count place) → length (entries_in geo words places) ≡ sum_by count places
entries_summed geo segment words count places each = length-flat_map (entries_of geo words) places ∙ same (λ place. length (entries_of geo words place)) count places each
  where
    same : (f g : ℕ → ℕ) (xs : List ℕ) → ((x : ℕ) → In x xs → f x ≡ g x) → sum_by f xs ≡ sum_by g xs
    same f g [] h = refl
    same f g (x ∷ xs) h = sum_by-cons f x xs ∙ (omega (arith, h x (inl refl), same f g xs (λ y i. h y (inr i))) ∙ sym (sum_by-cons g x xs))
