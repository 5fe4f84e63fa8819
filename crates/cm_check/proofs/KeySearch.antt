-- What a search for a key finds in a tier whose slots keep the laws.
use Rattle.std.proofs.Common.{◌≡◌, ◌≢◌, ℕ, ◌+◌, ◌*◌, ◌<◌, ◌≤◌, ◌||◌, Bool, true, false, List, [], ◌∷◌, length, get_or, take, Option, Some, None, is_none, refl, sym, ap, subst, ◌∙◌, arith, zero, suc, inl, inr}
use Rattle.std.specs.List.{list_any}
use Rattle.std.specs.Str.{bytes_eq}
use Rattle.std.proofs.lemmas.Bool.{cases_Bool, cases_eq, cases_lt}
use Rattle.std.proofs.lemmas.Bool.Decides.{eqb_tells}
use Rattle.std.proofs.lemmas.Option.{same_Some}
use Rattle.std.proofs.lemmas.Slice.Eq.{bytes_eq-Decides}
use Rattle.cm_geo.specs.declared.geo.Geo.{Geo}
use Rattle.cm_geo.specs.Addresses.{words_in_segment}
use Rattle.cm_geo.specs.Hash.{fingerprint_in, hash, home_in}
use Rattle.cm_plain.specs.declared.placed.Placed.{Placed}
use Rattle.cm_plain.specs.States.{pair_of}
use Rattle.cm_plain.specs.Readings.{Stands, entry, reading_at}
use Rattle.cm_plain.specs.Slots.{Slot, slot_for, slot_in}
use Rattle.cm_plain.specs.Lawful.{KeepsSlotLaw, slot_behind, steps_between}
use Rattle.cm_plain.proofs.Apart.{begins_low}
use Rattle.cm_plain.proofs.Each.{Pairs}
use Rattle.cm_plain.proofs.ListElements.{In, in_has}
use Rattle.cm_lookup.specs.declared.hit.Hit.{Hit}
use Rattle.cm_lookup.specs.Probing.{HasNoHit, IsFirstHit, probe}
use Rattle.cm_lookup.proofs.Finding.{law_finds, probe_below, slot_is_probe}
use Rattle.cm_check.specs.Places.{places_before}
use Rattle.cm_check.specs.SlotEntries.{entry_in, has_key}
use Rattle.cm_check.specs.SlotLaws.{is_again, is_cut_off, is_gap, is_key_among}
use Rattle.cm_check.specs.SlotReads.{IsEntryAt, IsTierReached, IsTierRightful}
use Rattle.cm_check.proofs.EntryReads.{entry_none, entry_rightful}
use Rattle.cm_check.proofs.RangeTests.{below_fails, below_none, below_some}

both : (b : Bool) → b ≡ true → b ≡ false → ⊥
both b one other = cc (sym one ∙ other)

-- ---- the slot law

-- a tier whose slots are reached keeps it
pub law_kept : (geo : Geo) (words : List ℕ) (place : ℕ) → IsTierReached geo words place → KeepsSlotLaw geo words place
unfolding is_cut_off
law_kept geo words place reached number slot below e steps inside none =
    let here : is_cut_off geo words place number ≡ false = reached number below in
    let kept = rw e at here in
    let fails = below_fails (is_gap geo words place slot.fingerprint) (steps_between (2 * geo.chunks) (home_in geo slot.fingerprint) number) steps kept inside in
    both (is_gap geo words place slot.fingerprint steps) (ap is_none none) fails

-- and one that keeps it has slots that are reached
pub law_reaches : (geo : Geo) (words : List ℕ) (place : ℕ) → KeepsSlotLaw geo words place → IsTierReached geo words place
unfolding is_cut_off
law_reaches geo words place law number below = by (slot_in geo words place number) refl
  where
    occupied : (slot : Option Slot) → slot ≢ None → is_none slot ≡ false
    occupied None some = absurd (some refl)
    occupied (Some slot) some = refl

    by : (slot : Option Slot) → slot_in geo words place number ≡ slot → is_cut_off geo words place number ≡ false
    by None e = rw e refl
    by (Some slot) e =
        rw e (below_none (is_gap geo words place slot.fingerprint) (steps_between (2 * geo.chunks) (home_in geo slot.fingerprint) number)
        (λ steps inside. occupied (slot_in geo words place (slot_behind (2 * geo.chunks) (home_in geo slot.fingerprint) steps)) (law number slot below e steps inside)))

-- ---- slots of a rightful tier

module _ (geo : Geo) (segment : ℕ) (words : List ℕ) (place : ℕ) (length_is : length words ≡ words_in_segment geo) (low : place < geo.tiers) (rightful : IsTierRightful geo segment words place) where
  -- a slot that isn't empty points to an entry
  pub slot_entry : (number : ℕ) (slot : Slot) → number < 2 * geo.chunks → slot_in geo words place number ≡ Some slot → (chunk : ℕ) × (slot.chunk ≡ Some chunk) × IsEntryAt geo segment words place number chunk
  slot_entry number slot below e = entry_rightful geo segment words place number slot length_is low (rightful number below) e

  -- an entry is that of a slot
  pub entry_slot : (number : ℕ) (placed : Placed) → number < 2 * geo.chunks → entry_in geo words place number ≡ Some placed → IsEntryAt geo segment words place number placed.chunk
  entry_slot number placed below e = by (slot_in geo words place number) refl
    where
      same : (chunk : ℕ) → IsEntryAt geo segment words place number chunk → IsEntryAt geo segment words place number placed.chunk
      same chunk at =
          let is : at.placed ≡ placed = same_Some at.placed placed (sym at.entry_is ∙ e) in
          subst (λ (c : ℕ). IsEntryAt geo segment words place number c) (sym at.chunk_is ∙ ap (λ (p : Placed). p.chunk) is) at

      by : (slot : Option Slot) → slot_in geo words place number ≡ slot → IsEntryAt geo segment words place number placed.chunk
      by None is = (let clash : None ≡ Some placed = sym (entry_none geo words place number is) ∙ e in cc clash)
      by (Some slot) is = (let at = slot_entry number slot below is in same at.0 at.2)

  -- a slot whose entry has a key is a hit for the key's fingerprint
  pub key_slot : (key : List ℕ) (number : ℕ) → number < 2 * geo.chunks → has_key key (entry_in geo words place number) ≡ true
      → (chunk : ℕ) × (chunk < geo.chunks) × (slot_in geo words place number ≡ Some (record { fingerprint = fingerprint_in geo (hash key); chunk = Some chunk }))
  key_slot key number below has = by (entry_in geo words place number) refl has
    where
      by : (entry : Option Placed) → entry_in geo words place number ≡ entry → has_key key entry ≡ true
          → (chunk : ℕ) × (chunk < geo.chunks) × (slot_in geo words place number ≡ Some (record { fingerprint = fingerprint_in geo (hash key); chunk = Some chunk }))
      by None e has = cc has
      by (Some placed) e has =
          let at = entry_slot number placed below e in
          let is : at.placed ≡ placed = same_Some at.placed placed (sym at.entry_is ∙ e) in
          let key_is : at.placed.key ≡ key = ap (λ (p : Placed). p.key) is ∙ (bytes_eq-Decides placed.key key).0 has in
          (at.placed.chunk, begins_low geo at.placed at.run, at.slot_is ∙ ap (λ (k : List ℕ). Some (slot_for geo k at.placed.chunk)) key_is)

  -- no slot that a search passed has the key
  pub search_passed : (key : List ℕ) (fingerprint count from : ℕ) (hit : Hit) → fingerprint ≡ fingerprint_in geo (hash key) → IsFirstHit geo words place fingerprint from hit
      → ((steps : ℕ) → steps < from → probe geo fingerprint steps < count → has_key key (entry_in geo words place (probe geo fingerprint steps)) ≡ false)
      → count ≤ 2 * geo.chunks → (hit.slot < count → has_key key (entry_in geo words place hit.slot) ≡ false)
      → (steps : ℕ) → steps < hit.steps + 1 → probe geo fingerprint steps < count → has_key key (entry_in geo words place (probe geo fingerprint steps)) ≡ false
  search_passed key fingerprint count from hit print first none short here steps below inside = elim (cases_lt steps from) [
    | inl before ↦ none steps before inside
    | inr behind ↦ elim (cases_eq steps hit.steps) [
      | inl same ↦ (let slot_is : probe geo fingerprint steps ≡ hit.slot = ap (probe geo fingerprint) same ∙ sym first.hits.slot_is in
          ap (λ (n : ℕ). has_key key (entry_in geo words place n)) slot_is ∙ here (subst (λ (n : ℕ). n < count) slot_is inside))
      | inr other ↦ elim (cases_Bool (has_key key (entry_in geo words place (probe geo fingerprint steps)))) [
        | inr fails ↦ fails
        | inl has ↦
            (let there = key_slot key (probe geo fingerprint steps) (omega (arith, inside)) has in
            absurd ((first.before steps behind (omega arith)).other (record { steps = steps; slot = probe geo fingerprint steps; chunk = there.0 }) refl
            (record { slot_is = refl; found = there.2 ∙ ap (λ (f : ℕ). Some (record { fingerprint = f; chunk = Some there.0 })) (sym print); below = there.1 })))
      ]
    ]
  ]

  -- where a search ends, no slot has the key
  pub search_ended : (key : List ℕ) (fingerprint count from : ℕ) → fingerprint ≡ fingerprint_in geo (hash key) → KeepsSlotLaw geo words place → HasNoHit geo words place fingerprint from
      → ((steps : ℕ) → steps < from → probe geo fingerprint steps < count → has_key key (entry_in geo words place (probe geo fingerprint steps)) ≡ false)
      → count ≤ 2 * geo.chunks → is_key_among geo words key count place ≡ false
  unfolding is_key_among
  search_ended key fingerprint count from print law ended none short =
      below_none (λ number. has_key key (entry_in geo words place number)) count (λ number below. elim (cases_Bool (has_key key (entry_in geo words place number))) [
        | inr fails ↦ fails
        | inl has ↦
            (let inside : number < 2 * geo.chunks = omega (arith, below) in
            let there = key_slot key number inside has in
            let passed = law_finds geo words place fingerprint from number there.0 law inside there.1 (there.2 ∙ ap (λ (f : ℕ). Some (record { fingerprint = f; chunk = Some there.0 })) (sym print)) ended in
            let at = (slot_is_probe geo fingerprint number inside).1 in
            ap (λ (n : ℕ). has_key key (entry_in geo words place n)) (sym at) ∙ none (steps_between (2 * geo.chunks) (home_in geo fingerprint) number) passed (subst (λ (n : ℕ). n < count) (sym at) below))
      ])

-- a slot with the key is one of those
pub key_found : (geo : Geo) (words key : List ℕ) (count place number : ℕ) → number < count → has_key key (entry_in geo words place number) ≡ true → is_key_among geo words key count place ≡ true
unfolding is_key_among
key_found geo words key count place number below has = below_some (λ number. has_key key (entry_in geo words place number)) count number below has

-- whether an entry has a key
pub entry_has_key : (geo : Geo) (words : List ℕ) (place number : ℕ) (placed : Placed) (key : List ℕ) → entry_in geo words place number ≡ Some placed → placed.key ≡ key → has_key key (entry_in geo words place number) ≡ true
entry_has_key geo words place number placed key e same = rw e ((bytes_eq-Decides placed.key key).1 same)

pub entry_lacks_key : (geo : Geo) (words : List ℕ) (place number : ℕ) (placed : Placed) (key : List ℕ) → entry_in geo words place number ≡ Some placed → placed.key ≢ key → has_key key (entry_in geo words place number) ≡ false
entry_lacks_key geo words place number placed key e differs = rw e (fails (bytes_eq placed.key key) (λ same. differs ((bytes_eq-Decides placed.key key).0 same)))
  where
    fails : (b : Bool) → (b ≡ true → ⊥) → b ≡ false
    fails true h = absurd (h refl)
    fails false h = refl

-- ---- a key that is there again

pub again_is : (geo : Geo) (words earlier : List ℕ) (place number : ℕ) (placed : Placed) → entry_in geo words place number ≡ Some placed
    → is_again geo words earlier place number ≡ (list_any (is_key_among geo words placed.key (2 * geo.chunks)) earlier || is_key_among geo words placed.key number place)
unfolding is_again
again_is geo words earlier place number placed e = rw e refl

pub again_none : (geo : Geo) (words earlier : List ℕ) (place number : ℕ) → entry_in geo words place number ≡ None → is_again geo words earlier place number ≡ false
unfolding is_again
again_none geo words earlier place number e = rw e refl

-- no element passes, by their places
pub none_by_place : {X : Type 0} (test : X → Bool) (xs : List X) (d : X) → ((k : ℕ) → k < length xs → test (get_or xs k d) ≡ false) → list_any test xs ≡ false
none_by_place test [] d fails = refl
none_by_place test (x ∷ xs) d fails = rw (fails 0 (omega arith)) (none_by_place test xs d (λ k below. fails (suc k) (omega (arith, below))))

-- ---- the places before one of a chain

pub in_at : {X : Type 0} (xs : List X) (k : ℕ) (d : X) → k < length xs → In (get_or xs k d) xs
in_at [] k d below = absurd (omega arith)
in_at (x ∷ xs) zero d below = inl refl
in_at (x ∷ xs) (suc k) d below = inr (in_at xs k d (omega arith))

pub before_at : (chain : List ℕ) (k : ℕ) → Pairs (λ place other. place ≢ other) chain → k < length chain → places_before chain (get_or chain k 0) ≡ take k chain
before_at [] k apart below = absurd (omega arith)
before_at (place ∷ chain) zero apart below = elim (eqb_tells place place) [
  | inl same ↦ rw same.0 refl
  | inr fails ↦ absurd (fails.1 refl)
]
before_at (place ∷ chain) (suc k) apart below = elim (eqb_tells place (get_or chain k 0)) [
  | inl same ↦ absurd (in_has (λ other. place ≢ other) chain (get_or chain k 0) apart.0 (in_at chain k 0 (omega arith)) same.1)
  | inr fails ↦ rw fails.0 (ap (λ (xs : List ℕ). place ∷ xs) (before_at chain k apart.1 (omega arith)))
]

-- what is taken of a list is of it
pub in_taken : {X : Type 0} (n : ℕ) (xs : List X) (x : X) → In x (take n xs) → In x xs
in_taken zero xs x i = absurd i
in_taken (suc n) [] x i = absurd i
in_taken (suc n) (y ∷ xs) x (inl e) = inl e
in_taken (suc n) (y ∷ xs) x (inr i) = inr (in_taken n xs x i)

-- the entry of a hit
pub hit_entry : (geo : Geo) (segment : ℕ) (words : List ℕ) (place fingerprint from : ℕ) (hit : Hit) → length words ≡ words_in_segment geo → place < geo.tiers → IsTierRightful geo segment words place → IsFirstHit geo words place fingerprint from hit
    → (placed : Placed) × (entry_in geo words place hit.slot ≡ Some placed) × (reading_at geo words place hit.chunk ≡ entry (pair_of placed))
hit_entry geo segment words place fingerprint from hit length_is low rightful first =
    let below : hit.slot < 2 * geo.chunks = subst (λ (n : ℕ). n < 2 * geo.chunks) (sym first.hits.slot_is) (probe_below geo fingerprint hit.steps) in
    let at = slot_entry geo segment words place length_is low rightful hit.slot (record { fingerprint = fingerprint; chunk = Some hit.chunk }) below first.hits.found in
    let chunk_is : hit.chunk ≡ at.0 = same_Some hit.chunk at.0 at.1 in
    (at.2.placed, at.2.entry_is, there at.2.placed hit.chunk at.2.place_is (at.2.chunk_is ∙ sym chunk_is) at.2.stands)
  where
    there : (placed : Placed) (chunk : ℕ) → placed.place ≡ place → placed.chunk ≡ chunk → Stands geo words placed → reading_at geo words place chunk ≡ entry (pair_of placed)
    there placed chunk e f stands = rw (← e, ← f) stands

-- ---- what a slot's entry says

pub entry_chunk_low : (geo : Geo) (segment : ℕ) (words : List ℕ) (place number chunk : ℕ) → IsEntryAt geo segment words place number chunk → chunk < geo.chunks
entry_chunk_low geo segment words place number chunk at = subst (λ (c : ℕ). c < geo.chunks) at.chunk_is (begins_low geo at.placed at.run)

pub entry_reads : (geo : Geo) (segment : ℕ) (words : List ℕ) (place number chunk : ℕ) (at : IsEntryAt geo segment words place number chunk) → reading_at geo words place chunk ≡ entry (pair_of at.placed)
entry_reads geo segment words place number chunk at = there at.placed at.place_is at.chunk_is at.stands
  where
    there : (placed : Placed) → placed.place ≡ place → placed.chunk ≡ chunk → Stands geo words placed → reading_at geo words place chunk ≡ entry (pair_of placed)
    there placed e f stands = rw (← e, ← f) stands
