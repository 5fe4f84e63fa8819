-- The shift of a removal over a memory.
use Rattle.cm_words.specs.Stores.{Leads, WordStore, Writes, after_stores, store_at}
use Rattle.std.proofs.Common.{◌≡◌, ◌≢◌, ℕ, ◌+◌, ◌-◌, ◌*◌, ◌/◌, ◌^◌, ◌<◌, ◌≤◌, List, [], ◌∷◌, ◌++◌, get_or, slice_set, Option, true, false, bit_and, mod-lt, refl, sym, subst, ap, ◌∙◌, arith}
use Rattle.cm_geo.specs.declared.geo.Geo.{Geo}
use Rattle.cm_geo.specs.Addresses.{slot_at, words_in_segment}
use Rattle.cm_plain.specs.Changes.{Change}
use Rattle.cm_geo.specs.Hash.{home_in}
use Rattle.cm_geo.proofs.AddressOrder.{slot_in_range}
use Rattle.cm_geo.proofs.Powers.{mask_of_slots}
use Rattle.cm_geo.proofs.Ranges.{chunks_range, tiers_range}
use Rattle.cm_plain.specs.Lawful.{slot_behind, steps_between}
use Rattle.cm_words.specs.Memory.{FitsNotes, IsAllowed, MayStore, MemSeen, Setting, origin}
use Rattle.cm_words.specs.Effects.{Knows, Reads}
use Rattle.cm_words.proofs.FittingLists.{keeps_transitive, known_word, reads_reflexive}
use Rattle.cm_words.proofs.ListChanges.{changes_as, changes_none, changes_reads}
use Rattle.cm_words.proofs.StoreLists.{leads_append, leads_none, leads_reads, leads_same, may_store_free}
use Rattle.cm_lookup.specs.Rings.{word_behind}
use Rattle.cm_lookup.specs.Removals.{CanLose, LeadsRemoval, LeadsShift, MayShift, Removes, Shifted}
use Rattle.cm_lookup.specs.Shifts.{IsShift, Shift, Stays}
use Rattle.cm_lookup.specs.Shifts.Shift.{begins, stays, moves}
use Rattle.cm_lookup.specs.Shifts.NextStore.{moved, emptied}
use Rattle.cm_lookup.specs.Tiers.{LostSlot, at_slots, ring_of, slot_words}
use Rattle.cm_lookup.proofs.ShiftEnd.{meets}
use Rattle.cm_lookup.proofs.PartialShift.{at_slots_more}
use Rattle.cm_lookup.proofs.Masks.{mask_behind, mask_between}
use Rattle.cm_lookup.proofs.RemovalFrame.{IsTier, lost_slot, shift_within, some_in_ring, tier_is_table}
use Rattle.cm_lookup.proofs.RingArithmetic.{ring_slot_below}
use Rattle.cm_lookup.proofs.Shifting.{shifting}
use Rattle.cm_lookup.proofs.Tiers.{slot_from_first, slot_inner, slot_words_after, slot_words_at}
use Rattle.cm_lookup.proofs.SlotWords.{slot_empty}

-- no store yet
pub shifted_begins : (m : MemSeen) (geo : Geo) (place slot : ℕ) → Shifted m m geo place slot 0 1
shifted_begins m geo place slot =
    changes_none m m (LeadsShift m m geo place slot 0 1) (reads_reflexive m) (λ words. record { made = []; by = leads_none m m words refl; shift = begins })

-- after a load
pub shifted_reads : (old a b : MemSeen) (geo : Geo) (place slot hole steps : ℕ) → Shifted old a geo place slot hole steps → Reads a b → Shifted old b geo place slot hole steps
shifted_reads old a b geo place slot hole steps so_far reads =
    changes_reads old a b (LeadsShift old a geo place slot hole steps) (LeadsShift old b geo place slot hole steps) so_far reads
    (λ before words far. record { made = far.made; by = leads_reads old a b (at_slots geo place far.made) before words far.by reads; shift = far.shift })

-- where a removal takes place
pub record IsHere (m : MemSeen) (geo : Geo) (place slot : ℕ) : Type 0 where
  pub geo_is : m.setting.geo ≡ geo
  pub place_inside : place < geo.tiers
  pub slot_inside : slot < 2 * geo.chunks

-- each list that fits has that tier
pub here_is_tier : (m : MemSeen) (geo : Geo) (place slot : ℕ) (words : List ℕ) → IsHere m geo place slot → FitsNotes m words → IsTier geo words place slot
here_is_tier m geo place slot words here fits = record { length_is = fits.are.length_is ∙ ap words_in_segment here.geo_is; place_inside = here.place_inside; slot_inside = here.slot_inside }

-- a word that is looked at next stood there before
looked_before : (old now : MemSeen) (geo : Geo) (place slot hole steps : ℕ) (words before : List ℕ) (at word : ℕ) → IsHere old geo place slot → FitsNotes old before → LeadsShift old now geo place slot hole steps before words → steps < 2 * geo.chunks
    → at ≡ slot_at geo place (slot_behind (2 * geo.chunks) slot steps) → FitsNotes now words → Knows now at word → word_behind (ring_of geo) (slot_words geo before place) slot steps ≡ word
looked_before old now geo place slot hole steps words before at word here fitted came below at_is fits knows =
    let tier = here_is_tier old geo place slot before here fitted in
    let table = tier_is_table geo before place slot tier in
    let so_far = shifting (ring_of geo) (slot_words geo before place) slot hole steps came.made table came.shift in
    let now_is : slot_words geo words place ≡ after_stores (slot_words geo before place) came.made =
    ap (λ (ws : List ℕ). slot_words geo ws place) (sym came.by.leads)
    ∙ slot_words_after geo before place came.made tier.length_is tier.place_inside (shift_within (ring_of geo) (slot_words geo before place) slot hole steps came.made table.ring_is.nonzero came.shift) in
    sym (so_far.ahead steps (omega arith) below) ∙ (ap (λ (ws : List ℕ). get_or ws (slot_behind (2 * geo.chunks) slot steps) 0) (sym now_is)
    ∙ (slot_words_at geo words place (slot_behind (2 * geo.chunks) slot steps) (ring_slot_below (ring_of geo) slot steps table.ring_is.nonzero)
    ∙ known_word now (slot_at geo place (slot_behind (2 * geo.chunks) slot steps)) at word (slot_inner geo place (slot_behind (2 * geo.chunks) slot steps)) at_is knows words fits))

-- a word that stays
pub shifted_stays : (old now : MemSeen) (geo : Geo) (place slot hole steps at word : ℕ) → IsHere old geo place slot → Shifted old now geo place slot hole steps → steps < 2 * geo.chunks
    → at ≡ slot_at geo place (slot_behind (2 * geo.chunks) slot steps) → Knows now at word → word ≢ 0 → Stays (ring_of geo) slot hole steps word → Shifted old now geo place slot hole (steps + 1)
shifted_stays old now geo place slot hole steps at word here so_far below at_is knows nonzero stay = record {
  keeps = so_far.keeps;
  noted = so_far.noted;
  came = λ words fits.
      let far = so_far.came words fits in
      let is = looked_before old now geo place slot hole steps words far.0 at word here far.1.fits far.1.relates below at_is fits knows in (
        far.0,
        record {
          fits = far.1.fits;
          origin = far.1.origin;
          relates = record {
            made = far.1.relates.made;
            by = far.1.relates.by;
            shift = stays hole steps far.1.relates.made far.1.relates.shift below (subst (λ (w : ℕ). w ≢ 0) (sym is) nonzero) (subst (λ (w : ℕ). Stays (ring_of geo) slot hole steps w) (sym is) stay);
          };
        },
      );
}

-- the same store from the same list
allowed_as : (s t : Setting) (p q : Option Change) (o o' ws ws' : List ℕ) (at at' w w' : ℕ) → s ≡ t → p ≡ q → o ≡ o' → ws ≡ ws' → at ≡ at' → w ≡ w'
    → IsAllowed t q o' ws' (slice_set ws' at' w') → IsAllowed s p o ws (slice_set ws at w)
allowed_as s t p q o o' ws ws' at at' w w' e f g h i j allowed = rw (e, f, g, h, i, j) allowed

-- the store of a word that moves is allowed
pub may_move : (old now : MemSeen) (geo : Geo) (place slot hole steps at left word : ℕ) → IsHere old geo place slot → MayShift old geo place slot → Shifted old now geo place slot hole steps → steps < 2 * geo.chunks
    → at ≡ slot_at geo place (slot_behind (2 * geo.chunks) slot steps) → left ≡ slot_at geo place (slot_behind (2 * geo.chunks) slot hole) → Knows now at word → word ≢ 0 → (Stays (ring_of geo) slot hole steps word → ⊥) → MayStore now left word
may_move old now geo place slot hole steps at left word here may so_far below at_is left_is knows nonzero fuse words fits =
    let far = so_far.came words fits in
    let is = looked_before old now geo place slot hole steps words far.0 at word here far.1.fits far.1.relates below at_is fits knows in
    allowed_as now.setting old.setting now.plan old.plan (origin now words) (origin old far.0) words (after_stores far.0 (at_slots geo place far.1.relates.made)) left (slot_at geo place (slot_behind (2 * geo.chunks) slot hole)) word (word_behind (ring_of geo) (slot_words geo far.0 place) slot steps)
    so_far.keeps.setting so_far.keeps.plan far.1.origin (sym far.1.relates.by.leads) left_is (sym is)
    (may far.0 far.1.fits far.1.relates.made (slot_behind (2 * geo.chunks) slot hole) (word_behind (ring_of geo) (slot_words geo far.0 place) slot steps)
    (moved hole steps far.1.relates.made far.1.relates.shift below (subst (λ (w : ℕ). w ≢ 0) (sym is) nonzero) (subst (λ (w : ℕ). Stays (ring_of geo) slot hole steps w → ⊥) (sym is) fuse)))

-- and so is the last store
pub may_end : (old now : MemSeen) (geo : Geo) (place slot hole steps at left word : ℕ) → IsHere old geo place slot → MayShift old geo place slot → Shifted old now geo place slot hole steps → steps < 2 * geo.chunks
    → at ≡ slot_at geo place (slot_behind (2 * geo.chunks) slot steps) → left ≡ slot_at geo place (slot_behind (2 * geo.chunks) slot hole) → Knows now at word → word ≡ 0 → MayStore now left 0
may_end old now geo place slot hole steps at left word here may so_far below at_is left_is knows none words fits =
    let far = so_far.came words fits in
    let is = looked_before old now geo place slot hole steps words far.0 at word here far.1.fits far.1.relates below at_is fits knows in
    allowed_as now.setting old.setting now.plan old.plan (origin now words) (origin old far.0) words (after_stores far.0 (at_slots geo place far.1.relates.made)) left (slot_at geo place (slot_behind (2 * geo.chunks) slot hole)) 0 0
    so_far.keeps.setting so_far.keeps.plan far.1.origin (sym far.1.relates.by.leads) left_is refl
    (may far.0 far.1.fits far.1.relates.made (slot_behind (2 * geo.chunks) slot hole) 0 (emptied hole steps far.1.relates.made far.1.relates.shift below (is ∙ none)))

-- one more store of the shift
one_more_leads : (old a b : MemSeen) (geo : Geo) (before mid words : List ℕ) (place number left word other : ℕ) (made : List WordStore) → Leads old a (at_slots geo place made) before mid → Leads a b (store_at left word ∷ []) mid words
    → left ≡ slot_at geo place number → other ≡ word → Leads old b (at_slots geo place (made ++ store_at number other ∷ [])) before words
one_more_leads old a b geo before mid words place number left word other made one two left_is same =
    leads_same old b (at_slots geo place made ++ store_at left word ∷ []) (at_slots geo place (made ++ store_at number other ∷ [])) before words
    (at_slots_more geo place number other made ∙ rw (← left_is, same) refl)
    (leads_append old a b (at_slots geo place made) (store_at left word ∷ []) before mid words one two)

-- a word that moves
pub shifted_moves : (old a b : MemSeen) (geo : Geo) (place slot hole steps at left word : ℕ) → IsHere old geo place slot → Shifted old a geo place slot hole steps → steps < 2 * geo.chunks
    → at ≡ slot_at geo place (slot_behind (2 * geo.chunks) slot steps) → left ≡ slot_at geo place (slot_behind (2 * geo.chunks) slot hole) → Knows a at word → word ≢ 0 → (Stays (ring_of geo) slot hole steps word → ⊥)
    → Writes a b (store_at left word ∷ []) → Shifted old b geo place slot steps (steps + 1)
shifted_moves old a b geo place slot hole steps at left word here so_far below at_is left_is knows nonzero fuse writes = record {
  keeps = keeps_transitive old a b so_far.keeps writes.keeps;
  noted = λ k h. writes.noted k (so_far.noted k h);
  came = λ words fits.
      let mid = writes.came words fits in
      let far = so_far.came mid.0 mid.1.fits in
      let is = looked_before old a geo place slot hole steps mid.0 far.0 at word here far.1.fits far.1.relates below at_is mid.1.fits knows in (
        far.0,
        record {
          fits = far.1.fits;
          origin = mid.1.origin ∙ far.1.origin;
          relates = record {
            made = far.1.relates.made ++ store_at (slot_behind (2 * geo.chunks) slot hole) (word_behind (ring_of geo) (slot_words geo far.0 place) slot steps) ∷ [];
            by = one_more_leads old a b geo far.0 mid.0 words place (slot_behind (2 * geo.chunks) slot hole) left word (word_behind (ring_of geo) (slot_words geo far.0 place) slot steps) far.1.relates.made far.1.relates.by mid.1.relates left_is is;
            shift = moves hole steps far.1.relates.made far.1.relates.shift below (subst (λ (w : ℕ). w ≢ 0) (sym is) nonzero) (subst (λ (w : ℕ). Stays (ring_of geo) slot hole steps w → ⊥) (sym is) fuse);
          };
        },
      );
}

-- the last store
pub removes_end : (old a b : MemSeen) (geo : Geo) (place slot hole steps at left word : ℕ) → IsHere old geo place slot → Shifted old a geo place slot hole steps → steps < 2 * geo.chunks
    → at ≡ slot_at geo place (slot_behind (2 * geo.chunks) slot steps) → left ≡ slot_at geo place (slot_behind (2 * geo.chunks) slot hole) → Knows a at word → word ≡ 0 → Writes a b (store_at left 0 ∷ []) → Removes old b geo place slot
removes_end old a b geo place slot hole steps at left word here so_far below at_is left_is knows none writes = record {
  keeps = keeps_transitive old a b so_far.keeps writes.keeps;
  noted = λ k h. writes.noted k (so_far.noted k h);
  came = λ words fits.
      let mid = writes.came words fits in
      let far = so_far.came mid.0 mid.1.fits in
      let is = looked_before old a geo place slot hole steps mid.0 far.0 at word here far.1.fits far.1.relates below at_is mid.1.fits knows in
      let by : Leads old b (at_slots geo place (far.1.relates.made ++ store_at (slot_behind (2 * geo.chunks) slot hole) 0 ∷ [])) far.0 words =
      one_more_leads old a b geo far.0 mid.0 words place (slot_behind (2 * geo.chunks) slot hole) left 0 0 far.1.relates.made far.1.relates.by mid.1.relates left_is refl in
      let whole : IsShift (ring_of geo) (slot_words geo far.0 place) slot (far.1.relates.made ++ store_at (slot_behind (2 * geo.chunks) slot hole) 0 ∷ []) =
      record { hole = hole; steps = steps; made = far.1.relates.made; shift = far.1.relates.shift; within = below; empty = is ∙ none; stores_are = refl } in (
        far.0,
        record {
          fits = far.1.fits;
          origin = mid.1.origin ∙ far.1.origin;
          relates = record {
            stores = far.1.relates.made ++ store_at (slot_behind (2 * geo.chunks) slot hole) 0 ∷ [];
            by = by;
            whole = λ can. whole;
            lost = λ can. subst (λ (ws : List ℕ). LostSlot geo far.0 ws place slot) by.leads
                (lost_slot geo far.0 place slot (far.1.relates.made ++ store_at (slot_behind (2 * geo.chunks) slot hole) 0 ∷ []) (here_is_tier old geo place slot far.0 here far.1.fits) can.removed can.law whole);
          };
        },
      );
}

-- after a whole round: the slot was none that could be lost
pub removes_round : (old now : MemSeen) (geo : Geo) (place slot hole steps : ℕ) → IsHere old geo place slot → Shifted old now geo place slot hole steps → 2 * geo.chunks ≤ steps → Removes old now geo place slot
removes_round old now geo place slot hole steps here so_far past =
    changes_as old now (LeadsShift old now geo place slot hole steps) (LeadsRemoval old now geo place slot) so_far
    (λ before words fits far. record {
      stores = far.made;
      by = far.by;
      whole = λ can. absurd (never before far.made fits far.shift can);
      lost = λ can. absurd (never before far.made fits far.shift can);
    })
  where
    never : (before : List ℕ) (made : List WordStore) → FitsNotes old before → Shift (ring_of geo) (slot_words geo before place) slot hole steps made → CanLose geo before place slot → ⊥
    never before made fits shift can =
        let ends = meets (ring_of geo) (slot_words geo before place) slot hole steps can.empty.0 made (tier_is_table geo before place slot (here_is_tier old geo place slot before here fits))
        (some_in_ring geo before place slot here.slot_inside can.removed) can.empty.1
        (slot_words_at geo before place can.empty.0 can.empty.1 ∙ (slot_empty geo before place can.empty.0).0 can.empty.2) shift in
        omega arith

-- the slot at a number of steps, by the code's mask
pub at_behind : (geo : Geo) (slots slot steps : ℕ) → slots ≡ 2 * geo.chunks → bit_and (slot + steps) (slots - 1) ≡ slot_behind (2 * geo.chunks) slot steps
at_behind geo slots slot steps slots_is = rw slots_is (mask_behind geo slot steps)

-- and its address, counted from the tier's first slot
pub at_behind_from : (geo : Geo) (place first slots slot steps : ℕ) → first ≡ slot_at geo place 0 → slots ≡ 2 * geo.chunks → first + bit_and (slot + steps) (slots - 1) ≡ slot_at geo place (slot_behind (2 * geo.chunks) slot steps)
at_behind_from geo place first slots slot steps first_is slots_is = slot_from_first geo place first _ first_is ∙ ap (slot_at geo place) (at_behind geo slots slot steps slots_is)

-- it lies in the segment
pub behind_in_range : (m : MemSeen) (geo : Geo) (place first slots slot steps : ℕ) → place < geo.tiers → m.setting.geo ≡ geo → first ≡ slot_at geo place 0 → slots ≡ 2 * geo.chunks
    → first + bit_and (slot + steps) (slots - 1) < words_in_segment m.setting.geo
behind_in_range m geo place first slots slot steps place_below geo_is first_is slots_is =
    rw (geo_is, at_behind_from geo place first slots slot steps first_is slots_is) (slot_in_range geo place (slot_behind (2 * geo.chunks) slot steps) place_below (mod-lt (slot + steps) (omega (arith, chunks_range geo))))

-- behind the lock word and the change number
pub behind_inner : (geo : Geo) (place first slots slot steps : ℕ) → first ≡ slot_at geo place 0 → slots ≡ 2 * geo.chunks → 1 < first + bit_and (slot + steps) (slots - 1)
behind_inner geo place first slots slot steps first_is slots_is = rw (at_behind_from geo place first slots slot steps first_is slots_is) (slot_inner geo place (slot_behind (2 * geo.chunks) slot steps))

-- the home of a word's fingerprint, by the code's mask
pub home_by : (geo : Geo) (slots word : ℕ) → slots ≡ 2 * geo.chunks → bit_and (word / 2 ^ 32) (slots - 1) ≡ home_in geo (word / 2 ^ 32)
home_by geo slots word slots_is = rw slots_is (mask_of_slots (word / 2 ^ 32) geo.chunks geo.chunks_fit)

-- the code's test, by its mask
ring_steps_test : (geo : Geo) (slots slot steps at home word : ℕ) → slots ≡ 2 * geo.chunks → at ≡ slot_behind (2 * geo.chunks) slot steps → home ≡ home_in geo (word / 2 ^ 32)
    → bit_and (at + slots - home) (slots - 1) ≡ steps_between (2 * geo.chunks) (home_in geo (word / 2 ^ 32)) (slot_behind (2 * geo.chunks) slot steps)
ring_steps_test geo slots slot steps at home word slots_is at_is home_is = rw (slots_is, at_is, home_is) (mask_between geo (home_in geo (word / 2 ^ 32)) (slot_behind (2 * geo.chunks) slot steps))

pub goes_by : (geo : Geo) (slots slot hole steps at home word : ℕ) → slots ≡ 2 * geo.chunks → at ≡ slot_behind (2 * geo.chunks) slot steps → home ≡ home_in geo (word / 2 ^ 32)
    → steps ≤ bit_and (at + slots - home) (slots - 1) + hole → Stays (ring_of geo) slot hole steps word → ⊥
goes_by geo slots slot hole steps at home word slots_is at_is home_is far stay = omega (arith, ring_steps_test geo slots slot steps at home word slots_is at_is home_is, far, stay)

pub stays_by : (geo : Geo) (slots slot hole steps at home word : ℕ) → slots ≡ 2 * geo.chunks → at ≡ slot_behind (2 * geo.chunks) slot steps → home ≡ home_in geo (word / 2 ^ 32)
    → bit_and (at + slots - home) (slots - 1) + hole < steps → Stays (ring_of geo) slot hole steps word
stays_by geo slots slot hole steps at home word slots_is at_is home_is near = omega (arith, ring_steps_test geo slots slot steps at home word slots_is at_is home_is, near)

-- in a memory that isn't guarded each store of a shift is allowed
pub may_shift_free : (m : MemSeen) (geo : Geo) (place slot : ℕ) → m.setting.guarded ≡ false → MayShift m geo place slot
may_shift_free m geo place slot free words fits made at word next guarded = let no : true ≡ false = sym guarded ∙ free in cc no

pub ruleset free_of_rules = (may_store_free, may_shift_free, chunks_range, tiers_range)
