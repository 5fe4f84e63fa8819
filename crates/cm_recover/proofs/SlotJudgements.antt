-- What becomes of a slot by what is read where it points to.
use Rattle.std.proofs.Common.{◌≡◌, ℕ, ◌<◌, ◌==◌, ◌||◌, Bool, true, false, List, [], ◌∷◌, nat_le, refl, subst, ◌∙◌, arith, inl, inr}
use Rattle.std.specs.List.{list_any}
use Rattle.std.proofs.lemmas.Bool.Decides.{nat_tests}
use Rattle.cm_geo.specs.declared.geo.Geo.{Geo}
use Rattle.cm_geo.specs.Hash.{fingerprint_in, hash, segment_of_key}
use Rattle.cm_plain.specs.declared.placed.Placed.{Placed}
use Rattle.cm_plain.specs.Slots.{slot_for}
use Rattle.cm_plain.specs.Readings.{Reading, Stands, entry, reading_at}
use Rattle.cm_plain.specs.States.{pair_of}
use Rattle.cm_plain.proofs.ListElements.{In}
use Rattle.cm_recover.specs.OccupiedSlots.{OccupiedSlot}
use Rattle.cm_recover.specs.Judgements.{judgement, judgement_beside, judgement_on_reading}

-- a number among others passes the test of it
is_among : (places : List ℕ) (place : ℕ) → In place places → list_any (λ it. it == place) places ≡ true
is_among [] place i = absurd i
is_among (it ∷ places) place (inl e) = let here : (it == place) ≡ true = same it place e in rw here refl
  where
    same : (a b : ℕ) → b ≡ a → (a == b) ≡ true
    same a b e = grind (arith, nat_tests)
is_among (it ∷ places) place (inr i) = by (it == place) (is_among places place i)
  where
    by : (here : Bool) → list_any (λ it. it == place) places ≡ true → (here || list_any (λ it. it == place) places) ≡ true
    by true e = refl
    by false e = e

-- of a slot of an allowed tier that points to a chunk of the tier for a key, by what is read there
pub by_reading : (geo : Geo) (segment : ℕ) (words places : List ℕ) (kept : List Placed) (at : OccupiedSlot) (key : List ℕ) (chunk : ℕ) (reading : Reading)
    → In at.place places → at.slot ≡ slot_for geo key chunk → chunk < geo.chunks → reading_at geo words at.place chunk ≡ reading
    → judgement geo segment words places kept at ≡ judgement_on_reading geo segment kept (fingerprint_in geo (hash key)) at.place chunk reading
by_reading geo segment words places kept at key chunk reading i slot_is low is =
    let among = is_among places at.place i in
    let inside : nat_le geo.chunks chunk ≡ false = below chunk geo.chunks low in
    rw (among, slot_is, inside, is) refl
  where
    below : (chunk chunks : ℕ) → chunk < chunks → nat_le chunks chunk ≡ false
    below chunk chunks h = grind (arith, nat_tests)

-- of one that points to an entry of its key
pub by_entry : (geo : Geo) (segment : ℕ) (words places : List ℕ) (kept : List Placed) (at : OccupiedSlot) (placed : Placed)
    → In at.place places → placed.place ≡ at.place → at.slot ≡ slot_for geo placed.key placed.chunk → placed.chunk < geo.chunks → Stands geo words placed → segment_of_key geo placed.key ≡ segment
    → judgement geo segment words places kept at ≡ judgement_beside geo kept placed
by_entry geo segment words places kept at placed i place_is slot_is low stands here =
    let reads = subst (λ (place : ℕ). reading_at geo words place placed.chunk ≡ entry (pair_of placed)) place_is stands in
    let is = by_reading geo segment words places kept at placed.key placed.chunk (entry (pair_of placed)) i slot_is low reads in
    let segment_is : (segment_of_key geo placed.key == segment) ≡ true = same (segment_of_key geo placed.key) segment here in
    let fingerprint_is : (fingerprint_in geo (hash placed.key) == fingerprint_in geo (hash placed.key)) ≡ true = same (fingerprint_in geo (hash placed.key)) (fingerprint_in geo (hash placed.key)) refl in
    let end : judgement_on_reading geo segment kept (fingerprint_in geo (hash placed.key)) placed.place placed.chunk (entry (pair_of placed)) ≡ judgement_beside geo kept placed = rw (segment_is, fingerprint_is) refl in
    is ∙ subst (λ (place : ℕ). judgement_on_reading geo segment kept (fingerprint_in geo (hash placed.key)) place placed.chunk (entry (pair_of placed)) ≡ judgement_beside geo kept placed) place_is end
  where
    same : (a b : ℕ) → a ≡ b → (a == b) ≡ true
    same a b e = grind (arith, nat_tests)
