-- What is read of a segment of words that nobody changes.
use Rattle.std.proofs.Common.{◌≡◌, ◌≢◌, ℕ, ◌-◌, ◌<◌, ◌≤◌, List, [], ◌∷◌, length, drop, slice_get, slice_index, subst, Some, None, refl, sym, ap, ◌∙◌, arith, length-drop}
use Rattle.std.proofs.lemmas.List.{length-take-le}
use Rattle.cm_geo.specs.declared.geo.Geo.{Geo}
use Rattle.cm_geo.specs.Addresses.{slot_at, words_in_segment}
use Rattle.cm_words.specs.declared.fixed.FixedMem.{FixedMem}
use Rattle.cm_words.specs.Fixed.{SameWords, fixed_seen}
use Rattle.cm_words.specs.Maps.{IsWhole, MapWords, segment_in, words_before}
use Rattle.cm_words.proofs.MapPlaces.{segment_inside}
use Rattle.cm_words.specs.Memory.{FitsNotes}
use Rattle.cm_words.proofs.OneMemoryState.{fixed_notes_all, its_words}
use Rattle.cm_plain.specs.Slots.{slot_in, word_at}
use Rattle.cm_plain.specs.States.{IsChain}
use Rattle.cm_lookup.specs.declared.hit.SlotParts.{SlotParts}
use Rattle.cm_lookup.specs.Probing.{AreHalves}
use Rattle.cm_lookup.proofs.SlotWords.{halves_empty, slot_empty, slot_some}
use Rattle.cm_tiers.specs.Chains.{IsLinked, places_of}
use Rattle.cm_check.specs.declared.quiet.Quiet.{Quiet}
use Rattle.cm_check.specs.Quiets.{IsReader, geo_of, slot_seen, words_of}
use Rattle.cm_check.specs.Places.{chain_in}

-- its words fit the notes of each memory over them
pub fits_words : (a b : FixedMem) (map : MapWords) (segment : ℕ) → SameWords a b → a.words.now ≡ map → a.segment ≡ segment → FitsNotes (fixed_seen b) (segment_in map segment)
fits_words a b map segment same words_are segment_is =
    (its_words (fixed_seen b) b.words.now b.segment b.words.now.words (segment_in map segment) (fixed_notes_all b)).1
    (rw (same.words ∙ words_are, same.segment ∙ segment_is) refl)

pub fits_quiet : (quiet : Quiet) (a b : FixedMem) → IsReader quiet a → SameWords a b → FitsNotes (fixed_seen b) (words_of quiet)
unfolding words_of
fits_quiet quiet a b reader same = fits_words a b quiet.words.now quiet.segment same reader.words_are reader.segment_is

-- its chain is the one that was read
pub chain_read : (quiet : Quiet) → IsLinked (geo_of quiet) (words_of quiet) quiet.chain
unfolding words_of
chain_read quiet = quiet.linked

pub places_read : (quiet : Quiet) → chain_in (geo_of quiet) (words_of quiet) ≡ places_of quiet.chain
unfolding chain_in
places_read quiet = ap (λ found. found.places) (chain_read quiet)

-- a word of it
pub word_read : (quiet : Quiet) (found : List ℕ) (at : ℕ) → found ≡ segment_in quiet.words.now quiet.segment → word_at found at ≡ word_at (words_of quiet) at
unfolding words_of
word_read quiet found at is = ap (λ (words : List ℕ). word_at words at) is

-- a slot by the halves of its word
pub halves_none : (geo : Geo) (words : List ℕ) (place number : ℕ) (parts : SlotParts) → AreHalves (word_at words (slot_at geo place number)) parts → parts.fingerprint ≡ 0 → parts.low ≡ 0 → slot_in geo words place number ≡ None
halves_none geo words place number parts are upper lower =
    (slot_empty geo words place number).1 ((halves_empty (word_at words (slot_at geo place number))).1 (sym are.upper ∙ upper, sym are.lower ∙ lower))

pub halves_some : (geo : Geo) (words : List ℕ) (place number : ℕ) (parts : SlotParts) → AreHalves (word_at words (slot_at geo place number)) parts → (parts.fingerprint ≡ 0 → parts.low ≡ 0 → ⊥)
    → slot_seen (Some parts) ≡ slot_in geo words place number
halves_some geo words place number parts are other =
    let some : word_at words (slot_at geo place number) ≢ 0 = λ e. (let both = (halves_empty (word_at words (slot_at geo place number))).0 e in other (are.upper ∙ both.0) (are.lower ∙ both.1)) in
    rw (are.upper, are.lower) (sym (slot_some geo words place number (word_at words (slot_at geo place number)) refl some))

-- it has as many words as a segment
segment_many : (map : MapWords) (segment : ℕ) → IsWhole map → segment < map.geo.segments → length (segment_in map segment) ≡ words_in_segment map.geo
segment_many map segment whole here =
    let inside = (segment_inside map.geo segment here).0 in
    length-take-le (words_in_segment map.geo) (drop (words_before map.geo segment) map.words) (omega (arith, inside, whole, length-drop (words_before map.geo segment) map.words))

pub many_words : (quiet : Quiet) → length (words_of quiet) ≡ words_in_segment (geo_of quiet)
unfolding words_of
many_words quiet = segment_many quiet.words.now quiet.segment quiet.whole quiet.here

pub chain_is : (quiet : Quiet) → IsChain (geo_of quiet) (chain_in (geo_of quiet) (words_of quiet))
chain_is quiet = subst (λ (chain : List ℕ). IsChain (geo_of quiet) chain) (sym (places_read quiet)) quiet.read.is_chain

-- a chain has a last tier
pub places_some : {geo : Geo} {chain : List ℕ} → IsChain geo chain → 1 ≤ length chain
places_some {geo} {chain} is = some chain is.first
  where
    some : (places : List ℕ) → slice_get places 0 ≡ Some 0 → 1 ≤ length places
    some [] e = cc e
    some (place ∷ places) e = omega arith

pub last_low : {geo : Geo} {chain : List ℕ} → IsChain geo chain → slice_index chain (length chain - 1) < geo.tiers
last_low {geo} {chain} is = (let some = places_some is in is.inside (length chain - 1) 0 (omega (arith, some)))

-- a segment that was made of words
pub words_new : (quiet : Quiet) (map : MapWords) (segment : ℕ) → quiet.words.now ≡ map → quiet.segment ≡ segment → words_of quiet ≡ segment_in map segment
unfolding words_of
words_new quiet map segment e f = rw (e, f) refl
