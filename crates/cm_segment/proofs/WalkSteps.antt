-- A walk over the slots of a tier, and along the chain.
use Rattle.std.proofs.Common.{◌≡◌, ◌≢◌, ℕ, ◌+◌, ◌*◌, ◌/◌, ◌%◌, ◌^◌, ◌<◌, ◌≤◌, ◌↔◌, true, false, List, Option, Some, None, Contains, Ok, Err, IfOk, OnOk, refl, ap, sym, subst, ◌∙◌, inl, inr, arith}
use Rattle.std.specs.declared.result.Result.{Result}
use Rattle.std.specs.List.{slice_get}
use Rattle.std.proofs.lemmas.Bool.{cases_eq}
use Rattle.std.proofs.lemmas.Option.{same_Some, slice_get_within}
use Rattle.cm_geo.specs.declared.geo.Geo.{Geo}
use Rattle.cm_geo.specs.Addresses.{slot_at}
use Rattle.cm_plain.specs.declared.placed.Placed.{Placed}
use Rattle.cm_plain.specs.States.{State, pair_of}
use Rattle.cm_plain.specs.Slots.{Points, Slot, slot_for, slot_in, word_at}
use Rattle.cm_plain.specs.Lawful.{IsSlotOf, Resting}
use Rattle.cm_plain.proofs.OutsideHead.{resting_represents}
use Rattle.cm_words.specs.declared.fuse.Dead.{Dead}
use Rattle.cm_words.specs.Memory.{FitsNotes, MemSeen}
use Rattle.cm_words.specs.Effects.{Reads}
use Rattle.cm_lookup.specs.declared.hit.SlotParts.{SlotParts}
use Rattle.cm_lookup.specs.Probing.{AreHalves}
use Rattle.cm_lookup.proofs.SlotWords.{half_chunk, slot_parts, slot_some}
use Rattle.cm_entry.specs.Prefixes.{IsKeyCopyIf}
use Rattle.cm_segment.specs.declared.walks.Cursor.{Cursor}
use Rattle.cm_segment.specs.Walks.{HasNoMatch, IsBefore, IsChunkOfHalf, IsFirstInTier, IsFirstMatch, IsMatch, IsMatchCopied, PointsToMatch, ReadsSlot}
use Rattle.cm_segment.proofs.ChainedTiers.{contains_at, rests_before, tier_of}
use Rattle.cm_segment.proofs.ChainSearch.{AreBefore, AreSoFar, IsTierOf, all_before, tier_is, tiers_within}
use Rattle.cm_segment.proofs.KeySearch.{chunk_low, reads_at}

-- ---- one slot

-- the lower half of the word of a slot that points to an entry is the entry's chunk
low_of : (geo : Geo) (words : List ℕ) (place slot chunk : ℕ) (key : List ℕ) (parts : SlotParts) → AreHalves (word_at words (slot_at geo place slot)) parts
    → slot_in geo words place slot ≡ Some (slot_for geo key chunk) → parts.low ≡ chunk + 1
low_of geo words place slot chunk key parts halves is =
    let here = slot_parts geo words place slot (slot_for geo key chunk) is in
    halves.lower ∙ (half_chunk (word_at words (slot_at geo place slot) % 2 ^ 32) chunk).0 (sym here.2)

-- a slot that points to no chunk points to no entry
pub no_chunk : (m : MemSeen) (geo : Geo) (place slot : ℕ) (prefix : List ℕ) (parts : SlotParts)
    → ((words : List ℕ) → FitsNotes m words → AreHalves (word_at words (slot_at geo place slot)) parts)
    → ((chunk : ℕ) → IsChunkOfHalf geo.chunks parts.low chunk → ⊥)
    → (words : List ℕ) (state : State) → FitsNotes m words → Resting geo m.setting.segment words state → Contains state.chain place
    → HasNoMatch geo words state place prefix slot
no_chunk m geo place slot prefix parts halves none words state fits rests chained placed matches =
    none placed.chunk (record {
      low_is = low_of geo words place slot placed.chunk placed.key parts (halves words fits) matches.points.slot_is;
      below = chunk_low geo m.setting.segment words state placed (resting_represents geo m.setting.segment words state rests) matches.at.there;
    })

-- the slot whose lower half points to a chunk is an entry's
entry_at : (geo : Geo) (segment : ℕ) (words : List ℕ) (state : State) (place slot chunk : ℕ) (parts : SlotParts) → Resting geo segment words state
    → Contains state.chain place → slot < 2 * geo.chunks → AreHalves (word_at words (slot_at geo place slot)) parts
    → IsChunkOfHalf geo.chunks parts.low chunk → (of : IsSlotOf geo state place
    (record { fingerprint = word_at words (slot_at geo place slot) / 2 ^ 32; chunk = Some chunk })) × Points geo words place of.placed.key of.placed.chunk
    slot × (of.placed.chunk ≡ chunk)
entry_at geo segment words state place slot chunk parts rests chained inside halves is =
    let word : ℕ = word_at words (slot_at geo place slot) in
    let half : word % 2 ^ 32 ≡ chunk + 1 = sym halves.lower ∙ is.low_is in
    let found : slot_in geo words place slot ≡ Some (record { fingerprint = word / 2 ^ 32; chunk = Some chunk }) =
    slot_some geo words place slot word refl (nonzero word chunk half) ∙ ap (λ (c : Option ℕ). Some (record { fingerprint = word / 2 ^ 32; chunk = c }))
    ((half_chunk (word % 2 ^ 32) chunk).1 half) in
    let of = (tier_of geo segment words state place rests chained).slots slot (record { fingerprint = word / 2 ^ 32; chunk = Some chunk }) inside found in (
      of,
      record { inside = inside; slot_is = found ∙ ap (λ (s : Slot). Some s) of.slot_is },
      some_chunk of.placed.chunk chunk
          (sym (ap (λ (s : Slot). s.chunk) of.slot_is)),
    )
  where
    nonzero : (word chunk : ℕ) → word % 2 ^ 32 ≡ chunk + 1 → word ≢ 0
    nonzero word chunk e none = omega (arith, e, ap (λ (w : ℕ). w % 2 ^ 32) none)

    some_chunk : (a b : ℕ) → Some a ≡ Some b → a ≡ b
    some_chunk a b e = cc e

-- what is read of the entry's key
pub reads_slot : (b c : MemSeen) (geo : Geo) (place slot chunk : ℕ) (prefix out : List ℕ) (parts : SlotParts) (found : Option ℕ) → slot < 2 * geo.chunks
    → ((words : List ℕ) → FitsNotes b words → AreHalves (word_at words (slot_at geo place slot)) parts)
    → IsChunkOfHalf geo.chunks parts.low chunk → Reads b c → IsKeyCopyIf c geo place chunk prefix out found
    → (words : List ℕ) (state : State) → FitsNotes c words → Resting geo c.setting.segment words state → Contains state.chain place
    → ReadsSlot geo words state place slot prefix out found
reads_slot b c geo place slot chunk prefix out parts None inside halves is reads copied words state fits rests chained = λ placed matches.
    let chunk_is : placed.chunk ≡ chunk = same_chunk parts.low placed.chunk chunk
    (low_of geo words place slot placed.chunk placed.key parts (halves words (reads.fits words fits)) matches.points.slot_is) is.low_is in
    let other = copied.copied words fits (pair_of placed) (reads_at geo c.setting.segment words state place chunk placed
    (resting_represents geo c.setting.segment words state rests) matches.at chunk_is) in
    clash (sym matches.prefixed ∙ other)
  where
    same_chunk : (low a b : ℕ) → low ≡ a + 1 → low ≡ b + 1 → a ≡ b
    same_chunk low a b e f = omega (arith, e, f)

    clash : true ≡ false → ⊥
    clash e = cc e
reads_slot b c geo place slot chunk prefix out parts (Some len) inside halves is reads copied words state fits rests chained =
    let at = entry_at geo c.setting.segment words state place slot chunk parts rests chained inside (halves words (reads.fits words fits)) is in
    let key = copied.copied words fits (pair_of at.0.placed) (reads_at geo c.setting.segment words state place chunk at.0.placed
    (resting_represents geo c.setting.segment words state rests) at.0.at at.2) in
    record {
      placed = at.0.placed;
      points = record { at = at.0.at; points = at.1; prefixed = key.prefixed };
      key_len_is = key.len_is;
      copied = key.copied;
    }

-- the answer of the call that reads it
pub slot_answer : (b c : MemSeen) (geo : Geo) (place slot chunk : ℕ) (prefix out : List ℕ) (parts : SlotParts) (result : Result (Option ℕ) Dead)
    → slot < 2 * geo.chunks → ((words : List ℕ) → FitsNotes b words → AreHalves (word_at words (slot_at geo place slot)) parts)
    → IsChunkOfHalf geo.chunks parts.low chunk → OnOk result (Reads b c) → IfOk result (IsKeyCopyIf c geo place chunk prefix out)
    → IfOk result (λ found. (words : List ℕ) (state : State) → FitsNotes c words → Resting geo c.setting.segment words state → Contains state.chain place
    → ReadsSlot geo words state place slot prefix out found)
slot_answer b c geo place slot chunk prefix out parts (Ok found) inside halves is reads copied =
    reads_slot b c geo place slot chunk prefix out parts found inside halves is reads copied
slot_answer b c geo place slot chunk prefix out parts (Err dead) inside halves is reads copied = copied

-- ---- the slots of a tier

-- the slots from one on up to another point to no entry whose key begins with the prefix
abbrev pub HasNoneYet : MemSeen → Geo → ℕ → ℕ → List ℕ → ℕ → Type 0
HasNoneYet m geo place first prefix slot =
    (words : List ℕ) (state : State) → FitsNotes m words → Resting geo m.setting.segment words state → Contains state.chain place → (k : ℕ) → first ≤ k
    → k < slot → HasNoMatch geo words state place prefix k

pub none_yet : (m : MemSeen) (geo : Geo) (place first : ℕ) (prefix : List ℕ) → HasNoneYet m geo place first prefix first
none_yet m geo place first prefix words state fits rests chained k from before = absurd (omega arith)

pub none_more : (a b : MemSeen) (geo : Geo) (place first : ℕ) (prefix : List ℕ) (slot : ℕ) → HasNoneYet a geo place first prefix slot → Reads a b
    → ((words : List ℕ) (state : State) → FitsNotes b words → Resting geo b.setting.segment words state → Contains state.chain place
    → HasNoMatch geo words state place prefix slot) → HasNoneYet b geo place first prefix (slot + 1)
none_more a b geo place first prefix slot none reads here words state fits rests chained k from before = elim (cases_eq k slot) [
  | inl same ↦ subst (HasNoMatch geo words state place prefix) (sym same) (here words state fits rests chained)
  | inr differ ↦ none words state (reads.fits words fits) (rests_before a b geo words state reads rests) chained k from (less k slot before differ)
]
  where
    less : (k n : ℕ) → k < n + 1 → k ≢ n → k < n
    less k n h d = omega arith

-- the first one
pub first_in_tier : (a b : MemSeen) (geo : Geo) (place first slot len : ℕ) (prefix out : List ℕ) → HasNoneYet a geo place first prefix slot → Reads a b
    → first ≤ slot
    → ((words : List ℕ) (state : State) → FitsNotes b words → Resting geo b.setting.segment words state → Contains state.chain place
    → IsMatchCopied geo words state place slot prefix out len)
    → (words : List ℕ) (state : State) → FitsNotes b words → Resting geo b.setting.segment words state → Contains state.chain place
    → IsFirstInTier geo words state place first prefix out (slot, len)
first_in_tier a b geo place first slot len prefix out none reads from here words state fits rests chained = record {
  not_before = from;
  copied = here words state fits rests chained;
  none_before = λ k from before. none words state (reads.fits words fits) (rests_before a b geo words state reads rests) chained k from before;
}

-- none up to the last slot
pub none_in_tier : (m : MemSeen) (geo : Geo) (place first slot : ℕ) (prefix : List ℕ) → HasNoneYet m geo place first prefix slot → 2 * geo.chunks ≤ slot
    → (words : List ℕ) (state : State) → FitsNotes m words → Resting geo m.setting.segment words state → Contains state.chain place → (k : ℕ) → first ≤ k
    → HasNoMatch geo words state place prefix k
none_in_tier m geo place first slot prefix none past words state fits rests chained k from placed matches =
    none words state fits rests chained k from (let inside = matches.points.inside in omega (arith, inside, past)) placed matches

-- ---- the tiers of the chain

-- no slot of a tier that is not before a cursor points to an entry whose key begins with the prefix
abbrev pub HasNoMatchFrom : Geo → Cursor → List ℕ → List ℕ → State → ℕ → ℕ → Type 0
HasNoMatchFrom geo from prefix words state link place =
    (slot : ℕ) → (IsBefore (record { link = link; slot = slot }) from → ⊥) → HasNoMatch geo words state place prefix slot

-- the slots of a tier that are not before a cursor are those from its first one on
abbrev pub IsFirstSlot : Geo → Cursor → ℕ → ℕ → Type 0
IsFirstSlot geo from link first = (slot : ℕ) → slot < 2 * geo.chunks → (first ≤ slot ↔ (IsBefore (record { link = link; slot = slot }) from → ⊥))

pub none_from : (m : MemSeen) (geo : Geo) (from : Cursor) (link place first : ℕ) (prefix : List ℕ) → IsFirstSlot geo from link first
    → ((words : List ℕ) (state : State) → FitsNotes m words → Resting geo m.setting.segment words state → Contains state.chain place → (k : ℕ) → first ≤ k
    → HasNoMatch geo words state place prefix k)
    → (words : List ℕ) (state : State) → FitsNotes m words → Resting geo m.setting.segment words state → Contains state.chain place
    → HasNoMatchFrom geo from prefix words state link place
none_from m geo from link place first prefix is none words state fits rests chained slot not_before placed matches =
    none words state fits rests chained slot ((is slot matches.points.inside).1 not_before) placed matches

-- an entry that stands at a cursor is one of its tier
match_in : (geo : Geo) (words : List ℕ) (state : State) (from : Cursor) (prefix : List ℕ) (placed : Placed) (cursor : Cursor)
    → IsMatch geo words state from prefix placed cursor → PointsToMatch geo words state placed.place cursor.slot prefix placed
match_in geo words state from prefix placed cursor is =
    record { at = record { there = is.stands.there; place_is = refl }; points = is.stands.points; prefixed = is.prefixed }

-- so tiers without a match have none that stands at one of their cursors
none_stands : (geo : Geo) (words : List ℕ) (state : State) (from : Cursor) (prefix : List ℕ) (number : ℕ)
    → AreBefore state number (HasNoMatchFrom geo from prefix words state)
    → (placed : Placed) (cursor : Cursor) → IsMatch geo words state from prefix placed cursor → cursor.link < number → ⊥
none_stands geo words state from prefix number none placed cursor is before =
    none cursor.link placed.place before is.stands.tier cursor.slot is.not_before placed (match_in geo words state from prefix placed cursor is)

-- after the last tier
pub none_behind : (a b : MemSeen) (geo : Geo) (from : Cursor) (prefix : List ℕ) (number : ℕ) → AreSoFar a geo number (HasNoMatchFrom geo from prefix)
    → Reads a b → IsTierOf b geo number None
    → (words : List ℕ) (state : State) → FitsNotes b words → Resting geo b.setting.segment words state → (placed : Placed) (cursor : Cursor)
    → IsMatch geo words state from prefix placed cursor → ⊥
none_behind a b geo from prefix number none reads is words state fits rests placed cursor matches =
    none_stands geo words state from prefix number (none words state (reads.fits words fits) (rests_before a b geo words state reads rests)) placed cursor
    matches
    (let inside = slice_get_within state.chain cursor.link placed.place matches.stands.tier in omega
    (arith, inside, all_before state.chain number (sym (tier_is b geo number None words state is fits rests))))

pub none_end : (m : MemSeen) (geo : Geo) (from : Cursor) (prefix : List ℕ) (number : ℕ) → AreSoFar m geo number (HasNoMatchFrom geo from prefix)
    → geo.tiers ≤ number
    → (words : List ℕ) (state : State) → FitsNotes m words → Resting geo m.setting.segment words state → (placed : Placed) (cursor : Cursor)
    → IsMatch geo words state from prefix placed cursor → ⊥
none_end m geo from prefix number none past words state fits rests placed cursor matches =
    none_stands geo words state from prefix number (none words state fits rests) placed cursor matches
    (let inside = slice_get_within state.chain cursor.link placed.place matches.stands.tier in omega
    (arith, inside, tiers_within geo m.setting.segment words state number rests past))

-- the first match of a tier, behind tiers without one
pub first_match : (a b c : MemSeen) (geo : Geo) (from : Cursor) (prefix out : List ℕ) (link place first slot len : ℕ)
    → AreSoFar a geo link (HasNoMatchFrom geo from prefix) → Reads a b → IsTierOf b geo link (Some place) → Reads b c
    → IsFirstSlot geo from link first
    → ((words : List ℕ) (state : State) → FitsNotes c words → Resting geo c.setting.segment words state → Contains state.chain place
    → IsFirstInTier geo words state place first prefix out (slot, len))
    → (words : List ℕ) (state : State) → FitsNotes c words → Resting geo c.setting.segment words state
    → IsFirstMatch geo words state from prefix out (record { at = record { link = link; slot = slot }; key_len = len })
first_match a b c geo from prefix out link place first slot len none one is two firsts found words state fits rests =
    let fits_b = two.fits words fits in
    let rests_b = rests_before b c geo words state two rests in
    let tier : slice_get state.chain link ≡ Some place = tier_is b geo link (Some place) words state is fits_b rests_b in
    let here = found words state fits rests (contains_at state.chain link place tier) in
    let at = here.copied.points in
    record {
      placed = here.copied.placed;
      is_match = record {
        stands = record {
          there = at.at.there;
          tier = tier ∙ ap (λ (p : ℕ). Some p) (sym at.at.place_is);
          points = subst (λ (p : ℕ). Points geo words p here.copied.placed.key here.copied.placed.chunk slot) (sym at.at.place_is) at.points;
        };
        not_before = (firsts slot at.points.inside).0 here.not_before;
        prefixed = at.prefixed;
      };
      first = λ other cursor matches before. elim before [
        | inl earlier ↦ none_stands geo words state from prefix link (none words state (one.fits words fits_b) (rests_before a b geo words state one rests_b))
            other cursor matches earlier
        | inr same ↦
            let in_tier : other.place ≡ place = same_Some other.place place (sym matches.stands.tier ∙ (ap (slice_get state.chain) same.0 ∙ tier)) in
            let points = match_in geo words state from prefix other cursor matches in
            let cursor_is : cursor ≡ record { link = link; slot = cursor.slot } = same_link cursor link same.0 in
            here.none_before cursor.slot ((firsts cursor.slot points.points.inside).1
            (subst (λ (c : Cursor). IsBefore c from → ⊥) cursor_is matches.not_before)) same.1 other
            (subst (λ (p : ℕ). PointsToMatch geo words state p cursor.slot prefix other) in_tier points)
      ];
      key_len_is = here.copied.key_len_is;
      copied = here.copied.copied;
    }
  where
    same_link : (cursor : Cursor) (link : ℕ) → cursor.link ≡ link → cursor ≡ record { link = link; slot = cursor.slot }
    same_link cursor link e = rw e refl
