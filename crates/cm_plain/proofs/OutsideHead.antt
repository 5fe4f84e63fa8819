-- Laws of how words represent a state: they don't depend on the first two words of a segment, the lock word and the change number. Torn
-- words depend on none of the first four.
use Rattle.std.proofs.Common.{◌≡◌, ◌≢◌, ℕ, ◌+◌, ◌/◌, ◌<◌, ◌≤◌, List, [], ◌∷◌, get_or, drop, slice_set, arith, length, length-set, refl, ap, sym, ◌∙◌, get_or-set_other, zero, suc, inl, inr}
use Rattle.std.proofs.lemmas.List.{drop-set-lt}
use Rattle.std.proofs.lemmas.List.Elements.{All-weaker}
use Rattle.cm_geo.specs.declared.geo.Geo.{Geo}
use Rattle.cm_geo.specs.Addresses.{bits_at, chunk_at, slot_at, tier_at, words_in_segment}
use Rattle.cm_geo.proofs.AddressOrder.{bits_behind_head, chunks_behind_head, slots_behind_head, tier_behind_head}
use Rattle.cm_plain.specs.declared.placed.Placed.{Placed}
use Rattle.cm_plain.specs.States.{State}
use Rattle.cm_plain.specs.Slots.{IsPointed, IsPointedOnce, Points, slot_in, slot_of_word}
use Rattle.cm_plain.specs.Readings.{reading_at}
use Rattle.cm_plain.specs.FoundChains.{IsZero, chain_of, chain_from}
use Rattle.cm_plain.specs.Lawful.{EndsHead, Resting, Represents, TierRepresents}
use Rattle.cm_plain.specs.Changes.{Change}
use Rattle.cm_plain.specs.Torn.{IsBetween, IsPointedInChain, Torn}

-- a word behind another one is the same after a store in that
behind : (words : List ℕ) (at word k : ℕ) → at < k → get_or (slice_set words at word) k 0 ≡ get_or words k 0
behind words at word k low = let ne : k ≢ at = omega arith in rw get_or-set_other refl

-- and so is a word of a tier
in_tier : (geo : Geo) (words : List ℕ) (at word place offset : ℕ) → at < 4 → get_or (slice_set words at word) (tier_at geo place + offset) 0 ≡ get_or words (tier_at geo place + offset) 0
in_tier geo words at word place offset low = behind words at word _ (omega (arith, tier_behind_head geo place))

link_same : (geo : Geo) (words : List ℕ) (at word place : ℕ) → at < 4 → get_or (slice_set words at word) (tier_at geo place) 0 ≡ get_or words (tier_at geo place) 0
link_same geo words at word place low = behind words at word _ (omega (arith, tier_behind_head geo place))

bits_same : (geo : Geo) (words : List ℕ) (at word place number : ℕ) → at < 4 → get_or (slice_set words at word) (bits_at geo place number) 0 ≡ get_or words (bits_at geo place number) 0
bits_same geo words at word place number low = behind words at word _ (omega (arith, tier_behind_head geo place, bits_behind_head geo place number))

-- a slot is the same after a store in the segment's head
pub slot_same : (geo : Geo) (words : List ℕ) (at word place slot : ℕ) → at < 4 → slot_in geo (slice_set words at word) place slot ≡ slot_in geo words place slot
unfolding slot_in
slot_same geo words at word place slot low = ap slot_of_word (behind words at word (slot_at geo place slot) (omega (arith, tier_behind_head geo place, slots_behind_head geo place slot)))

reading_same : (geo : Geo) (words : List ℕ) (at word place chunk : ℕ) → at < 4 → reading_at geo (slice_set words at word) place chunk ≡ reading_at geo words place chunk
unfolding reading_at
reading_same geo words at word place chunk low =
    let start : 4 ≤ chunk_at geo place chunk = omega (arith, tier_behind_head geo place, chunks_behind_head geo place chunk) in
    let head = behind words at word (chunk_at geo place chunk) (omega arith) in
    let stored_checksum = behind words at word (chunk_at geo place chunk + 1) (omega arith) in
    let all : (from : ℕ) → drop (chunk_at geo place chunk + 2 + from) (slice_set words at word) ≡ drop (chunk_at geo place chunk + 2 + from) words = λ from. drop-set-lt _ words at word (omega arith) in
    simp (head, stored_checksum, all) refl

linked_from_same : (links : ℕ) (geo : Geo) (words : List ℕ) (at word : ℕ) (places : List ℕ) (place : ℕ) → at < 4 → chain_from links geo (slice_set words at word) places place ≡ chain_from links geo words places place
linked_from_same zero geo words at word places place low = refl
linked_from_same (suc links) geo words at word places place low =
    simp (link_same geo words at word place low, linked_from_same links geo words at word) refl

linked_same : (geo : Geo) (words : List ℕ) (at word : ℕ) → at < 4 → chain_of geo (slice_set words at word) ≡ chain_of geo words
unfolding chain_of
linked_same geo words at word low = linked_from_same geo.tiers geo words at word (0 ∷ []) 0 low

points_same : (geo : Geo) (words : List ℕ) (at word place : ℕ) (key : List ℕ) (chunk slot : ℕ) → at < 4 → Points geo words place key chunk slot → Points geo (slice_set words at word) place key chunk slot
points_same geo words at word place key chunk slot low p = record { inside = p.inside; slot_is = slot_same geo words at word place slot low ∙ p.slot_is }

points_back : (geo : Geo) (words : List ℕ) (at word place : ℕ) (key : List ℕ) (chunk slot : ℕ) → at < 4 → Points geo (slice_set words at word) place key chunk slot → Points geo words place key chunk slot
points_back geo words at word place key chunk slot low p = record { inside = p.inside; slot_is = sym (slot_same geo words at word place slot low) ∙ p.slot_is }

pointed_same : (geo : Geo) (words : List ℕ) (at word place : ℕ) (key : List ℕ) (chunk : ℕ) → at < 4 → IsPointed geo words place key chunk → IsPointed geo (slice_set words at word) place key chunk
pointed_same geo words at word place key chunk low p = (p.0, points_same geo words at word place key chunk p.0 low p.1)

pointed_once_same : (geo : Geo) (words : List ℕ) (at word place : ℕ) (key : List ℕ) (chunk : ℕ) → at < 4 → IsPointedOnce geo words place key chunk → IsPointedOnce geo (slice_set words at word) place key chunk
pointed_once_same geo words at word place key chunk low p =
    (p.0, points_same geo words at word place key chunk p.0 low p.1, λ other h. p.2 other (points_back geo words at word place key chunk other low h))

head_same : (geo : Geo) (words : List ℕ) (at word place : ℕ) → at < 4 → EndsHead geo words place → EndsHead geo (slice_set words at word) place
head_same geo words at word place low h = record { third = in_tier geo words at word place 2 low ∙ h.third; fourth = in_tier geo words at word place 3 low ∙ h.fourth }

tier_same : (geo : Geo) (words : List ℕ) (at word : ℕ) (state : State) (place : ℕ) → at < 4 → TierRepresents geo words state place → TierRepresents geo (slice_set words at word) state place
tier_same geo words at word state place low t = record {
  slots = λ number slot inside e. t.slots number slot inside (sym (slot_same geo words at word place number low) ∙ e);
  reached = λ number slot inside e steps before none. t.reached number slot inside (sym (slot_same geo words at word place number low) ∙ e) steps before (sym (slot_same geo words at word place _ low) ∙ none);
  bits = λ chunk inside. rw (bits_same geo words at word place (chunk / 64) low) (t.bits chunk inside);
  count = in_tier geo words at word place 1 low ∙ t.count;
}

zero_same : (geo : Geo) (words : List ℕ) (at word place : ℕ) → at < 4 → IsZero geo words place → IsZero geo (slice_set words at word) place
zero_same geo words at word place low z = λ offset below. in_tier geo words at word place offset low ∙ z offset below

pub represents_same : (geo : Geo) (segment : ℕ) (words : List ℕ) (at word : ℕ) (state : State) → at < 2 → Represents geo segment words state → Represents geo segment (slice_set words at word) state
represents_same geo segment words at word state within_limit t = let low : at < 4 = omega arith in record {
  is_state = t.is_state;
  whole = rw (linked_same geo words at word low) t.whole;
  chain = rw (linked_same geo words at word low) t.chain;
  tiers = All-weaker (TierRepresents geo words state) (TierRepresents geo (slice_set words at word) state) (λ place h. tier_same geo words at word state place low h) state.chain t.tiers;
  stand = λ placed there. reading_same geo words at word placed.place placed.chunk low ∙ t.stand placed there;
  pointed = λ placed there. pointed_once_same geo words at word placed.place placed.key placed.chunk low (t.pointed placed there);
  count = behind words at word 2 (omega arith) ∙ t.count;
  unlinked = λ place inside out. zero_same geo words at word place low (t.unlinked place inside out);
}

-- how words rest doesn't depend on the lock word and the change number
pub resting_same : (geo : Geo) (segment : ℕ) (words : List ℕ) (at word : ℕ) (state : State) → at < 2 → Resting geo segment words state → Resting geo segment (slice_set words at word) state
unfolding Resting
resting_same geo segment words at word state within_limit r = let low : at < 4 = omega arith in record {
  length_is = length-set words at word ∙ r.length_is;
  fourth = behind words at word 3 (omega arith) ∙ r.fourth;
  heads = All-weaker (EndsHead geo words) (EndsHead geo (slice_set words at word)) (λ place h. head_same geo words at word place low h) state.chain r.heads;
  represents = represents_same geo segment words at word state within_limit r.represents;
}

-- words that rest for a state are as many as a segment has
pub resting_many : (geo : Geo) (segment : ℕ) (words : List ℕ) (state : State) → Resting geo segment words state → length words ≡ words_in_segment geo
unfolding Resting
resting_many geo segment words state r = r.length_is

-- words that rest for a state represent it
pub resting_represents : (geo : Geo) (segment : ℕ) (words : List ℕ) (state : State) → Resting geo segment words state → Represents geo segment words state
unfolding Resting
resting_represents geo segment words state r = r.represents

pointed_back : (geo : Geo) (words : List ℕ) (at word place : ℕ) (key : List ℕ) (chunk : ℕ) → at < 4 → IsPointed geo (slice_set words at word) place key chunk → IsPointed geo words place key chunk
pointed_back geo words at word place key chunk low p = (p.0, points_back geo words at word place key chunk p.0 low p.1)

in_chain_same : (geo : Geo) (words : List ℕ) (at word : ℕ) (placed : Placed) → at < 4 → IsPointedInChain geo words placed → IsPointedInChain geo (slice_set words at word) placed
in_chain_same geo words at word placed low p = record {
  chained = rw (linked_same geo words at word low) p.chained;
  pointed = pointed_same geo words at word placed.place placed.key placed.chunk low p.pointed;
}

in_chain_back : (geo : Geo) (words : List ℕ) (at word : ℕ) (placed : Placed) → at < 4 → IsPointedInChain geo (slice_set words at word) placed → IsPointedInChain geo words placed
in_chain_back geo words at word placed low p = record {
  chained = rw (linked_same geo words at word low) at p.chained;
  pointed = pointed_back geo words at word placed.place placed.key placed.chunk low p.pointed;
}

between_same : (geo : Geo) (words : List ℕ) (at word : ℕ) (old new : Placed) → at < 4 → IsBetween geo words old new → IsBetween geo (slice_set words at word) old new
between_same geo words at word old new low b =
    let start : 4 ≤ chunk_at geo old.place old.chunk = omega (arith, tier_behind_head geo old.place, chunks_behind_head geo old.place old.chunk) in
    let head = behind words at word (chunk_at geo old.place old.chunk) (omega arith) in
    let stored_checksum = behind words at word (chunk_at geo old.place old.chunk + 1) (omega arith) in
    let rest = drop-set-lt (chunk_at geo old.place old.chunk + 2 + 0) words at word (omega arith) in
    record {
      head = rw head b.head;
      key = rw rest b.key;
      stored_checksum = rw (stored_checksum, reading_same geo words at word new.place new.chunk low) b.stored_checksum;
    }

-- what words lie between doesn't depend on the segment's first four words
pub torn_same : (geo : Geo) (words : List ℕ) (at word : ℕ) (state : State) (change : Change) → at < 4 → Torn geo words state change → Torn geo (slice_set words at word) state change
torn_same geo words at word state change low t = record {
  others_stand = λ placed is. reading_same geo words at word placed.place placed.chunk low ∙ t.others_stand placed is;
  others_pointed = λ placed is. pointed_same geo words at word placed.place placed.key placed.chunk low (t.others_pointed placed is);
  slots = λ place number slot chained inside e. t.slots place number slot (rw (linked_same geo words at word low) at chained) inside (sym (slot_same geo words at word place number low) ∙ e);
  old_stands = λ placed is kind points. reading_same geo words at word placed.place placed.chunk low ∙ t.old_stands placed is kind (in_chain_back geo words at word placed low points);
  new_stands = λ placed is apart points. reading_same geo words at word placed.place placed.chunk low ∙ t.new_stands placed is apart (in_chain_back geo words at word placed low points);
  pointed = λ old new is_old is_new. elim (t.pointed old new is_old is_new) [
    | inl points ↦ inl (in_chain_same geo words at word old low points)
    | inr points ↦ inr (in_chain_same geo words at word new low points)
  ];
  whole = rw (linked_same geo words at word low) t.whole;
  chain = rw (linked_same geo words at word low) t.chain;
  unlinked = λ place inside out. zero_same geo words at word place low (t.unlinked place inside (rw (linked_same geo words at word low) at out));
  between = λ old new kind is_old is_new. between_same geo words at word old new low (t.between old new kind is_old is_new);
}
