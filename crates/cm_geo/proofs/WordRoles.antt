-- Each word of a segment has exactly one role: by cases on roles, and for a word by its offset in its tier.
use Rattle.std.proofs.Common.{◌≡◌, ◌≢◌, ℕ, ◌+◌, ◌-◌, ◌*◌, ◌/◌, ◌%◌, ◌<◌, ◌≤◌, arith, ap, sym, refl, ⊎_elim}
use Rattle.std.proofs.lemmas.Bool.{cases_lt}
use Rattle.std.proofs.lemmas.Nat.{div-add-mod', mod_below, div_below}
use Rattle.cm_geo.specs.declared.geo.Geo.{Geo}
use Rattle.cm_geo.specs.Addresses.{words_in_tier, words_in_segment, tier_at, bits_at, slot_at, chunk_at}
use Rattle.cm_geo.specs.Roles.{Role, IsRole, HasRole, address}
use Rattle.cm_geo.specs.Roles.Role.{segment_head, tier_head, bits, slot, chunk}
use Rattle.cm_geo.proofs.Ranges.{chunk_words_range}
use Rattle.cm_geo.proofs.AddressOrder.{segment_head_within, tier_behind_head, bits_behind_head, slots_behind_head, chunks_behind_head, tier_head_in_range, bits_in_range, slot_in_range, chunk_in_range}
use Rattle.cm_geo.proofs.AddressesApart.{bits_not_tier_head, slot_not_tier_head, slot_not_bits, run_not_tier_head, run_not_bits, run_not_slot, same_tier_head, same_bits, same_slot, same_chunk_word}

-- the word of each role is a word of the segment
pub role_in_range : (geo : Geo) (role : Role) → IsRole geo role → address geo role < words_in_segment geo
role_in_range geo (segment_head word) is = omega (arith, segment_head_within geo)
role_in_range geo (tier_head place word) is = tier_head_in_range geo place word is.0 is.1
role_in_range geo (bits place word) is = bits_in_range geo place word is.0 is.1
role_in_range geo (slot place number) is = slot_in_range geo place number is.0 is.1
role_in_range geo (chunk place number word) is = omega (arith, chunk_in_range geo place number is.0 is.1)

-- all words but those of the segment's head stand behind it
behind_head : (geo : Geo) (place : ℕ) (i at : ℕ) → i < 4 → tier_at geo place ≤ at → i ≢ at
behind_head geo place i at below behind = omega (arith, tier_behind_head geo place)

-- no word has two roles
pub roles_apart : (geo : Geo) (a b : Role) → IsRole geo a → IsRole geo b → address geo a ≡ address geo b → a ≡ b
roles_apart geo (segment_head i) (segment_head j) a b same = ap segment_head same
roles_apart geo (segment_head i) (tier_head q j) a b same = absurd (behind_head geo q i _ a (omega arith) same)
roles_apart geo (segment_head i) (bits q j) a b same = absurd (behind_head geo q i _ a (omega (arith, bits_behind_head geo q j)) same)
roles_apart geo (segment_head i) (slot q j) a b same = absurd (behind_head geo q i _ a (omega (arith, slots_behind_head geo q j)) same)
roles_apart geo (segment_head i) (chunk q d j) a b same = absurd (behind_head geo q i _ a (omega (arith, chunks_behind_head geo q d)) same)
roles_apart geo (tier_head p i) (segment_head j) a b same = absurd (behind_head geo p j _ b (omega arith) (sym same))
roles_apart geo (tier_head p i) (tier_head q j) a b same = let both = same_tier_head geo p q i j a.1 b.1 same in cc
roles_apart geo (tier_head p i) (bits q j) a b same = absurd (bits_not_tier_head geo q p j i b.1 a.1 (sym same))
roles_apart geo (tier_head p i) (slot q j) a b same = absurd (slot_not_tier_head geo q p j i b.1 a.1 (sym same))
roles_apart geo (tier_head p i) (chunk q d j) a b same = absurd (run_not_tier_head geo q p d 1 j i (omega arith) (omega arith) a.1 (sym same))
roles_apart geo (bits p i) (segment_head j) a b same = absurd (behind_head geo p j _ b (omega (arith, bits_behind_head geo p i)) (sym same))
roles_apart geo (bits p i) (tier_head q j) a b same = absurd (bits_not_tier_head geo p q i j a.1 b.1 same)
roles_apart geo (bits p i) (bits q j) a b same = let both = same_bits geo p q i j a.1 b.1 same in cc
roles_apart geo (bits p i) (slot q j) a b same = absurd (slot_not_bits geo q p j i b.1 a.1 (sym same))
roles_apart geo (bits p i) (chunk q d j) a b same = absurd (run_not_bits geo q p d 1 j i (omega arith) (omega arith) a.1 (sym same))
roles_apart geo (slot p i) (segment_head j) a b same = absurd (behind_head geo p j _ b (omega (arith, slots_behind_head geo p i)) (sym same))
roles_apart geo (slot p i) (tier_head q j) a b same = absurd (slot_not_tier_head geo p q i j a.1 b.1 same)
roles_apart geo (slot p i) (bits q j) a b same = absurd (slot_not_bits geo p q i j a.1 b.1 same)
roles_apart geo (slot p i) (slot q j) a b same = let both = same_slot geo p q i j a.1 b.1 same in cc
roles_apart geo (slot p i) (chunk q d j) a b same = absurd (run_not_slot geo q p d 1 j i (omega arith) (omega arith) a.1 (sym same))
roles_apart geo (chunk p c i) (segment_head j) a b same = absurd (behind_head geo p j _ b (omega (arith, chunks_behind_head geo p c)) (sym same))
roles_apart geo (chunk p c i) (tier_head q j) a b same = absurd (run_not_tier_head geo p q c 1 i j (omega arith) (omega arith) b.1 same)
roles_apart geo (chunk p c i) (bits q j) a b same = absurd (run_not_bits geo p q c 1 i j (omega arith) (omega arith) b.1 same)
roles_apart geo (chunk p c i) (slot q j) a b same = absurd (run_not_slot geo p q c 1 i j (omega arith) (omega arith) b.1 same)
roles_apart geo (chunk p c i) (chunk q d j) a b same = let all = same_chunk_word geo p q c d i j a.1 b.1 a.2 b.2 same in cc

-- a word behind a tier's slots is a word of a chunk
chunk_role : (geo : Geo) (place rest : ℕ) → place < geo.tiers → rest < geo.chunks * geo.chunk_words → HasRole geo (tier_at geo place + 4 + geo.chunks / 64 + 2 * geo.chunks + rest)
unfolding chunk_at
chunk_role geo place rest place_below below =
    let nonzero : 0 < geo.chunk_words = omega (arith, chunk_words_range geo) in (
      chunk place (rest / geo.chunk_words) (rest % geo.chunk_words),
      (place_below, div_below rest geo.chunk_words geo.chunks nonzero below, mod_below rest geo.chunk_words nonzero),
      omega (arith, div-add-mod' rest geo.chunk_words),
    )

-- each offset in a tier has a role
offset_role : (geo : Geo) (place offset : ℕ) → place < geo.tiers → offset < words_in_tier geo → HasRole geo (tier_at geo place + offset)
unfolding words_in_tier bits_at slot_at
offset_role geo place offset place_below below =
    ⊎_elim (λ in_head. (tier_head place offset, (place_below, in_head), refl))
    (λ behind_head. ⊎_elim (λ in_bits. (bits place (offset - 4), (place_below, omega arith), omega arith))
    (λ behind_bits. ⊎_elim (λ in_slots. (slot place (offset - (4 + geo.chunks / 64)), (place_below, omega arith), omega arith))
    (λ behind_slots. (let found = chunk_role geo place (offset - (4 + geo.chunks / 64 + 2 * geo.chunks)) place_below (omega arith) in
    (found.0, found.1, omega (arith, found.2))))
    (cases_lt offset (4 + geo.chunks / 64 + 2 * geo.chunks)))
    (cases_lt offset (4 + geo.chunks / 64)))
    (cases_lt offset 4)

-- a word behind the segment's head is a word of a tier
tier_role : (geo : Geo) (rest : ℕ) → rest < geo.tiers * words_in_tier geo → 0 < words_in_tier geo → HasRole geo (4 + rest)
unfolding tier_at
tier_role geo rest below nonzero =
    let found = offset_role geo (rest / words_in_tier geo) (rest % words_in_tier geo)
    (div_below rest (words_in_tier geo) geo.tiers nonzero below) (mod_below rest (words_in_tier geo) nonzero) in
    (found.0, found.1, omega (arith, found.2, div-add-mod' rest (words_in_tier geo)))

-- each word of the segment has a role
pub role_of : (geo : Geo) (at : ℕ) → at < words_in_segment geo → HasRole geo at
unfolding words_in_segment words_in_tier
role_of geo at below =
    ⊎_elim (λ in_head. (segment_head at, in_head, refl))
    (λ behind_head. (let found = tier_role geo (at - 4) (omega arith) (omega arith) in
    (found.0, found.1, omega (arith, found.2))))
    (cases_lt at 4)
