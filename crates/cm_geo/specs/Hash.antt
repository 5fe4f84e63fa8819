-- FNV-1a with 64 bits (after Fowler, Noll and Vo), and how a key's hash is split (own).
use Rattle.std.specs.Prelude.{ℕ, ◌*◌, ◌/◌, ◌%◌, ◌^◌, List, fold, bit_xor}
use Rattle.cm_geo.specs.declared.geo.Geo.{Geo}

-- one more byte: exclusive or, and then the product with the prime, in 64 bits
unfoldable pub hash_byte : ℕ → ℕ → ℕ
hash_byte state byte = (bit_xor state byte * 0x100000001b3) % 2 ^ 64

-- the bytes one after the other, from the offset basis on
unfoldable pub hash : List ℕ → ℕ
hash bytes = fold hash_byte 0xcbf29ce484222325 bytes

-- the segment of a key with this hash
abbrev pub segment_in : Geo → ℕ → ℕ
segment_in geo hash = hash % geo.segments

-- the bits of the hash that a slot keeps
abbrev pub fingerprint_in : Geo → ℕ → ℕ
fingerprint_in geo hash = (hash / geo.segments) % 2 ^ 32

-- the slot at which the search for a fingerprint begins
abbrev pub home_in : Geo → ℕ → ℕ
home_in geo fingerprint = fingerprint % (2 * geo.chunks)

-- the segment of a key
abbrev pub segment_of_key : Geo → List ℕ → ℕ
segment_of_key geo key = segment_in geo (hash key)
