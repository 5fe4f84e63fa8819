-- Which operations keep the limits of a geometry, and which segment an operation goes to (own).
use Rattle.std.specs.Prelude.{ℕ, ◌<◌, ◌≤◌, List, length}
use Rattle.cm_geo.specs.declared.geo.Geo.{Geo}
use Rattle.cm_geo.specs.declared.limits.TheConstants.{MAX_KEY_BYTES, MAX_VALUE_BYTES}
use Rattle.cm_geo.specs.Hash.{segment_of_key}
use Rattle.cm_geo.specs.Need.{Fits}
use Rattle.cm_plain.specs.declared.op.Op.{Op}
use Rattle.cm_plain.specs.declared.op.Op.TheVariants.{Put, Get, PutIfAbsent, Replace, ReplaceIf, Remove, RemoveIf, Count, List as ListAll, Sweep}

-- a key has a byte at least, and no more than the longest key
abbrev pub IsKey : List ℕ → Type 0
IsKey key = (1 ≤ length key) × (length key ≤ MAX_KEY_BYTES)

-- a value has no more bytes than the longest value
abbrev pub IsValue : List ℕ → Type 0
IsValue value = length value ≤ MAX_VALUE_BYTES

-- a key and a value that may be written fit the geometry, other keys and values have their lengths, and a named segment is there
abbrev pub KeepsLimits : Geo → Op → Type 0
KeepsLimits geo (Put key value) = Fits geo (length key) (length value)
KeepsLimits geo (Get key) = IsKey key
KeepsLimits geo (PutIfAbsent key value) = Fits geo (length key) (length value)
KeepsLimits geo (Replace key value) = Fits geo (length key) (length value)
KeepsLimits geo (ReplaceIf key expected value) = Fits geo (length key) (length value) × IsValue expected
KeepsLimits geo (Remove key) = IsKey key
KeepsLimits geo (RemoveIf key expected) = IsKey key × IsValue expected
KeepsLimits geo (Count segment) = segment < geo.segments
KeepsLimits geo (ListAll segment) = segment < geo.segments
KeepsLimits geo (Sweep segment prefix) = (segment < geo.segments) × (length prefix ≤ MAX_KEY_BYTES)

-- the segment of an operation: its key's, or the one that it names
abbrev pub segment_of : Geo → Op → ℕ
segment_of geo (Put key value) = segment_of_key geo key
segment_of geo (Get key) = segment_of_key geo key
segment_of geo (PutIfAbsent key value) = segment_of_key geo key
segment_of geo (Replace key value) = segment_of_key geo key
segment_of geo (ReplaceIf key expected value) = segment_of_key geo key
segment_of geo (Remove key) = segment_of_key geo key
segment_of geo (RemoveIf key expected) = segment_of_key geo key
segment_of geo (Count segment) = segment
segment_of geo (ListAll segment) = segment
segment_of geo (Sweep segment prefix) = segment
