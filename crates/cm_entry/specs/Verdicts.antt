-- What a reading at a chunk is called (own).
use Rattle.std.specs.Prelude.{ℕ, ◌≡◌, ◌+◌, List, length, if◌then◌else◌}
use Rattle.cm_geo.specs.declared.geo.Geo.{Geo}
use Rattle.cm_geo.specs.Addresses.{chunk_at}
use Rattle.cm_geo.specs.Need.{need, parts_for}
use Rattle.cm_plain.specs.Readings.{Reading}
use Rattle.cm_plain.specs.Readings.{entry, key_len, lengths_fit, reading_at, value_len, wrong_checksum, wrong_padding, wrong_lengths}
use Rattle.cm_plain.specs.Slots.{word_at}
use Rattle.cm_entry.specs.declared.verdict.Verdict.{Verdict}
use Rattle.cm_entry.specs.declared.verdict.Verdict.TheVariants.{Checksum, Good, Lengths, Padding}

-- the verdict on what is read
abbrev pub verdict_of : Geo → Reading → Verdict
verdict_of geo wrong_lengths = Lengths
verdict_of geo wrong_checksum = Checksum
verdict_of geo wrong_padding = Padding
verdict_of geo (entry pair) = Good (length pair.key) (length pair.value) (need geo (length pair.key) (length pair.value))

-- the first two words under a first word, and, where its lengths fit, those of the key and of the value
abbrev pub verdict_words_under : Geo → ℕ → ℕ → ℕ
verdict_words_under geo chunk head = if lengths_fit geo chunk head then 2 + parts_for 8 (key_len head) + parts_for 8 (value_len head) else 2

-- the number of words at a chunk that a verdict depends on
abbrev pub verdict_words : Geo → List ℕ → ℕ → ℕ → ℕ
verdict_words geo words place chunk = verdict_words_under geo chunk (word_at words (chunk_at geo place chunk))

-- the verdict on what is read at a chunk, between these counts of events: each word that it depends on was loaded once
pub record IsVerdict (geo : Geo) (words : List ℕ) (place chunk before behind : ℕ) (verdict : Verdict) : Type 0 where
  pub verdict_is : verdict ≡ verdict_of geo (reading_at geo words place chunk)
  pub count : behind ≡ before + verdict_words geo words place chunk
