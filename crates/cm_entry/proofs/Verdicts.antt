-- What a caller has of a verdict.
use Rattle.std.proofs.Common.{◌≡◌, ℕ, length, refl, ap, ◌∙◌}
use Rattle.cm_geo.specs.declared.geo.Geo.{Geo}
use Rattle.cm_geo.specs.Need.{need}
use Rattle.cm_plain.specs.declared.reply.Pair.{Pair}
use Rattle.cm_plain.specs.Readings.{Reading}
use Rattle.cm_plain.specs.Readings.{entry, wrong_checksum, wrong_padding, wrong_lengths}
use Rattle.cm_entry.specs.declared.verdict.Verdict.{Verdict}
use Rattle.cm_entry.specs.declared.verdict.Verdict.TheVariants.{Good}
use Rattle.cm_entry.specs.Verdicts.{verdict_of}

-- an entry stands there, with these lengths and chunks
pub record IsEntry (geo : Geo) (reading : Reading) (key_len value_len chunks : ℕ) : Type 0 where
  pub pair : Pair
  pub stands : reading ≡ entry pair
  pub key_len_is : key_len ≡ length pair.key
  pub value_len_is : value_len ≡ length pair.value
  pub chunks_is : chunks ≡ need geo (length pair.key) (length pair.value)

-- where the verdict is good, an entry stands
pub good_stands : (geo : Geo) (reading : Reading) (key_len value_len chunks : ℕ) → Good key_len value_len chunks ≡ verdict_of geo reading → IsEntry geo reading key_len value_len chunks
good_stands geo wrong_lengths key_len value_len chunks e = cc
good_stands geo wrong_checksum key_len value_len chunks e = cc
good_stands geo wrong_padding key_len value_len chunks e = cc
good_stands geo (entry pair) key_len value_len chunks e = record { pair = pair; stands = refl; key_len_is = cc; value_len_is = cc; chunks_is = cc }

-- where an entry stands, the verdict is good
pub stands_good : (geo : Geo) (reading : Reading) (pair : Pair) (verdict : Verdict) → reading ≡ entry pair → verdict ≡ verdict_of geo reading
    → verdict ≡ Good (length pair.key) (length pair.value) (need geo (length pair.key) (length pair.value))
stands_good geo reading pair verdict stands is = is ∙ ap (verdict_of geo) stands
