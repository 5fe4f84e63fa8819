-- From the bytes of a span to the key or the value of the entry that stands there.
use Rattle.std.proofs.Common.{◌≡◌, ◌≤◌, ◌↔◌, IsTrue, Bool, ℕ, ◌+◌, ◌-◌, List, [], length, take, drop, true, false, arith, refl, ap, sym, ◌∙◌, ◌≢◌, Option, Some, None, Ok, Err, IfOk, OnOk}
use Rattle.std.specs.declared.result.Result.{Result}
use Rattle.std.specs.Prelude.{IsErr}
use Rattle.std.specs.List.{fold}
use Rattle.std.proofs.lemmas.List.{drop-drop}
use Rattle.cm_geo.specs.declared.geo.Geo.{Geo}
use Rattle.cm_geo.specs.Addresses.{chunk_at}
use Rattle.cm_geo.specs.Hash.{hash, hash_byte}
use Rattle.cm_plain.specs.declared.reply.Pair.{Pair}
use Rattle.cm_plain.specs.Readings.{entry, reading_at}
use Rattle.cm_plain.specs.Steps.{has_prefix}
use Rattle.cm_words.specs.declared.fuse.Dead.{Dead}
use Rattle.cm_words.specs.Memory.{FitsNotes, MemSeen}
use Rattle.cm_words.specs.Effects.{Reads}
use Rattle.cm_entry.specs.declared.span.Span.{Span}
use Rattle.cm_entry.specs.Parts.{IsPartCopy, IsPartEqual, KeepsRest, KeepsRestIf}
use Rattle.cm_entry.specs.Loading.{IsReadableChunk}
use Rattle.cm_entry.specs.Spans.{AreLengthsAt, IsPartSpan, IsSpanAt, StandsIn, bytes_in}
use Rattle.cm_entry.specs.Prefixes.{AreLengthsOf, IsKeyCopyIf, IsPrefixCopy, KeepsRestUnless}
use Rattle.cm_entry.proofs.EntryAt.{key_stands}
use Rattle.cm_entry.proofs.SpanHashes.{readable_after, words_long}

-- a span that begins behind the first two words, of the length that the first one gives, is the key's
pub key_part : (a b : MemSeen) (geo : Geo) (place chunk key_len value_len : ℕ) (span : Span) → IsReadableChunk a geo place chunk → Reads a b
    → ((words : List ℕ) → FitsNotes b words → AreLengthsAt geo words place chunk key_len value_len) → IsSpanAt geo (chunk_at geo place chunk + 2) key_len 256 span
    → IsPartSpan b geo place chunk 256 (λ pair. pair.key) span
key_part a b geo place chunk key_len value_len span readable reads lengths is = record {
  readable = readable_after a b geo span readable.readable reads is.inside;
  within_limit = is.within_limit;
  stands = λ words fits pair stands.
      key_stands geo words place chunk (chunk_at geo place chunk) key_len value_len span pair readable.place_low (words_long a b geo reads readable.readable.geo_is words fits) (lengths words fits).halves stands refl is.whole;
}

-- whether the key or the value of an entry is a list
pub equals_by : (a b : MemSeen) (geo : Geo) (place chunk : ℕ) (span : Span) (bytes : List ℕ) (part : Pair → List ℕ) (result : Result Bool Dead) → StandsIn a geo place chunk span part → OnOk result (Reads a b)
    → IfOk result (λ same. (words : List ℕ) → FitsNotes b words → (IsTrue same ↔ (bytes_in words span ≡ bytes)))
    → IfOk result (IsPartEqual b geo place chunk part bytes)
equals_by a b geo place chunk span bytes part (Ok same) stands reads compared = λ words fits pair e.
    let here = stands words (reads.fits words fits) pair e in
    (λ yes. sym here.bytes_are ∙ (compared words fits).0 yes, λ is. (compared words fits).1 (here.bytes_are ∙ is))
equals_by a b geo place chunk span bytes part (Err dead) stands reads compared = compared

-- the bytes of its span that were copied
pub copy_by : (a b : MemSeen) (geo : Geo) (place chunk most : ℕ) (span : Span) (part : Pair → List ℕ) (out : List ℕ) → span.len ≤ most → StandsIn a geo place chunk span part → Reads a b
    → ((words : List ℕ) → FitsNotes b words → take span.len out ≡ bytes_in words span) → IsPartCopy b geo place chunk most part out span.len
copy_by a b geo place chunk most span part out within_limit stands reads copied = record {
  within_limit = within_limit;
  copied = λ words fits pair e. (let here = stands words (reads.fits words fits) pair e in (here.len_is, copied words fits ∙ here.bytes_are));
}

-- what is the same behind a length is so behind a greater one
pub rest_behind : (old now : List ℕ) (len most : ℕ) → len ≤ most → drop len now ≡ drop len old → drop most now ≡ drop most old
rest_behind old now len most within_limit same = split now ∙ (ap (λ (xs : List ℕ). drop (most - len) xs) same ∙ sym (split old))
  where
    split : (xs : List ℕ) → drop most xs ≡ drop (most - len) (drop len xs)
    split xs = ap (λ (n : ℕ). drop n xs) (let h : most ≡ len + (most - len) = omega arith in h) ∙ sym (drop-drop (most - len) len xs)

-- a call without an answer left what is behind the greatest length
pub keeps_rest_err : {E : Type 0} (most : ℕ) (old now : List ℕ) (result : Result ℕ E) → IsErr result → drop most now ≡ drop most old → KeepsRest most old now result
keeps_rest_err most old now (Ok len) err same = absurd (let no : false ≡ true = err in cc)
keeps_rest_err most old now (Err error) err same = same

pub keeps_unless_err : {E : Type 0} (most unfound : ℕ) (old now : List ℕ) (result : Result Bool E) → IsErr result → drop most now ≡ drop most old → KeepsRestUnless most unfound old now result
keeps_unless_err most unfound old now (Ok found) err same = absurd (let no : false ≡ true = err in cc)
keeps_unless_err most unfound old now (Err error) err same = same

pub keeps_if_err : {A E : Type 0} (most unfound : ℕ) (len : A → ℕ) (old now : List ℕ) (result : Result (Option A) E) → IsErr result → drop most now ≡ drop most old → KeepsRestIf most unfound len old now result
keeps_if_err most unfound len old now (Ok found) err same = absurd (let no : false ≡ true = err in cc)
keeps_if_err most unfound len old now (Err error) err same = same

-- the hash of bytes that are known
pub hash_by : (start state : ℕ) (bytes key : List ℕ) → start ≡ hash [] → state ≡ fold hash_byte start bytes → bytes ≡ key → state ≡ hash key
unfolding hash
hash_by start state bytes key start_is state_is is = state_is ∙ (ap (λ (s : ℕ). fold hash_byte s bytes) start_is ∙ ap (λ (bs : List ℕ). hash bs) is)

-- the lengths of an entry whose key was compared with a list
pub lengths_by : (a b : MemSeen) (geo : Geo) (place chunk key_len value_len : ℕ) (span : Span) (key : List ℕ) → StandsIn a geo place chunk span (λ pair. pair.key) → Reads a b
    → ((words : List ℕ) → FitsNotes a words → AreLengthsAt geo words place chunk key_len value_len)
    → ((words : List ℕ) → FitsNotes b words → IsTrue true ↔ (bytes_in words span ≡ key))
    → (words : List ℕ) → FitsNotes b words → (pair : Pair) → reading_at geo words place chunk ≡ entry pair → AreLengthsOf pair key (key_len, value_len)
lengths_by a b geo place chunk key_len value_len span key stands reads lengths same words fits pair e =
    let lens = (lengths words (reads.fits words fits)).entry pair e in
    record { key_is = sym (stands words (reads.fits words fits) pair e).bytes_are ∙ (same words fits).0 refl; key_len_is = lens.0; value_len_is = lens.1 }

-- an entry whose key isn't the list
pub other_by : (a b : MemSeen) (geo : Geo) (place chunk : ℕ) (span : Span) (key : List ℕ) → StandsIn a geo place chunk span (λ pair. pair.key) → Reads a b
    → ((words : List ℕ) → FitsNotes b words → IsTrue false ↔ (bytes_in words span ≡ key))
    → (words : List ℕ) → FitsNotes b words → (pair : Pair) → reading_at geo words place chunk ≡ entry pair → pair.key ≢ key
other_by a b geo place chunk span key stands reads same words fits pair e key_is =
    absurd (let no : false ≡ true = (same words fits).1 ((stands words (reads.fits words fits) pair e).bytes_are ∙ key_is) in cc)

-- an entry whose key begins with the prefix
pub copy_if_by : (a b : MemSeen) (geo : Geo) (place chunk : ℕ) (span : Span) (prefix out : List ℕ) → StandsIn a geo place chunk span (λ pair. pair.key) → Reads a b → length prefix ≤ span.len → span.len ≤ 256
    → ((words : List ℕ) → FitsNotes b words → IsPrefixCopy words span prefix out true) → IsKeyCopyIf b geo place chunk prefix out (Some span.len)
copy_if_by a b geo place chunk span prefix out stands reads longer within copied = record {
  inside = (longer, within);
  copied = λ words fits pair e.
      let here = stands words (reads.fits words fits) pair e in
      record {
        prefixed = ap (has_prefix prefix) (sym here.bytes_are) ∙ (copied words fits).0;
        len_is = here.len_is;
        copied = (copied words fits).1 ∙ here.bytes_are;
      };
}

-- one whose key doesn't
pub copy_unless_by : (a b : MemSeen) (geo : Geo) (place chunk : ℕ) (span : Span) (prefix out : List ℕ) → StandsIn a geo place chunk span (λ pair. pair.key) → Reads a b
    → ((words : List ℕ) → FitsNotes b words → IsPrefixCopy words span prefix out false) → IsKeyCopyIf b geo place chunk prefix out None
copy_unless_by a b geo place chunk span prefix out stands reads copied = record {
  inside = tt;
  copied = λ words fits pair e. ap (has_prefix prefix) (sym (stands words (reads.fits words fits) pair e).bytes_are) ∙ copied words fits;
}
