-- What a get found of a key, in each state that words with all that was found represent.
use Rattle.std.proofs.Common.{◌≡◌, ◌≢◌, ℕ, ◌<◌, ◌^◌, List, length, length-set, take, slice_set, Option, Some, None, Ok, Err, IfOk, [], ◌∷◌, ◌==◌, not, refl, ap, sym, ◌∙◌, subst, arith, get_or-set_other, get_or-set_same, inl, inr, false}
use Rattle.std.specs.declared.result.Result.{Result}
use Rattle.std.proofs.lemmas.Bool.{cases_eq, cases_lt}
use Rattle.std.proofs.lemmas.Bool.Decides.{nat_tests}
use Rattle.std.proofs.lemmas.List.Elements.{All-head, All-set, All-tail}
use Rattle.std.proofs.lemmas.Option.{none-some, same_Some}
use Rattle.std.specs.Option.{option_map}
use Rattle.cm_geo.specs.declared.geo.Geo.{Geo}
use Rattle.cm_geo.specs.Need.{Fits}
use Rattle.cm_plain.specs.declared.reply.Pair.{Pair}
use Rattle.cm_plain.specs.States.{State, pair_of, value_in, value_of}
use Rattle.cm_plain.specs.Slots.{word_at}
use Rattle.cm_plain.specs.Readings.{entry, reading_at}
use Rattle.cm_plain.specs.Lawful.{IsSegmentWords, Represents}
use Rattle.cm_plain.proofs.EntrySets.{found_is}
use Rattle.cm_plain.proofs.States.{is_placed}
use Rattle.cm_words.specs.declared.peek.FoundWord.{FoundWord}
use Rattle.cm_words.specs.Calls.{Loads}
use Rattle.cm_words.specs.Effects.{Reads}
use Rattle.cm_words.specs.Memory.{FitsNotes, Note, Setting}
use Rattle.cm_words.specs.Meters.{ReportsDeath}
use Rattle.cm_words.specs.Peeks.{HasFound, PeekSeen}
use Rattle.cm_segment.specs.declared.seek.Sight.{Sight}
use Rattle.cm_segment.specs.declared.getting.Peeked.{Peeked}
use Rattle.cm_segment.specs.declared.peek_mem.PeekMem.{PeekMem}
use Rattle.cm_segment.specs.Sights.{IsAbsent, IsSight}
use Rattle.cm_segment.specs.PeekNotes.{SameRest, is_mixed, is_other, mem_of, newest_word, note_of, notes_of, peek_mem_seen}
use Rattle.cm_segment.specs.Peeked.{IsPeeked, IsPeekedIn, PeeksMore}
use Rattle.cm_plain.proofs.OutsideHead.{represents_same}
use Rattle.cm_segment.proofs.KeySearch.{reads_at}
use Rattle.cm_segment.proofs.OldEntries.{old_none}
use Rattle.cm_segment.proofs.PeekNotes.{noted_behind}

-- ---- of a list that fits the notes of a memory

pub no_value : (key : List ℕ) (state : State) → IsAbsent state key → value_of key state ≡ None
no_value key state absent = ap value_in (old_none key state absent)

-- the lengths of an entry fit
pub sight_fits : (geo : Geo) (segment : ℕ) (words : List ℕ) (state : State) (key : List ℕ) (sight : Sight) → Represents geo segment words state
    → IsSight geo words state key sight → Fits geo sight.key_len sight.value_len
sight_fits geo segment words state key sight has is = rw (is.key_len_is, is.value_len_is) (is_placed has.is_state is.placed is.there).run.fits

-- these bytes were copied from the entry that was seen
pub record IsCopied (geo : Geo) (words : List ℕ) (sight : Sight) (out : List ℕ) (len : ℕ) : Type 0 where
  pub copied : (pair : Pair) → reading_at geo words sight.place sight.chunk ≡ entry pair → (len ≡ length pair.value) × (take len out ≡ pair.value)

-- they are the key's value
pub value_copied : (geo : Geo) (segment : ℕ) (words : List ℕ) (state : State) (key : List ℕ) (sight : Sight) (out : List ℕ) (len : ℕ)
    → Represents geo segment words state
    → IsSight geo words state key sight → IsCopied geo words sight out len → (len ≡ sight.value_len) × (value_of key state ≡ Some (take len out))
value_copied geo segment words state key sight out len has is copied =
    let reading = reads_at geo segment words state sight.place sight.chunk is.placed has (record { there = is.there; place_is = is.place_is }) is.chunk_is in
    let from = copied.copied (pair_of is.placed) reading in (
      from.0 ∙ sym is.value_len_is,
      ap value_in (found_is geo segment state key is.placed has.is_state is.there is.key_is) ∙ ap (λ (v : List ℕ). Some v) (sym from.1),
    )

-- ---- of a list that has all that a peek found

-- the words with 0 for the lock word and the change number
abbrev pub headless : List ℕ → List ℕ
headless words = slice_set (slice_set words 0 0) 1 0

pub headless_represents : (geo : Geo) (segment : ℕ) (words : List ℕ) (state : State) → Represents geo segment words state
    → Represents geo segment (headless words) state
headless_represents geo segment words state has =
    represents_same geo segment (slice_set words 0 0) 1 0 state (omega arith) (represents_same geo segment words 0 0 state (omega arith) has)

headless_are : (geo : Geo) (words : List ℕ) → IsSegmentWords geo words → IsSegmentWords geo (headless words)
headless_are geo words are =
    let small : ◌<◌ 0 (2 ^ 64) = omega arith in
    record {
      length_is = length-set (slice_set words 0 0) 1 0 ∙ (length-set words 0 0 ∙ are.length_is);
      fit = All-set (λ w. w < 2 ^ 64) (slice_set words 0 0) 1 0 small (All-set (λ w. w < 2 ^ 64) words 0 0 small are.fit);
    }

-- what was found at an address stands there
newest_stands : (words : List ℕ) (found : List FoundWord) (at word : ℕ) → HasFound words found → newest_word found at ≡ Some word
    → word_at words at ≡ word
newest_stands words [] at word has e = absurd (none-some word e)
newest_stands words (f ∷ found) at word has e = elim (cases_eq f.at at) [
  | inl same ↦
      let stands : word_at words f.at ≡ f.word = All-head (λ (f : FoundWord). word_at words f.at ≡ f.word) f found has in
      let here : newest_word (f ∷ found) at ≡ Some f.word = grind (arith, nat_tests) in
      ap (word_at words) (sym same) ∙ (stands ∙ same_Some f.word word (sym here ∙ e))
  | inr apart ↦
      let past : newest_word (f ∷ found) at ≡ newest_word found at = grind (arith, nat_tests) in
      newest_stands words found at word (All-tail (λ (f : FoundWord). word_at words f.at ≡ f.word) f found has) (sym past ∙ e)
]

-- so no two words differ
whole_found : (words : List ℕ) (found : List FoundWord) → HasFound words found → is_mixed found ≡ false
whole_found words [] has = refl
whole_found words (f ∷ found) has =
    let stands : word_at words f.at ≡ f.word = All-head (λ (f : FoundWord). word_at words f.at ≡ f.word) f found has in
    let rest : HasFound words found = All-tail (λ (f : FoundWord). word_at words f.at ≡ f.word) f found has in
    rw (whole_found words found rest) (by (newest_word found f.at) (λ word e. sym (newest_stands words found f.at word rest e) ∙ stands))
  where
    same : (a b : ℕ) → a ≡ b → not (a == b) ≡ false
    same a b e = grind (arith, nat_tests)

    by : (before : Option ℕ) → ((word : ℕ) → before ≡ Some word → word ≡ f.word) → is_other before f.word ≡ false
    by None all = refl
    by (Some word) all = same word f.word (all word refl)

-- the word at an address is noted
headless_word : (words : List ℕ) (found : List FoundWord) (at : ℕ) (note : Note) → HasFound words found → at < length (headless words)
    → notes_of found at ≡ Some note
    → word_at (headless words) at ≡ note.present
headless_word words found at note has below e = elim (cases_lt at 2) [
  | inl head ↦ zero_here at head below ∙ ap (λ (n : Note). n.present) (same_Some (note_of 0) note (sym (zero_noted at head) ∙ e))
  | inr behind ↦
      let inner : 1 < at = omega (arith, behind) in
      let apart : at ≢ 1 = omega (arith, behind) in
      let apart_too : at ≢ 0 = omega (arith, behind) in
      (get_or-set_other (slice_set words 0 0) 1 at 0 0 apart ∙ get_or-set_other words 0 at 0 0 apart_too)
      ∙ noted (newest_word found at) refl (sym (sym e ∙ (noted_behind found at inner ∙ rw (whole_found words found has) refl)))
]
  where
    zero_noted : (at : ℕ) → at < 2 → notes_of found at ≡ Some (note_of 0)
    zero_noted at head = grind arith

    zero_here : (at : ℕ) → at < 2 → at < length (headless words) → word_at (headless words) at ≡ 0
    zero_here at head below = elim (cases_eq at 1) [
      | inl one ↦
          let long = length-set (slice_set words 0 0) 1 0 in
          let first : 1 < length (slice_set words 0 0) = omega (arith, below, one, long) in
          ap (word_at (headless words)) one ∙ get_or-set_same (slice_set words 0 0) 1 0 0 first
      | inr apart ↦
          let zero : at ≡ 0 = omega (arith, head, apart) in
          let long = length-set (slice_set words 0 0) 1 0 ∙ length-set words 0 0 in
          let inside : 0 < length words = omega (arith, below, long) in
          get_or-set_other (slice_set words 0 0) 1 at 0 0 apart ∙ (ap (word_at (slice_set words 0 0)) zero ∙ get_or-set_same words 0 0 0 inside)
    ]

    noted : (newest : Option ℕ) → newest_word found at ≡ newest → option_map note_of newest ≡ Some note → word_at words at ≡ note.present
    noted None is e = absurd (let no : None ≡ Some note = e in none-some note no)
    noted (Some word) is e = newest_stands words found at word has is ∙ ap (λ (n : Note). n.present) (same_Some (note_of word) note e)

pub headless_fits : (p : PeekSeen) (words : List ℕ) → IsSegmentWords p.geo words → HasFound words p.found → FitsNotes (mem_of p) (headless words)
headless_fits p words are has = record { are = headless_are p.geo words are; present = λ at note below e. headless_word words p.found at note has below e }

-- ---- what a memory over a peek found

peeks_by : {P T E : Type 0} (seen : P → PeekSeen) (same_rest : P → P → Type 0) (a b : PeekMem P) (result : Result T E) → SameRest seen same_rest a b
    → ReportsDeath (seen a.peek.now).meter (seen b.peek.now).meter result → Reads (peek_mem_seen seen a) (peek_mem_seen seen b)
    → PeeksMore seen same_rest a.peek.now b.peek.now result
peeks_by seen same_rest a b result rest fuse reads = record {
  rest = rest.rest;
  geo = ap (λ (s : Setting). s.geo) reads.keeps.setting;
  segment = ap (λ (s : Setting). s.segment) reads.keeps.setting;
  found = rest.found;
  fuse = fuse;
  no_store = reads.no_store;
}

-- all that calls over the memory loaded was found by the peek
pub peeks_more : {P T E : Type 0} (seen : P → PeekSeen) (same_rest : P → P → Type 0) (a b : PeekMem P) (result : Result T E)
    → Loads (λ m. peek_mem_seen seen m) (λ a b. SameRest seen same_rest a b) a b result → PeeksMore seen same_rest a.peek.now b.peek.now result
peeks_more seen same_rest a b (Ok value) p = peeks_by seen same_rest a b (Ok value) p.rest p.fuse p.done
peeks_more seen same_rest a b (Err error) p = peeks_by seen same_rest a b (Err error) p.rest p.fuse p.cut

-- what is so of each list that fits the notes is so of each list with all that was found
pub peeked_by : {E : Type 0} (p : PeekSeen) (geo : Geo) (key out : List ℕ) (result : Result Peeked E) → p.geo ≡ geo
    → IfOk result (λ peeked. (words : List ℕ) (state : State) → FitsNotes (mem_of p) words → Represents geo p.segment words state → IsPeekedIn state key out peeked)
    → IfOk result (IsPeeked p key out)
peeked_by p geo key out (Ok peeked) geo_is so = λ words state are found has.
    so (headless words) state (headless_fits p words are found)
    (subst (λ (g : Geo). Represents g p.segment (headless words) state) geo_is (headless_represents p.geo p.segment words state has))
peeked_by p geo key out (Err error) geo_is so = tt
