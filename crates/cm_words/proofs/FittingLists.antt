-- Which lists fit the notes after a call, and where they came from.
use Rattle.std.proofs.Common.{◌≡◌, ◌≢◌, ℕ, ◌+◌, ◌*◌, ◌/◌, ◌%◌, ◌<◌, ◌≤◌, ◌^◌, Some, None, Option, List, [], ◌∷◌, length, get_or, set, slice_set, arith, refl, ap, sym, ◌∙◌, subst, get_or-set_other, get_or-set_same, IsSome, true, false, length-set, inl, inr, Ok, Err, OnErr}
use Rattle.std.specs.declared.result.Result.{Result}
use Rattle.std.proofs.lemmas.Bool.{cases_eq}
use Rattle.std.proofs.lemmas.List.{set-set, set-get_or}
use Rattle.std.proofs.lemmas.List.Elements.{All-set}
use Rattle.std.proofs.lemmas.List.FromFn.{fill_by_all, length-map-range_with_len, get_or-map-range_with_len}
use Rattle.cm_geo.specs.Addresses.{words_in_segment}
use Rattle.cm_plain.specs.Changes.{Change}
use Rattle.cm_plain.specs.Lawful.{IsSegmentWords}
use Rattle.cm_words.specs.Memory.{FitsNotes, MemSeen, Note, Setting, first_or, origin}
use Rattle.cm_words.specs.Effects.{Begins, CameByNumber, Finishes, IsAsBefore, Keeps, Knows, KnowsNumber, Reads, StaysNoted}
use Rattle.cm_words.specs.Stores.{Writes, store_at}
use Rattle.cm_words.proofs.Notes.{NotesBegin, NotesFinish, NotesLoad, NotesStore, rebased}

-- two lists of words with the same first words have one origin
pub origin_by : (a b : MemSeen) (xs ys : List ℕ) → length xs ≡ length ys → ((k : ℕ) → k < length xs → first_or (a.noted k) (get_or xs k 0) ≡ first_or (b.noted k) (get_or ys k 0)) → origin a xs ≡ origin b ys
unfolding origin
origin_by a b xs ys long same =
    rw (← long) (fill_by_all _ _ (length xs) 0 (length-map-range_with_len _ 0 (length xs))
    (λ k h. get_or-map-range_with_len (λ at. first_or (a.noted at) (get_or xs at 0)) 0 (length xs) k k 0 h (omega arith) ∙ same k h))

-- the words of a segment in the same setting
are_in : (a b : MemSeen) (words : List ℕ) → b.setting ≡ a.setting → IsSegmentWords b.setting.geo words → IsSegmentWords a.setting.geo words
are_in a b words e are = subst (λ (s : Setting). IsSegmentWords s.geo words) e are

-- with one word changed
are_with : (m : MemSeen) (words : List ℕ) (at word : ℕ) → word < 2 ^ 64 → IsSegmentWords m.setting.geo words → IsSegmentWords m.setting.geo (slice_set words at word)
are_with m words at word small are = record { length_is = length-set words at word ∙ are.length_is; fit = All-set (λ w. w < 2 ^ 64) words at word small are.fit }

pub keeps_transitive : (a b c : MemSeen) → Keeps a b → Keeps b c → Keeps a c
keeps_transitive a b c p q = record { setting = q.setting ∙ p.setting; plan = q.plan ∙ p.plan }

-- after a load the place has its word
loaded_here : (old now : MemSeen) (at word : ℕ) → at < words_in_segment now.setting.geo → NotesLoad old now at word → (words : List ℕ) → FitsNotes now words → get_or words at 0 ≡ word
loaded_here old now at word in_range notes words fits =
    let inside : at < length words = rw fits.are.length_is in_range in
    fits.present at (record { present = word; first = first_or (old.noted at) word }) inside notes.here

fits_loaded : (old now : MemSeen) (at word : ℕ) → at < words_in_segment now.setting.geo → Keeps old now → NotesLoad old now at word → (words : List ℕ) → FitsNotes now words → FitsNotes old words
fits_loaded old now at word in_range kept notes words fits =
    let here = loaded_here old now at word in_range notes words fits in
    record {
      are = are_in old now words kept.setting fits.are;
      present = λ k note h e. elim (cases_eq k at) [
        | inl same ↦ (ap (λ j. get_or words j 0) same ∙ here) ∙ sym (notes.stood note (ap old.noted (sym same) ∙ e))
        | inr ne ↦ fits.present k note h (notes.others k ne ∙ e)
      ];
    }

first_loaded : (old now : MemSeen) (at word : ℕ) → NotesLoad old now at word → (words : List ℕ) → get_or words at 0 ≡ word → (k : ℕ) → first_or (now.noted k) (get_or words k 0) ≡ first_or (old.noted k) (get_or words k 0)
first_loaded old now at word notes words here k = elim (cases_eq k at) [
  | inl same ↦ rw (same, notes.here, here) refl
  | inr ne ↦ ap (λ n. first_or n (get_or words k 0)) (notes.others k ne)
]

noted_loaded : (old now : MemSeen) (at word : ℕ) → NotesLoad old now at word → StaysNoted old now
noted_loaded old now at word notes k h = elim (cases_eq k at) [
  | inl same ↦ rw (same, notes.here) refl
  | inr ne ↦ rw (notes.others k ne) h
]

pub reads_load : (old now : MemSeen) (at word : ℕ) → at < words_in_segment now.setting.geo → Keeps old now → NotesLoad old now at word → now.meter.stores ≡ old.meter.stores → Reads old now
reads_load old now at word in_range kept notes no_store = record {
  keeps = kept;
  fits = fits_loaded old now at word in_range kept notes;
  origin = λ words fits. origin_by now old words words refl (λ k h. first_loaded old now at word notes words (loaded_here old now at word in_range notes words fits) k);
  noted = noted_loaded old now at word notes;
  no_store = no_store;
}

pub knows_load : (old now : MemSeen) (at word : ℕ) → at < words_in_segment now.setting.geo → NotesLoad old now at word → Knows now at word
knows_load old now at word in_range notes = record {
  noted = λ steady. rw notes.here refl;
  here = λ steady words fits. loaded_here old now at word in_range notes words fits;
}

-- a load of the change number
pub knows_number : (old now : MemSeen) (word : ℕ) → 1 < words_in_segment now.setting.geo → NotesLoad old now 1 word → (now.setting.guarded ≡ true → word % 2 ≡ 0) → (now.setting.shared ≡ true → word ≤ 2 ^ 63)
    → KnowsNumber now (word / 2)
knows_number old now word in_range notes even within_limit = record {
  word = word;
  knows = knows_load old now 1 word in_range notes;
  half = refl;
  even = λ guarded. twice word (even guarded);
  within_limit = λ shared. half_within word (within_limit shared);
}
  where
    twice : (word : ℕ) → word % 2 ≡ 0 → word ≡ 2 * (word / 2)
    twice word e = omega arith

    half_within : (word : ℕ) → word ≤ 2 ^ 63 → word / 2 ≤ 2 ^ 62
    half_within word h = omega arith

-- the same notes
pub reads_same : (old now : MemSeen) → Keeps old now → ((at : ℕ) → now.noted at ≡ old.noted at) → now.meter.stores ≡ old.meter.stores → Reads old now
reads_same old now kept same no_store = record {
  keeps = kept;
  fits = λ words fits. record { are = are_in old now words kept.setting fits.are; present = λ k note h e. fits.present k note h (same k ∙ e) };
  origin = λ words fits. origin_by now old words words refl (λ k h. ap (λ n. first_or n (get_or words k 0)) (same k));
  noted = λ k h. rw (same k) h;
  no_store = no_store;
}

pub as_before : (old now : MemSeen) → Keeps old now → ((at : ℕ) → now.noted at ≡ old.noted at) → now.meter.events ≡ old.meter.events → now.meter.stores ≡ old.meter.stores → IsAsBefore old now
as_before old now kept same events stores = record { reads = reads_same old now kept same stores; notes = same; events = events }

-- what holds in any case holds of an error
pub on_err : {T E P : Type 0} (result : Result T E) → P → OnErr result P
on_err (Ok value) p = tt
on_err (Err error) p = p

-- loads, and loads after them
pub reads_transitive : (a b c : MemSeen) → Reads a b → Reads b c → Reads a c
reads_transitive a b c p q = record {
  keeps = keeps_transitive a b c p.keeps q.keeps;
  fits = λ words fits. p.fits words (q.fits words fits);
  origin = λ words fits. q.origin words fits ∙ p.origin words (q.fits words fits);
  noted = λ k h. q.noted k (p.noted k h);
  no_store = q.no_store ∙ p.no_store;
}

pub reads_reflexive : (m : MemSeen) → Reads m m
reads_reflexive m = reads_same m m (record { setting = refl; plan = refl }) (λ k. refl) refl

-- a store
pub writes_store : (old now : MemSeen) (at word found : ℕ) → at < words_in_segment now.setting.geo → Keeps old now → NotesStore old now at word found → now.meter.stores ≡ old.meter.stores + 1
    → Writes old now (store_at at word ∷ [])
writes_store old now at word found in_range kept notes counted = record {
  keeps = kept;
  came = λ words fits.
      let inside : at < length words = rw fits.are.length_is in_range in
      let here : get_or words at 0 ≡ word = fits.present at (record { present = word; first = first_or (old.noted at) found }) inside notes.here in (
        slice_set words at found,
        record {
          fits = record {
            are = are_with old words at found notes.small (are_in old now words kept.setting fits.are);
            present = λ k note h e. elim (cases_eq k at) [
              | inl same ↦ rw (same, get_or-set_same) (sym (notes.stood note (ap old.noted (sym same) ∙ e)))
              | inr ne ↦ rw get_or-set_other (fits.present k note (rw (← length-set words at found) h) (notes.others k ne ∙ e))
            ];
          };
          relates = record { leads = set-set words at found word ∙ (ap (λ w. set words at w) (sym here) ∙ set-get_or words at 0); counted = counted };
          origin = origin_by now old words (slice_set words at found) (sym (length-set words at found)) (λ k h. elim (cases_eq k at) [
            | inl same ↦ rw (same, notes.here, get_or-set_same) refl
            | inr ne ↦ rw get_or-set_other (ap (λ n. first_or n (get_or words k 0)) (notes.others k ne))
          ]);
        },
      );
  noted = λ k h. elim (cases_eq k at) [
    | inl same ↦ rw (same, notes.here) refl
    | inr ne ↦ rw (notes.others k ne) h
  ];
}

pub knows_store : (old now : MemSeen) (at word found : ℕ) → at < words_in_segment now.setting.geo → NotesStore old now at word found → Knows now at word
knows_store old now at word found in_range notes = record {
  noted = λ steady. rw notes.here refl;
  here = λ steady words fits. (let inside : at < length words = rw fits.are.length_is in_range in fits.present at (record { present = word; first = first_or (old.noted at) found }) inside notes.here);
}

-- lists that fit after the change number rose by one
module _ (old now : MemSeen) (setting : now.setting ≡ old.setting) (in_range : 1 < words_in_segment now.setting.geo) (was now_one : Note) (stood : old.noted 1 ≡ Some was) (here : now.noted 1 ≡ Some now_one) (up : now_one.present ≡ was.present + 1) (small : was.present < 2 ^ 64) (others : (other : ℕ) (note : Note) → other ≢ 1 → old.noted other ≡ Some note → (then : Note) × (now.noted other ≡ Some then) × (then.present ≡ note.present)) where
  came_number : (words : List ℕ) → FitsNotes now words → (before : List ℕ) × CameByNumber old before words
  came_number words fits =
      let inside : 1 < length words = rw fits.are.length_is in_range in
      let one : get_or words 1 0 ≡ was.present + 1 = fits.present 1 now_one inside here ∙ up in (
        slice_set words 1 was.present,
        record {
          fits = record {
            are = are_with old words 1 was.present small (are_in old now words setting fits.are);
            present = λ k note h e. elim (cases_eq k 1) [
              | inl same ↦ rw (same, get_or-set_same) (let p : Some was ≡ Some note = sym stood ∙ (ap old.noted (sym same) ∙ e) in let q : was.present ≡ note.present = cc in q)
              | inr ne ↦ let t = others k note ne e in rw get_or-set_other (fits.present k t.0 (rw (← length-set words 1 was.present) h) t.1 ∙ t.2)
            ];
          };
          next = rw (get_or-set_same, ← one) (set-set words 1 was.present (get_or words 1 0) ∙ set-get_or words 1 0);
        },
      )

rebased_first : (o n : Option Note) (word : ℕ) → n ≡ rebased o → ((note : Note) → n ≡ Some note → word ≡ note.present) → word ≡ first_or n word
rebased_first None n word e h = rw e refl
rebased_first (Some note) n word e h = rw e (h (record { present = note.present; first = note.present }) e)

rebased_some : (o n : Option Note) → n ≡ rebased o → IsSome o → IsSome n
rebased_some None n e h = absurd (let no : false ≡ true = h in cc)
rebased_some (Some note) n e h = rw e refl

-- a plan begins
pub begins_by : (old now : MemSeen) (change : Change) → 1 < words_in_segment now.setting.geo → now.setting ≡ old.setting → now.plan ≡ Some change → NotesBegin old now → Begins old now change
unfolding origin
begins_by old now change in_range setting plan notes = record {
  setting = setting;
  plan = plan;
  came = came_number old now setting in_range notes.was _ notes.stood notes.here refl notes.small (λ other note ne e. (record { present = note.present; first = note.present }, notes.others other ne ∙ ap rebased e, refl));
  origin = λ words fits. sym (fill_by_all (λ k. first_or (now.noted k) (get_or words k 0)) words (length words) 0 refl (λ k h. elim (cases_eq k 1) [
    | inl same ↦ rw (same, notes.here) (let g : 1 < length words = rw same at h in fits.present 1 (record { present = notes.was.present + 1; first = notes.was.present + 1 }) g notes.here)
    | inr ne ↦ rebased_first (old.noted k) (now.noted k) (get_or words k 0) (notes.others k ne) (λ note e. fits.present k note h e)
  ]));
  noted = λ k h. elim (cases_eq k 1) [
    | inl same ↦ rw (same, notes.here) refl
    | inr ne ↦ rebased_some (old.noted k) (now.noted k) (notes.others k ne) h
  ];
}

-- a plan ends
pub finishes_by : (old now : MemSeen) (number : ℕ) → 1 < words_in_segment now.setting.geo → now.setting ≡ old.setting → now.plan ≡ None → NotesFinish old now number → Finishes old now number
finishes_by old now number in_range setting plan notes = record {
  setting = setting;
  plan = plan;
  came = came_number old now setting in_range notes.was _ notes.stood notes.here refl notes.small (λ other note ne e. (note, notes.others other ne ∙ e, refl));
  knows = record {
    noted = λ steady. rw notes.here notes.twice;
    here = λ steady words fits. (let inside : 1 < length words = rw fits.are.length_is in_range in fits.present 1 _ inside notes.here ∙ notes.twice);
  };
  noted = λ k h. elim (cases_eq k 1) [
    | inl same ↦ rw (same, notes.here) refl
    | inr ne ↦ rw (notes.others k ne) h
  ];
}

-- a word that is known stands at its address, which is neither the lock word nor the change number, in each list that fits
pub known_word : (m : MemSeen) (address at word : ℕ) → 1 < address → at ≡ address → Knows m at word → (words : List ℕ) → FitsNotes m words → get_or words address 0 ≡ word
known_word m address at word inner at_is knows words fits = ap (λ (k : ℕ). get_or words k 0) (sym at_is) ∙ knows.here (λ _. omega arith) words fits
