-- The laws of what a memory tells.
use Rattle.std.proofs.Common.{◌≡◌, ℕ, ◌+◌, ◌<◌, ◌≤◌, ◌^◌, Some, List, length, get_or, take, drop, arith, refl, ap, sym, subst, ◌∙◌, vec_len, get_or-take, get_or-drop, length-take, length-drop, ◌%◌}
use Rattle.std.proofs.lemmas.List.Elements.{All-drop, All-take}
use Rattle.std.proofs.lemmas.List.FromFn.{fill_by_all}
use Rattle.cm_geo.specs.Addresses.{words_in_segment}
use Rattle.cm_plain.proofs.OneState.{resting_once}
use Rattle.cm_words.specs.Maps.{MapWords, segment_in, words_before}
use Rattle.cm_words.specs.Memory.{FitsNotes, HasEvenNumber, MemSeen, Note}
use Rattle.cm_words.specs.declared.plain.PlainMem.{PlainMem}
use Rattle.cm_words.specs.declared.fixed.FixedMem.{FixedMem}
use Rattle.cm_words.specs.Fuses.{FuseSeen}
use Rattle.cm_words.specs.Plain.{plain_seen}
use Rattle.cm_words.specs.Fixed.{fixed_seen}
use Rattle.cm_words.specs.Notes.{notes_in}
use Rattle.cm_words.specs.Stores.{WordStore, Writes, after_stores}
use Rattle.cm_words.specs.Laws.{IsUnderAtMostOne, NotesAll, TellsItsWords}
use Rattle.cm_words.proofs.MapPlaces.{number_inside, segment_inside}
use Rattle.cm_words.proofs.PlainNotes.{noted_inside}

pub under_once : IsUnderAtMostOne
under_once setting origin words a b change p q = resting_once setting.geo setting.segment origin a b p.rests q.rests

part_length : (count start : ℕ) (xs : List ℕ) → start + count ≤ length xs → length (take count (drop start xs)) ≡ count
part_length count start xs long = simp (length-take, length-drop) (omega arith)

part_at : (count start k : ℕ) (xs : List ℕ) → k < count → get_or (take count (drop start xs)) k 0 ≡ get_or xs (start + k) 0
part_at count start k xs h = rw (vec_len, get_or-take, get_or-drop) refl

-- a segment's words are in the map
segment_in_map : (m : MemSeen) (map : MapWords) (segment : ℕ) (first : List ℕ) → NotesAll m map segment first → words_before map.geo segment + words_in_segment map.geo ≤ length map.words
segment_in_map m map segment first all = rw all.whole (segment_inside map.geo segment all.here).0

-- what is noted of a place inside
noted_here : (m : MemSeen) (map : MapWords) (segment at : ℕ) (first : List ℕ) → NotesAll m map segment first → at < words_in_segment map.geo
    → m.noted at ≡ Some (record { present = get_or map.words (words_before map.geo segment + at) 0; first = get_or first (words_before map.geo segment + at) 0 })
noted_here m map segment at first all inside = all.noted at ∙ noted_inside map.geo (words_before map.geo segment) at map.words first inside

fits_only : (m : MemSeen) (map : MapWords) (segment : ℕ) (first words : List ℕ) → NotesAll m map segment first → FitsNotes m words → words ≡ segment_in map segment
fits_only m map segment first words all fits =
    let count = words_in_segment map.geo in
    let start = words_before map.geo segment in
    let length_is : length words ≡ count = fits.are.length_is ∙ ap words_in_segment all.geo_is in
    fill_by_all (λ k. get_or map.words (start + k) 0) words count 0 length_is (λ k h. (let inside : k < length words = rw length_is h in fits.present k _ inside (noted_here m map segment k first all h)))
    ∙ sym (fill_by_all (λ k. get_or map.words (start + k) 0) (take count (drop start map.words)) count 0 (part_length count start map.words (segment_in_map m map segment first all)) (λ k h. part_at count start k map.words h))

fits_some : (m : MemSeen) (map : MapWords) (segment : ℕ) (first : List ℕ) → NotesAll m map segment first → FitsNotes m (segment_in map segment)
fits_some m map segment first all =
    let count = words_in_segment map.geo in
    let start = words_before map.geo segment in
    let long = part_length count start map.words (segment_in_map m map segment first all) in
    record {
      are = record {
        length_is = long ∙ ap words_in_segment (sym all.geo_is);
        fit = All-take (λ word. word < 2 ^ 64) count (drop start map.words) (All-drop (λ word. word < 2 ^ 64) start map.words all.fit);
      };
      present = λ k note h e.
          (let inside : k < count = rw (← long) h in
          part_at count start k map.words inside ∙ same_present (sym (noted_here m map segment k first all inside) ∙ e));
    }
  where
    same_present : {p f : ℕ} {note : Note} → Some (record { present = p; first = f }) ≡ Some note → p ≡ note.present
    same_present e = cc

pub its_words : TellsItsWords
its_words m map segment first words all = (fits_only m map segment first words all, λ e. subst (λ (w : List ℕ). FitsNotes m w) (sym e) (fits_some m map segment first all))

-- the change number of such a memory, where it is even and not the last
pub number_even : (m : MemSeen) (map : MapWords) (segment : ℕ) (first : List ℕ) → NotesAll m map segment first → HasEvenNumber m
    → (get_or map.words (words_before map.geo segment + 1) 0 % 2 ≡ 0) × (get_or map.words (words_before map.geo segment + 1) 0 < 2 ^ 63)
number_even m map segment first all number =
    let fits = fits_some m map segment first all in
    let at_one : get_or (segment_in map segment) 1 0 ≡ get_or map.words (words_before map.geo segment + 1) 0 = part_at (words_in_segment map.geo) (words_before map.geo segment) 1 map.words (number_inside map.geo) in
    (sym (ap (λ (w : ℕ). w % 2) at_one) ∙ number.even (segment_in map segment) fits, subst (λ (w : ℕ). w < 2 ^ 63) at_one (number.not_last (segment_in map segment) fits))

-- and a memory over words notes all of its segment
pub plain_notes_all : {F : Type 0} {g : _} (fused : F → FuseSeen) (m : PlainMem F g) → NotesAll (plain_seen fused m) m.words.now m.segment m.first.value.words
plain_notes_all fused m = record {
  geo_is = refl;
  here = m.here;
  whole = m.whole;
  fit = m.fit;
  noted = λ at. ap (λ (start : ℕ). notes_in m.words.now.geo start m.words.now.words m.first.value.words at) m.starts;
}

-- so its change number is even and not the last, where each list that fits says so
pub plain_even : {F : Type 0} {g : _} (fused : F → FuseSeen) (m : PlainMem F g) → HasEvenNumber (plain_seen fused m) → (get_or m.words.now.words (m.start + 1) 0 % 2 ≡ 0) × (get_or m.words.now.words (m.start + 1) 0 < 2 ^ 63)
plain_even fused m number =
    subst (λ (start : ℕ). (get_or m.words.now.words (start + 1) 0 % 2 ≡ 0) × (get_or m.words.now.words (start + 1) 0 < 2 ^ 63)) (sym m.starts)
    (number_even (plain_seen fused m) m.words.now m.segment m.first.value.words (plain_notes_all fused m) number)

pub fixed_notes_all : (m : FixedMem) → NotesAll (fixed_seen m) m.words.now m.segment m.words.now.words
fixed_notes_all m = record {
  geo_is = refl;
  here = m.here;
  whole = m.whole;
  fit = m.fit;
  noted = λ at. ap (λ (start : ℕ). notes_in m.words.now.geo start m.words.now.words m.words.now.words at) m.starts;
}

-- what stores did to the segment's words
pub stored_in : {F : Type 0} {g : _} (fused : F → FuseSeen) (a b : PlainMem F g) (stores : List WordStore) → Writes (plain_seen fused a) (plain_seen fused b) stores
    → segment_in b.words.now b.segment ≡ after_stores (segment_in a.words.now a.segment) stores
stored_in fused a b stores writes =
    let fits = fits_some (plain_seen fused b) b.words.now b.segment b.first.value.words (plain_notes_all fused b) in
    let came = writes.came (segment_in b.words.now b.segment) fits in
    let before = fits_only (plain_seen fused a) a.words.now a.segment a.first.value.words came.0 (plain_notes_all fused a) came.1.fits in
    sym came.1.relates.leads ∙ ap (λ (w : List ℕ). after_stores w stores) before

-- the same of the lender's words, where the memory was made over these and ends with those
pub lender_has : {F : Type 0} {g : _} (fused : F → FuseSeen) (a b : PlainMem F g) (old now : MapWords) (segment : ℕ) (stores : List WordStore) → Writes (plain_seen fused a) (plain_seen fused b) stores
    → a.words.now ≡ old → a.segment ≡ segment → b.segment ≡ segment → now ≡ b.words.now → segment_in now segment ≡ after_stores (segment_in old segment) stores
lender_has fused a b old now segment stores writes was a_is b_is is =
    ap (λ (w : MapWords). segment_in w segment) is ∙ (ap (λ (s : ℕ). segment_in b.words.now s) (sym b_is)
    ∙ (stored_in fused a b stores writes ∙ (ap (λ (s : ℕ). after_stores (segment_in a.words.now s) stores) a_is ∙ ap (λ (w : MapWords). after_stores (segment_in w segment) stores) was)))
