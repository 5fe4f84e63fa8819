-- What the callers in the tests need.
use Rattle.std.proofs.Common.{◌≡◌, ℕ, ◌+◌, ◌%◌, ◌<◌, ◌≤◌, Some, Option, List, [], ◌∷◌, length, get_or, replicate, slice_set, Bool, false, zero, suc, arith, refl, ap, sym, ◌∙◌, subst, true, ◌≢◌, get_or-set_other, get_or-set_same, length-set}
use Rattle.cm_geo.specs.declared.geo.Geo.{Geo}
use Rattle.cm_geo.specs.Geometry.{IsGeoOf}
use Rattle.cm_geo.specs.Hash.{hash, segment_of_key}
use Rattle.cm_geo.specs.Need.{Fits, need}
use Rattle.cm_plain.specs.Changes.{Change}
use Rattle.cm_plain.specs.States.{IsState, State, one_tier}
use Rattle.cm_plain.specs.Rooms.{first_fit, room_for}
use Rattle.cm_plain.specs.declared.room.Room.TheVariants.{Elsewhere}
use Rattle.cm_plain.specs.Steps.{Plans}
use Rattle.cm_geo.specs.Addresses.{tier_at}
use Rattle.cm_plain.specs.declared.placed.Placed.{Placed}
use Rattle.cm_plain.specs.FoundChains.{FoundChain, chain_of, chain_from}
use Rattle.cm_plain.specs.Lawful.{Resting}
use Rattle.cm_geo.proofs.AddressOrder.{tier_behind_head, tier_head_in_range}
use Rattle.cm_plain.proofs.Placements.{placed_state}
use Rattle.cm_plain.proofs.States.{same_state}
use Rattle.cm_plain.proofs.OutsideHead.{resting_represents, torn_same}
use Rattle.cm_words.specs.Memory.{FitsNotes, HasEvenNumber, IsAllowed, IsDone, IsPlanHere, MemSeen, Setting, StaysTorn, origin}
use Rattle.cm_geo.specs.Addresses.{words_in_map, words_in_segment}
use Rattle.cm_words.specs.Maps.{MapWords, number_word, words_before}
use Rattle.cm_words.specs.Fuses.{FuseSeen}
use Rattle.cm_words.specs.Plain.{new_plain}
use Rattle.std.proofs.lemmas.List.{length-replicate, nil_from_length}
use Rattle.std.proofs.lemmas.List.FromFn.{fill_by_all}
use Rattle.cm_words.specs.Effects.{Begins, Reads}
use Rattle.cm_words.specs.Stores.{MayStoreAll, WordStore, Writes, after_stores, store_at}
use Rattle.cm_words_tests.specs.Trials.{AreCut, AreNew, KeepsTorn, StoresUnder, first_put}
use Rattle.cm_words.proofs.MapPlaces.{number_inside}
use Rattle.cm_words.proofs.PlainNotes.{noted_inside}

allowed_by : (setting : Setting) (plan : Option Change) (change : Change) (o words : List ℕ) (at word : ℕ) → plan ≡ Some change → KeepsTorn setting.geo change at word → IsAllowed setting plan o words (slice_set words at word)
allowed_by setting plan change o words at word e keeps guarded = subst (λ (p : Option Change). StaysTorn setting p o words (slice_set words at word)) (sym e) (λ state under. keeps words state under.torn)

-- two stores that keep words torn for the plan under way may be made
pub may_store_two : (m : MemSeen) (change : Change) (first one second other : ℕ) → m.plan ≡ Some change → KeepsTorn m.setting.geo change first one → KeepsTorn m.setting.geo change second other → MayStoreAll m (store_at first one ∷ store_at second other ∷ [])
may_store_two m change first one second other e p q words fits =
    (allowed_by m.setting m.plan change (origin m words) words first one e p, (allowed_by m.setting m.plan change (origin m words) (slice_set words first one) second other e q, tt))

-- the head of a segment is not what torn words are about
pub head_keeps_torn : (geo : Geo) (change : Change) (at word : ℕ) → at < 4 → KeepsTorn geo change at word
head_keeps_torn geo change at word low words state torn = torn_same geo words at word state change low torn

zero_word : (count k : ℕ) → ◌≡◌ {A = ℕ} (get_or (replicate count 0) k 0) 0
zero_word zero k = refl
zero_word (suc count) zero = refl
zero_word (suc count) (suc k) = zero_word count k

zero_link : (geo : Geo) (count links : ℕ) → chain_from links geo (replicate count 0) (0 ∷ []) 0 ≡ record { places = 0 ∷ []; cut = false }
zero_link geo count zero = refl
zero_link geo count (suc links) = simp (zero_word count (tier_at geo 0)) refl

zeros_linked : (geo : Geo) (count : ℕ) → chain_of geo (replicate count 0) ≡ record { places = 0 ∷ []; cut = false }
unfolding chain_of
zeros_linked geo count = zero_link geo count geo.tiers

-- zeros rest for one empty tier at most
pub zeros_rest : (geo : Geo) (segment count : ℕ) (state : State) → Resting geo segment (replicate count 0) state → state ≡ one_tier
zeros_rest geo segment count state rests =
    let knows = resting_represents geo segment (replicate count 0) state rests in
    same_state state one_tier (sym knows.chain ∙ ap (λ (l : FoundChain). l.places) (zeros_linked geo count)) (nil_from_length state.entries (sym knows.count ∙ zero_word count 2))

mod_one : (n : ℕ) → n % 1 ≡ 0
mod_one n = omega arith

-- the first put is planned for one empty tier
pub plans_first_put : (geo : Geo) → IsGeoOf geo 1 1 64 4 0 → IsState geo 0 one_tier → Plans geo 0 one_tier first_put.op first_put
plans_first_put geo is state =
    let need_is : need geo 1 1 ≡ 1 = rw is.chunk_words_is refl in
    let fit_is : first_fit geo one_tier 1 ≡ Some (record { place = 0; chunk = 0 }) = rw is.chunks_is refl in
    let room_is : room_for geo one_tier first_put.key (need geo 1 1) ≡ Elsewhere (record { place = 0; chunk = 0 }) = rw (need_is, fit_is) refl in
    let fits : Fits geo 1 1 = record { key_nonempty = omega arith; key_short = omega arith; value_short = omega arith; run_short = rw need_is (omega arith) } in
    let here : segment_of_key geo first_put.key ≡ 0 = rw is.segments_is (mod_one (hash first_put.key)) in
    record {
      is_state = state;
      met = refl;
      room = rw room_is refl;
      key = refl;
      change_is = rw (room_is, need_is) refl;
      leads = placed_state geo 0 one_tier first_put.key first_put.value (record { place = 0; chunk = 0 }) state fits here (Elsewhere (record { place = 0; chunk = 0 })) room_is refl;
    }

-- a change that began, and stores after that
pub stores_under : (a b c : MemSeen) (change : Change) (stores : List WordStore) → Begins a b change → Writes b c stores → StoresUnder a c change stores
stores_under a b c change stores begins writes = record {
  plan = writes.keeps.plan ∙ begins.plan;
  came = λ words fits.
      let mid = writes.came words fits in
      let far = begins.came mid.0 mid.1.fits in
      (far.0, record { fits = far.1.fits; leads = ap (λ (w : List ℕ). after_stores w stores) far.1.next ∙ mid.1.relates.leads });
}

-- the only words that fit new ones are zeros
zeros_fit : (guarded : Bool) (map : MapWords) (fuse : FuseSeen) (words : List ℕ) → AreNew map → FitsNotes (new_plain guarded map 0 fuse) words → words ≡ replicate (words_in_segment map.geo) 0
zeros_fit guarded map fuse words new fits =
    let count = words_in_segment map.geo in
    let here : (k : ℕ) → k < count → get_or words k 0 ≡ 0 = λ k inside.
    (let within : k < length words = rw fits.are.length_is inside in
    let zero_is : get_or map.words (words_before map.geo 0 + k) 0 ≡ 0 = rw new.zero (zero_word (words_in_map map.geo) (words_before map.geo 0 + k)) in
    fits.present k _ within (noted_inside map.geo (words_before map.geo 0) k map.words map.words inside) ∙ zero_is) in
    fill_by_all (λ k. 0) words count 0 fits.are.length_is here ∙ sym (fill_by_all (λ k. 0) (replicate count 0) count 0 (length-replicate count 0) (λ k inside. zero_word count k))

-- their change number is even
pub new_number : (guarded : Bool) (map : MapWords) (fuse : FuseSeen) → AreNew map → HasEvenNumber (new_plain guarded map 0 fuse)
new_number guarded map fuse new =
    let number : (words : List ℕ) → FitsNotes (new_plain guarded map 0 fuse) words → get_or words 1 0 ≡ 0 = λ words fits. rw (zeros_fit guarded map fuse words new fits) (zero_word (words_in_segment map.geo) 1) in
    record {
      noted = rw (noted_inside map.geo (words_before map.geo 0) 1 map.words map.words (number_inside map.geo)) refl;
      even = λ words fits. rw (number words fits) refl;
      not_last = λ words fits. rw (number words fits) (omega arith);
    }

-- the first put is planned for new words
pub new_planned : (guarded : Bool) (map : MapWords) (fuse : FuseSeen) → AreNew map → IsPlanHere (new_plain guarded map 0 fuse) first_put
new_planned guarded map fuse new words state fits rests =
    let zeros : Resting map.geo 0 (replicate (words_in_segment map.geo) 0) state = subst (λ (w : List ℕ). Resting map.geo 0 w state) (zeros_fit guarded map fuse words new fits) rests in
    let state_is : state ≡ one_tier = zeros_rest map.geo 0 (words_in_segment map.geo) state zeros in
    let is : IsState map.geo 0 one_tier = subst (λ (s : State). IsState map.geo 0 s) state_is (resting_represents map.geo 0 words state rests).is_state in
    subst (λ (s : State). Plans map.geo 0 s first_put.op first_put) (sym state_is) (plans_first_put map.geo new.geo_is is)

-- a segment has a head of four words
pub head_inside : (geo : Geo) → 4 ≤ words_in_segment geo
unfolding words_in_segment
head_inside geo = omega arith

-- words whose first link leads nowhere rest for no state
cut_link : (links : ℕ) (geo : Geo) (words : List ℕ) → links ≡ 1 → geo.tiers ≡ 1 → get_or words (tier_at geo 0) 0 ≡ 9 → (chain_from links geo words (0 ∷ []) 0).cut ≡ true
cut_link links geo words one tiers link = rw (one, link, tiers) refl

cut_rests : (geo : Geo) (segment : ℕ) (words : List ℕ) (state : State) → geo.tiers ≡ 1 → get_or words (tier_at geo 0) 0 ≡ 9 → Resting geo segment words state → ⊥
unfolding chain_of
cut_rests geo segment words state tiers link rests =
    let is_cut = cut_link geo.tiers geo words tiers tiers link in
    let whole = (resting_represents geo segment words state rests).whole in
    clash (sym is_cut ∙ whole)
  where
    clash : true ≡ false → ⊥
    clash e = cc e

-- a list that fits the notes of cut words has the same link
cut_fits : (guarded : Bool) (map : MapWords) (fuse : FuseSeen) (words : List ℕ) → AreCut map → FitsNotes (new_plain guarded map 0 fuse) words → get_or words (tier_at map.geo 0) 0 ≡ 9
cut_fits guarded map fuse words are fits =
    let one : 0 < map.geo.tiers = omega (arith, are.geo_is.tiers_is) in
    let range = tier_head_in_range map.geo 0 0 one (omega arith) in
    let inside : tier_at map.geo 0 < words_in_segment map.geo = omega (arith, range) in
    let within : tier_at map.geo 0 < length words = rw fits.are.length_is inside in
    fits.present (tier_at map.geo 0) _ within (noted_inside map.geo (words_before map.geo 0) (tier_at map.geo 0) map.words map.words inside) ∙ are.link

-- any change is planned for them
pub cut_planned : (old m : MemSeen) (guarded : Bool) (map : MapWords) (fuse : FuseSeen) (change : Change) → old ≡ new_plain guarded map 0 fuse → AreCut map → Reads old m → IsPlanHere m change
cut_planned old m guarded map fuse change e are read words state fits rests =
    let reads : Reads (new_plain guarded map 0 fuse) m = subst (λ (o : MemSeen). Reads o m) e read in
    let rests_there : Resting map.geo 0 words state = subst (λ (s : Setting). Resting s.geo s.segment words state) reads.keeps.setting rests in
    absurd (cut_rests map.geo 0 words state are.geo_is.tiers_is (cut_fits guarded map fuse words are (reads.fits words fits)) rests_there)

-- the change number of cut words is even and not the last
pub cut_number : (old m : MemSeen) (guarded : Bool) (map : MapWords) (fuse : FuseSeen) → old ≡ new_plain guarded map 0 fuse → AreCut map → Reads old m → HasEvenNumber m
cut_number old m guarded map fuse e are read =
    let reads : Reads (new_plain guarded map 0 fuse) m = subst (λ (o : MemSeen). Reads o m) e read in
    let here : (words : List ℕ) → FitsNotes m words → get_or words 1 0 ≡ number_word map 0 = λ words fits.
    (let before = reads.fits words fits in
    let within : 1 < length words = rw before.are.length_is (number_inside map.geo) in
    before.present 1 _ within (noted_inside map.geo (words_before map.geo 0) 1 map.words map.words (number_inside map.geo))) in
    record {
      noted = reads.noted 1 (rw (noted_inside map.geo (words_before map.geo 0) 1 map.words map.words (number_inside map.geo)) refl);
      even = λ words fits. rw (here words fits) are.even;
      not_last = λ words fits. rw (here words fits) are.not_last;
    }

-- any change of them is done
pub cut_done : (old m begun : MemSeen) (guarded : Bool) (map : MapWords) (fuse : FuseSeen) (first change : Change) → old ≡ new_plain guarded map 0 fuse → AreCut map → Reads old m → Begins m begun first → IsDone begun change
cut_done old m begun guarded map fuse first change e are read begins words state fits under =
    let reads : Reads (new_plain guarded map 0 fuse) m = subst (λ (o : MemSeen). Reads o m) e read in
    let came = begins.came words fits in
    let link : get_or came.0 (tier_at map.geo 0) 0 ≡ 9 = cut_fits guarded map fuse came.0 are (reads.fits came.0 came.1.fits) in
    let apart : tier_at map.geo 0 ≢ 1 = (let behind = tier_behind_head map.geo 0 in omega (arith, behind)) in
    let same : get_or words (tier_at map.geo 0) 0 ≡ 9 = rw (← came.1.next) (get_or-set_other came.0 1 (tier_at map.geo 0) (get_or came.0 1 0 + 1) 0 apart ∙ link) in
    let setting = begins.setting ∙ reads.keeps.setting in
    let rests : Resting map.geo 0 (origin begun words) state = subst (λ (s : Setting). Resting s.geo s.segment (origin begun words) state) setting under.rests in
    absurd (cut_rests map.geo 0 words state are.geo_is.tiers_is same (subst (λ (w : List ℕ). Resting map.geo 0 w state) (begins.origin words fits) rests))

-- the map of a segment of one tier has more than its head's words
pub map_is_long : (geo : Geo) → IsGeoOf geo 1 1 64 4 0 → 4 < words_in_map geo
unfolding words_in_segment
map_is_long geo is = rw (is.segments_is, is.tiers_is, is.chunks_is, is.chunk_words_is) (omega arith)

-- zeros but for a change number and a link are cut words
pub cut_words : (geo : Geo) (map : MapWords) → IsGeoOf geo 1 1 64 4 0 → map ≡ record { geo = geo; words = slice_set (slice_set (replicate (words_in_map geo) 0) 1 12) 4 9 } → AreCut map
unfolding tier_at
cut_words geo map is e =
    let count : ℕ = words_in_map geo in
    let zeros : List ℕ = replicate count 0 in
    let long : length (slice_set zeros 1 12) ≡ count = length-set zeros 1 12 ∙ length-replicate {A = ℕ} count 0 in
    let length_is = map_is_long geo is in
    let four : 4 < length (slice_set zeros 1 12) = rw long length_is in
    let two : 1 < length zeros = rw (length-replicate {A = ℕ} count 0) (omega (arith, length_is)) in
    let apart : ◌≢◌ {A = ℕ} 1 4 = omega arith in
    let number : get_or (slice_set (slice_set zeros 1 12) 4 9) 1 0 ≡ 12 = get_or-set_other (slice_set zeros 1 12) 4 1 9 0 apart ∙ get_or-set_same zeros 1 12 0 two in
    let at_link : words_before geo 0 + tier_at geo 0 ≡ 4 = omega arith in
    let at_one : words_before geo 0 + 1 ≡ 1 = omega arith in
    subst AreCut (sym e) (record {
      geo_is = is;
      link = rw at_link (get_or-set_same (slice_set zeros 1 12) 4 9 0 four);
      even = rw (at_one, number) refl;
      not_last = rw (at_one, number) (omega arith);
    })
