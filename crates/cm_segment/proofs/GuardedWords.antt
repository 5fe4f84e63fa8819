-- A new memory over words whose change number is even.
use Rattle.std.proofs.Common.{◌≡◌, ℕ, ◌<◌, ◌^◌, true, List, length, get_or, refl}
use Rattle.cm_words.specs.Fuses.{FuseSeen}
use Rattle.cm_words.specs.Maps.{MapWords, number_word, words_before}
use Rattle.cm_words.specs.Memory.{FitsNotes, HasEvenNumber}
use Rattle.cm_words.specs.Parity.{IsEven}
use Rattle.cm_words.specs.Plain.{new_plain}
use Rattle.cm_words.proofs.MapPlaces.{number_inside}
use Rattle.cm_words.proofs.PlainNotes.{noted_inside}

pub new_even : (map : MapWords) (fuse : FuseSeen) → IsEven (number_word map 0) → number_word map 0 < 2 ^ 63 → HasEvenNumber (new_plain true map 0 fuse)
new_even map fuse even low =
    let note = noted_inside map.geo (words_before map.geo 0) 1 map.words map.words (number_inside map.geo) in
    let here : (words : List ℕ) → FitsNotes (new_plain true map 0 fuse) words → get_or words 1 0 ≡ number_word map 0 = λ words fits.
    (let within : 1 < length words = rw fits.are.length_is (number_inside map.geo) in fits.present 1 _ within note) in
    record {
      noted = rw note refl;
      even = λ words fits. rw (here words fits) even;
      not_last = λ words fits. rw (here words fits) low;
    }
