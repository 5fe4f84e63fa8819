use Rattle.std.proofs.Common.{◌≡◌, ◌∙◌, ◌<◌, ℕ, refl, ap, sym, subst, arith}
use Rattle.cm_geo.specs.declared.geo.Geo.{Geo}
use Rattle.cm_geo.specs.Addresses.{words_in_map}
use Rattle.cm_words.specs.Maps.{MapWords}
use Rattle.cm_words_tests.proofs.Trials.{cut_words, map_is_long}
use Rattle.cm_words_tests.proofs.tests_words.a_change_has_the_next_number.Goals as goal

-- a word of a map is one of another with the same geometry
inside : (at : ℕ) (geo : Geo) (map : MapWords) → map.geo ≡ geo → at < words_in_map geo → at < words_in_map map.geo
inside at geo map e h = subst (λ (g : Geo). at < words_in_map g) (sym e) h

pub set-requires : goal.set-requires
set-requires g c =
    let long = map_is_long c.in_ok-geo.geo c.in_ok-geo.ensures.1 in
    inside 1 c.in_ok-geo.geo c.in_ok-words.words (ap (λ (m : MapWords). m.geo) c.in_ok-words.ensures) (omega (arith, long))

pub set-requires-2 : goal.set-requires-2
set-requires-2 g c =
    inside 4 c.in_ok-geo.geo c.set.new.self (ap (λ (m : MapWords). m.geo) c.set.ensures ∙ ap (λ (m : MapWords). m.geo) c.in_ok-words.ensures) (map_is_long c.in_ok-geo.geo c.in_ok-geo.ensures.1)

pub begin_and_finish-found-requires : goal.begin_and_finish-found-requires
begin_and_finish-found-requires g c = cut_words c.in_ok-geo.geo _ c.in_ok-geo.ensures.1 (rw (c.set-2.ensures, c.set.ensures, c.in_ok-words.ensures) refl)
