use Rattle.std.proofs.Common.{◌≡◌, ℕ, ◌+◌, ◌*◌, ◌/◌, ◌%◌, ◌<◌, ◌^◌, ◌∙◌, true, false, length, length-set, get_or, get_or-set_same, arith, refl}
use Rattle.std.proofs.lemmas.List.Elements.{All-set}
use Rattle.cm_words.proofs.FittingLists.{as_before, finishes_by, on_err}
use Rattle.cm_words.proofs.MapPlaces.{number_inside, place_inside, rest_stored}
use Rattle.cm_words.proofs.PlainNotes.{notes_finished, some_plan}
use Rattle.cm_words.proofs.plain.PlainMemMem.finish.Goals as goal

pub returns-in_err-ask-clause-dead : goal.returns-in_err-ask-clause-dead
returns-in_err-ask-clause-dead g c =
    on_err c.from_residual.result (as_before _ _ (record { setting = refl; plan = refl }) (λ k. refl) c.in_err-ask.ensures.dead_events c.in_err-ask.ensures.dead_stores)

pub address-address-requires : goal.address-address-requires
address-address-requires g c = number_inside c.args.self.now.words.now.geo

even_next : (word : ℕ) → word % 2 ≡ 1 → (word + 1) % 2 ≡ 0
even_next word odd = omega arith

twice_half : (word : ℕ) → word % 2 ≡ 1 → word + 1 ≡ 2 * ((word + 1) / 2)
twice_half word odd = omega arith

not_some : false ≡ true → ⊥
not_some e = cc e

pub invariant_of-self-2 : goal.invariant_of-self-2
invariant_of-self-2 g c =
    let m = c.args.self.now in
    let words = m.words.now.words in
    let number = get_or words (m.start + 1) 0 in
    let inside = number_inside m.words.now.geo in
    let within : m.start + 1 < length words = rw m.whole (place_inside m.words.now.geo m.segment m.start 1 m.here m.starts inside).0 in
    let odd = m.odd (some_plan m.is_under_way m.plan c.requires.under_way) in
    rw (c.set.ensures, c.get-odd.ensures, c.address-address.ensures.value) (record {
      here = m.here;
      starts = m.starts;
      whole = length-set words (m.start + 1) (number + 1) ∙ m.whole;
      fit = All-set (λ word. word < 2 ^ 64) words (m.start + 1) (number + 1) (omega (arith, odd.1)) m.fit;
      odd = λ planned. absurd (not_some planned);
      even = λ guarded idle. rw (get_or-set_same words (m.start + 1) (number + 1) 0 within) (even_next number odd.0);
    })

pub returns-clause-rest : goal.returns-clause-rest
returns-clause-rest g c change planned =
    let m = c.args.self.now in
    record {
      name = refl;
      segment = refl;
      rest = rw (c.set.ensures, c.get-odd.ensures, c.address-address.ensures.value) (rest_stored m.words.now m.segment m.start 1 _ m.starts (number_inside m.words.now.geo));
    }

pub returns-clause-finishes : goal.returns-clause-finishes
returns-clause-finishes g c =
    let m = c.args.self.now in
    let words = m.words.now.words in
    let inside = number_inside m.words.now.geo in
    let within : m.start + 1 < length words = rw m.whole (place_inside m.words.now.geo m.segment m.start 1 m.here m.starts inside).0 in
    let odd = m.odd (some_plan m.is_under_way m.plan c.requires.under_way) in
    rw (c.set.ensures, c.get-odd.ensures, c.address-address.ensures.value) (finishes_by _ _ _ inside refl refl
    (notes_finished _ _ m.words.now.geo m.start _ words m.first.value.words inside within (m.fit (m.start + 1) 0 within) (twice_half (get_or words (m.start + 1) 0) odd.0) (λ k. refl) (λ k. refl)))
