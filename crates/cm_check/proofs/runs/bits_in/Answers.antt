-- Each word of bits is compared with that of the runs.
use Rattle.std.proofs.Common.{◌≡◌, ℕ, ◌*◌, ◌/◌, ◌<◌, ◌^◌, List, [], ◌∷◌, arith, ap, sym, ◌∙◌, subst, below_more}
use Rattle.cm_geo.specs.Addresses.{bits_at, slot_at}
use Rattle.cm_plain.specs.Slots.{word_at}
use Rattle.cm_check.specs.Findings.{Begins}
use Rattle.cm_check.specs.SlotLaws.{is_overlapping, slots_where}
use Rattle.cm_check.specs.CountLaws.{are_bits_wrong, bits_in}
use Rattle.cm_check.specs.Quiets.{geo_of, words_of}
use Rattle.cm_check.proofs.FirstFound.{tested_all, tested_first}
use Rattle.cm_check.proofs.TakenBits.{bits_differ, bits_right}
use Rattle.cm_check.proofs.runs.bits_in.Goals as goal

-- runs that are apart name no slot
none_named : (xs : List ℕ) (x : ℕ) → xs ≡ [] → Begins xs x → ⊥
none_named xs x e begins = (let clash : [] ≡ x ∷ begins.0 = sym e ∙ begins.1 in cc clash)

pub returns-in_err-taken : goal.returns-in_err-taken
returns-in_err-taken c =
    let q = c.args.quiet.now in
    absurd (none_named (slots_where (geo_of q) c.args.place (is_overlapping (geo_of q) (words_of q) c.args.place)) c.in_err-taken.field-0.0
    (tested_all (slot_at (geo_of q) c.args.place) (is_overlapping (geo_of q) (words_of q) c.args.place) (2 * (geo_of q).chunks) (2 * (geo_of q).chunks) c.requires.apart (omega arith)) c.in_err-taken.ensures.first)

pub returns-then-word : goal.returns-then-word
returns-then-word c =
    let q = c.args.quiet.now in
    let at : c.bits_at-at.result ≡ bits_at (geo_of q) c.args.place c.loop-word.word = c.bits_at-at.ensures.value ∙ ap (λ g. bits_at g c.args.place c.loop-word.word) c.geo-geo.ensures in
    let below : c.loop-word.word < (geo_of q).chunks / 64 = omega (arith, c.loop-word-test.true, c.chunks-word-end.ensures, ap (λ g. g.chunks) c.geo-geo.ensures) in
    let is : c.word.result ≡ word_at (words_of q) (bits_at (geo_of q) c.args.place c.loop-word.word) = c.word.ensures ∙ ap (λ (n : ℕ). word_at (words_of q) n) at in
    let wrong = bits_differ (geo_of q) (words_of q) c.args.place c.loop-word.word c.in_ok-taken.taken.bits below c.in_ok-taken.ensures.taken (subst (λ (n : ℕ). n < 2 ^ 64) is c.word.type_inv) (subst (λ (n : ℕ). n < 2 ^ 64) c.word-in-loop-word.ensures c.word-in-loop-word.type_inv)
    (λ same. c.if-word.true (is ∙ (same ∙ sym c.word-in-loop-word.ensures))) in
    subst (λ (x : ℕ). Begins (bits_in (geo_of q) (words_of q) c.args.place) x) (sym at) (tested_first (bits_at (geo_of q) c.args.place) (are_bits_wrong (geo_of q) (words_of q) c.args.place) ((geo_of q).chunks / 64) c.loop-word.word c.loop-word.invariant below wrong)

pub loop-word-preserved : goal.loop-word-preserved
loop-word-preserved c =
    let q = c.args.quiet.now in
    let at : c.bits_at-at.result ≡ bits_at (geo_of q) c.args.place c.loop-word.word = c.bits_at-at.ensures.value ∙ ap (λ g. bits_at g c.args.place c.loop-word.word) c.geo-geo.ensures in
    let below : c.loop-word.word < (geo_of q).chunks / 64 = omega (arith, c.loop-word-test.true, c.chunks-word-end.ensures, ap (λ g. g.chunks) c.geo-geo.ensures) in
    let is : c.word.result ≡ word_at (words_of q) (bits_at (geo_of q) c.args.place c.loop-word.word) = c.word.ensures ∙ ap (λ (n : ℕ). word_at (words_of q) n) at in
    below_more _ _ c.loop-word.invariant (bits_right (geo_of q) (words_of q) c.args.place c.loop-word.word c.in_ok-taken.taken.bits below c.in_ok-taken.ensures.taken (sym is ∙ (c.if-word.false ∙ c.word-in-loop-word.ensures)))

pub returns : goal.returns
returns c =
    let q = c.args.quiet.now in
    tested_all (bits_at (geo_of q) c.args.place) (are_bits_wrong (geo_of q) (words_of q) c.args.place) ((geo_of q).chunks / 64) c.loop-word.word c.loop-word.invariant
    (omega (arith, c.loop-word-test.false, c.chunks-word-end.ensures, ap (λ g. g.chunks) c.geo-geo.ensures))
