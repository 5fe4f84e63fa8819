use Rattle.std.proofs.Common.{◌≡◌, ◌<◌, ◌≤◌, ◌*◌, ◌∙◌, set, sym, ap, subst, arith}
use Rattle.cm_geo.specs.Addresses.{words_in_map}
use Rattle.cm_plain.specs.Steps.{last_number}
use Rattle.cm_words.specs.LawfulMaps.{IsLawfulMap}
use Rattle.cm_words.specs.Maps.{MapWords}
use Rattle.cm_trial.proofs.NumberedMaps.{numbered_lawful}
use Rattle.cm_trial.proofs.trial.numbered.Goals as goal

pub returns : goal.returns
returns c =
    let one : c.args.geo.now.segments ≡ 1 = sym c.segments.ensures ∙ c.if-segments-ne1.false in
    let inside : 1 < words_in_map c.args.geo.now = (let w = c.total_words.ensures in let h = c.if-total_words-lt2.false in omega arith) in
    let small : c.args.number ≤ last_number = (let h = c.if-number.false in omega arith) in
    subst IsLawfulMap
    (sym (c.set.ensures ∙ ap (λ (m : MapWords). record m { words = set m.words 1 (2 * c.args.number) }) c.in_ok-words.ensures))
    (numbered_lawful c.args.geo.now c.args.number one inside small)
