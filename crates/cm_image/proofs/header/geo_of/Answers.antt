use Rattle.std.proofs.Common.{◌∙◌, sym, ap, eqb, arith, rules}
use Rattle.std.proofs.lemmas.List.{take_rest}
use Rattle.std.specs.List.{list_all}
use Rattle.cm_image.proofs.Headers.{accepts-tests, refuses-numbers, refuses-reserved}
use Rattle.cm_image.proofs.header.geo_of.Goals as goal

pub returns-in_default : goal.returns-in_default
returns-in_default c = refuses-numbers c.args.header.now c.in_default.field-0 (search rules) (cc) (search rules)

pub returns-then-not-is_zero : goal.returns-then-not-is_zero
returns-then-not-is_zero c =
    let header = c.args.header.now in
    refuses-reserved header (search rules) (cc) (ap (list_all (λ byte. eqb byte 0)) (sym (take_rest header 32)) ∙ (search rules))

pub returns : goal.returns
returns c =
    let header = c.args.header.now in
    accepts-tests header c.in-Ok.geo c.requires (λ i. omega (arith, c.type_inv.header i)) (search rules) (cc) (search rules) (search rules)
    (ap (list_all (λ byte. eqb byte 0)) (sym (take_rest header 32)) ∙ (search rules))
