-- Each turn lends one field more, and there is a field at each index.
use Rattle.std.proofs.Common.{◌≡◌, ◌∙◌, ◌++◌, ◌∷◌, [], ap, map, sym, take, List, ℕ, Some, None, rules, ◌<◌, length, arith}
use Rattle.std.specs.Borrow.{Bor}
use Rattle.std.proofs.lemmas.List.{map-append, take_more}
use Rattle.csv.specs.Records.{field_at, fields_of}
use Rattle.csv.proofs.RecordFacts.{field-get, field-there}
use Rattle.cm_script.proofs.rows.fields_of_row.Goals as goal

pub loop-i-preserved : goal.loop-i-preserved
loop-i-preserved c =
    let all = fields_of c.args.row.now in
    let i = c.loop-i.i in
    let field = c.in-Some.field in
    let inside : i < length all = omega (arith, c.len-i-end.ensures) in
    let there : field_at all i ≡ Some field.now = search rules in
    let items : c.push.new.self.items ≡ c.loop-i.fields.items ++ field ∷ [] = search rules in
    ap (map (λ (f : Bor (List ℕ)). f.now)) items ∙ map-append (λ (f : Bor (List ℕ)). f.now) c.loop-i.fields.items (field ∷ [])
    ∙ ap (λ (t : List (List ℕ)). t ++ field.now ∷ []) c.loop-i.invariant
    ∙ sym (take_more all i [] inside ∙ ap (λ (f : List ℕ). take i all ++ f ∷ []) (field-get all i field.now there))

pub unreachable-requires : goal.unreachable-requires
unreachable-requires c =
    let all = fields_of c.args.row.now in
    let i = c.loop-i.i in
    let inside : i < length all = omega (arith, c.len-i-end.ensures) in
    let gone : field_at all i ≡ None = search rules in
    field-there all i inside gone
