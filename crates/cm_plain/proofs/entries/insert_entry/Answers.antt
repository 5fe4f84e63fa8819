-- An entry that is put in at the number of those before it stands in order.
use Rattle.std.proofs.Common.{◌≡◌, ◌∙◌, ℕ, Bool, ap, length, filter, nat_lt, sym, rules}
use Rattle.cm_plain.specs.declared.placed.Placed.{Placed}
use Rattle.cm_plain.specs.States.{run_start}
use Rattle.std.proofs.lemmas.List.Sums.{length-filter}
use Rattle.std.proofs.lemmas.List.Elements.{recursion_from_All}
use Rattle.cm_plain.proofs.Each.{pairs_from_all}
use Rattle.std.specs.List.{insert}
use Rattle.cm_plain.proofs.ListCuts.{cut_at}
use Rattle.cm_plain.proofs.entries.insert_entry.Goals as goal

pub returns : goal.returns
returns c =
    let geo = c.args.geo.now in
    let entries = c.args.entries.now.items in
    let before : Placed → Bool = λ other. nat_lt (run_start geo other) (run_start geo c.args.entry) in
    let cut = cut_at geo c.args.entry entries (pairs_from_all _ entries c.requires.rising) (recursion_from_All _ entries c.requires.apart) in
    let counted = rw (c.as_slice.ensures.value, c.run_start.ensures) at c.count_before-at.ensures in
    let at : c.count_before-at.result ≡ length (filter before entries) = counted ∙ sym (length-filter before entries) in
    let put : c.insert.new.self.items ≡ insert entries c.count_before-at.result c.args.entry = search rules in
    put ∙ ap (λ (n : ℕ). insert entries n c.args.entry) at ∙ cut
