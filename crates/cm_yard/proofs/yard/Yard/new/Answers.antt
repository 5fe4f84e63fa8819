use Rattle.std.proofs.Common.{◌≡◌, ◌∙◌, ap, length, sym}
use Rattle.cm_yard.specs.declared.view.Key.{Key}
use Rattle.cm_yard.specs.Words.{words_in_yard}
use Rattle.cm_yard.proofs.Owners.{first_length, first_owned}
use Rattle.cm_yard.proofs.Seating.{opens}
use Rattle.cm_yard.proofs.yard.Yard.new.Goals as goal

pub returns-in_err-words-clause-owned : goal.returns-in_err-words-clause-owned
returns-in_err-words-clause-owned c = first_owned c.args.geo.now c.args.linked.now c.requires.length_is c.requires.within_limit

pub returns-in_err-table-clause-owned : goal.returns-in_err-table-clause-owned
returns-in_err-table-clause-owned c = first_owned c.args.geo.now c.args.linked.now c.requires.length_is c.requires.within_limit

pub returns-clause-owned : goal.returns-clause-owned
returns-clause-owned c = first_owned c.args.geo.now c.args.linked.now c.requires.length_is c.requires.within_limit

pub of_words-requires : goal.of_words-requires
of_words-requires c =
    let first = c.of.ensures ∙ c.in_ok-words.ensures in
    let same = c.as_slice.ensures.value ∙ sym c.of.ensures in
    rw same (opens (record { geo = c.args.geo.now; first = c.of.result }) c.args.linked.now c.requires.length_is c.requires.within_limit first)

pub invariant_of-yard : goal.invariant_of-yard
invariant_of-yard c =
    let geo = c.args.geo.now in
    let made = c.in_ok-table.ensures in
    let key : c.in_ok-table.table.shared.key ≡ record { geo = geo; first = c.of.result } = made.5 in
    let first = c.of.ensures ∙ c.in_ok-words.ensures in
    let whole = ap length first ∙ first_length geo c.args.linked.now c.requires.length_is c.requires.within_limit in
    record {
      segments_are = c.segments.ensures ∙ ap (λ (k : Key). k.geo.segments) (sym key);
      extra_is = c.extra.ensures ∙ ap (λ (k : Key). k.geo.extra) (sym key);
      wide = made.0 ∙ (ap length (c.as_slice.ensures.value ∙ sym c.of.ensures) ∙ (whole ∙ ap (λ (k : Key). words_in_yard k.geo) (sym key)));
      whole = ap (λ (k : Key). length k.first) key ∙ (whole ∙ ap (λ (k : Key). words_in_yard k.geo) (sym key));
      no_slot = made.1;
    }
