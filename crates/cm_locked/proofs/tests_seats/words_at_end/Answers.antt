use Rattle.std.proofs.Common.{◌∙◌, ap}
use Rattle.cm_lock.specs.declared.view.View.{View}
use Rattle.cm_lock.specs.Views.{with_joined}
use Rattle.cm_lock.specs.Tables.{view_of}
use Rattle.cm_locked.proofs.SeatTrials.{four_joined, four_numbers}
use Rattle.cm_locked.proofs.tests_seats.words_at_end.Goals as goal

pub close-requires-clause-joined : goal.close-requires-clause-joined
close-requires-clause-joined c =
    let zero = view_of c.args.zero in
    let one = view_of c.args.one in
    let two = view_of c.args.two in
    let three = view_of c.args.three in
    let view = c.join-4.ensures.view ∙ ap (λ (v : View). with_joined v zero) (c.join-3.ensures.view ∙ ap (λ (v : View). with_joined v one) (c.join-2.ensures.view ∙ ap (λ (v : View). with_joined v two) c.join.ensures.view)) in
    let numbers = four_numbers zero.own.number one.own.number two.own.number three.own.number c.requires.zero.number_is c.requires.one.number_is c.requires.two.number_is c.requires.three.number_is in
    four_joined zero.own one.own two.own three.own zero.inherited one.inherited two.inherited three.inherited (view_of c.args.root).inherited (view_of c.join-4.new.root) (ap (λ (v : View). v.made) view ∙ (c.requires.root.made ∙ numbers)) (ap (λ (v : View). v.inherited) view)
