use Rattle.std.proofs.Common.{◌∙◌, ap}
use Rattle.cm_yard.specs.declared.view.View.{View}
use Rattle.cm_yard.specs.Views.{with_joined, with_seat}
use Rattle.cm_yard.specs.Yards.{view_of}
use Rattle.cm_yard.proofs.Trials.{two_joined}
use Rattle.cm_yard.proofs.tests.claim_by_two.Goals as goal

pub close-requires-clause-joined : goal.close-requires-clause-joined
close-requires-clause-joined c =
    let one = view_of c.claim-first.new.seat in
    let two = view_of c.claim-second.new.seat in
    let split = c.split-two.ensures.view ∙ ap (λ (v : View). with_seat v 1) (c.split-one.ensures.view ∙ ap (λ (v : View). with_seat v 0) c.requires.start) in
    two_joined one two _ (c.claim-first.ensures.number ∙ ap (λ (v : View). v.number) c.split-one.ensures.seat) (c.claim-second.ensures.number ∙ ap (λ (v : View). v.number) c.split-two.ensures.seat)
    (c.join-2.ensures.view ∙ ap (λ (v : View). with_joined v one) (c.join.ensures.view ∙ ap (λ (v : View). with_joined v two) split))
