use Rattle.std.proofs.Common.{◌∙◌, ap}
use Rattle.cm_yard.specs.declared.view.View.{View}
use Rattle.cm_yard.specs.Views.{with_joined}
use Rattle.cm_yard.specs.Yards.{view_of}
use Rattle.cm_yard.proofs.Trials.{four_joined}
use Rattle.cm_yard.proofs.tests.end_of_four.Goals as goal

pub close-requires-clause-joined : goal.close-requires-clause-joined
close-requires-clause-joined c =
    let first = view_of c.args.first in
    let second = view_of c.args.second in
    let third = view_of c.args.third in
    let fourth = view_of c.args.fourth in
    let view = c.join-4.ensures.view ∙ ap (λ (v : View). with_joined v first) (c.join-3.ensures.view ∙ ap (λ (v : View). with_joined v second) (c.join-2.ensures.view ∙ ap (λ (v : View). with_joined v third) c.join.ensures.view)) in
    four_joined first.number second.number third.number fourth.number (view_of c.args.root).joined (view_of c.join-4.new.root) (ap (λ (v : View). v.made) view ∙ c.requires.made) (ap (λ (v : View). v.joined) view)
