use Rattle.std.proofs.Common.{◌∙◌}
use Rattle.cm_command.specs.Texts.{GoOn, IsValueFor}
use Rattle.cm_command.proofs.Fronts.{found-none, go-on-kills, go-on-next, not-said, origin-next, origin-not-next, save-next, save-not-next}
use Rattle.cm_command.proofs.run.+go_on.Goals as goal
use Rattle.cm_command.proofs.run.+go_on.Goals.{else-fits, else-fits-2, then-fits, then-fits-2}

pub returns-in-None : goal.returns-in-None
returns-in-None t c = go-on-kills c.args.words.now c.args.origin c.args.save c.are_kills.result c.in-None.ensures c.are_kills.ensures

pub returns-then-not-origin : goal.returns-then-not-origin
returns-then-not-origin t c =
    let first = c.in-Some.first in
    go-on-next c.args.words.now first.option first.value.now first.rest.now c.args.origin c.args.save c.go_on.result c.in-Some.ensures
    (origin-next first.option (IsValueFor first.option first.value.now) (GoOn first.rest.now) c.args.origin c.args.save c.is_value_for-fits.result c.go_on.result
    c.in-Geo.is c.is_value_for-fits.ensures c.if-not-origin.true c.go_on.ensures)

pub returns-else-not-origin : goal.returns-else-not-origin
returns-else-not-origin t c =
    let first = c.in-Some.first in
    let none = origin-not-next first.option (IsValueFor first.option first.value.now) (GoOn first.rest.now) c.args.origin c.args.save c.is_value_for-fits.result
    c.in-Geo.is c.is_value_for-fits.ensures c.if-not-origin.either in
    elim c.if-fits.branch [
      | then-fits w ↦ found-none c.args.words.now first.option first.value.now first.rest.now c.args.origin c.args.save _ (not-said c.is_value_for-fits.result c.args.origin _ w.t-12-is w.if-fits.true c.if-not-origin.either) c.in-Some.ensures none
      | else-fits w ↦ found-none c.args.words.now first.option first.value.now first.rest.now c.args.origin c.args.save _ (w.t-12-is ∙ w.if-fits.false) c.in-Some.ensures none
    ]

pub returns-then-not-save : goal.returns-then-not-save
returns-then-not-save t c =
    let first = c.in-Some.first in
    go-on-next c.args.words.now first.option first.value.now first.rest.now c.args.origin c.args.save c.go_on-then-not-save.result c.in-Some.ensures
    (save-next first.option (IsValueFor first.option first.value.now) (GoOn first.rest.now) c.args.origin c.args.save c.is_value_for-fits.result c.go_on-then-not-save.result
    c.in-Save.is c.is_value_for-fits.ensures c.if-not-save.true c.go_on-then-not-save.ensures)

pub returns-else-not-save : goal.returns-else-not-save
returns-else-not-save t c =
    let first = c.in-Some.first in
    let none = save-not-next first.option (IsValueFor first.option first.value.now) (GoOn first.rest.now) c.args.origin c.args.save c.is_value_for-fits.result
    c.in-Save.is c.is_value_for-fits.ensures c.if-not-save.either in
    elim c.if-fits-2.branch [
      | then-fits-2 w ↦ found-none c.args.words.now first.option first.value.now first.rest.now c.args.origin c.args.save _ (not-said c.is_value_for-fits.result c.args.save _ w.t-15-is w.if-fits-2.true c.if-not-save.either) c.in-Some.ensures none
      | else-fits-2 w ↦ found-none c.args.words.now first.option first.value.now first.rest.now c.args.origin c.args.save _ (w.t-15-is ∙ w.if-fits-2.false) c.in-Some.ensures none
    ]
