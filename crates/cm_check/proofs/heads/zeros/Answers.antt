-- Each word was looked at.
use Rattle.std.proofs.Common.{arith, ◌∙◌}
use Rattle.cm_check.specs.Quiets.{geo_of, words_of}
use Rattle.cm_check.proofs.HeadWords.{segment_few}
use Rattle.cm_check.proofs.FirstFound.{first_nonzero, none_nonzero}
use Rattle.cm_check.proofs.heads.zeros.Goals as goal

pub overflow_add-at-end : goal.overflow_add-at-end
overflow_add-at-end c = omega (arith, segment_few (geo_of c.args.quiet.now))

pub returns-then-word-ne0 : goal.returns-then-word-ne0
returns-then-word-ne0 c = first_nonzero (words_of c.args.quiet.now) c.args.from c.args.count c.loop-at.at c.loop-at.invariant c.loop-at.auto.at c.loop-at-test.true (λ e. c.if-word-ne0.true (c.word.ensures ∙ e))

pub returns : goal.returns
returns c = none_nonzero (words_of c.args.quiet.now) c.args.from c.args.count c.loop-at.at c.loop-at.invariant c.loop-at-test.false
