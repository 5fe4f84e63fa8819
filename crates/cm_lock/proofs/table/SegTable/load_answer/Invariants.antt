use Rattle.cm_plain.specs.Plans.{op_of_ask}
use Rattle.cm_plain.specs.Replies.{reply_of_heard}
use Rattle.cm_lock.proofs.table.SegTable.load_answer.Given as goal

abbrev pub ghosts-load_answer_as : goal.ghosts-load_answer_as
ghosts-load_answer_as a = record { op = op_of_ask a._ask.now; reply = reply_of_heard a._heard.now }
