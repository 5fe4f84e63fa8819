use Rattle.cm_plain.specs.Plans.{op_of_ask}
use Rattle.cm_plain.specs.Replies.{reply_of_heard}
use Rattle.cm_lock.specs.Rounds.{IsFoundAtOnce}
use Rattle.cm_lock.proofs.table.SegTable.load_last.Given as goal

abbrev pub ghosts-load_last_as : goal.ghosts-load_last_as
ghosts-load_last_as a = record { claim = IsFoundAtOnce a.self.now.table.shared.key; op = op_of_ask a._ask.now; reply = reply_of_heard a._heard.now }
