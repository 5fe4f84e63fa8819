use Rattle.std.proofs.Common.{ap, ◌∙◌, arith}
use Rattle.cm_words.specs.Memory.{Setting}
use Rattle.cm_turn.proofs.FoundValues.{copied_value}
use Rattle.cm_turn.proofs.KeptValues.{kept_stays}
use Rattle.cm_turn.proofs.if_absent.AbsentCall.keep.Goals as goal

pub returns-clause-kept : goal.returns-clause-kept
returns-clause-kept g c =
    let reads = c.in_ok-len.ensures.loads.loads.done in
    let value = c.in_ok-len.ensures.value in
    kept_stays (g.M.Mem.seen c.read_value_into.new.mem) c.args.geo.now c.args.self.now.key.now c.args.self.now.value.now c.read_value_into.new.out c.in_ok-len.len
    (ap (λ (s : Setting). s.geo) reads.keeps.setting ∙ c.requires.readable.geo_is) (let most = value.within_limit in let room = c.requires.room in omega arith)
    (copied_value (g.M.Mem.seen c.args.mem.now) (g.M.Mem.seen c.read_value_into.new.mem) c.args.geo.now c.args.self.now.key.now c.args.sight reads c.requires.found
    c.read_value_into.new.out c.in_ok-len.len value)
