use Rattle.std.proofs.Common.{◌+◌, ◌≤◌, subst, ℕ}
use Rattle.cm_plain.specs.Plans.{plan_change}
use Rattle.cm_segment.proofs.WrittenEntries.{may_write_new, new_writes}
use Rattle.cm_segment.proofs.placing.write_new.Goals as goal

pub write-requires-clause-room : goal.write-requires-clause-room
write-requires-clause-room g c = record {
  place_low = c.requires.places.new_in.run_in.place_inside;
  fits = c.requires.places.new_in.fits;
  run = subst (λ (n : ℕ). c.args.run.chunk + n ≤ c.args.geo.now.chunks) c.requires.places.new_in.size c.requires.places.new_in.run_in.inside;
}

pub write-requires-clause-allowed : goal.write-requires-clause-allowed
write-requires-clause-allowed g c =
    may_write_new (g.M.Mem.seen c.args.mem.now) c.args.geo.now (plan_change c.args.plan.now) c.args.run c.requires.places c.requires.at

pub returns : goal.returns
returns g c = new_writes c.requires.places c.requires.at c.write.ensures.stores c.write.ensures.stands
