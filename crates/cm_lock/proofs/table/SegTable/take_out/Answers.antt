use Rattle.std.proofs.Common.{◌≡◌, ◌≢◌, ap, sym, ◌∙◌, rules}
use Rattle.cm_lock.specs.declared.view.Level.{Level}
use Rattle.cm_lock.specs.declared.view.Level.TheVariants.{Free, Read, Update}
use Rattle.cm_lock.specs.Levels.{weight}
use Rattle.cm_lock.proofs.HeldEvents.{lock_inside}
use Rattle.cm_lock.proofs.LevelEvents.{releases, releases_write}
use Rattle.cm_lock.proofs.Numbering.{live_number}
use Rattle.cm_lock.proofs.table.SegTable.take_out.Goals as goal

read_held : (l : Level) → l ≡ Read → l ≢ Free
read_held l e f = cc

update_held : (l : Level) → l ≡ Update → l ≢ Free
update_held l e f = cc

pub fetch_sub-requires : goal.fetch_sub-requires
fetch_sub-requires c =
    let key = c.args.self.now.table.shared.key in
    let is = c.requires.level ∙ c.in-Read.is in
    (search rules, lock_inside key.geo _ c.args.self.now.wide, releases key _ _ c.args.seat.now.me (live_number c.args.seat.now.me.0.own.number c.requires.live) (read_held c.args.seat.now.me.0.own.level is) c.requires.idle 1 (ap weight (sym is)))

pub fetch_sub-requires-in-Update : goal.fetch_sub-requires-in-Update
fetch_sub-requires-in-Update c =
    let key = c.args.self.now.table.shared.key in
    let is = c.requires.level ∙ c.in-Update.is in
    (search rules, lock_inside key.geo _ c.args.self.now.wide, releases key _ _ c.args.seat.now.me (live_number c.args.seat.now.me.0.own.number c.requires.live) (update_held c.args.seat.now.me.0.own.level is) c.requires.idle 1073741824 (ap weight (sym is)))

pub swap-requires : goal.swap-requires
swap-requires c =
    let key = c.args.self.now.table.shared.key in
    (search rules, lock_inside key.geo _ c.args.self.now.wide, releases_write key _ _ c.args.seat.now.me (live_number c.args.seat.now.me.0.own.number c.requires.live) (c.requires.level ∙ c.in-Write.is) c.requires.idle)
