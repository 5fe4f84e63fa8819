use Rattle.std.proofs.Common.{◌∙◌, ℕ, ap, count_by, drop, nat_lt}
use Rattle.core.specs.Mem.Slots.{slots_items}
use Rattle.cm_yard.proofs.Counting.{owned_all, owned_sum}
use Rattle.cm_yard.proofs.Seating.{closes}
use Rattle.cm_yard.proofs.yard.Yard.close.Goals as goal

pub returns-clause-owned : goal.returns-clause-owned
returns-clause-owned c =
    let key = c.args.self.table.shared.key in
    let words = slots_items c.close_with-closed.result.words in
    let ended = closes key c.args.root.seat.id c.args.root.seat.me.0 _ _ c.requires.root c.requires.joined c.close_with-closed.ensures.values.2 in
    let behind = λ (n : ℕ). count_by (λ word. nat_lt 0 word) (drop n words) in
    (words, ended, c.count_owned-count.ensures ∙ ap behind c.args.self.segments_are)

pub returns-clause-sum : goal.returns-clause-sum
returns-clause-sum c =
    let key = c.args.self.table.shared.key in
    let words = slots_items c.close_with-closed.result.words in
    let ended = closes key c.args.root.seat.id c.args.root.seat.me.0 _ _ c.requires.root c.requires.joined c.close_with-closed.ensures.values.2 in
    let behind = λ (n : ℕ). count_by (λ word. nat_lt 0 word) (drop n words) in
    c.count_owned-count.ensures ∙ (ap behind c.args.self.segments_are ∙ owned_sum key.geo key.first words c.args.root.seat.me.0 c.args.self.whole ended.length_is ended.claims)

pub returns-clause-all : goal.returns-clause-all
returns-clause-all c = λ found.
    let key = c.args.self.table.shared.key in
    let words = slots_items c.close_with-closed.result.words in
    let ended = closes key c.args.root.seat.id c.args.root.seat.me.0 _ _ c.requires.root c.requires.joined c.close_with-closed.ensures.values.2 in
    let behind = λ (n : ℕ). count_by (λ word. nat_lt 0 word) (drop n words) in
    c.count_owned-count.ensures ∙ (ap behind c.args.self.segments_are ∙ owned_all key.geo key.first words c.args.root.seat.me.0 c.args.self.whole ended.length_is ended.claims found)
