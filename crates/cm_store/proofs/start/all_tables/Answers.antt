use Rattle.std.proofs.Common.{◌≡◌, ℕ, List, map, ◌∙◌, ap, arith}
use Rattle.std.specs.List.{range_with_len}
use Rattle.cm_geo.specs.declared.geo.Geo.{Geo}
use Rattle.cm_lock.specs.Rule.{root_view}
use Rattle.cm_store.specs.Tables.{key_in}
use Rattle.cm_store.proofs.Starting.{keys_more, lawful_even, lawful_limit, lawful_rests, lawful_unlocked, lawful_words, roots_more, seats_more}
use Rattle.cm_store.proofs.start.all_tables.Goals as goal

pub new-requires-clause-are : goal.new-requires-clause-are
new-requires-clause-are c = lawful_words c.args.words.now c.requires.lawful c.geo.result.now c.geo.ensures c.loop-segment.segment c.segments-segments.result c.segments-segments.ensures c.loop-segment-test.true c.segment.result.now c.segment.ensures c.are_whole.ensures.fit

pub new-requires-clause-unlocked : goal.new-requires-clause-unlocked
new-requires-clause-unlocked c = lawful_unlocked c.args.words.now c.requires.lawful c.geo.result.now c.geo.ensures c.loop-segment.segment c.segments-segments.result c.segments-segments.ensures c.loop-segment-test.true c.segment.result.now c.segment.ensures

pub new-requires-clause-even : goal.new-requires-clause-even
new-requires-clause-even c = lawful_even c.args.words.now c.requires.lawful c.geo.result.now c.geo.ensures c.loop-segment.segment c.segments-segments.result c.segments-segments.ensures c.loop-segment-test.true c.segment.result.now c.segment.ensures

pub new-requires-clause-within_limit : goal.new-requires-clause-within_limit
new-requires-clause-within_limit c = lawful_limit c.args.words.now c.requires.lawful c.geo.result.now c.geo.ensures c.loop-segment.segment c.segments-segments.result c.segments-segments.ensures c.loop-segment-test.true c.segment.result.now c.segment.ensures

pub new-requires-clause-rests : goal.new-requires-clause-rests
new-requires-clause-rests c = lawful_rests c.args.words.now c.requires.lawful c.geo.result.now c.geo.ensures c.loop-segment.segment c.segments-segments.result c.segments-segments.ensures c.loop-segment-test.true c.segment.result.now c.segment.ensures

pub loop-segment-preserved : goal.loop-segment-preserved
loop-segment-preserved c =
    let key = c.in_ok-table.ensures.key ∙ (ap (λ (g : Geo). record { geo = g; segment = c.loop-segment.segment; first = c.segment.result.now }) c.geo.ensures
    ∙ ap (λ (ws : List ℕ). record { geo = c.args.words.now.geo; segment = c.loop-segment.segment; first = ws }) c.segment.ensures) in
    record {
      keys = keys_more c.args.words.now c.loop-segment.segment c.loop-segment.tables.items c.loop-segment.seats.items c.in_ok-table.table c.in_ok-table.seat c.push.new.self.items c.in_ok-push.ensures.items c.loop-segment.invariant.keys key;
      its = seats_more c.args.words.now c.loop-segment.segment c.loop-segment.tables.items c.loop-segment.seats.items c.in_ok-table.table c.in_ok-table.seat c.push.new.self.items c.push-in-loop-segment.new.self.items
          c.in_ok-push.ensures.items c.in_ok-push-2.ensures.items c.loop-segment.invariant.its c.in_ok-table.ensures.its;
      roots = roots_more c.args.words.now c.loop-segment.segment c.loop-segment.tables.items c.loop-segment.seats.items c.in_ok-table.table c.in_ok-table.seat c.push-in-loop-segment.new.self.items c.in_ok-push-2.ensures.items
          c.loop-segment.invariant.roots c.in_ok-table.ensures.root key;
    }

all_segments : (c : goal.After-loop-segment) → c.loop-segment.segment ≡ c.args.words.now.geo.segments
all_segments c =
    let over = c.loop-segment-test.false in
    let within = c.loop-segment.auto.segment-end in
    let count : c.segments-segments.result ≡ c.args.words.now.geo.segments = c.segments-segments.ensures ∙ ap (λ (g : Geo). g.segments) c.geo.ensures in
    omega arith

pub returns-clause-keys : goal.returns-clause-keys
returns-clause-keys c = c.loop-segment.invariant.keys ∙ ap (λ (n : ℕ). map (key_in c.args.words.now) (range_with_len 0 n)) (all_segments c)

pub returns-clause-roots : goal.returns-clause-roots
returns-clause-roots c = c.loop-segment.invariant.roots ∙ ap (λ (n : ℕ). map root_view (map (key_in c.args.words.now) (range_with_len 0 n))) (all_segments c)
