use Rattle.std.proofs.Common.{◌≡◌, ◌+◌, true, false, List, [], length, ap, sym, subst, ◌∙◌, arith}
use Rattle.std.proofs.lemmas.List.{length-set}
use Rattle.cm_plain.specs.Limits.{segment_of}
use Rattle.cm_plain.specs.declared.op.Op.TheVariants.{Put}
use Rattle.cm_lock.specs.declared.view.View.{View}
use Rattle.cm_lock.specs.declared.view.Level.TheVariants.{Free, Write}
use Rattle.cm_yard.specs.declared.view.View.{View as YardView}
use Rattle.cm_store.specs.Balance.{OwesAtMost}
use Rattle.cm_turn.specs.Calls.{IsRefused}
use Rattle.cm_store.specs.Passes.{claims_view, settled_of, views, views_of}
use Rattle.cm_turn.specs.Records.{IsIdle}
use Rattle.cm_laws.specs.SpentLaws.{deaths_in}
use Rattle.cm_store.specs.Splits.{joined_views}
use Rattle.cm_laws.specs.StopLaws.{AreLeft}
use Rattle.cm_stored.proofs.LawsTrials.{leaves_any, one_death, raise_claims}
use Rattle.cm_stored.proofs.laws_tests.put_and_join.Goals as goal
use Rattle.cm_stored.proofs.laws_tests.put_and_join.Goals.{then-is_dead, else-is_dead}

pub returns-clause-left : goal.returns-clause-left
returns-clause-left g c =
    let op = Put c.args.key.now c.args.value.now in
    let segment = segment_of c.args.store.now.geo op in
    let extra = c.args.store.now.geo.extra in
    let pass = c.put-told.new.pass in
    let acts = c.put-told.ensures.called.calls in
    let all = leaves_any IsIdle (IsRefused Free Write 1) segment extra op [] acts.was acts.then (claims_view c.args.pass) (claims_view pass) (settled_of c.put-told.result) acts.acts in
    let put : AreLeft true (views_of pass) (claims_view pass) =
    subst (λ (vs : List View). AreLeft true vs (claims_view pass)) (sym acts.others)
    (c.calls_keep_stops.ensures.calls true extra segment op [] (views_of c.args.pass) acts.was acts.then (claims_view c.args.pass) (claims_view pass) (settled_of c.put-told.result)
    acts.here all c.requires.none_left) in
    let raised : AreLeft true (views_of pass) (claims_view c.if-is_dead.pass) = elim c.if-is_dead.branch [
      | then-is_dead w ↦ subst (λ (y : YardView). AreLeft true (views_of pass) y) (sym (ap claims_view w.pass-is))
          (c.raises_keep_stops.ensures (views_of pass) (claims_view pass) (claims_view w.raise_stop.new.pass) w.raise_stop.ensures.raises put)
      | else-is_dead w ↦ subst (λ (y : YardView). AreLeft true (views_of pass) y) (sym (ap claims_view w.pass-is)) put
    ] in
    let seats : views_of c.if-is_dead.pass ≡ views_of pass = elim c.if-is_dead.branch [
      | then-is_dead w ↦ ap views_of w.pass-is ∙ ap (λ s. views s.items) w.raise_stop.ensures.same.seats
      | else-is_dead w ↦ ap views_of w.pass-is
    ] in
    let many : length (views_of pass) ≡ length (views_of c.args.root.now) = ap length acts.others ∙ (length-set (views_of c.args.pass) segment acts.then ∙ c.requires.many) in
    let joined = c.joins_keep_stops.ensures false true (views_of c.args.root.now) (views_of pass) (claims_view c.args.root.now) (claims_view c.if-is_dead.pass) many c.requires.left raised in
    subst (λ (vs : List View). AreLeft false vs (claims_view c.join-fuse.new.root)) (sym (c.join-fuse.ensures.root_views ∙ ap (joined_views (views_of c.args.root.now)) seats))
    (subst (λ (y : YardView). AreLeft false (joined_views (views_of c.args.root.now) (views_of pass)) y) (sym c.join-fuse.ensures.root_claims) joined)

pub returns-clause-owes : goal.returns-clause-owes
returns-clause-owes g c =
    let op = Put c.args.key.now c.args.value.now in
    let segment = segment_of c.args.store.now.geo op in
    let extra = c.args.store.now.geo.extra in
    let pass = c.put-told.new.pass in
    let acts = c.put-told.ensures.called.calls in
    let all = leaves_any IsIdle (IsRefused Free Write 1) segment extra op [] acts.was acts.then (claims_view c.args.pass) (claims_view pass) (settled_of c.put-told.result) acts.acts in
    let put : OwesAtMost (0 + deaths_in (settled_of c.put-told.result)) (views_of pass) (claims_view pass) =
    subst (λ (vs : List View). OwesAtMost (0 + deaths_in (settled_of c.put-told.result)) vs (claims_view pass)) (sym acts.others)
    (c.calls_owe_for_deaths.ensures.calls 0 extra segment op [] (views_of c.args.pass) acts.was acts.then (claims_view c.args.pass) (claims_view pass) (settled_of c.put-told.result)
    acts.here all c.requires.none_owed) in
    let one = one_death (settled_of c.put-told.result) in
    let same : (claims_view c.if-is_dead.pass).claims ≡ (claims_view pass).claims = elim c.if-is_dead.branch [
      | then-is_dead w ↦ ap (λ p. (claims_view p).claims) w.pass-is ∙ raise_claims (views_of pass) (claims_view pass) (claims_view w.raise_stop.new.pass) w.raise_stop.ensures.raises
      | else-is_dead w ↦ ap (λ p. (claims_view p).claims) w.pass-is
    ] in
    let told : OwesAtMost 1 (views_of pass) (claims_view c.if-is_dead.pass) = let l = ap length same in omega arith in
    let seats : views_of c.if-is_dead.pass ≡ views_of pass = elim c.if-is_dead.branch [
      | then-is_dead w ↦ ap views_of w.pass-is ∙ ap (λ s. views s.items) w.raise_stop.ensures.same.seats
      | else-is_dead w ↦ ap views_of w.pass-is
    ] in
    let many : length (views_of pass) ≡ length (views_of c.args.root.now) = ap length acts.others ∙ (length-set (views_of c.args.pass) segment acts.then ∙ c.requires.many) in
    let joined = c.joins_add_owed.ensures 0 1 (views_of c.args.root.now) (views_of pass) (claims_view c.args.root.now) (claims_view c.if-is_dead.pass) many c.requires.owes told in
    subst (λ (vs : List View). OwesAtMost 1 vs (claims_view c.join-fuse.new.root)) (sym (c.join-fuse.ensures.root_views ∙ ap (joined_views (views_of c.args.root.now)) seats))
    (subst (λ (y : YardView). OwesAtMost 1 (joined_views (views_of c.args.root.now) (views_of pass)) y) (sym c.join-fuse.ensures.root_claims) joined)
