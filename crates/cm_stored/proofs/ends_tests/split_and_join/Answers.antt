use Rattle.std.proofs.Common.{◌≡◌, ◌∙◌, ℕ, List, All, map, sym, ap, subst}
use Rattle.cm_lock.specs.declared.view.View.{View}
use Rattle.cm_lock.specs.Rule.{root_view}
use Rattle.cm_lock.specs.Seats.{AllJoined, count_of}
use Rattle.cm_yard.specs.declared.view.View.{View as YardView}
use Rattle.cm_yard.specs.Ends.{AllJoined as YardAllJoined}
use Rattle.cm_yard.specs.Rule.{count_of as yard_count_of}
use Rattle.cm_yard.specs.Views.{root_view as yard_root_view, with_joined as yard_with_joined, with_seat as yard_with_seat, with_stop}
use Rattle.cm_store.specs.Passes.{claims_view, views, views_of}
use Rattle.cm_store.specs.Splits.{joined_views, new_views, with_seats}
use Rattle.cm_words.specs.LawfulMaps.{IsLawfulMap}
use Rattle.cm_store.specs.Tables.{keys_of}
use Rattle.cm_stored.proofs.EndsTrials.{all_joined, claims_joined, none_made}
use Rattle.cm_stored.proofs.ends_tests.split_and_join.Goals as goal

pub start-requires : goal.start-requires
start-requires c = record { lawful = subst IsLawfulMap (sym c.in_ok-empty.ensures) (c.empty_words_are_lawful.ensures c.args.geo.now) }

pub split-requires-clause-never : goal.split-requires-clause-never
split-requires-clause-never c = record {
  seats = subst (λ (vs : List View). All (λ (v : View). count_of c.args.number v.made ≡ 0) vs) (sym c.in_ok-store.ensures.roots) (none_made c.args.number (keys_of c.in_ok-empty.field-0));
  claims = ap (λ (y : YardView). yard_count_of c.args.number y.made) c.in_ok-store.ensures.claims;
}

pub close-requires-clause-joined : goal.close-requires-clause-joined
close-requires-clause-joined c =
    let roots = c.in_ok-store.ensures.roots in
    let n = c.args.number in
    let seats : views_of c.join.new.root ≡ joined_views (with_seats n (map root_view (keys_of c.in_ok-empty.field-0))) (new_views n (map root_view (keys_of c.in_ok-empty.field-0))) =
    c.join.ensures.root_views
    ∙ (ap (λ (vs : List View). joined_views vs (views_of c.stopped-stopped.new.pass)) (c.in_ok-pass.ensures.root_views ∙ ap (with_seats n) roots)
    ∙ ap (joined_views (with_seats n (map root_view (keys_of c.in_ok-empty.field-0))))
    (ap (λ s. views s.items) c.stopped-stopped.ensures.same.seats ∙ (c.in_ok-pass.ensures.made_views ∙ ap (new_views n) roots))) in
    let finds = c.stopped-stopped.ensures.finds in let found = finds.0 in
    let claims = c.join.ensures.root_claims
    ∙ (ap (λ (y : YardView). yard_with_joined y (claims_view c.stopped-stopped.new.pass)) (c.in_ok-pass.ensures.root_claims ∙ ap (λ (y : YardView). yard_with_seat y n) c.in_ok-store.ensures.claims)
    ∙ ap (yard_with_joined (yard_with_seat yard_root_view n)) (finds.1 ∙ ap (λ (y : YardView). with_stop y 0 found) c.in_ok-pass.ensures.made_claims)) in
    record {
      seats = subst (λ (vs : List View). All AllJoined vs) (sym seats) (all_joined n (keys_of c.in_ok-empty.field-0));
      claims = subst YardAllJoined (sym claims) (claims_joined n 0 found);
    }
