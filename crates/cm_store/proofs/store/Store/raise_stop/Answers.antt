use Rattle.std.proofs.Common.{◌<◌, ◌≢◌, ℕ, ◌∙◌, List, length, sym, ap, subst, slice_index_or}
use Rattle.cm_lock.specs.declared.table.SegSeat.{SegSeat}
use Rattle.cm_lock.specs.Tables.{level_of, view_of}
use Rattle.cm_lock.specs.declared.view.Level.TheVariants.{Free}
use Rattle.cm_yard.specs.Views.{with_raise}
use Rattle.cm_store.specs.Passes.{claims_view}
use Rattle.cm_store.specs.Stops.{RaisesStop, stop_number}
use Rattle.std.proofs.lemmas.List.{length-map}
use Rattle.std.proofs.lemmas.Option.{slice_get_read}
use Rattle.cm_store.specs.Passes.{views_of}
use Rattle.cm_store.proofs.Seats.{read_map}
use Rattle.cm_store.proofs.store.Store.raise_stop.Goals as goal

pub returns-in-Some-clause-raises : goal.returns-in-Some-clause-raises
returns-in-Some-clause-raises g c =
    let seat = c.index.result.now in
    let inside : c.in-Some.at < length c.args.pass.now.seats.items = subst (λ (n : ℕ). c.in-Some.at < n) (ap length c.as_slice.ensures.value) c.in-Some.ensures.inside in
    RaisesStop.held c.in-Some.at (view_of seat)
    (slice_get_read (views_of c.args.pass.now) (length c.args.pass.now.seats.items) c.in-Some.at (view_of seat) (sym (length-map c.args.pass.now.seats.items view_of)) inside
    (sym (read_map view_of c.args.pass.now.seats.items c.in-Some.at seat (view_of seat) inside c.index.ensures)))
    (λ is. subst (λ (l : List SegSeat). (s : SegSeat) → level_of (slice_index_or l c.in-Some.at s) ≢ Free) c.as_slice.ensures.value c.in-Some.ensures.held seat (ap level_of (sym c.index.ensures) ∙ is))
    (c.raise_stop.ensures.raises ∙ ap (λ (n : ℕ). with_raise (claims_view c.args.pass.now) c.in-Some.at n) (c.stop_number-number.ensures.value ∙ ap stop_number c.level.ensures))
