use Rattle.std.proofs.Common.{◌<◌, length, refl, subst, sym, ℕ}
use Rattle.std.proofs.lemmas.Option.{slice_get_read}
use Rattle.cm_store.proofs.store.Store.ground.Goals as goal

pub returns-clause-table : goal.returns-clause-table
returns-clause-table c =
    slice_get_read c.args.self.now.tables.items (length c.args.self.now.tables.items) c.args.segment c.index.result.now refl
    (subst (λ (n : ℕ). c.args.segment < n) (sym c.args.self.now.are.many) c.requires.here) c.index.ensures

pub returns-clause-ground : goal.returns-clause-ground
returns-clause-ground c = record {
  here = c.requires.here;
  table_geo = c.args.self.now.are.geos c.args.segment c.index.result.now (returns-clause-table c);
  table_segment = c.args.self.now.are.segments c.args.segment c.index.result.now (returns-clause-table c);
  yard_geo = c.args.self.now.yard_geo;
}
