use Rattle.cm_store.proofs.Closing.{tables_geo}
use Rattle.cm_store.proofs.store.Store.close.Goals as goal

pub close_all-requires-clause-geos : goal.close_all-requires-clause-geos
close_all-requires-clause-geos c = tables_geo c.args.self.geo c.args.self.tables.items c.args.self.are
