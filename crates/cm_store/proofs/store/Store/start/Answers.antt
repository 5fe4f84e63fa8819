use Rattle.std.proofs.Common.{All, List, map, refl, subst, sym, ap}
use Rattle.cm_geo.specs.declared.geo.Geo.{Geo}
use Rattle.cm_yard.specs.declared.view.Key.{Key}
use Rattle.cm_lock.specs.declared.view.View.{View}
use Rattle.cm_lock.specs.Rule.{root_view}
use Rattle.cm_yard.specs.declared.view.View.{View as YardView}
use Rattle.cm_yard.specs.Yards.{view_of as yard_view_of}
use Rattle.cm_store.specs.Balance.{Balances}
use Rattle.cm_store.specs.Splits.{IsRootSeat}
use Rattle.cm_store.specs.Tables.{AreTables, keys_of}
use Rattle.cm_store.proofs.Starting.{starts_balance, starts_root}
use Rattle.cm_store.proofs.Starting.{tables_are}
use Rattle.cm_store.proofs.store.Store.start.Goals as goal

pub invariant_of-store : goal.invariant_of-store
invariant_of-store c = record {
  are = subst (λ (g : Geo). AreTables g c.in_ok-tables.tables.items) (sym c.geo.ensures) (tables_are c.args.words c.in_ok-tables.tables.items c.in_ok-tables.ensures.keys);
  yard_geo = ap (λ (k : Key). k.geo) c.in_ok-yard.ensures.key;
}

pub returns-clause-root : goal.returns-clause-root
returns-clause-root c = record {
  number = refl;
  seats = subst (λ (vs : List View). All IsRootSeat vs) (sym c.in_ok-tables.ensures.roots) (starts_root (keys_of c.args.words));
  claims = ap (λ (y : YardView). y.number) c.in_ok-yard.ensures.root;
}

pub returns-clause-balance : goal.returns-clause-balance
returns-clause-balance c =
    subst (λ (vs : List View). Balances vs (yard_view_of c.in_ok-yard.claims)) (sym c.in_ok-tables.ensures.roots)
    (subst (λ (y : YardView). Balances (map root_view (keys_of c.args.words)) y) (sym c.in_ok-yard.ensures.root) (starts_balance (keys_of c.args.words)))
