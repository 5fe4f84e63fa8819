use Rattle.std.proofs.Common.{All, List, ap, sym, subst, ◌∙◌}
use Rattle.cm_lock.specs.declared.view.View.{View}
use Rattle.cm_yard.specs.declared.view.View.{View as YardView}
use Rattle.cm_store.specs.Passes.{views}
use Rattle.cm_store.specs.Splits.{IsRootSeat}
use Rattle.cm_store.proofs.Splitting.{root_splits}
use Rattle.cm_store.proofs.store.Store.split.Goals as goal

pub returns-clause-root : goal.returns-clause-root
returns-clause-root g c = record {
  number = c.requires.root.number;
  seats = subst (λ (l : List View). All IsRootSeat l) (sym c.split_seats.ensures.roots) (root_splits c.args.number (views c.args.root.now.seats.items) c.requires.root.seats);
  claims = ap (λ (y : YardView). y.number) c.split-claims.ensures.view ∙ c.requires.root.claims;
}
