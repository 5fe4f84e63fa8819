use Rattle.std.proofs.Common.{◌≡◌, ℕ, ◌∙◌, get_or, sym, ap, subst, inl, inr, arith, rules}
use Rattle.std.proofs.lemmas.Bool.{cases_eq}
use Rattle.cm_lock.specs.declared.view.Level.TheVariants.{Free}
use Rattle.cm_lock.specs.declared.view.View.{View}
use Rattle.cm_lock.specs.Tables.{view_of}
use Rattle.cm_store.specs.Passes.{views}
use Rattle.cm_store.proofs.Seats.{read_map}
use Rattle.cm_store.proofs.stops.held_seat.Goals as goal

free : (c : goal.Else-ne) → c.level.result ≡ Free
free c = search rules

pub loop-at-preserved : goal.loop-at-preserved
loop-at-preserved c k d below = elim (cases_eq k c.loop-at.at) [
  | inl here ↦ subst (λ (j : ℕ). (get_or (views c.args.seats.now) j d).own.level ≡ Free) (sym here)
      (ap (λ (v : View). v.own.level) (read_map view_of c.args.seats.now c.loop-at.at c.index-seats-at.result d c.loop-at-test.true c.index-seats-at.is) ∙ (sym c.level.ensures ∙ free c))
  | inr ne ↦ c.loop-at.invariant k d (omega arith)
]
