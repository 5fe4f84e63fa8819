-- What a step of a sweep leaves of its seat where the raise failed, or died.
use Rattle.std.proofs.Common.{◌≡◌, ◌∙◌, ℕ, List, Err, ap}
use Rattle.cm_plain.specs.declared.op.Op.{Op}
use Rattle.cm_lock.specs.declared.take.Stop.{Stop}
use Rattle.cm_lock.specs.declared.take.Stop.TheVariants.{Busy, Died}
use Rattle.cm_lock.specs.declared.view.Level.TheVariants.{Update, Write}
use Rattle.cm_lock.specs.declared.view.View.{View}
use Rattle.cm_yard.specs.declared.view.View.{View as YardView}
use Rattle.cm_turn.specs.Calls.{Fails, IsRefused, Leaves, SettlesFrom, StaysUpdate}
use Rattle.cm_turn.specs.Records.{HasLooked, Holds}
use Rattle.cm_turn.proofs.Endings.{nothing_by_look, nothing_then, owing_asked}

-- the raise failed behind a look
pub busy_fails : (v u x : View) (y z : YardView) → HasLooked v u → Holds Update v → StaysUpdate u x → z ≡ y → Fails (Holds Update) v x y z
busy_fails v u x y z looked holds stays same = record {
  adds = nothing_then v u (nothing_by_look v u looked) x stays.adds;
  ends = record {
    level_is = ap (λ h. h.level) stays.own ∙ (ap (λ (k : View). k.own.level) looked.view ∙ holds.level_is);
    idle = ap (λ h. h.plan) stays.own ∙ looked.idle;
    closed = stays.round ∙ (ap (λ (k : View). k.round) looked.view ∙ holds.closed);
  };
  claims = same;
}

-- behind a look, what was found was not settled
pub unsettled_leaves : (tries segment extra : ℕ) (asked named : Op) (out : List ℕ) (v u x : View) (y z : YardView) (stop : Stop) → HasLooked v u → Holds Update v → asked ≡ named
    → SettlesFrom tries segment extra asked out u x y z (Err stop) → Leaves (Holds Update) (IsRefused Update Write tries) segment extra named out v x y z (Err stop)
unsettled_leaves tries segment extra asked named out v u x y z (Busy looks last) looked holds asks s = (busy_fails v u x y z looked holds s.0 s.2, s.1)
unsettled_leaves tries segment extra asked named out v u x y z Died looked holds asks s = owing_asked segment named asked v u x y z (nothing_by_look v u looked) asks s
