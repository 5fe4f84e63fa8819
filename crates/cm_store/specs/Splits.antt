-- Passes that the root splits off, and takes back (own).
use Rattle.std.specs.Prelude.{ℕ, ◌≡◌, All, List, map}
use Rattle.std.specs.List.{zip}
use Rattle.cm_lock.specs.declared.view.View.{View}
use Rattle.cm_lock.specs.Seats.{count_of}
use Rattle.cm_lock.specs.Views.{new_view, with_joined, with_seat}
use Rattle.cm_yard.specs.Rule.{count_of as yard_count_of}
use Rattle.cm_store.specs.declared.pass.Pass.{Pass}
use Rattle.cm_store.specs.Passes.{claims_view, views_of}

-- a seat of the root
abbrev pub IsRootSeat : View → Type 0
IsRootSeat v = v.own.number ≡ 64

-- the root pass, and all its seats, have number 64
pub record IsRoot {F : Type 0} (pass : Pass F) : Type 0 where
  pub number : pass.number ≡ 64
  pub seats : All IsRootSeat (views_of pass)
  pub claims : (claims_view pass).number ≡ 64

-- a seat of the root, which made none of this number
pub record MayMake (number : ℕ) (v : View) : Type 0 where
  pub root : IsRootSeat v
  pub never : count_of number v.made ≡ 0

-- the root made no pass of this number
pub record HasNotMade {F : Type 0} (number : ℕ) (pass : Pass F) : Type 0 where
  pub seats : All (λ (v : View). count_of number v.made ≡ 0) (views_of pass)
  pub claims : yard_count_of number (claims_view pass).made ≡ 0

-- the views of a root that made a pass of this number
abbrev pub with_seats : ℕ → List View → List View
with_seats number roots = map (λ (v : View). with_seat v number) roots

-- the views of a pass of this number, which has seen what the root has seen
abbrev pub new_views : ℕ → List View → List View
new_views number roots = map (λ (v : View). new_view number v.seen) roots

-- the views of a root that took over, segment by segment, what a pass has
abbrev pub joined_views : List View → List View → List View
joined_views roots others = map (λ (p : View × View). with_joined p.0 p.1) (zip roots others)
