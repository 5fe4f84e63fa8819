-- What is left at the end (own).
use Rattle.std.specs.Prelude.{ℕ, ◌≡◌, All, Contains, List, [], ◌∷◌, length}
use Rattle.cm_yard.specs.declared.view.Key.{Key}
use Rattle.cm_yard.specs.declared.view.View.{View}
use Rattle.cm_yard.specs.Rule.{AreClaims, AreStops, CountsExchanges}
use Rattle.cm_yard.specs.Words.{words_in_yard}

-- every seat that the root made was joined
abbrev pub AllJoined : View → Type 0
AllJoined v = All (Contains v.joined) v.made

-- the words at the end, of which the root alone has noted something
pub record Closes (key : Key) (v : View) (words : List ℕ) : Type 0 where
  pub length_is : length words ≡ words_in_yard key.geo
  pub claims : AreClaims key.geo key.first words (v ∷ [])
  pub counts : CountsExchanges v
  pub stops : AreStops key.geo words (v ∷ [])
