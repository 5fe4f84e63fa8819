-- Two entries of one state: they are one, or their runs are apart and their keys differ.
use Rattle.std.proofs.Common.{◌≡◌, ◌≢◌, ℕ, ◌⊎◌, List, ap, sym, inl, inr}
use Rattle.std.proofs.lemmas.List.Elements.{recursion_from_All}
use Rattle.cm_geo.specs.declared.geo.Geo.{Geo}
use Rattle.cm_plain.specs.declared.placed.Placed.{Placed}
use Rattle.cm_plain.specs.States.{IsPlaced, IsState, State}
use Rattle.cm_plain.proofs.Apart.{IsApart, Rising}
use Rattle.cm_plain.proofs.Each.{Pairs}
use Rattle.cm_plain.proofs.States.{Differs}
use Rattle.cm_plain.proofs.ListElements.{In, in_has, one_or_pair}

-- entries with different keys have runs apart
pub apart_in : (geo : Geo) (entries : List Placed) (one other : Placed) → Pairs (Rising geo) entries → In one entries → In other entries → one.key ≢ other.key → IsApart geo one other
apart_in geo entries one other rising i j ne = elim (one_or_pair (Rising geo) entries one other rising i j) [
  | inl same ↦ absurd (ne (ap (λ (p : Placed). p.key) same))
  | inr apart ↦ apart
]

-- entries with one key are one
pub same_in : (entries : List Placed) (one other : Placed) → Pairs Differs entries → In one entries → In other entries → one.key ≡ other.key → one ≡ other
same_in entries one other differ i j same = elim (one_or_pair Differs entries one other differ i j) [
  | inl is ↦ is
  | inr apart ↦ absurd (clash apart)
]
  where
    clash : Differs one other ⊎ Differs other one → ⊥
    clash (inl ne) = ne same
    clash (inr ne) = ne (sym same)

-- an entry of a state is placed
pub placed_in : (geo : Geo) (segment : ℕ) (state : State) (placed : Placed) → IsState geo segment state → In placed state.entries → IsPlaced geo segment state.chain placed
placed_in geo segment state placed is i =
    in_has (IsPlaced geo segment state.chain) state.entries placed (recursion_from_All (IsPlaced geo segment state.chain) state.entries is.placed) i
