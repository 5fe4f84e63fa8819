-- How many entries a state has at most.
use Rattle.std.proofs.Common.{ℕ, ◌+◌, ◌*◌, ◌<◌, ◌≤◌, ◌^◌, List, [], ◌∷◌, length, suc, arith}
use Rattle.std.specs.List.{AllByRecursion}
use Rattle.std.proofs.Math.Nat.{mul-le-mul_left}
use Rattle.cm_geo.specs.declared.geo.Geo.{Geo}
use Rattle.cm_geo.proofs.Ranges.{chunks_range, tiers_range}
use Rattle.cm_plain.specs.declared.placed.Placed.{Placed}
use Rattle.cm_plain.specs.States.{IsChain, IsPlaced, IsState, State, chunks_of, run_end, run_start}
use Rattle.cm_plain.proofs.Each.{Pairs, each_weaker}
use Rattle.cm_plain.proofs.Apart.{Rising, chunks_some}
use Rattle.cm_plain.proofs.States.{each_placed, each_rising, place_low}

-- entries whose runs rise from a chunk to another are no more than the chunks between
pub counted : (geo : Geo) (low top : ℕ) (entries : List Placed) → low ≤ top → Pairs (Rising geo) entries → AllByRecursion (λ entry. low ≤ run_start geo entry) entries
    → AllByRecursion (λ entry. run_end geo entry ≤ top) entries → low + length entries ≤ top
counted geo low top [] within rising above below = omega arith
counted geo low top (entry ∷ entries) within rising above below =
    let later = counted geo (run_end geo entry) top entries below.0 rising.1 rising.0 below.1 in
    step low (run_start geo entry) (chunks_of geo entry) (length entries) top above.0 (chunks_some geo entry) later
  where
    step : (low start chunks more top : ℕ) → low ≤ start → 1 ≤ chunks → start + chunks + more ≤ top → low + suc more ≤ top
    step low start chunks more top h k m = omega arith

-- a run ends within the tiers
ends_within : (geo : Geo) (segment : ℕ) (chain : List ℕ) (entry : Placed) → IsChain geo chain → IsPlaced geo segment chain entry → run_end geo entry ≤ geo.tiers * geo.chunks
ends_within geo segment chain entry is placed =
    by_numbers entry.place geo.tiers geo.chunks entry.chunk (chunks_of geo entry) (place_low is entry.place placed.chained) placed.run.inside
  where
    by_numbers : (place tiers tier chunk chunks : ℕ) → place < tiers → chunk + chunks ≤ tier → place * tier + chunk + chunks ≤ tiers * tier
    by_numbers place tiers tier chunk chunks low inside = grind arith

-- so their number fits 32 bits
pub few_entries : (geo : Geo) (segment : ℕ) (state : State) → IsState geo segment state → length state.entries < 2 ^ 32
few_entries geo segment state is =
    let placed = each_placed is in
    let ends = each_weaker (IsPlaced geo segment state.chain) (λ entry. run_end geo entry ≤ geo.tiers * geo.chunks) (λ entry h. ends_within geo segment state.chain entry is.chain h) state.entries placed in
    let starts = each_weaker (IsPlaced geo segment state.chain) (λ entry. 0 ≤ run_start geo entry) (λ entry h. omega arith) state.entries placed in
    let within_limit = counted geo 0 (geo.tiers * geo.chunks) state.entries (omega arith) (each_rising is) starts ends in
    let chunks : geo.chunks ≤ 4096 = (chunks_range geo).1 in
    let tiers : geo.tiers ≤ 8 = (tiers_range geo).1 in
    omega (arith, within_limit, mul-le-mul_left geo.tiers chunks, tiers)
