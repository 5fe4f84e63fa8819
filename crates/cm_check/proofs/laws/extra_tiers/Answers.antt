-- A chain has 1 to 8 tiers.
use Rattle.std.proofs.Common.{ℕ, List, length, arith, ap}
use Rattle.cm_geo.proofs.Ranges.{tiers_range}
use Rattle.cm_check.specs.Quiets.{geo_of}
use Rattle.cm_check.proofs.QuietReads.{chain_is, places_some}
use Rattle.cm_check.proofs.laws.extra_tiers.Goals as goal

pub overflow_cast-result : goal.overflow_cast-result
overflow_cast-result c = omega (arith, ap (λ (xs : List ℕ). length xs) c.places.ensures, (chain_is c.args.quiet.now).within_limit, tiers_range (geo_of c.args.quiet.now))

pub overflow_sub-result : goal.overflow_sub-result
overflow_sub-result c = omega (arith, ap (λ (xs : List ℕ). length xs) c.places.ensures, places_some (chain_is c.args.quiet.now))

pub returns-clause-below_eight : goal.returns-clause-below_eight
returns-clause-below_eight c = omega (arith, ap (λ (xs : List ℕ). length xs) c.places.ensures, (chain_is c.args.quiet.now).within_limit, tiers_range (geo_of c.args.quiet.now))
