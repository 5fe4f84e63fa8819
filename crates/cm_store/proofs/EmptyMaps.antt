-- A map whose words are all 0 may be shared.
use Rattle.std.proofs.Common.{◌≡◌, ℕ, ◌-◌, ◌<◌, ◌≤◌, List, length, replicate, take, drop, sum_by, sym, ap, ◌∙◌, subst, arith}
use Rattle.std.specs.List.{range_with_len}
use Rattle.std.proofs.lemmas.List.{drop-replicate, take-replicate}
use Rattle.cm_geo.specs.declared.geo.Geo.{Geo}
use Rattle.cm_geo.specs.Addresses.{words_in_map, words_in_segment}
use Rattle.cm_plain.specs.FoundChains.{FoundChain, chain_of}
use Rattle.cm_plain.specs.Lawful.{Lawful}
use Rattle.cm_plain.specs.States.{one_tier}
use Rattle.cm_plain.specs.ZeroWords.{zeros}
use Rattle.cm_plain.proofs.ZeroWords.{all_zero, alone, zeros_lawful}
use Rattle.cm_words.specs.Maps.{segment_in, words_before}
use Rattle.cm_words.proofs.MapPlaces.{segment_inside}
use Rattle.cm_words.specs.LawfulMaps.{IsLawfulMap}
use Rattle.cm_store.proofs.Sums.{sum_zero}

module _ (geo : Geo) where
  segment_is : (segment : ℕ) → segment < geo.segments → take (words_in_segment geo) (drop (words_before geo segment) (replicate (words_in_map geo) 0)) ≡ zeros geo segment
  segment_is segment below =
      let inside = (segment_inside geo segment below).0 in
      ap (take (words_in_segment geo)) (drop-replicate (words_before geo segment) (words_in_map geo) 0)
      ∙ take-replicate (words_in_segment geo) (words_in_map geo - words_before geo segment) 0 (omega arith)

  lawful : (segment : ℕ) → Lawful geo segment (zeros geo segment) 0 one_tier
  lawful segment = record {
    lock = all_zero (words_in_segment geo) 0;
    number_is = all_zero (words_in_segment geo) 1;
    number_within_limit = omega arith;
    apart = zeros_lawful geo segment;
  }

  none_linked : (segment : ℕ) → segment < geo.segments → length (chain_of geo (segment_in (record { geo = geo; words = replicate (words_in_map geo) 0 }) segment)).places - 1 ≡ 0
  none_linked segment below =
      ap (λ (ws : List ℕ). length (chain_of geo ws).places - 1) (segment_is segment below) ∙ ap (λ (c : FoundChain). length c.places - 1) (alone geo segment)

  pub empty_lawful : IsLawfulMap (record { geo = geo; words = replicate (words_in_map geo) 0 })
  empty_lawful = record {
    segments = λ segment below. (0, one_tier, subst (λ (ws : List ℕ). Lawful geo segment ws 0 one_tier) (sym (segment_is segment below)) (lawful segment));
    allowance = let s = sum_none geo.segments (λ k below. none_linked k below) in omega arith;
  }
    where
      sum_none : (n : ℕ) → ((k : ℕ) → k < n → length (chain_of geo (segment_in (record { geo = geo; words = replicate (words_in_map geo) 0 }) k)).places - 1 ≡ 0)
          → sum_by (λ segment. length (chain_of geo (segment_in (record { geo = geo; words = replicate (words_in_map geo) 0 }) segment)).places - 1) (range_with_len 0 n) ≤ 0
      sum_none n none = sum_zero (λ segment. length (chain_of geo (segment_in (record { geo = geo; words = replicate (words_in_map geo) 0 }) segment)).places - 1) n none
