-- A map of one segment whose words are all 0 but for a change number may be shared.
use Rattle.std.proofs.Common.{◌≡◌, ℕ, ◌-◌, ◌*◌, ◌<◌, ◌≤◌, List, length, replicate, set, take, drop, sym, ap, ◌∙◌, subst, arith}
use Rattle.std.proofs.lemmas.List.{get_or-set_other, get_or-set_same, length-replicate, length-set, take_all}
use Rattle.cm_geo.specs.declared.geo.Geo.{Geo}
use Rattle.cm_geo.specs.Addresses.{tier_at, words_in_map, words_in_segment}
use Rattle.cm_plain.specs.FoundChains.{FoundChain, chain_of}
use Rattle.cm_plain.specs.Lawful.{Lawful, LawfulApart, Resting}
use Rattle.cm_plain.specs.Slots.{word_at}
use Rattle.cm_plain.specs.States.{one_tier}
use Rattle.cm_plain.specs.Steps.{last_number}
use Rattle.cm_plain.specs.ZeroWords.{zeros}
use Rattle.cm_plain.proofs.OutsideHead.{resting_same}
use Rattle.cm_plain.proofs.ZeroWords.{all_zero, alone_is, zeros_rest}
use Rattle.cm_words.specs.Maps.{MapWords, segment_in, words_before}
use Rattle.cm_words.specs.LawfulMaps.{IsLawfulMap, IsLawfulSegment}
use Rattle.cm_store.proofs.Sums.{sum_zero}

module _ (geo : Geo) (number : ℕ) where
  numbered : List ℕ
  numbered = set (zeros geo 0) 1 (2 * number)

  abbrev numbered_map : MapWords
  numbered_map = record { geo = geo; words = set (replicate (words_in_map geo) 0) 1 (2 * number) }

  apart : LawfulApart geo 0 (set (zeros geo 0) 1 (2 * number)) one_tier
  unfolding Resting
  apart = resting_same geo 0 (zeros geo 0) 1 (2 * number) one_tier (omega arith) (zeros_rest geo 0)

  no_next : word_at (set (zeros geo 0) 1 (2 * number)) (tier_at geo 0) ≡ 0
  unfolding tier_at
  no_next = get_or-set_other (zeros geo 0) 1 (tier_at geo 0) (2 * number) 0 (λ e. omega (arith, e)) ∙ all_zero (words_in_segment geo) (tier_at geo 0)

  module _ (one : geo.segments ≡ 1) (inside : 1 < words_in_map geo) where
    whole : words_in_map geo ≡ words_in_segment geo
    whole = ap (λ (n : ℕ). n * words_in_segment geo) one ∙ omega arith

    long : length (set (zeros geo 0) 1 (2 * number)) ≡ words_in_segment geo
    long = length-set (zeros geo 0) 1 (2 * number) ∙ length-replicate (words_in_segment geo) 0

    segment_is : segment_in numbered_map 0 ≡ set (zeros geo 0) 1 (2 * number)
    segment_is =
        let first : words_before geo 0 ≡ 0 = omega arith in
        ap (λ (ws : List ℕ). take (words_in_segment geo) (drop (words_before geo 0) ws)) (ap (λ (n : ℕ). set (replicate n 0) 1 (2 * number)) whole)
        ∙ (ap (λ (n : ℕ). take (words_in_segment geo) (drop n (set (zeros geo 0) 1 (2 * number)))) first
        ∙ take_all (words_in_segment geo) (set (zeros geo 0) 1 (2 * number)) (let l = long in omega arith))

    lawful : number ≤ last_number → Lawful geo 0 (set (zeros geo 0) 1 (2 * number)) number one_tier
    lawful small = record {
      lock = get_or-set_other (zeros geo 0) 1 0 (2 * number) 0 (λ e. omega (arith, e)) ∙ all_zero (words_in_segment geo) 0;
      number_is = get_or-set_same (zeros geo 0) 1 (2 * number) 0 (let l : length (zeros geo 0) ≡ words_in_segment geo = length-replicate {A = ℕ} (words_in_segment geo) 0 in let w : words_in_map geo ≡ words_in_segment geo = whole in let i : 1 < words_in_map geo = inside in omega arith);
      number_within_limit = small;
      apart = apart;
    }

    none_linked : length (chain_of geo (segment_in numbered_map 0)).places - 1 ≡ 0
    none_linked =
        ap (λ (ws : List ℕ). length (chain_of geo ws).places - 1) segment_is
        ∙ ap (λ (c : FoundChain). length c.places - 1) (alone_is geo (set (zeros geo 0) 1 (2 * number)) no_next)

    pub numbered_lawful : number ≤ last_number → IsLawfulMap (record { geo = geo; words = set (replicate (words_in_map geo) 0) 1 (2 * number) })
    numbered_lawful small = record {
      segments = λ segment below. subst (λ (n : ℕ). IsLawfulSegment geo n (segment_in numbered_map n)) (is_zero segment below)
          (number, one_tier, subst (λ (ws : List ℕ). Lawful geo 0 ws number one_tier) (sym segment_is) (lawful small));
      allowance = let s = sum_zero (λ segment. length (chain_of geo (segment_in numbered_map segment)).places - 1) geo.segments
          (λ k below. subst (λ (n : ℕ). length (chain_of geo (segment_in numbered_map n)).places - 1 ≡ 0) (is_zero k below) none_linked) in omega arith;
    }
      where
        is_zero : (segment : ℕ) → segment < geo.segments → 0 ≡ segment
        is_zero segment below = let e = one in omega arith
