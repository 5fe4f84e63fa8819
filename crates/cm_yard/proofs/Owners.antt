-- The words of a yard at the start.
use Rattle.std.proofs.Common.{◌≡◌, ℕ, zero, suc, ◌+◌, ◌-◌, ◌*◌, ◌<◌, ◌≤◌, List, [], ◌∷◌, ◌++◌, All, drop, take, length, get_or, count_by, nat_lt, sum, replicate, refl, sym, ap, ◌∙◌, subst, append_assoc, arith, length-append}
use Rattle.std.proofs.lemmas.List.{append-nil, get_or-append-add, get_or_append_left, get_or-replicate, length-replicate}
use Rattle.std.proofs.lemmas.List.Elements.{All-append, All-replicate, All-weaker}
use Rattle.std.proofs.lemmas.List.Folds.{sum_by-replicate}
use Rattle.std.proofs.lemmas.List.Sums.{sum_by-append, sum_by-cons, sum_by-take-le}
use Rattle.std.proofs.Math.Seq.{drop-append_seam, take-length}
use Rattle.cm_geo.specs.declared.geo.Geo.{Geo}
use Rattle.cm_yard.specs.Rule.{owners_of}
use Rattle.cm_yard.specs.Words.{claim_at, first_words, owned_in, owners_from, words_in_yard}
use Rattle.cm_yard.proofs.Claiming.{owners_one}

-- n copies are n
pub replicate_long : (n word : ℕ) → length (replicate n word) ≡ n
replicate_long n word = length-replicate n word

-- there are as many owners as linked tiers
owners_length : (segment : ℕ) (linked : List ℕ) → length (owners_from segment linked) ≡ sum linked
owners_length segment [] = refl
owners_length segment (n ∷ ns) =
    let r = owners_length (segment + 1) ns in
    let a = length-append (replicate n (segment + 1)) (owners_from (segment + 1) ns) in
    let l = replicate_long n (segment + 1) in
    let c = sum_by-cons (λ (x : ℕ). x) n ns in
    omega arith

-- each of these words is owned
owners_owned : (segment : ℕ) (linked : List ℕ) → count_by (λ word. nat_lt 0 word) (owners_from segment linked) ≡ sum linked
owners_owned segment [] = refl
owners_owned segment (n ∷ ns) =
    let r = owners_owned (segment + 1) ns in
    let a = sum_by-append owners_of (replicate n (segment + 1)) (owners_from (segment + 1) ns) in
    let l = sum_by-replicate owners_of n (segment + 1) in
    let one = owners_one (segment + 1) (λ e. absurd (omega arith)) in
    let p : n * owners_of (segment + 1) ≡ n = ap (λ (x : ℕ). n * x) one ∙ times_one n in
    let c = sum_by-cons (λ (x : ℕ). x) n ns in
    omega arith
  where
    times_one : (a : ℕ) → a * 1 ≡ a
    times_one a = omega arith

-- each names a segment that is there
owners_small : (segment : ℕ) (linked : List ℕ) → All (λ (word : ℕ). word ≤ segment + length linked) (owners_from segment linked)
owners_small segment [] = λ k d less. absurd (omega arith)
owners_small segment (n ∷ ns) =
    All-append (λ (word : ℕ). word ≤ segment + length (n ∷ ns)) (replicate n (segment + 1)) (owners_from (segment + 1) ns)
    (All-replicate (λ (word : ℕ). word ≤ segment + length (n ∷ ns)) n (segment + 1) (omega arith))
    (All-weaker (λ (word : ℕ). word ≤ (segment + 1) + length ns) (λ (word : ℕ). word ≤ segment + length (n ∷ ns)) (λ word within. omega arith) (owners_from (segment + 1) ns) (owners_small (segment + 1) ns))

module _ (geo : Geo) (linked : List ℕ) (long : length linked ≡ geo.segments) (within : sum linked ≤ geo.extra) where
  -- they are as many as a yard has
  pub first_length : length (first_words geo linked) ≡ words_in_yard geo
  first_length =
      let a = length-append (replicate geo.segments 0) (owners_from 0 linked ++ replicate (geo.extra - sum linked) 0) in
      let b = length-append (owners_from 0 linked) (replicate (geo.extra - sum linked) 0) in
      let c = replicate_long geo.segments 0 in
      let d = replicate_long (geo.extra - sum linked) 0 in
      let e = owners_length 0 linked in
      omega arith

  -- as many are owned as tiers are linked
  pub first_owned : owned_in geo (first_words geo linked) ≡ sum linked
  first_owned =
      let c = replicate_long geo.segments 0 in
      let rest : List ℕ = owners_from 0 linked ++ replicate (geo.extra - sum linked) 0 in
      let seam : drop geo.segments (first_words geo linked) ≡ rest = subst (λ (n : ℕ). drop n (replicate geo.segments 0 ++ rest) ≡ rest) c (drop-append_seam (replicate geo.segments 0) rest) in
      let a = sum_by-append owners_of (owners_from 0 linked) (replicate (geo.extra - sum linked) 0) in
      let o = owners_owned 0 linked in
      let z = sum_by-replicate owners_of (geo.extra - sum linked) 0 in
      let n : (geo.extra - sum linked) * owners_of 0 ≡ 0 = times_none (geo.extra - sum linked) in
      ap (count_by (λ word. nat_lt 0 word)) seam ∙ (omega arith)
    where
      times_none : (a : ℕ) → a * 0 ≡ 0
      times_none a = omega arith

  -- a claim word names no segment that isn't there
  pub first_few : (index : ℕ) → index < geo.extra → claim_at geo (first_words geo linked) index ≤ geo.segments
  first_few index inside =
      let c = replicate_long geo.segments 0 in
      let rest : List ℕ = owners_from 0 linked ++ replicate (geo.extra - sum linked) 0 in
      let at : claim_at geo (first_words geo linked) index ≡ get_or rest index 0 = subst (λ (n : ℕ). get_or (replicate geo.segments 0 ++ rest) (n + index) 0 ≡ get_or rest index 0) c (get_or-append-add (replicate geo.segments 0) rest index 0) in
      let b = length-append (owners_from 0 linked) (replicate (geo.extra - sum linked) 0) in
      let d = replicate_long (geo.extra - sum linked) 0 in
      let e = owners_length 0 linked in
      let all : All (λ (word : ℕ). word ≤ geo.segments) rest = All-append (λ (word : ℕ). word ≤ geo.segments) (owners_from 0 linked) (replicate (geo.extra - sum linked) 0)
      (All-weaker (λ (word : ℕ). word ≤ 0 + length linked) (λ (word : ℕ). word ≤ geo.segments) (λ word h. omega arith) (owners_from 0 linked) (owners_small 0 linked))
      (All-replicate (λ (word : ℕ). word ≤ geo.segments) (geo.extra - sum linked) 0 (omega arith)) in
      let here = all index 0 (omega arith) in
      omega arith

  -- no stop word is raised
  pub first_stops : (segment : ℕ) → segment < geo.segments → get_or (first_words geo linked) segment 0 ≡ 0
  first_stops segment here =
      let c = replicate_long geo.segments 0 in
      get_or_append_left (replicate geo.segments 0) (owners_from 0 linked ++ replicate (geo.extra - sum linked) 0) 0 segment (subst (λ (n : ℕ). segment < n) (sym c) here) ∙ get_or-replicate geo.segments segment 0 0 here

-- the owners of one segment more
pub owners_more : (segment : ℕ) (linked : List ℕ) (i : ℕ) → i < length linked → owners_from segment (take (suc i) linked) ≡ owners_from segment (take i linked) ++ replicate (get_or linked i 0) (segment + suc i)
owners_more segment [] i less = absurd (omega arith)
owners_more segment (n ∷ ns) zero less = append-nil (replicate n (segment + 1))
owners_more segment (n ∷ ns) (suc i) less =
    let r = owners_more (segment + 1) ns i (omega arith) in
    let e : (segment + 1) + suc i ≡ segment + suc (suc i) = omega arith in
    ap (λ (t : List ℕ). replicate n (segment + 1) ++ t) r
    ∙ (sym (append_assoc (replicate n (segment + 1)) (owners_from (segment + 1) (take i ns)) (replicate (get_or ns i 0) ((segment + 1) + suc i)))
    ∙ ap (λ (w : ℕ). (replicate n (segment + 1) ++ owners_from (segment + 1) (take i ns)) ++ replicate (get_or ns i 0) w) e)

-- a front of the words at the start is no longer than all of them
pub owners_fit : (linked : List ℕ) (i : ℕ) → length (owners_from 0 (take i linked)) ≤ sum linked
owners_fit linked i = let l = owners_length 0 (take i linked) in let t = sum_by-take-le (λ (x : ℕ). x) linked i in omega arith

-- words that stand before the owners go on to one segment more
pub owners_next : (before linked : List ℕ) (i : ℕ) → i < length linked → (before ++ owners_from 0 (take i linked)) ++ replicate (get_or linked i 0) (i + 1) ≡ before ++ owners_from 0 (take (i + 1) linked)
owners_next before linked i less =
    let one : suc i ≡ i + 1 = omega arith in
    let owner : i + 1 ≡ 0 + suc i = omega arith in
    append_assoc before (owners_from 0 (take i linked)) (replicate (get_or linked i 0) (i + 1))
    ∙ (ap (λ (w : ℕ). before ++ (owners_from 0 (take i linked) ++ replicate (get_or linked i 0) w)) owner
    ∙ (ap (λ (t : List ℕ). before ++ t) (sym (owners_more 0 linked i less))
    ∙ ap (λ (n : ℕ). before ++ owners_from 0 (take n linked)) one))

-- the words are complete once all segments and what is left were pushed
pub owners_done : (geo : Geo) (linked words : List ℕ) (i len : ℕ) → i ≡ length linked → length words ≡ len → words ≡ replicate geo.segments 0 ++ owners_from 0 (take i linked)
    → words ++ replicate ((geo.segments + geo.extra) - len) 0 ≡ first_words geo linked
owners_done geo linked words i len whole long is =
    let all : take i linked ≡ linked = subst (λ (n : ℕ). take n linked ≡ linked) (sym whole) (take-length linked) in
    let now : words ≡ replicate geo.segments 0 ++ owners_from 0 linked = is ∙ ap (λ (t : List ℕ). replicate geo.segments 0 ++ owners_from 0 t) all in
    let a = length-append (replicate geo.segments 0) (owners_from 0 linked) in
    let b = replicate_long geo.segments 0 in
    let c = owners_length 0 linked in
    let d : length words ≡ length (replicate geo.segments 0 ++ owners_from 0 linked) = ap length now in
    let rest : (geo.segments + geo.extra) - len ≡ geo.extra - sum linked = omega arith in
    ap (λ (n : ℕ). words ++ replicate n 0) rest
    ∙ (ap (λ (t : List ℕ). t ++ replicate (geo.extra - sum linked) 0) now ∙ append_assoc (replicate geo.segments 0) (owners_from 0 linked) (replicate (geo.extra - sum linked) 0))

-- there is room for what is left
pub owners_room : (geo : Geo) (linked words : List ℕ) (i : ℕ) → sum linked ≤ geo.extra → words ≡ replicate geo.segments 0 ++ owners_from 0 (take i linked) → length words ≤ geo.segments + geo.extra
owners_room geo linked words i within is =
    let a = length-append (replicate geo.segments 0) (owners_from 0 (take i linked)) in
    let b = replicate_long geo.segments 0 in
    let c = owners_fit linked i in
    let d : length words ≡ length (replicate geo.segments 0 ++ owners_from 0 (take i linked)) = ap length is in
    omega arith
