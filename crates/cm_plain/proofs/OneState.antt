-- Words represent at most one state.
use Rattle.std.proofs.Common.{◌≡◌, ℕ, ◌+◌, ◌≤◌, List, [], ◌∷◌, Contains, arith, refl, ap, sym, subst, ◌∙◌, inl, inr}
use Rattle.std.proofs.lemmas.List.Elements.{All-contains}
use Rattle.std.proofs.lemmas.Option.{same_Some}
use Rattle.cm_geo.specs.declared.geo.Geo.{Geo}
use Rattle.cm_plain.specs.declared.placed.Placed.{Placed}
use Rattle.cm_plain.specs.declared.reply.Pair.{Pair}
use Rattle.cm_plain.specs.States.{State, chunks_of, pair_of, run_start}
use Rattle.cm_plain.specs.Slots.{Slot, slot_for}
use Rattle.cm_plain.specs.Readings.{entry, reading_at}
use Rattle.cm_plain.specs.Lawful.{Resting, Represents, TierRepresents}
use Rattle.cm_plain.specs.Changes.{entry_at}
use Rattle.cm_plain.proofs.Each.{Pairs}
use Rattle.cm_plain.proofs.Apart.{Rising, chunks_some}
use Rattle.cm_plain.proofs.ListElements.{In, in_from, in_has, in_to}
use Rattle.cm_plain.proofs.Padding.{one_entry}
use Rattle.cm_plain.proofs.OutsideHead.{resting_represents}
use Rattle.cm_plain.proofs.States.{each_rising, is_placed, same_state}
use Rattle.cm_plain.specs.FoundChains.{chain_of}

-- of an entry and a later one, neither is among those behind the other
first_of : (geo : Geo) (x y : Placed) (xs ys : List Placed) → Pairs (Rising geo) (x ∷ xs) → Pairs (Rising geo) (y ∷ ys) → In x (y ∷ ys) → In y (x ∷ xs) → x ≡ y
first_of geo x y xs ys rising rising' (inl e) j = e
first_of geo x y xs ys rising rising' (inr i) (inl e) = sym e
first_of geo x y xs ys rising rising' (inr i) (inr j) =
    let low : Rising geo y x = in_has (Rising geo y) ys x rising'.0 i in
    let high : Rising geo x y = in_has (Rising geo x) xs y rising.0 j in
    absurd (circle (run_start geo x) (chunks_of geo x) (run_start geo y) (chunks_of geo y) (chunks_some geo x) high low)
  where
    circle : (a n b m : ℕ) → 1 ≤ n → a + n ≤ b → b + m ≤ a → ⊥
    circle a n b m h k l = omega arith

-- what is behind the first is behind the first of the same elements
behind_first : (geo : Geo) (x : Placed) (xs ys : List Placed) → Pairs (Rising geo) (x ∷ xs) → ((z : Placed) → In z (x ∷ xs) → In z (x ∷ ys)) → (z : Placed) → In z xs → In z ys
behind_first geo x xs ys rising all z i = (later (all z (inr i)))
  where
    self : (a n : ℕ) → 1 ≤ n → a + n ≤ a → ⊥
    self a n h k = omega arith

    later : In z (x ∷ ys) → In z ys
    later (inr j) = j
    later (inl e) = absurd (self (run_start geo x) (chunks_of geo x) (chunks_some geo x) (subst (λ (w : Placed). Rising geo x w) e (in_has (Rising geo x) xs z rising.0 i)))

-- two lists of the same entries in rising order are one list
pub same_entries : (geo : Geo) (xs ys : List Placed) → Pairs (Rising geo) xs → Pairs (Rising geo) ys → ((z : Placed) → In z xs → In z ys) → ((z : Placed) → In z ys → In z xs) → xs ≡ ys
same_entries geo [] [] rising rising' to from = refl
same_entries geo [] (y ∷ ys) rising rising' to from = absurd (from y (inl refl))
same_entries geo (x ∷ xs) [] rising rising' to from = absurd (to x (inl refl))
same_entries geo (x ∷ xs) (y ∷ ys) rising rising' to from =
    let first : x ≡ y = first_of geo x y xs ys rising rising' (to x (inl refl)) (from y (inl refl)) in
    let to' : (z : Placed) → In z (x ∷ xs) → In z (x ∷ ys) = subst (λ (w : Placed). (z : Placed) → In z (x ∷ xs) → In z (w ∷ ys)) (sym first) to in
    let from' : (z : Placed) → In z (x ∷ ys) → In z (x ∷ xs) = subst (λ (w : Placed). (z : Placed) → In z (w ∷ ys) → In z (x ∷ xs)) (sym first) from in
    let rising'' : Pairs (Rising geo) (x ∷ ys) = subst (λ (w : Placed). Pairs (Rising geo) (w ∷ ys)) (sym first) rising' in
    let rest : xs ≡ ys = same_entries geo xs ys rising.1 rising'.1 (behind_first geo x xs ys rising to') (behind_first geo x ys xs rising'' from') in
    rw (first, rest) refl

-- an entry stands in a tier of the chain
pub in_chain : (geo : Geo) (segment : ℕ) (words : List ℕ) (state : State) (placed : Placed) → Represents geo segment words state → Contains state.entries placed → Contains (chain_of geo words).places placed.place
in_chain geo segment words state placed tells there =
    subst (λ (c : List ℕ). Contains c placed.place) (sym tells.chain) (is_placed tells.is_state placed there).chained

-- a tier's words
pub tier_of : (geo : Geo) (segment : ℕ) (words : List ℕ) (state : State) (place : ℕ) → Represents geo segment words state → Contains (chain_of geo words).places place → TierRepresents geo words state place
tier_of geo segment words state place tells chained =
    All-contains (TierRepresents geo words state) state.chain place tells.tiers (subst (λ (c : List ℕ). Contains c place) tells.chain chained)

-- an entry of a state that words represent is one of every state that they represent
represented_too : (geo : Geo) (segment : ℕ) (words : List ℕ) (one other : State) → Represents geo segment words one → Represents geo segment words other → (placed : Placed) → Contains one.entries placed → Contains other.entries placed
represented_too geo segment words one other tells tells' placed there =
    let point = tells.pointed placed there in
    let tier = tier_of geo segment words other placed.place tells' (in_chain geo segment words one placed tells there) in
    let of = tier.slots point.0 (slot_for geo placed.key placed.chunk) point.1.inside point.1.slot_is in
    let chunk : placed.chunk ≡ of.placed.chunk = same_Some placed.chunk of.placed.chunk (ap (λ (s : Slot). s.chunk) of.slot_is) in
    let stands : reading_at geo words placed.place placed.chunk ≡ entry (pair_of placed) = tells.stand placed there in
    let stands' : reading_at geo words of.placed.place of.placed.chunk ≡ entry (pair_of of.placed) = tells'.stand of.placed of.at.there in
    let same : placed ≡ of.placed = same_placed geo words placed of.placed (sym of.at.place_is) chunk stands stands' in
    subst (λ (p : Placed). Contains other.entries p) (sym same) of.at.there
  where
    same_fields : (p q : Placed) → p.place ≡ q.place → p.chunk ≡ q.chunk → p.key ≡ q.key → p.value ≡ q.value → p ≡ q
    same_fields p q place chunk key value =
        let e : entry_at p.key p.value p.place p.chunk ≡ entry_at q.key q.value q.place q.chunk = rw (key, value, place, chunk) refl in e

    same_placed : (geo : Geo) (words : List ℕ) (p q : Placed) → p.place ≡ q.place → p.chunk ≡ q.chunk
        → reading_at geo words p.place p.chunk ≡ entry (pair_of p) → reading_at geo words q.place q.chunk ≡ entry (pair_of q) → p ≡ q
    same_placed geo words p q place chunk stands stands' =
        let stands'' : reading_at geo words p.place p.chunk ≡ entry (pair_of q) = rw (place, chunk) stands' in
        let pair : pair_of p ≡ pair_of q = one_entry (pair_of p) (pair_of q) (sym stands ∙ stands'') in
        same_fields p q place chunk (ap (λ (pair : Pair). pair.key) pair) (ap (λ (pair : Pair). pair.value) pair)

-- words rest for at most one state
pub resting_once : (geo : Geo) (segment : ℕ) (words : List ℕ) (one other : State) → Resting geo segment words one → Resting geo segment words other → one ≡ other
resting_once geo segment words one other rests rests' =
    let tells = resting_represents geo segment words one rests in
    let tells' = resting_represents geo segment words other rests' in
    let chain : one.chain ≡ other.chain = sym tells.chain ∙ tells'.chain in
    let entries : one.entries ≡ other.entries = same_entries geo one.entries other.entries
    (each_rising tells.is_state) (each_rising tells'.is_state)
    (λ z i. in_from other.entries z (represented_too geo segment words one other tells tells' z (in_to one.entries z i)))
    (λ z i. in_from one.entries z (represented_too geo segment words other one tells' tells z (in_to other.entries z i))) in
    same_state one other chain entries
