-- The slots of a tier, and then those of all tiers, are settled one after the other.
use Rattle.std.proofs.Common.{◌≡◌, ◌≢◌, ℕ, zero, suc, ◌+◌, ◌/◌, ◌%◌, ◌^◌, ◌<◌, ◌≤◌, ◌==◌, false, List, [], ◌∷◌, ◌++◌, length, take, get_or, Some, refl, ap, sym, subst, ◌∙◌, arith, add-one}
use Rattle.std.specs.List.{filter_map, flat_map, range_with_len}
use Rattle.std.proofs.lemmas.Bool.Decides.{nat_tests}
use Rattle.std.proofs.lemmas.List.Elements.{filter_map-append}
use Rattle.std.proofs.lemmas.Grind.{flat_map-append}
use Rattle.std.proofs.lemmas.List.{append-nil}
use Rattle.std.proofs.lemmas.List.Sums.{fold-append}
use Rattle.std.proofs.Math.Seq.{take-suc}
use Rattle.cm_geo.specs.declared.geo.Geo.{Geo}
use Rattle.cm_geo.specs.Addresses.{slot_at}
use Rattle.cm_plain.specs.Slots.{Slot, chunk_of_half, slot_in, slot_of_word, word_at}
use Rattle.cm_words.specs.Memory.{MemSeen}
use Rattle.cm_words.specs.Effects.{Changes}
use Rattle.cm_words.specs.Calls.{HasDone}
use Rattle.cm_words.proofs.CallSequences.{done_then, loaded_none}
use Rattle.cm_words.proofs.ListChanges.{changes_as, changes_none, changes_then}
use Rattle.cm_recover.specs.declared.cause.Cause.{Cause}
use Rattle.cm_recover.specs.declared.tally.Tally.{Tally}
use Rattle.cm_recover.specs.OccupiedSlots.{OccupiedSlot, occupied_at, occupied_in}
use Rattle.cm_recover.specs.Judgements.{judgement}
use Rattle.cm_recover.specs.KeptSlots.{KeptEntries, kept_of, kept_with}
use Rattle.cm_recover.specs.Tallies.{count_for}
use Rattle.cm_recover.specs.Rebuilding.{CountsWithin, HasCome, IsSoFar, Settles, SettlesAll, SettlesTier}

-- ---- over a memory

-- nothing was done yet
pub changed_none : {M : Type 0} (seen : M → MemSeen) (rest : M → M → Type 0) (R : List ℕ → List ℕ → Type 0) (m : M) → rest m m
    → ((words : List ℕ) → R words words)
    → HasDone seen rest (λ old now. Changes old now R) m m
changed_none seen rest R m still same =
    let none = loaded_none seen rest m still in
    record { rest = none.rest; survives = none.survives; done = changes_none (seen m) (seen m) R none.done same }

-- this was done, which is that
pub changed_as : {M : Type 0} (seen : M → MemSeen) (rest : M → M → Type 0) (R Q : List ℕ → List ℕ → Type 0) (a b : M)
    → ((before words : List ℕ) → R before words → Q before words)
    → HasDone seen rest (λ old now. Changes old now R) a b → HasDone seen rest (λ old now. Changes old now Q) a b
changed_as seen rest R Q a b so
    done = record {
      rest = done.rest;
      survives = done.survives;
      done = changes_as (seen a) (seen b) R Q done.done
          (λ before words fits r. so before words r);
    }

-- this was done, and then that
pub changed_then : {M : Type 0} (seen : M → MemSeen) (rest : M → M → Type 0) (R Q S : List ℕ → List ℕ → Type 0) (a b c : M)
    → (rest a b → rest b c → rest a c)
    → ((before mid words : List ℕ) → R before mid → Q mid words → S before words)
    → HasDone seen rest (λ old now. Changes old now R) a b → HasDone seen rest (λ old now. Changes old now Q) b c
    → HasDone seen rest (λ old now. Changes old now S) a c
changed_then seen rest R Q S a b c on both p q =
    done_then seen rest (λ old now. Changes old now R) (λ old now. Changes old now Q) (λ old now. Changes old now S) a b c on p q
    (λ one two. changes_then (seen a) (seen b) (seen c) R Q S one two (λ before mid words fits r s. both before mid words r s))

-- ---- the slots of a tier

-- those below a number were settled
abbrev pub SettlesBelow : Geo → ℕ → List ℕ → ℕ → List ℕ → ℕ → Tally → Tally → List ℕ → List ℕ → Type 0
SettlesBelow geo segment places place old number tally settled before words =
    (kept : KeptEntries) → HasCome geo segment old places kept tally before
    → HasCome geo segment old places
    (kept_of geo segment old places kept (filter_map (occupied_at geo old place) (range_with_len 0 number))) settled words

pub below_none : (geo : Geo) (segment : ℕ) (places : List ℕ) (place : ℕ) (old : List ℕ) (tally : Tally) (words : List ℕ)
    → SettlesBelow geo segment places place old 0 tally tally words words
below_none geo segment places place old tally words kept come = come

range_last : (low count : ℕ) → range_with_len low (suc count) ≡ range_with_len low count ++ (low + count) ∷ []
range_last low zero = (let e : low + 0 ≡ low = omega arith in rw e refl)
range_last low (suc count) =
    let e : low + 1 + count ≡ low + suc count = omega arith in
    ap (λ (r : List ℕ). low ∷ r) (range_last (low + 1) count ∙ ap (λ (n : ℕ). range_with_len (low + 1) count ++ n ∷ []) e)

-- one more number
occupied_more : (geo : Geo) (old : List ℕ) (place number : ℕ) → filter_map (occupied_at geo old place) (range_with_len 0 (number + 1))
    ≡ filter_map (occupied_at geo old place) (range_with_len 0 number) ++ filter_map (occupied_at geo old place) (number ∷ [])
occupied_more geo old place number =
    let e : 0 + number ≡ number = omega arith in
    ap (λ (n : ℕ). filter_map (occupied_at geo old place) (range_with_len 0 n)) (add-one number)
    ∙ (ap (filter_map (occupied_at geo old place)) (range_last 0 number ∙ ap (λ (n : ℕ). range_with_len 0 number ++ n ∷ []) e)
    ∙ filter_map-append (occupied_at geo old place) (range_with_len 0 number) (number ∷ []))

pub below_empty : (geo : Geo) (segment : ℕ) (places : List ℕ) (place : ℕ) (old : List ℕ) (number : ℕ) (tally settled : Tally)
    (before words : List ℕ) → word_at old (slot_at geo place number) ≡ 0
    → SettlesBelow geo segment places place old number tally settled before words
    → SettlesBelow geo segment places place old (number + 1) tally settled before words
unfolding slot_in
below_empty geo segment places place old number tally settled before words empty below kept come =
    let none : filter_map (occupied_at geo old place) (number ∷ []) ≡ [] = rw empty refl in
    subst (λ (slots : List OccupiedSlot). HasCome geo segment old places (kept_of geo segment old places kept slots) settled words)
    (sym (occupied_more geo old place number
    ∙ (ap (λ (s : List OccupiedSlot). filter_map (occupied_at geo old place) (range_with_len 0 number) ++ s) none ∙ append-nil _)))
    (below kept come)

pub below_settled : (geo : Geo) (segment : ℕ) (places : List ℕ) (place : ℕ) (old : List ℕ) (number word : ℕ) (tally settled later : Tally)
    (before mid words : List ℕ) → word_at old (slot_at geo place number) ≡ word
    → word ≢ 0 → SettlesBelow geo segment places place old number tally settled before mid
    → Settles geo segment places place word settled later mid words
    → SettlesBelow geo segment places place old (number + 1) tally later before words
unfolding slot_in
below_settled geo segment places place old number word tally settled later before mid words word_is full below settles kept come =
    let test : (word == 0) ≡ false = differs word full in
    let slot : Slot = record { fingerprint = word / 2 ^ 32; chunk = chunk_of_half (word % 2 ^ 32) } in
    let at : OccupiedSlot = record { place = place; number = number; slot = slot } in
    let slot_is : slot_of_word word ≡ Some slot = rw test refl in
    let one : filter_map (occupied_at geo old place) (number ∷ []) ≡ at ∷ [] = rw (word_is, test) refl in
    let earlier : List OccupiedSlot = filter_map (occupied_at geo old place) (range_with_len 0 number) in
    let all : filter_map (occupied_at geo old place) (range_with_len 0 (number + 1)) ≡ earlier ++ at ∷ [] =
    occupied_more geo old place number ∙ ap (λ (s : List OccupiedSlot). filter_map (occupied_at geo old place) (range_with_len 0 number) ++ s) one in
    subst (λ (slots : List OccupiedSlot). HasCome geo segment old places (kept_of geo segment old places kept slots) later words) (sym all)
    (subst (λ (k : KeptEntries). HasCome geo segment old places k later words)
    (sym (fold-append (λ (kept : KeptEntries) (at : OccupiedSlot). kept_with geo kept (judgement geo segment old places kept.entries at)) kept
    earlier (at ∷ [])))
    (settles old (kept_of geo segment old places kept earlier) at (record { place_is = refl; slot_is = slot_is }) (below kept come)))
  where
    differs : (n : ℕ) → n ≢ 0 → (n == 0) ≡ false
    differs n h = grind (arith, nat_tests)

-- ---- the tiers of a chain

-- those before a number were settled
abbrev pub SettlesFirst : Geo → ℕ → List ℕ → List ℕ → List ℕ → ℕ → Tally → List ℕ → List ℕ → Type 0
SettlesFirst geo segment places chain old number tally before words =
    IsSoFar geo segment old places [] before
    → HasCome geo segment old places
    (kept_of geo segment old places (record { entries = []; drops = [] }) (flat_map (occupied_in geo old) (take number chain))) tally words

pub first_none : (geo : Geo) (segment : ℕ) (places chain old : List ℕ) (tally : Tally) (words : List ℕ) → tally.kept ≡ 0
    → ((why : Cause) → count_for tally.drops why ≡ 0)
    → SettlesFirst geo segment places chain old 0 tally words words
first_none geo segment places chain old tally words kept drops so_far = record { so_far = so_far; counts = record { kept_is = kept; drops = drops } }

pub first_more : (geo : Geo) (segment : ℕ) (places chain old : List ℕ) (number : ℕ) (tally later : Tally) (before mid words : List ℕ)
    → number < length chain
    → SettlesFirst geo segment places chain old number tally before mid
    → SettlesTier geo segment places (get_or chain number 0) old tally later mid words
    → SettlesFirst geo segment places chain old (number + 1) later before words
first_more geo segment places chain old number tally later before mid words inside first tier so_far =
    let all : flat_map (occupied_in geo old) (take (number + 1) chain) ≡ flat_map (occupied_in geo old) (take number chain) ++ flat_map
    (occupied_in geo old) (get_or chain number 0 ∷ []) =
    ap (λ (ps : List ℕ). flat_map (occupied_in geo old) ps) more
    ∙ flat_map-append (occupied_in geo old) (take number chain) (get_or chain number 0 ∷ []) in
    let one : flat_map (occupied_in geo old) (get_or chain number 0 ∷ []) ≡ occupied_in geo old (get_or chain number 0) = append-nil
    (occupied_in geo old (get_or chain number 0)) in
    subst (λ (slots : List OccupiedSlot). HasCome geo segment old places
    (kept_of geo segment old places (record { entries = []; drops = [] }) slots) later words)
    (sym (all ∙ ap (λ (s : List OccupiedSlot). flat_map (occupied_in geo old) (take number chain) ++ s) one))
    (subst (λ (k : KeptEntries). HasCome geo segment old places k later words)
    (sym (fold-append (λ (kept : KeptEntries) (at : OccupiedSlot). kept_with geo kept (judgement geo segment old places kept.entries at))
    (record { entries = []; drops = [] })
    (flat_map (occupied_in geo old) (take number chain)) (occupied_in geo old (get_or chain number 0))))
    (tier (kept_of geo segment old places (record { entries = []; drops = [] }) (flat_map (occupied_in geo old) (take number chain))) (first so_far)))
  where
    more : take (number + 1) chain ≡ take number chain ++ get_or chain number 0 ∷ []
    more = ap (λ (k : ℕ). take k chain) (add-one number) ∙ take-suc chain number 0 inside

pub take_past : (n : ℕ) (xs : List ℕ) → length xs ≤ n → take n xs ≡ xs
take_past zero [] h = refl
take_past zero (x ∷ xs) h = absurd (omega arith)
take_past (suc n) [] h = refl
take_past (suc n) (x ∷ xs) h = ap (λ (ys : List ℕ). x ∷ ys) (take_past n xs (omega arith))

pub first_all : (geo : Geo) (segment : ℕ) (places chain old : List ℕ) (number : ℕ) (tally : Tally) (before words : List ℕ) → length chain ≤ number
    → SettlesFirst geo segment places chain old number tally before words → SettlesAll geo segment places chain old tally before words
first_all geo segment places chain old number tally before words past first so_far =
    subst (λ (ps : List ℕ). HasCome geo segment old places
    (kept_of geo segment old places (record { entries = []; drops = [] }) (flat_map (occupied_in geo old) ps)) tally words)
    (take_past number chain past) (first so_far)

-- ---- bounds of counts

pub within_more : (least most : ℕ) (tally : Tally) → least ≤ most → CountsWithin least tally → CountsWithin most tally
within_more least most tally h within = record { kept = omega (arith, within.kept); drops = λ why. omega (arith, within.drops why) }

pub within_none : (tally : Tally) → tally.kept ≡ 0 → ((why : Cause) → count_for tally.drops why ≡ 0) → CountsWithin 0 tally
within_none tally kept drops = record { kept = omega (arith, kept); drops = λ why. omega (arith, drops why) }
