-- Chains, and the changes that link tiers.
use Rattle.std.proofs.Common.{◌≡◌, ◌≢◌, ◌⊎◌, ℕ, zero, suc, ◌+◌, ◌<◌, ◌≤◌, ◌==◌, Bool, true, false, if◌then◌else◌, List, [], ◌∷◌, length, get_or, slice_get, remove, All, Option, Some, None, inl, inr, refl, sym, ap, ◌∙◌, subst, arith, length-append, count_by}
use Rattle.std.specs.Option.{option_map}
use Rattle.std.proofs.lemmas.Bool.{cases_lt}
use Rattle.std.proofs.lemmas.Bool.Decides.{nat_tests}
use Rattle.std.proofs.lemmas.List.Edits.{get_or-remove_above, get_or-remove_below, length-remove}
use Rattle.std.proofs.lemmas.List.Elements.{All-head}
use Rattle.std.proofs.lemmas.List.Sums.{get_or-le-sum_by, sum_by-cons, sum_by-remove}
use Rattle.std.proofs.lemmas.Option.{get_or_from_slice_get, slice_get_read, slice_get_within}
use Rattle.cm_geo.specs.declared.geo.Geo.{Geo}
use Rattle.cm_geo.specs.Need.{need}
use Rattle.cm_plain.specs.declared.op.Op.{Op}
use Rattle.cm_plain.specs.declared.placed.Placed.{Placed}
use Rattle.cm_plain.specs.declared.plan.Run.{Run}
use Rattle.cm_plain.specs.declared.room.Room.{Room}
use Rattle.cm_plain.specs.declared.room.Room.TheVariants.{InPlace, Elsewhere, NewTier, Nowhere}
use Rattle.cm_plain.specs.Changes.{Change, after, chain_after, change_of, placed_value, run_at}
use Rattle.cm_plain.specs.FoundChains.{chain_of}
use Rattle.cm_plain.specs.Rooms.{is_new_tier, room_for, spot_in}
use Rattle.cm_plain.specs.States.{State, entry_of}
use Rattle.cm_lock.specs.declared.view.ChangeCopy.{ChangeCopy}
use Rattle.cm_lock.specs.declared.view.HeldLevel.{HeldLevel}
use Rattle.cm_lock.specs.declared.view.Key.{Key}
use Rattle.cm_lock.specs.declared.view.NumberedChange.{NumberedChange}
use Rattle.cm_lock.specs.declared.view.View.{View}
use Rattle.cm_lock.specs.ChangeLists.{ArePlanned, IsListedChange, KnowsList, change_count, last_state, state_after}
use Rattle.cm_lock.specs.Tables.{Closes}
use Rattle.cm_lock.specs.Views.{change_in}
use Rattle.cm_store.specs.Balance.{linking_in, plan_links}
use Rattle.cm_laws.specs.Laws.{LeavesWords, TearsBy}
use Rattle.cm_turn.specs.Turns.{links_in}
use Rattle.cm_laws.proofs.Remains.{ends_whole_or_torn, rests_apart, sum_one}

-- ---- lists

abbrev pub one_if : Bool → ℕ
one_if b = if b then 1 else 0

true_or_false : (b : Bool) → (b ≡ true) ⊎ (b ≡ false)
true_or_false true = inl refl
true_or_false false = inr refl

all_removed : {X : Type 0} (P : X → Type 0) (xs : List X) (i : ℕ) → i < length xs → All P xs → All P (remove xs i)
all_removed P xs i inside all k d below = let l = length-remove xs i inside in elim (cases_lt k i) [
  | inl low ↦ subst P (sym (get_or-remove_below xs i d k low inside)) (all k d (omega arith))
  | inr high ↦ subst P (sym (get_or-remove_above xs i d k high inside)) (all (k + 1) d (omega arith))
]

-- an element that passes a test
record HasOne {X : Type 0} (p : X → Bool) (xs : List X) : Type 0 where
  pub at : ℕ
  pub one : X
  pub inside : at < length xs
  pub there : get_or xs at one ≡ one
  pub passes : p one ≡ true

has_one : {X : Type 0} (p : X → Bool) (xs : List X) → 0 < count_by p xs → HasOne p xs
has_one p [] some = absurd (omega arith)
has_one p (x ∷ xs) some = elim (true_or_false (p x)) [
  | inl passes ↦ record { at = 0; one = x; inside = omega arith; there = refl; passes = passes }
  | inr fails ↦ (
      let c = sum_by-cons (λ y. one_if (p y)) x xs in
      let z : one_if (p x) ≡ 0 = ap (λ (b : Bool). one_if b) fails in
      let r = has_one p xs (omega arith) in
      record { at = suc r.at; one = r.one; inside = (let i = r.inside in omega arith); there = r.there; passes = r.passes })
]

same_number : (n m : ℕ) → (n == m) ≡ true → n ≡ m
same_number n m h = grind (arith, nat_tests)

number_same : (n m : ℕ) → n ≡ m → (n == m) ≡ true
number_same n m h = grind (arith, nat_tests)

other_number : (n m : ℕ) → n < m → one_if (n == m) ≡ 0
other_number n m h = grind (arith, nat_tests)

-- ---- changes on a list, and those that a seat has noted

-- each change of a list is noted once at least, and what is noted at a number of the list stands there: as many changes link
links_listed : (a : ℕ) (cs : List Change) (es : List NumberedChange) → ((place : ℕ) → place < length cs → 0 < count_by (λ (e : NumberedChange). e.number == a + place + 1) es)
    → ((k : ℕ) (d : NumberedChange) (place : ℕ) → k < length es → place < length cs → (get_or es k d).number ≡ a + place + 1 → slice_get cs place ≡ Some (change_in (get_or es k d).change))
    → count_by (λ (c : Change). c.link) cs ≤ count_by (λ (e : NumberedChange). e.change.link) es
links_listed a [] es each listed = omega arith
links_listed a (c ∷ cs) es each listed =
    let one = has_one (λ (e : NumberedChange). e.number == a + 0 + 1) es (each 0 (omega arith)) in
    let i = one.at in let e = one.one in let inside = one.inside in
    let number : e.number ≡ a + 0 + 1 = same_number e.number (a + 0 + 1) one.passes in
    let number_here : (get_or es i e).number ≡ a + 0 + 1 = ap (λ (x : NumberedChange). x.number) one.there ∙ number in
    let stands : slice_get (c ∷ cs) 0 ≡ Some (change_in (get_or es i e).change) = listed i e 0 inside (omega arith) number_here in
    let link : c.link ≡ e.change.link = first_link c cs (change_in (get_or es i e).change) stands ∙ ap (λ (x : NumberedChange). x.change.link) one.there in
    let weigh : one_if c.link ≡ (if (get_or es i e).change.link then 1 else 0) =
    ap (λ (b : Bool). one_if b) (link ∙ sym (ap (λ (x : NumberedChange). x.change.link) one.there)) in
    let whole = sum_by-remove (λ (x : NumberedChange). one_if x.change.link) es i e inside in
    let sum = sum_by-cons (λ (x : Change). one_if x.link) c cs in
    let rest = links_listed (a + 1) cs (remove es i)
    (λ place below.
    let more : 0 < count_by (λ (x : NumberedChange). x.number == (a + 1) + place + 1) es =
    subst (λ (n : ℕ). 0 < count_by (λ (x : NumberedChange). x.number == n) es) (shifted a place) (each (place + 1) (omega arith)) in
    let removed = sum_by-remove (λ (x : NumberedChange). one_if (x.number == (a + 1) + place + 1)) es i e inside in
    let none = other_number (get_or es i e).number ((a + 1) + place + 1) (omega arith) in
    omega arith)
    (λ k d place below within is.
    all_removed (λ (x : NumberedChange). x.number ≡ (a + 1) + place + 1 → slice_get cs place ≡ Some (change_in x.change)) es i inside
    (λ j f inner number'. in_rest c cs place (change_in (get_or es j f).change) within (listed j f (place + 1) inner (omega arith) (number' ∙ sym (shifted a place))))
    k d below is) in
    omega arith
  where
    shifted : (a place : ℕ) → a + (place + 1) + 1 ≡ (a + 1) + place + 1
    shifted a place = omega arith

    first_link : (c : Change) (cs : List Change) (x : Change) → slice_get (c ∷ cs) 0 ≡ Some x → c.link ≡ x.link
    first_link c cs x there = ap (λ (y : Change). y.link) (get_or_from_slice_get (c ∷ cs) 0 x x there)

    in_rest : (c : Change) (cs : List Change) (place : ℕ) (x : Change) → place < length cs → slice_get (c ∷ cs) (place + 1) ≡ Some x → slice_get cs place ≡ Some x
    in_rest c cs place x within there =
        let next : place + 1 ≡ suc place = omega arith in
        slice_get_read cs (length cs) place x refl within (sym (get_or_from_slice_get (c ∷ cs) (suc place) x x (subst (λ (n : ℕ). slice_get (c ∷ cs) n ≡ Some x) next there)))

-- a change that stands on the list, whose first change has this number
record IsListedAt (a : ℕ) (cs : List Change) (e : NumberedChange) : Type 0 where
  pub place : ℕ
  pub number_is : e.number ≡ a + place + 1
  pub there : slice_get cs place ≡ Some (change_in e.change)

-- the list without its first change, of which none is
listed_rest : (a : ℕ) (c : Change) (cs : List Change) (e : NumberedChange) → e.number ≢ a + 0 + 1 → IsListedAt a (c ∷ cs) e → IsListedAt (a + 1) cs e
listed_rest a c cs e other l = by l.place l.number_is l.there
  where
    by : (place : ℕ) → e.number ≡ a + place + 1 → slice_get (c ∷ cs) place ≡ Some (change_in e.change) → IsListedAt (a + 1) cs e
    by zero is there = absurd (other is)
    by (suc place) is there = let w = slice_get_within (c ∷ cs) (suc place) (change_in e.change) there in record {
      place = place;
      number_is = (omega arith);
      there = slice_get_read cs (length cs) place (change_in e.change) refl (omega arith)
          (sym (get_or_from_slice_get (c ∷ cs) (suc place) (change_in e.change) (change_in e.change) there));
    }

none_passes : {X : Type 0} (p : X → Bool) (xs : List X) (k : ℕ) (d : X) → k < length xs → count_by p xs ≤ 0 → p (get_or xs k d) ≡ true → ⊥
none_passes p xs k d inside none passes =
    let one = get_or-le-sum_by (λ x. one_if (p x)) xs k d inside in
    let is : one_if (p (get_or xs k d)) ≡ 1 = ap one_if passes in omega arith

-- each change that is noted stands on the list, and none is noted twice: no more of them link
links_noted : (a : ℕ) (cs : List Change) (es : List NumberedChange) → ((place : ℕ) → place < length cs → count_by (λ (e : NumberedChange). e.number == a + place + 1) es ≡ 1)
    → All (IsListedAt a cs) es → count_by (λ (e : NumberedChange). e.change.link) es ≤ count_by (λ (c : Change). c.link) cs
links_noted a [] [] each listed = omega arith
links_noted a [] (e ∷ es) each listed =
    let l = All-head (IsListedAt a []) e es listed in let w = slice_get_within [] l.place (change_in e.change) l.there in absurd (omega arith)
links_noted a (c ∷ cs) es each listed =
    let first = each 0 (omega arith) in
    let one = has_one (λ (e : NumberedChange). e.number == a + 0 + 1) es (omega arith) in
    let i = one.at in let e = one.one in let inside = one.inside in
    let number : e.number ≡ a + 0 + 1 = same_number e.number (a + 0 + 1) one.passes in
    let number_here : (get_or es i e).number ≡ a + 0 + 1 = ap (λ (x : NumberedChange). x.number) one.there ∙ number in
    let here = listed i e inside in
    let place_is : here.place ≡ 0 = let n = here.number_is in omega arith in
    let stands : slice_get (c ∷ cs) 0 ≡ Some (change_in (get_or es i e).change) = subst (λ (p : ℕ). slice_get (c ∷ cs) p ≡ Some (change_in (get_or es i e).change)) place_is here.there in
    let weigh : one_if c.link ≡ (if (get_or es i e).change.link then 1 else 0) =
    ap (λ (x : Change). one_if x.link) (get_or_from_slice_get (c ∷ cs) 0 (change_in (get_or es i e).change) (change_in (get_or es i e).change) stands) in
    let whole = sum_by-remove (λ (x : NumberedChange). one_if x.change.link) es i e inside in
    let sum = sum_by-cons (λ (x : Change). one_if x.link) c cs in
    let only = sum_by-remove (λ (x : NumberedChange). one_if (x.number == a + 0 + 1)) es i e inside in
    let counted : one_if ((get_or es i e).number == a + 0 + 1) ≡ 1 = ap (λ (x : NumberedChange). one_if (x.number == a + 0 + 1)) one.there ∙ ap one_if one.passes in
    let none : count_by (λ (x : NumberedChange). x.number == a + 0 + 1) (remove es i) ≤ 0 = omega arith in
    let rest = links_noted (a + 1) cs (remove es i)
    (λ place below.
    let next : a + (place + 1) + 1 ≡ (a + 1) + place + 1 = omega arith in
    let many : count_by (λ (x : NumberedChange). x.number == (a + 1) + place + 1) es ≡ 1 =
    subst (λ (n : ℕ). count_by (λ (x : NumberedChange). x.number == n) es ≡ 1) next (each (place + 1) (omega arith)) in
    let removed = sum_by-remove (λ (x : NumberedChange). one_if (x.number == (a + 1) + place + 1)) es i e inside in
    let other = other_number (get_or es i e).number ((a + 1) + place + 1) (omega arith) in
    omega arith)
    (λ k d below.
    listed_rest a c cs (get_or (remove es i) k d)
    (λ is. none_passes (λ (x : NumberedChange). x.number == a + 0 + 1) (remove es i) k d below none (number_same (get_or (remove es i) k d).number (a + 0 + 1) is))
    (all_removed (IsListedAt a (c ∷ cs)) es i inside listed k d below)) in
    omega arith

-- ---- chains

chain_more : (link : Bool) (run : Option Run) (chain : List ℕ) → length (chain_after link run chain) ≤ length chain + one_if link
chain_more true (Some run) chain = let l = length-append chain (run.place ∷ []) in omega arith
chain_more true None chain = omega arith
chain_more false (Some run) chain = omega arith
chain_more false None chain = omega arith

chain_grows : (geo : Geo) (state : State) (cs : List Change) → length (state_after geo state cs).chain ≤ length state.chain + count_by (λ (c : Change). c.link) cs
chain_grows geo state [] = omega arith
chain_grows geo state (c ∷ cs) =
    let r = chain_grows geo (after geo c state) cs in
    let m = chain_more c.link c.new_run state.chain in
    let s = sum_by-cons (λ (x : Change). one_if x.link) c cs in
    omega arith

chain_stays : (link : Bool) (run : Option Run) (chain : List ℕ) → length chain ≤ length (chain_after link run chain)
chain_stays true (Some run) chain = let l = length-append chain (run.place ∷ []) in omega arith
chain_stays true None chain = omega arith
chain_stays false (Some run) chain = omega arith
chain_stays false None chain = omega arith

-- a room in a new tier links it
room_more : (room : Room) (old : Option Placed) (chunks : ℕ) (chain : List ℕ)
    → length chain + one_if (is_new_tier room) ≤ length (chain_after (is_new_tier room) (option_map (run_at chunks) (spot_in room old)) chain)
room_more InPlace None chunks chain = omega arith
room_more InPlace (Some old) chunks chain = omega arith
room_more (Elsewhere spot) old chunks chain = omega arith
room_more (NewTier place) old chunks chain = let l = length-append chain (place ∷ []) in omega arith
room_more Nowhere old chunks chain = omega arith

-- a planned change that links a tier has a run in it
planned_more : (geo : Geo) (state : State) (op : Op) (key : List ℕ) (value : Option (List ℕ)) (chain : List ℕ)
    → length chain + one_if (change_of geo state op key value).link ≤ length (chain_after (change_of geo state op key value).link (change_of geo state op key value).new_run chain)
planned_more geo state op key None chain = omega arith
planned_more geo state op key (Some value) chain =
    room_more (room_for geo state key (need geo (length key) (length value))) (entry_of key state) (need geo (length key) (length value)) chain

chain_rises : (geo : Geo) (segment : ℕ) (state : State) (cs : List Change) → ArePlanned geo segment state cs
    → length state.chain + count_by (λ (c : Change). c.link) cs ≤ length (state_after geo state cs).chain
chain_rises geo segment state [] planned = omega arith
chain_rises geo segment state (c ∷ cs) (plans, rest) =
    let r = chain_rises geo segment (after geo c state) cs rest in
    let m : length state.chain + one_if c.link ≤ length (chain_after c.link c.new_run state.chain) =
    subst (λ (d : Change). length state.chain + one_if d.link ≤ length (chain_after d.link d.new_run state.chain)) (sym plans.change_is)
    (planned_more geo state c.op c.key (placed_value c.op) state.chain) in
    let s = sum_by-cons (λ (x : Change). one_if x.link) c cs in
    omega arith

module _ (key : Key) (v : View) (words : List ℕ) (closes : Closes key v words) where
  knows : KnowsList key closes.list v
  knows = All-head (KnowsList key closes.list) v [] closes.noted.each

  listed_links : count_by (λ (c : Change). c.link) closes.list.changes ≤ links_in v
  listed_links = links_listed closes.list.start closes.list.changes v.changes
      (λ place below. let o = closes.noted.once place below in let s = sum_one (change_count (closes.list.start + place + 1)) v in omega arith)
      (λ k d place below within is.
      let l : IsListedChange closes.list (get_or v.changes k d) = knows.changes k d below in
      let same : l.place ≡ place = let n = l.number_is in omega arith in
      subst (λ (p : ℕ). slice_get closes.list.changes p ≡ Some (change_in (get_or v.changes k d).change)) same l.there)

  first_chain : length closes.list.first.chain ≡ length (chain_of key.geo key.first).places
  first_chain = ap length (sym (rests_apart key.geo key.segment key.first closes.list.first closes.first_rests).represents.chain)

  pub chain_there : 0 < length (chain_of key.geo key.first).places
  chain_there =
      let w = slice_get_within closes.list.first.chain 0 0 (rests_apart key.geo key.segment key.first closes.list.first closes.first_rests).represents.is_state.chain.first in
      let f = first_chain in omega arith

  last_chain : length (last_state key.geo closes.list).chain ≤ length (chain_of key.geo key.first).places + links_in v
  last_chain = let g = chain_grows key.geo closes.list.first closes.list.changes in let l = listed_links in let f = first_chain in omega arith

  torn_chain : (h : HeldLevel) (k : ℕ) → k < length (v.own ∷ v.inherited) → get_or (v.own ∷ v.inherited) k h ≡ h → TearsBy key words (last_state key.geo closes.list) h
      → length (chain_of key.geo words).places ≤ length (chain_of key.geo key.first).places + (links_in v + linking_in v)
  torn_chain h k inside is t =
      let count = get_or-le-sum_by (λ (x : HeldLevel). one_if (plan_links x.plan)) (v.own ∷ v.inherited) k h inside in
      let this : (if plan_links (get_or (v.own ∷ v.inherited) k h).plan then 1 else 0) ≡ one_if t.change.link =
      ap (λ (x : HeldLevel). one_if (plan_links x.plan)) is ∙ ap (λ (p : Option ChangeCopy). one_if (plan_links p)) t.plan_is in
      let more = chain_more t.change.link (change_in t.change).new_run (last_state key.geo closes.list).chain in
      let last = last_chain in
      elim t.torn.chain [
        | inl old ↦ (let e = ap length old in omega arith)
        | inr new ↦ (let e = ap length new in omega arith)
      ]

  by_ending : LeavesWords key words closes.list v → length (chain_of key.geo words).places ≤ length (chain_of key.geo key.first).places + (links_in v + linking_in v)
  by_ending (LeavesWords.whole number limit apart) = let e = ap length apart.represents.chain in let l = last_chain in omega arith
  by_ending (LeavesWords.torn number limit (k, h, inside, is, t)) = torn_chain h k inside is t

  pub chain_bound : length (chain_of key.geo words).places ≤ length (chain_of key.geo key.first).places + (links_in v + linking_in v)
  chain_bound = by_ending (ends_whole_or_torn key v words closes)

  noted_links : links_in v ≤ count_by (λ (c : Change). c.link) closes.list.changes
  noted_links = links_noted closes.list.start closes.list.changes v.changes
      (λ place below. let o = closes.noted.once place below in let s = sum_one (change_count (closes.list.start + place + 1)) v in omega arith)
      (λ k d below. let l = knows.changes k d below in record { place = l.place; number_is = l.number_is; there = l.there })

  last_holds : length (chain_of key.geo key.first).places + links_in v ≤ length (last_state key.geo closes.list).chain
  last_holds =
      let r = chain_rises key.geo key.segment closes.list.first closes.list.changes closes.noted.planned in
      let n = noted_links in let f = first_chain in omega arith

  torn_holds : (h : HeldLevel) → TearsBy key words (last_state key.geo closes.list) h
      → length (chain_of key.geo key.first).places + links_in v ≤ length (chain_of key.geo words).places
  torn_holds h t = let last = last_holds in elim t.torn.chain [
    | inl old ↦ (let e = ap length old in omega arith)
    | inr new ↦ (
        let e = ap length new in
        let stays = chain_stays t.change.link (change_in t.change).new_run (last_state key.geo closes.list).chain in omega arith)
  ]

  held_by_ending : LeavesWords key words closes.list v → length (chain_of key.geo key.first).places + links_in v ≤ length (chain_of key.geo words).places
  held_by_ending (LeavesWords.whole number limit apart) = let e = ap length apart.represents.chain in let l = last_holds in omega arith
  held_by_ending (LeavesWords.torn number limit (k, h, inside, is, t)) = torn_holds h t

  pub chain_held : length (chain_of key.geo key.first).places + links_in v ≤ length (chain_of key.geo words).places
  chain_held = held_by_ending (ends_whole_or_torn key v words closes)
