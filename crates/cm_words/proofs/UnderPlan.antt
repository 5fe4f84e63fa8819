-- What a client of a change learns of the words, from the state that is under the plan of a list.
use Rattle.std.proofs.Common.{◌≡◌, ℕ, ◌+◌, List, slice_set, Option, Some, None, sym, ap, ◌∙◌, subst, arith}
use Rattle.std.proofs.lemmas.List.{set-set, set-get_or}
use Rattle.cm_plain.specs.States.{State}
use Rattle.cm_plain.specs.Changes.{Change}
use Rattle.cm_plain.specs.Slots.{word_at}
use Rattle.cm_plain.specs.Lawful.{Resting}
use Rattle.cm_plain.specs.Torn.{Torn}
use Rattle.cm_plain.proofs.OutsideHead.{resting_same}
use Rattle.cm_words.specs.Memory.{FitsNotes, IsFresh, IsUnderPlan, MayStore, MemSeen, Setting, StaysTorn, origin}
use Rattle.cm_words.specs.Effects.{Begins}
use Rattle.cm_words.specs.Stores.{WordStore, Writes, after_stores}

-- nothing was stored under the plan yet: a list with a state under the plan rests for it
pub fresh_rests : (m : MemSeen) (change : Change) (words : List ℕ) (state : State) → IsFresh m → FitsNotes m words → IsUnderPlan m.setting (origin m words) words state change → Resting m.setting.geo m.setting.segment words state
fresh_rests m change words state fresh fits u = subst (λ (o : List ℕ). Resting m.setting.geo m.setting.segment o state) (fresh words fits) u.rests

-- in the midst of the stores, a list came by them from one that fitted at the start and rests for the state
pub record CameByStores (old : MemSeen) (stores : List WordStore) (words : List ℕ) (state : State) : Type 0 where
  pub before : List ℕ
  pub fits : FitsNotes old before
  pub leads : after_stores before stores ≡ words
  pub rests : Resting old.setting.geo old.setting.segment before state

pub came_by_stores : (old now : MemSeen) (change : Change) (stores : List WordStore) (words : List ℕ) (state : State) → IsFresh old → Writes old now stores → FitsNotes now words → IsUnderPlan now.setting (origin now words) words state change → CameByStores old stores words state
came_by_stores old now change stores words state fresh writes fits u =
    let came = writes.came words fits in record {
      before = came.0;
      fits = came.1.fits;
      leads = came.1.relates.leads;
      rests = subst (λ (s : Setting). Resting s.geo s.segment came.0 state) writes.keeps.setting
          (subst (λ (o : List ℕ). Resting now.setting.geo now.setting.segment o state) (came.1.origin ∙ fresh came.0 came.1.fits) u.rests);
    }

-- where a list rests after the begin, the same list but for the change number rested for that state before it
pub rested_before : (old now : MemSeen) (change : Change) (words : List ℕ) (state : State) → Begins old now change → FitsNotes now words → Resting now.setting.geo now.setting.segment words state
    → (before : List ℕ) × FitsNotes old before × (slice_set before 1 (word_at before 1 + 1) ≡ words) × Resting old.setting.geo old.setting.segment before state
rested_before old now change words state begins fits rests =
    let came = begins.came words fits in
    let back : slice_set words 1 (word_at came.0 1) ≡ came.0 = ap (λ (w : List ℕ). slice_set w 1 (word_at came.0 1)) (sym came.1.next) ∙ (set-set came.0 1 (word_at came.0 1 + 1) (word_at came.0 1) ∙ set-get_or came.0 1 0) in (
      came.0,
      came.1.fits,
      came.1.next,
      subst (λ (s : Setting). Resting s.geo s.segment came.0 state) begins.setting
          (subst (λ (w : List ℕ). Resting now.setting.geo now.setting.segment w state) back (resting_same now.setting.geo now.setting.segment words 1 (word_at came.0 1) state (omega arith) rests)),
    )

-- the first store after the begin may be made where it leaves words torn that rested before the begin
pub may_store_first_of : (old now : MemSeen) (change : Change) (at word : ℕ) → Begins old now change
    → ((words : List ℕ) (state : State) → FitsNotes old words → Resting old.setting.geo old.setting.segment words state → Torn old.setting.geo (slice_set (slice_set words 1 (word_at words 1 + 1)) at word) state change)
    → MayStore now at word
may_store_first_of old now change at word begins torn words fits guarded = stays now.plan begins.plan
  where
    stays : (plan : Option Change) → plan ≡ Some change → StaysTorn now.setting plan (origin now words) words (slice_set words at word)
    stays None e = absurd (no_plan e)
      where
        no_plan : None ≡ Some change → ⊥
        no_plan e = cc
    stays (Some c) e = λ state u.
        let is : c ≡ change = same_change e in
        let rests = fresh_rests now change words state begins.origin fits (subst (λ (d : Change). IsUnderPlan now.setting (origin now words) words state d) is u) in
        let from = rested_before old now change words state begins fits rests in
        subst (λ (d : Change). Torn now.setting.geo (slice_set words at word) state d) (sym is)
        (subst (λ (s : Setting). Torn s.geo (slice_set words at word) state change) (sym begins.setting)
        (subst (λ (w : List ℕ). Torn old.setting.geo (slice_set w at word) state change) from.2 (torn from.0 state from.1 from.3)))
      where
        same_change : Some c ≡ Some change → c ≡ change
        same_change e = cc
