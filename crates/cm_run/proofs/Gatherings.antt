-- The callers that are still to be taken back.
use Rattle.std.proofs.Common.{◌≡◌, ℕ, ◌+◌, ◌-◌, ◌^◌, ◌<◌, ◌≤◌, true, false, List, [], ◌∷◌, ◌++◌, All, drop, inl, inr, length, length-append, reverse, take, refl, sym, ap, ◌∙◌, subst, arith}
use Rattle.std.proofs.lemmas.Bool.{cases_Bool}
use Rattle.std.proofs.lemmas.List.{append-nil, drop_all, get_or_append_left, get_or_push, reverse-append, take_all}
use Rattle.std.proofs.lemmas.List.Elements.{All-head, All-push, All-tail}
use Rattle.cm_plain.specs.declared.receipt.Receipt.{Receipt}
use Rattle.cm_store.specs.declared.pass.Pass.{Pass}
use Rattle.cm_store.specs.declared.store.Store.{Store}
use Rattle.cm_store.specs.Passes.{claims_view}
use Rattle.cm_script.specs.declared.limits.TheConstants.{MAX_CALLERS}
use Rattle.cm_script.specs.declared.line.Line.{Line}
use Rattle.cm_script.specs.declared.report.CallerEnd.{CallerEnd}
use Rattle.cm_script.specs.Answers.{calls_in}
use Rattle.cm_caller.specs.declared.caller.Caller.{Caller}
use Rattle.cm_run.specs.declared.run.Gathered.{Gathered}
use Rattle.cm_run.specs.Callers.{HasJoined, MadeBelow, RootKeeps, asks, askers_from, askers_of, numbers}
use Rattle.cm_run.specs.Gathered.{Gathers, GathersBelow}
use Rattle.cm_run.specs.Gates.{CallerGates, MakerSeen}
use Rattle.cm_run.specs.RunGates.{CanCountDeaths, IsCountable, SameGates}
use Rattle.cm_run.proofs.Askers.{IsFirst, askers_up, first_of, none_of}
use Rattle.cm_run.proofs.Fronts.{gathers_first, gathers_up}

-- the callers behind those of a number were gathered, and the rest, from the last one on, are those from it on
pub record IsBehind {F : Type 0} (script : List Line) (rest : List (Caller F)) (number : ℕ) : Type 0 where
  pub within : number ≤ MAX_CALLERS
  pub numbers_are : numbers (reverse rest) ≡ askers_from script number

-- what is gathered below a number is below a later one, where no caller between asks
pub gathers_reach : {F : Type 0} (store : Store) (script : List Line) (number later : ℕ) (all : Gathered) (root : Pass F) → number ≤ later
    → ((c : ℕ) → number ≤ c → c < later → asks script c ≡ false) → Gathers store script number all root → Gathers store script later all root
gathers_reach store script number later all root low none gathers lives =
    let g = gathers lives in
    let gap : number + (later - number) ≡ later = omega arith in
    record {
      keeps = g.keeps;
      joined = subst (λ (joined : List ℕ). HasJoined (askers_of script) joined root) (sym (askers_up script (later - number) number later gap none)) g.joined;
      gathers = gathers_up store.geo script (later - number) number later all.receipts.items all.ends.items (claims_view root) gap none g.gathers;
    }

-- nothing is gathered yet
pub gathers_none : {F : Type 0} (store : Store) (script : List Line) (all : Gathered) (root : Pass F) → all.receipts.items ≡ [] → all.ends.items ≡ []
    → RootKeeps store (λ segment. []) root → HasJoined (askers_of script) [] root → Gathers store script 0 all root
gathers_none store script all root no_receipts no_ends keeps joined lives = record {
  keeps = subst (λ (rs : List Receipt). RootKeeps store (calls_in script rs) root) (sym no_receipts) keeps;
  joined = joined;
  gathers = subst (λ (rs : List Receipt). GathersBelow store.geo script 0 rs all.ends.items (claims_view root)) (sym no_receipts)
      (subst (λ (es : List CallerEnd). GathersBelow store.geo script 0 [] es (claims_view root)) (sym no_ends) (gathers_first store.geo script (claims_view root)));
}

module _ {F : Type 0} (script : List Line) (front : List (Caller F)) (caller : Caller F) (rest : List (Caller F)) (number : ℕ) (is : rest ≡ front ++ caller ∷ []) (behind : IsBehind script rest number) where
  first : IsFirst (asks script) number MAX_CALLERS caller.number (numbers (reverse front))
  first =
      let turned : reverse rest ≡ caller ∷ reverse front = ap reverse is ∙ reverse-append front (caller ∷ []) in
      let low = behind.within in
      subst (λ (end : ℕ). IsFirst (asks script) number end caller.number (numbers (reverse front))) (let h : number + (MAX_CALLERS - number) ≡ MAX_CALLERS = omega arith in h)
      (first_of (asks script) (MAX_CALLERS - number) number caller.number (numbers (reverse front)) (sym (ap (λ (l : List (Caller F)). numbers l) turned) ∙ behind.numbers_are))

  pub next_below : caller.number < MAX_CALLERS
  next_below = first.high

  pub next_asks : asks script caller.number ≡ true
  next_asks = first.passes

  pub next_gathers : {G : Type 0} (store : Store) (all : Gathered) (root : Pass G) → Gathers store script number all root → Gathers store script caller.number all root
  next_gathers store all root = gathers_reach store script number caller.number all root first.low first.between

  pub next_behind : IsBehind script front (caller.number + 1)
  next_behind = record { within = let h = first.high in omega arith; numbers_are = first.others_are }

pub last_gathers : {F G : Type 0} (store : Store) (script : List Line) (rest : List (Caller F)) (number : ℕ) (all : Gathered) (root : Pass G) → rest ≡ [] → IsBehind script rest number
    → Gathers store script number all root → Gathers store script MAX_CALLERS all root
last_gathers store script rest number all root none behind =
    let low = behind.within in
    gathers_reach store script number MAX_CALLERS all root behind.within
    (λ c above below. none_of (asks script) (MAX_CALLERS - number) number (ap (λ (l : List (Caller _)). numbers (reverse l)) (sym none) ∙ behind.numbers_are) c above (omega arith))

-- ---- gates

pub gates_same : (m : MakerSeen) → SameGates m m
gates_same m = record { same = λ caller. refl; can_die = refl; tells = refl }

pub gates_go_on : (old mid now : MakerSeen) → SameGates old mid → SameGates mid now → SameGates old now
gates_go_on old mid now one other = record {
  same = λ caller. other.same caller ∙ one.same caller;
  can_die = other.can_die ∙ one.can_die;
  tells = other.tells ∙ one.tells;
}

pub gates_countable : (old now : MakerSeen) → SameGates old now → CanCountDeaths old → CanCountDeaths now
gates_countable old now same few caller below = subst (λ (counts : CallerGates). counts.deaths < 2 ^ 64 - 1) (sym (same.same caller)) (few caller below)

-- making gates counts no death
pub made_countable : (script : List Line) (old now : MakerSeen) → MadeBelow script MAX_CALLERS old now → IsCountable old → CanCountDeaths now
made_countable script old now made few caller below = elim (cases_Bool (asks script caller)) [
  | inl asking ↦ subst (λ (counts : CallerGates). counts.deaths < 2 ^ 64 - 1) (sym (made.each caller below asking)) (few caller below).1
  | inr silent ↦ subst (λ (counts : CallerGates). counts.deaths < 2 ^ 64 - 1) (sym (made.others caller (λ low. silent))) (few caller below).1
]

-- ---- elements of lists

pub last_all : {X : Type 0} (P : X → Type 0) (xs : List X) (x : X) → All P (xs ++ x ∷ []) → P x
last_all P xs x all = subst P (get_or_push xs x x (length xs) refl) (all (length xs) x (let l = length-append xs (x ∷ []) in omega arith))

pub front_all : {X : Type 0} (P : X → Type 0) (xs : List X) (x : X) → All P (xs ++ x ∷ []) → All P xs
front_all P xs x all i d below = subst P (get_or_append_left xs (x ∷ []) d i below) (all i d (let l = length-append xs (x ∷ []) in omega arith))

pub reverse_all : {X : Type 0} (P : X → Type 0) (xs : List X) → All P xs → All P (reverse xs)
reverse_all P [] all = all
reverse_all P (x ∷ xs) all =
    subst (λ (l : List _). All P l) (sym (reverse-append (x ∷ []) xs)) (All-push P (reverse xs) x (reverse_all P xs (All-tail P x xs all)) (All-head P x xs all))

-- a list that was written over whole
pub written_back : {X : Type 0} (len : ℕ) (news olds : List X) → length news ≡ length olds → len ≡ length olds → take len (news ++ drop (length news) olds) ≡ news
written_back len news olds same long =
    ap (λ (l : List _). take len (news ++ l)) (drop_all (length news) olds (omega arith)) ∙ (ap (take len) (append-nil news) ∙ take_all len news (omega arith))
