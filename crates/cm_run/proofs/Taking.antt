-- A caller that is taken back.
use Rattle.std.proofs.Common.{◌≡◌, ◌≢◌, ◌⊎◌, ℕ, zero, suc, ◌+◌, ◌<◌, ◌==◌, ◌||◌, Bool, true, false, List, [], ◌∷◌, ◌++◌, All, Any, None, Some, Option, filter, is_some, length, true≢false, refl, sym, ap, ◌∙◌, subst, arith, inl, inr}
use Rattle.std.specs.List.{filter_map}
use Rattle.std.proofs.lemmas.Bool.{cases_eq}
use Rattle.std.proofs.lemmas.List.Elements.{All-cons, All-filter, All-head, All-nil, All-tail, All-weaker, filter-append, filter_map-append}
use Rattle.cm_plain.specs.declared.receipt.Receipt.{Receipt}
use Rattle.cm_plain.specs.History.{Call}
use Rattle.cm_words.specs.Fuses.{FuseSeen}
use Rattle.cm_lock.specs.declared.view.View.{View}
use Rattle.cm_yard.specs.declared.view.StopNumber.{StopNumber}
use Rattle.cm_yard.specs.Views.{with_joined as yard_with_joined}
use Rattle.cm_store.specs.declared.pass.Pass.{Pass}
use Rattle.cm_store.specs.declared.store.Store.{Store}
use Rattle.cm_store.specs.Passes.{claims_view, number_of, views_of}
use Rattle.cm_store.specs.Splits.{joined_views}
use Rattle.cm_history.specs.Endings.{AreApart, HasFoundStop}
use Rattle.cm_history.specs.Kept.{IsSeatOf}
use Rattle.cm_history.proofs.Gathering.{root_joins, root_same}
use Rattle.cm_script.specs.declared.line.Line.{Line}
use Rattle.cm_script.specs.declared.report.CallerEnd.{CallerEnd}
use Rattle.cm_script.specs.Answers.{call_at, calls_in, line_at}
use Rattle.cm_caller.specs.declared.caller.Caller.{Caller}
use Rattle.cm_caller.specs.Callers.{end_of, is_starved}
use Rattle.cm_caller.specs.Records.{HasAnswered, HasFront}
use Rattle.cm_run.specs.declared.run.Gathered.{Gathered}
use Rattle.cm_run.specs.Callers.{HasJoined, HasPerformed, RootKeeps, asks, askers_below, askers_of}
use Rattle.cm_run.specs.Gates.{CountsDeath, MakerSeen, deaths_with}
use Rattle.cm_run.specs.RunGates.{SameGates}
use Rattle.cm_run.specs.Gathered.{Gathers, GathersBelow, RootGathers, with_end}
use Rattle.cm_run.proofs.Askers.{asker_more}
use Rattle.cm_run.proofs.Fronts.{front_by, gathers_more}
use Rattle.cm_run.proofs.Roots.{root_joins_back}

-- ---- calls of receipts

calls_joined : (script : List Line) (receipts more : List Receipt) (segment : ℕ) → calls_in script (receipts ++ more) segment ≡ calls_in script receipts segment ++ calls_in script more segment
calls_joined script receipts more segment =
    let here = λ (receipt : Receipt). receipt.segment == segment in
    ap (filter_map (call_at script)) (filter-append here receipts more) ∙ filter_map-append (call_at script) (filter here receipts) (filter here more)

one_has : (script : List Line) (P : Receipt → Type 0) (r : Receipt) (rs : List Receipt) (found : Option Line) → line_at script r.line ≡ found → P r
    → All (λ (call : Call). P call.receipt) (filter_map (call_at script) rs) → All (λ (call : Call). P call.receipt) (filter_map (call_at script) (r ∷ rs))
one_has script P r rs None is has rest = rw is rest
one_has script P r rs (Some line) is has rest = rw is (All-cons (λ (call : Call). P call.receipt) (record { op = line.op; receipt = r }) (filter_map (call_at script) rs) has rest)

-- what holds of each receipt holds of that of each call
mapped_have : (script : List Line) (P : Receipt → Type 0) (receipts : List Receipt) → All P receipts → All (λ (call : Call). P call.receipt) (filter_map (call_at script) receipts)
mapped_have script P [] all = All-nil (λ (call : Call). P call.receipt)
mapped_have script P (r ∷ rs) all = one_has script P r rs (line_at script r.line) refl (All-head P r rs all) (mapped_have script P rs (All-tail P r rs all))

calls_have : (script : List Line) (P : Receipt → Type 0) (receipts : List Receipt) (segment : ℕ) → All P receipts → All (λ (call : Call). P call.receipt) (calls_in script receipts segment)
calls_have script P receipts segment all = mapped_have script P (filter (λ (receipt : Receipt). receipt.segment == segment) receipts) (All-filter (λ (receipt : Receipt). receipt.segment == segment) P receipts all)

-- calls of callers below a number, and of that number
apart : (script : List Line) (number : ℕ) (receipts more : List Receipt) (segment : ℕ) → All (λ (receipt : Receipt). receipt.caller < number) receipts
    → All (λ (receipt : Receipt). receipt.caller ≡ number) more → AreApart (calls_in script receipts segment) (calls_in script more segment)
apart script number receipts more segment below by =
    All-weaker (λ (call : Call). call.receipt.caller < number) (λ (call : Call). All (λ (other : Call). call.receipt.caller ≢ other.receipt.caller) (calls_in script more segment))
    (λ call low. All-weaker (λ (other : Call). other.receipt.caller ≡ number) (λ (other : Call). call.receipt.caller ≢ other.receipt.caller) (λ other is same. omega arith)
    (calls_in script more segment) (calls_have script (λ (receipt : Receipt). receipt.caller ≡ number) more segment by))
    (calls_in script receipts segment) (calls_have script (λ (receipt : Receipt). receipt.caller < number) receipts segment below)

-- ---- stop words that were found

any_later : (s : StopNumber) (ss : List StopNumber) → Any (λ (x : StopNumber). x.number ≢ 0) ss → Any (λ (x : StopNumber). x.number ≢ 0) (s ∷ ss)
any_later s ss any = (suc any.0, any.1, (let less = any.2 in omega arith), any.3, any.4)

any_left : (ss ts : List StopNumber) → Any (λ (x : StopNumber). x.number ≢ 0) ss → Any (λ (x : StopNumber). x.number ≢ 0) (ss ++ ts)
any_left [] ts any = absurd (let less = any.2 in omega arith)
any_left (s ∷ ss) ts (zero, x, below, is, p) = (zero, x, omega arith, is, p)
any_left (s ∷ ss) ts (suc k, x, below, is, p) = any_later s (ss ++ ts) (any_left ss ts (k, x, omega arith, is, p))

any_right : (ss ts : List StopNumber) → Any (λ (x : StopNumber). x.number ≢ 0) ts → Any (λ (x : StopNumber). x.number ≢ 0) (ss ++ ts)
any_right [] ts any = any
any_right (s ∷ ss) ts any = any_later s (ss ++ ts) (any_right ss ts any)

-- ---- one caller more

starved_neither : (a b : Bool) → (a || b) ≡ false → (a ≡ false) × (b ≡ false)
starved_neither false false e = (refl, refl)
starved_neither true b e = absurd (true≢false e)
starved_neither false true e = absurd (true≢false e)

-- the numbers of a pass's seats
seats_of : {F : Type 0} (store : Store) (script : List Line) (caller : Caller F) → number_of caller.pass ≡ caller.number → HasAnswered store script caller
    → All (λ (w : View). w.own.number ≡ caller.number) (views_of caller.pass)
seats_of store script caller is h = All-weaker (IsSeatOf (number_of caller.pass)) (λ (w : View). w.own.number ≡ caller.number) (λ w seat. seat.number_is ∙ is) (views_of caller.pass) h.keeps.seats

module _ {F G : Type 0} (fused : F → FuseSeen) (store : Store) (script : List Line) (caller : Caller F) (all later : Gathered) (old now : Pass G)
    (performed : HasPerformed fused store script caller) (gathers : Gathers store script caller.number all old) (long : length (views_of caller.pass) ≡ length (views_of old))
    (seats : views_of now ≡ joined_views (views_of old) (views_of caller.pass)) (claims : claims_view now ≡ yard_with_joined (claims_view old) (claims_view caller.pass))
    (starved : later.starved ≡ (all.starved || is_starved caller.halt)) (receipts : later.receipts.items ≡ all.receipts.items ++ caller.receipts.items)
    (ends : later.ends.items ≡ with_end all.ends.items (end_of caller.number caller.halt)) (asking : asks script caller.number ≡ true) where
  outcome : (end : Option CallerEnd) → end_of caller.number caller.halt ≡ end → HasAnswered store script caller
      → HasFoundStop (claims_view now) ⊎ ((later.ends.items ≡ all.ends.items) × HasFront store.geo script caller.number caller.receipts.items None)
  outcome None is h = inr (ends ∙ ap (with_end all.ends.items) is, subst (λ (e : Option CallerEnd). HasFront store.geo script caller.number caller.receipts.items e) is h.front)
  outcome (Some end) is h = inl (subst HasFoundStop (sym claims) (any_right (claims_view old).stops (claims_view caller.pass).stops (h.stopped (ap is_some is))))

  gathered : RootGathers store script caller.number all old → HasAnswered store script caller → RootGathers store script (caller.number + 1) later now
  gathered g h =
      let by = front_by store.geo script caller.number caller.receipts.items (end_of caller.number caller.halt) h.front in
      record {
        keeps = subst (λ (rs : List Receipt). RootKeeps store (calls_in script rs) now) (sym receipts)
            (rw (seats, claims) (root_same store.geo.extra (λ segment. calls_in script all.receipts.items segment ++ calls_in script caller.receipts.items segment)
            (calls_in script (all.receipts.items ++ caller.receipts.items)) (joined_views (views_of old) (views_of caller.pass)) (yard_with_joined (claims_view old) (claims_view caller.pass))
            (root_joins store.geo.extra (calls_in script all.receipts.items) (calls_in script caller.receipts.items) (views_of old) (claims_view old) caller.pass long g.keeps h.keeps performed.stands.rests.idle
            (λ segment. apart script caller.number all.receipts.items caller.receipts.items segment g.gathers.below by))
            (calls_joined script all.receipts.items caller.receipts.items)));
        joined = subst (λ (joined : List ℕ). HasJoined (askers_of script) joined now) (sym (asker_more script caller.number asking))
            (root_joins_back (askers_of script) (askers_below script caller.number) caller.number old now caller.pass g.joined
            (seats_of store script caller performed.stands.number_is h) (h.keeps.claims ∙ performed.stands.number_is) seats claims);
        gathers = subst (λ (rs : List Receipt). GathersBelow store.geo script (caller.number + 1) rs later.ends.items (claims_view now)) (sym receipts)
            (gathers_more store.geo script caller.number all.receipts.items caller.receipts.items all.ends.items later.ends.items (claims_view old) (claims_view now) g.gathers by
            (λ stop. subst HasFoundStop (sym claims) (any_left (claims_view old).stops (claims_view caller.pass).stops stop))
            (outcome (end_of caller.number caller.halt) refl h));
      }

  pub taken_back : Gathers store script (caller.number + 1) later now
  taken_back lives =
      let neither = starved_neither all.starved (is_starved caller.halt) (sym starved ∙ lives) in
      gathered (gathers neither.0) (performed.answers neither.1)

-- ---- its gate

-- a gate that didn't die changes no count
pub gates_back : (caller : ℕ) (old now : MakerSeen) (gate : FuseSeen) → gate.deaths ≡ 0 → CountsDeath caller old now gate → SameGates old now
gates_back caller old now gate alive counts = record {
  same = λ other. elim (cases_eq other caller) [
    | inl is ↦ subst (λ (c : ℕ). now.of c ≡ old.of c) (sym is)
        (counts.here ∙ ap (λ (n : ℕ). record (old.of caller) { deaths = deaths_with n (old.of caller).deaths }) alive)
    | inr ne ↦ counts.others other ne
  ];
  can_die = counts.can_die;
  tells = counts.tells;
}
