-- A run of which nobody died is accounted for by its report.
use Rattle.std.proofs.Common.{◌≡◌, ℕ, suc, ◌+◌, ◌-◌, ◌<◌, ◌≤◌, ◌==◌, true, false, List, [], ◌∷◌, All, Contains, None, filter, flat_map, length, map, sum, sum_by, true≢false, refl, sym, ap, ◌∙◌, subst, arith, inl, inr}
use Rattle.std.specs.List.{AllByRecursion, filter_map, list_any, range_with_len}
use Rattle.std.proofs.lemmas.Bool.{cases_Bool, cases_lt}
use Rattle.std.proofs.lemmas.Bool.Decides.{nat_tests}
use Rattle.std.proofs.lemmas.List.Elements.{All-contains, All-nil}
use Rattle.std.proofs.lemmas.List.Sums.{sum-map, sum_by-cons}
use Rattle.std.proofs.lemmas.Nat.{mod_below}
use Rattle.cm_geo.specs.declared.geo.Geo.{Geo}
use Rattle.cm_geo.specs.Hash.{hash, segment_of_key}
use Rattle.cm_geo.proofs.Ranges.{segments_range}
use Rattle.cm_plain.specs.declared.op.Op.{Op}
use Rattle.cm_plain.specs.declared.op.Op.TheVariants as op
use Rattle.cm_plain.specs.declared.receipt.MapLine.{MapLine}
use Rattle.cm_plain.specs.declared.receipt.Receipt.{Receipt}
use Rattle.cm_plain.specs.declared.reply.Pair.{Pair}
use Rattle.cm_plain.specs.FoundChains.{KeepsAllowance, chain_of}
use Rattle.cm_plain.specs.History.{Call, Legal, change_count}
use Rattle.cm_plain.specs.Lawful.{Lawful}
use Rattle.cm_plain.specs.Limits.{KeepsLimits, segment_of}
use Rattle.cm_plain.specs.States.{Lists, State, one_tier}
use Rattle.cm_plain.proofs.ListElements.{In, all_in, in_from, in_kept_to, in_to, mapped_to, range_from, some_any}
use Rattle.cm_words.specs.LawfulMaps.{IsLawfulMap}
use Rattle.cm_words.specs.Maps.{MapWords, segment_in}
use Rattle.cm_lock.specs.declared.view.View.{View}
use Rattle.cm_yard.specs.declared.view.Key.{Key as YardKey}
use Rattle.cm_yard.specs.declared.view.View.{View as YardView}
use Rattle.cm_yard.specs.Words.{owned_in}
use Rattle.cm_check.specs.Contents.{ListsMap, ListsSegment}
use Rattle.cm_store.specs.Closes.{ClosesAll, ClosesYard}
use Rattle.cm_store.specs.Tables.{keys_of, linked_in, linked_of}
use Rattle.cm_history.specs.Endings.{EndsLegal, EndsLegalAll, HasFoundStop, KeepsRoot}
use Rattle.cm_history.proofs.Finishing.{ends_lawful, ends_legal, ends_spent, no_stop}
use Rattle.cm_script.specs.declared.limits.TheConstants.{MAX_CALLERS}
use Rattle.cm_script.specs.declared.line.Line.{Line}
use Rattle.cm_script.specs.declared.report.CallerEnd.{CallerEnd}
use Rattle.cm_script.specs.declared.report.Report.{Report}
use Rattle.cm_script.specs.Accounted.{Accounted, many_in, map_line}
use Rattle.cm_script.specs.Answers.{calls_in, call_at, own}
use Rattle.cm_script.specs.Ends.{dead_ends}
use Rattle.cm_script.specs.Found.{DeadCouldHold, Found, StoppedByDead}
use Rattle.cm_script.specs.Left.{as_answered}
use Rattle.cm_script.specs.Locks.{flight_at, nothing}
use Rattle.cm_script.specs.Scripts.{IsFor, IsLineFor}
use Rattle.cm_caller.specs.Records.{HasFront}
use Rattle.cm_run.specs.Callers.{MadeBelow, asks, made_for}
use Rattle.cm_command.specs.declared.kill.Kill.{Kill}
use Rattle.cm_run.specs.Explained.{Explained, number_after}
use Rattle.cm_run.specs.Gates.{CallerGates, MakerSeen}
use Rattle.cm_run.specs.Gathered.{GathersBelow, receipts_by}
use Rattle.cm_run.specs.RunGates.{Asks, DeathRose, HasDied, KeepsGate, SameGates, kill_for}
use Rattle.cm_run.proofs.Fronts.{IsAtLine, flat_map_same, front_at_lines, no_front}

-- ---- one segment

-- what is so of a segment at the end, with these pairs
pub record HoldsAt (geo : Geo) (segment : ℕ) (old now : List ℕ) (calls : List Call) (lines : List MapLine) (first : State) (before : ℕ) (states : ℕ → State) (pairs : List Pair) : Type 0 where
  pub begins : Lawful geo segment old before first
  pub legal : Legal geo segment first before states (change_count calls) calls
  pub ends : Lawful geo segment now (before + change_count calls) (states (change_count calls))
  pub listed : Lists (states (change_count calls)) pairs
  pub lines_are : lines ≡ map (map_line segment) pairs

-- with some history and pairs, whether the segment is one of the geometry or not
pub record AtEnd (geo : Geo) (segment : ℕ) (old now : List ℕ) (calls : List Call) (lines : List MapLine) : Type 0 where
  pub first : State
  pub before : ℕ
  pub states : ℕ → State
  pub pairs : List Pair
  pub holds : segment < geo.segments → HoldsAt geo segment old now calls lines first before states pairs

at_end : (geo : Geo) (segment : ℕ) (old now : List ℕ) (calls : List Call) (lines : List MapLine) → (segment < geo.segments → EndsLegal geo segment old now calls)
    → (segment < geo.segments → ListsSegment geo segment now lines) → AtEnd geo segment old now calls lines
at_end geo segment old now calls lines ends lists = elim (cases_lt segment geo.segments) [
  | inl below ↦ (let e = ends below in let l = lists below in record {
    first = e.first;
    before = e.before;
    states = e.states;
    pairs = l.pairs;
    holds = λ h. record {
      begins = e.begins;
      legal = e.legal;
      ends = e.ends;
      listed = l.listed (e.before + change_count calls) (e.states (change_count calls)) e.ends;
      lines_are = l.lines_are;
    };
  })
  | inr above ↦ record { first = one_tier; before = 0; states = λ i. one_tier; pairs = []; holds = λ below. absurd (omega arith) }
]

-- ---- sums

sums_same : (f g : ℕ → ℕ) (ns : List ℕ) → AllByRecursion (λ n. f n ≡ g n) ns → sum_by f ns ≡ sum_by g ns
sums_same f g [] same = refl
sums_same f g (n ∷ ns) same =
    let a = sum_by-cons f n ns in let b = sum_by-cons g n ns in let here = same.0 in let rest = sums_same f g ns same.1 in omega arith

-- no ends of nobody
no_ends : (ns : List ℕ) → filter_map {Y = CallerEnd} (λ (n : ℕ). None) ns ≡ []
no_ends [] = refl
no_ends (n ∷ ns) = no_ends ns

-- ---- who asks

pub asks_from : (script : List Line) (caller : ℕ) → Asks script caller → asks script caller ≡ true
asks_from script caller (line, there, is) = go script (in_from script line there)
  where
    same : (line.caller == caller) ≡ true
    same = grind (arith, nat_tests, is)

    go : (lines : List Line) → In line lines → list_any (λ (it : Line). it.caller == caller) lines ≡ true
    go [] at = absurd at
    go (it ∷ later) (inl here) = elim (cases_Bool (it.caller == caller)) [
      | inl asks_so ↦ rw asks_so refl
      | inr fails ↦ absurd (true≢false (sym same ∙ (ap (λ (l : Line). l.caller == caller) here ∙ fails)))
    ]
    go (it ∷ later) (inr at) = elim (cases_Bool (it.caller == caller)) [
      | inl asks_so ↦ rw asks_so refl
      | inr fails ↦ rw fails (go later at)
    ]

pub asks_not : (script : List Line) (caller : ℕ) → (Asks script caller → ⊥) → asks script caller ≡ false
asks_not script caller none = elim (cases_Bool (asks script caller)) [
  | inl asks_so ↦ absurd (none (let some = some_any (λ (it : Line). it.caller == caller) script asks_so in (some.0, in_to script some.0 some.1, same some.0.caller some.2)))
  | inr fails ↦ fails
]
  where
    same : (n : ℕ) → (n == caller) ≡ true → n ≡ caller
    same n is = grind (arith, nat_tests, is)

callers_below : (geo : Geo) (script : List Line) → IsFor geo script → (caller : ℕ) → asks script caller ≡ true → caller < MAX_CALLERS
callers_below geo script for_geo caller asks_so =
    let some = some_any (λ (it : Line). it.caller == caller) script asks_so in
    let line = All-contains (IsLineFor geo) script some.0 for_geo (in_to script some.0 some.1) in
    subst (λ (n : ℕ). n < MAX_CALLERS) (same some.0.caller some.2) line.caller
  where
    same : (n : ℕ) → (n == caller) ≡ true → n ≡ caller
    same n is = grind (arith, nat_tests, is)

-- the segment of an operation is one of the geometry
segment_below : (geo : Geo) (asked : Op) → KeepsLimits geo asked → segment_of geo asked < geo.segments
segment_below geo asked limits = by asked limits
  where
    keyed : (key : List ℕ) → segment_of_key geo key < geo.segments
    keyed key = mod_below (hash key) geo.segments (let r = (segments_range geo).0 in omega arith)

    by : (it : Op) → KeepsLimits geo it → segment_of geo it < geo.segments
    by (op.Put key value) limits = keyed key
    by (op.Get key) limits = keyed key
    by (op.PutIfAbsent key value) limits = keyed key
    by (op.Replace key value) limits = keyed key
    by (op.ReplaceIf key expected value) limits = keyed key
    by (op.Remove key) limits = keyed key
    by (op.RemoveIf key expected) limits = keyed key
    by (op.Count segment) limits = limits
    by (op.List segment) limits = limits
    by (op.Sweep segment prefix) limits = limits.0

-- ---- the run

module _ (old now : MapWords) (script : List Line) (roots : List View) (key : YardKey) (claims : YardView) (report : Report)
    (lawful : IsLawfulMap old) (for_geo : IsFor old.geo script) (geo_is : now.geo ≡ old.geo) (key_geo : key.geo ≡ old.geo) (owned : owned_in key.geo key.first ≡ sum (linked_of old))
    (many : length roots ≡ old.geo.segments) (closes : ClosesAll (keys_of old) roots now) (yard : ClosesYard key claims)
    (keeps : KeepsRoot old.geo.extra (calls_in script report.receipts) roots claims)
    (gathers : GathersBelow old.geo script MAX_CALLERS report.receipts report.ends claims)
    (none_found : report.found ≡ []) (map_is : ListsMap now report.map) (extra_is : report.extra ≡ sum (linked_of now)) where
  stopless : HasFoundStop claims → ⊥
  stopless = no_stop old now roots key claims (calls_in script report.receipts) geo_is key_geo owned many closes yard lawful keeps

  gathered : (report.ends ≡ []) × ((caller : ℕ) → caller < MAX_CALLERS → HasFront old.geo script caller (receipts_by caller report.receipts) None)
  gathered = elim gathers.fronts [
    | inl stop ↦ absurd (stopless stop)
    | inr all ↦ all
  ]

  -- each caller's front, also that of one that isn't there
  front_of : (caller : ℕ) → HasFront old.geo script caller (receipts_by caller report.receipts) None
  front_of caller = elim (cases_lt caller MAX_CALLERS) [
    | inl below ↦ gathered.1 caller below
    | inr above ↦ subst (λ (rs : List Receipt). HasFront old.geo script caller rs None) (sym (none above)) (no_front old.geo script caller (silent above))
  ]
    where
      none : MAX_CALLERS ≤ caller → receipts_by caller report.receipts ≡ []
      none above = kept_none report.receipts gathers.below
        where
          kept_none : (rs : List Receipt) → All (λ (receipt : Receipt). receipt.caller < MAX_CALLERS) rs → receipts_by caller rs ≡ []
          kept_none [] all = refl
          kept_none (r ∷ rs) all =
              let low : r.caller < MAX_CALLERS = all 0 r (omega arith) in
              let fails : (r.caller == caller) ≡ false = grind (arith, nat_tests) in
              rw fails (kept_none rs (λ i d below. all (suc i) d (omega arith)))

      silent : MAX_CALLERS ≤ caller → asks script caller ≡ false
      silent above = elim (cases_Bool (asks script caller)) [
        | inl asks_so ↦ absurd (let b = callers_below old.geo script for_geo caller asks_so in omega arith)
        | inr fails ↦ fails
      ]

  legal_all : EndsLegalAll old now (calls_in script report.receipts)
  legal_all = ends_legal old now roots key claims (calls_in script report.receipts) geo_is key_geo owned many closes yard lawful keeps

  lawful_now : IsLawfulMap now
  lawful_now = ends_lawful old now roots key claims (calls_in script report.receipts) geo_is key_geo owned many closes yard lawful keeps

  pub end_at : (segment : ℕ) → AtEnd old.geo segment (segment_in old segment) (segment_in now segment) (calls_in script report.receipts segment) (map_is.parts segment)
  end_at segment = at_end old.geo segment (segment_in old segment) (segment_in now segment) (calls_in script report.receipts segment) (map_is.parts segment)
      (λ below. legal_all segment below)
      (λ below. subst (λ (g : Geo). ListsSegment g segment (segment_in now segment) (map_is.parts segment)) geo_is
      (map_is.listed segment (subst (λ (g : Geo). segment < g.segments) (sym geo_is) below)))

  abbrev pub last_of : ℕ → State
  last_of segment = (end_at segment).states (change_count (calls_in script report.receipts segment))

  chain_is : (segment : ℕ) → segment < old.geo.segments → linked_in now segment ≡ length (last_of segment).chain - 1
  chain_is segment below =
      let h = (end_at segment).holds below in
      ap (λ (g : Geo). length (chain_of g (segment_in now segment)).places - 1) geo_is ∙ ap (λ (l : List ℕ). length l - 1) h.ends.apart.represents.chain

  each_segment : (P : ℕ → Type 0) → ((segment : ℕ) → segment < old.geo.segments → P segment) → AllByRecursion P (range_with_len 0 old.geo.segments)
  each_segment P each = all_in P (range_with_len 0 old.geo.segments) (λ segment there. each segment (let r = (range_from 0 old.geo.segments segment there).1 in omega arith))

  extra_sum : report.extra ≡ sum_by (λ segment. length (last_of segment).chain - 1) (range_with_len 0 old.geo.segments)
  extra_sum = extra_is ∙ (sum-map (linked_in now) (range_with_len 0 now.geo.segments)
      ∙ (ap (λ (g : Geo). sum_by (linked_in now) (range_with_len 0 g.segments)) geo_is
      ∙ sums_same (linked_in now) (λ segment. length (last_of segment).chain - 1) (range_with_len 0 old.geo.segments)
      (each_segment (λ segment. linked_in now segment ≡ length (last_of segment).chain - 1) chain_is)))

  few : report.extra ≤ old.geo.extra
  few =
      let allowed = lawful_now.allowance in
      let total = sum-map (linked_in now) (range_with_len 0 now.geo.segments) in
      let most = ap (λ (g : Geo). g.extra) geo_is in omega arith

  -- a receipt is one of the calls of its segment, which is one of the geometry
  call_there : (receipt : Receipt) → Contains report.receipts receipt → (asked : Op) × (receipt.segment < old.geo.segments) × Contains (calls_in script report.receipts receipt.segment) (record { op = asked; receipt = receipt })
  call_there receipt there =
      let low : receipt.caller < MAX_CALLERS = All-contains (λ (it : Receipt). it.caller < MAX_CALLERS) report.receipts receipt gathers.below there in
      let mine : In receipt (receipts_by receipt.caller report.receipts) = in_kept_to (λ (it : Receipt). it.caller == receipt.caller) report.receipts receipt (in_from report.receipts receipt there) (itself receipt.caller) in
      let line = All-contains (IsAtLine old.geo script) (receipts_by receipt.caller report.receipts) receipt
      (front_at_lines old.geo script receipt.caller (receipts_by receipt.caller report.receipts) None (gathered.1 receipt.caller low)) (in_to (receipts_by receipt.caller report.receipts) receipt mine) in
      let limits = (All-contains (IsLineFor old.geo) script line.line for_geo line.among).limits in (
        line.line.op,
        subst (λ (n : ℕ). n < old.geo.segments) (sym line.segment_is) (segment_below old.geo line.line.op limits),
        in_to (calls_in script report.receipts receipt.segment) (record { op = line.line.op; receipt = receipt })
            (mapped_to (call_at script) (filter (λ (it : Receipt). it.segment == receipt.segment) report.receipts) receipt (record { op = line.line.op; receipt = receipt })
            (in_kept_to (λ (it : Receipt). it.segment == receipt.segment) report.receipts receipt (in_from report.receipts receipt there) (itself receipt.segment)) (rw line.there refl)),
      )
    where
      itself : (n : ℕ) → (n == n) ≡ true
      itself n = grind (arith, nat_tests)

  pub accounted : Accounted old.geo (λ segment. (end_at segment).first) (λ segment. (end_at segment).before) script report last_of
  accounted = record {
    front = λ caller. (front_of caller).front;
    end_of = λ caller. None;
    states = λ segment. (end_at segment).states;
    left = λ segment. as_answered;
    held = λ caller. nothing;
    pairs = λ segment. (end_at segment).pairs;
    receipts_are = gathers.by_caller
        ∙ flat_map_same (λ caller. receipts_by caller report.receipts) (λ caller. own (front_of caller).front) (range_with_len 0 MAX_CALLERS)
        (all_in (λ (caller : ℕ). receipts_by caller report.receipts ≡ own (front_of caller).front) (range_with_len 0 MAX_CALLERS) (λ caller there. (front_of caller).own_is));
    answered = λ caller below. (front_of caller).answered;
    ends_are = gathered.0 ∙ sym (no_ends (range_with_len 0 MAX_CALLERS));
    ended = λ caller below. (front_of caller).ended;
    stopped = subst (λ (es : List CallerEnd). StoppedByDead old.geo script report.found es) (sym gathered.0) (All-nil _);
    could_hold = subst (λ (es : List CallerEnd). DeadCouldHold script es (λ caller. nothing)) (sym gathered.0) (All-nil _);
    in_sweep = λ caller end below is dead. absurd (cc is);
    found = subst (λ (es : List CallerEnd). Found old.geo script es (λ segment. length (end_at segment).pairs) (λ caller. nothing) report.found) (sym gathered.0) none_found;
    legal = λ segment below. ((end_at segment).holds below).legal;
    left_with = λ segment below. (subst (λ (found : List _). flight_at found segment ≡ false) (sym none_found) refl, refl);
    is_state = λ segment below. ((end_at segment).holds below).ends.apart.represents.is_state;
    listed = λ segment below. ((end_at segment).holds below).listed;
    map_is = map_is.lines_are ∙ (ap (λ (g : Geo). flat_map map_is.parts (range_with_len 0 g.segments)) geo_is
        ∙ flat_map_same map_is.parts (λ segment. map (map_line segment) (end_at segment).pairs) (range_with_len 0 old.geo.segments)
        (each_segment (λ segment. map_is.parts segment ≡ map (map_line segment) (end_at segment).pairs) (λ segment below. ((end_at segment).holds below).lines_are)));
    extra_is = extra_sum;
    extra_few = few;
    spent = λ receipt there full.
        let (asked, below, at) = call_there receipt there in
        let all = ends_spent old now roots key claims (calls_in script report.receipts) geo_is key_geo owned many closes yard lawful keeps receipt.segment (record { op = asked; receipt = receipt }) below at full in
        let e = extra_is in omega arith;
  }

  module _ (kills : List Kill) (earlier mid later : MakerSeen) (no_kill : kills ≡ []) (made : MadeBelow script MAX_CALLERS earlier mid) (same : SameGates mid later) where
    nobody : (caller : ℕ) → HasDied report caller → ⊥
    nobody caller d = absurd (let there = subst (λ (es : List CallerEnd). Contains (dead_ends es) d.end) gathered.0 d.there in let h = there.1 in omega arith)

    -- the deaths of a caller that asks are as before
    counts_of : (caller : ℕ) → asks script caller ≡ true → later.of caller ≡ made_for (earlier.of caller)
    counts_of caller asks_so = same.same caller ∙ made.each caller (callers_below old.geo script for_geo caller asks_so) asks_so

    no_death : (caller : ℕ) → asks script caller ≡ true → DeathRose earlier later caller → ⊥
    no_death caller asks_so rose = let e = ap (λ (c : CallerGates). c.deaths) (counts_of caller asks_so) in omega (arith, rose)

    keeps_gate : (caller : ℕ) → Asks script caller → KeepsGate old.geo script kills report (λ c. nothing) earlier later caller
    keeps_gate caller asked =
        let asks_so = asks_from script caller asked in
        let is = counts_of caller asks_so in
        let none : kill_for kills caller ≡ None = ap (λ (ks : List Kill). kill_for ks caller) no_kill in
        record {
          once = ap (λ (c : CallerGates). c.made) is;
          kill_is = ap (λ (c : CallerGates). c.last_kill) is ∙ sym none;
          dead_is = ((λ d. absurd (nobody caller d)), (λ rose. absurd (no_death caller asks_so rose)));
          could = λ rose. absurd (no_death caller asks_so rose);
          used_up = λ tells. rw none tt;
        }

    pub explained : Explained old.geo (segment_in old) script kills earlier later report (segment_in now)
    unfolding accounted
    explained = record {
      first = λ segment. (end_at segment).first;
      before = λ segment. (end_at segment).before;
      last = last_of;
      begins = λ segment below. ((end_at segment).holds below).begins;
      accounted = accounted;
      gates = record {
        each = keeps_gate;
        others = λ caller none. same.same caller ∙ made.others caller (λ below. asks_not script caller none);
        can_die = same.can_die ∙ made.can_die;
        tells = same.tells ∙ made.tells;
      };
      ends = λ segment below. subst (λ (es : List CallerEnd). Lawful old.geo segment (segment_in now segment)
          (number_after (dead_ends es) ((end_at segment).before + many_in script report segment)) (last_of segment)) (sym gathered.0) ((end_at segment).holds below).ends;
      allowance = subst (λ (g : Geo). KeepsAllowance g (segment_in now)) geo_is lawful_now.allowance;
    }
