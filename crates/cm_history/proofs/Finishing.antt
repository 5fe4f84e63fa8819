-- What the calls of a store, its words and its stop words are at the end, where nobody died.
use Rattle.std.proofs.Common.{◌≡◌, ◌≢◌, ℕ, ◌+◌, ◌<◌, ◌≤◌, List, [], ◌∷◌, length, get_or, slice_get, sum, sum_by, take, All, Contains, Some, inl, inr, refl, sym, ◌∙◌, subst, arith}
use Rattle.std.proofs.lemmas.List.{take_all}
use Rattle.std.proofs.lemmas.List.Elements.{All-head, All-tail}
use Rattle.std.proofs.lemmas.List.FromFn.{get_or-map-range_with_len, length-map-range_with_len}
use Rattle.std.proofs.lemmas.List.Sums.{sum_by-cons}
use Rattle.std.proofs.lemmas.Option.{slice_get_read}
use Rattle.cm_geo.specs.declared.geo.Geo.{Geo}
use Rattle.cm_plain.specs.declared.reply.Reply.TheVariants as reply
use Rattle.cm_plain.specs.Changes.{Change}
use Rattle.cm_plain.specs.History.{Call, change_count}
use Rattle.cm_plain.specs.Lawful.{Lawful}
use Rattle.cm_words.specs.LawfulMaps.{IsLawfulMap, IsLawfulSegment}
use Rattle.cm_words.specs.Maps.{MapWords, segment_in}
use Rattle.cm_lock.specs.declared.view.HeldLevel.{HeldLevel}
use Rattle.cm_lock.specs.declared.view.Key.{Key}
use Rattle.cm_lock.specs.declared.view.Level.{Level}
use Rattle.cm_lock.specs.declared.view.Level.TheVariants.{Free}
use Rattle.cm_lock.specs.declared.view.View.{View}
use Rattle.cm_lock.specs.ChangeLists.{number_of, state_after, state_at}
use Rattle.cm_lock.specs.Levels.{reads, reads_in, updates, updates_in, writes, writes_in}
use Rattle.cm_lock.specs.Tables.{Closes}
use Rattle.cm_yard.specs.declared.view.Key.{Key as YardKey}
use Rattle.cm_yard.specs.declared.view.StopNumber.{StopNumber}
use Rattle.cm_yard.specs.declared.view.View.{View as YardView}
use Rattle.cm_yard.specs.Words.{owned_in}
use Rattle.cm_store.specs.Closes.{ClosesAll, ClosesYard}
use Rattle.cm_store.specs.Tables.{key_in, keys_of, linked_of}
use Rattle.cm_store.proofs.Elements.{element_at}
use Rattle.cm_laws.specs.Laws.{LeavesNothing}
use Rattle.cm_laws.specs.StopLaws.{StandsAt, StandsFor}
use Rattle.cm_laws.proofs.Allowance.{ends_allowed}
use Rattle.cm_laws.proofs.Owing.{spent_near}
use Rattle.cm_laws.proofs.Remains.{ends_lawful as words_lawful, rests_apart}
use Rattle.cm_laws.proofs.StopLevels.{stops_stand}
use Rattle.cm_history.specs.Endings.{EndsLegalAll, HasFoundStop, KeepsRoot}
use Rattle.cm_history.proofs.Gathering.{all_at}
use Rattle.cm_history.proofs.Histories.{as_many, legal}

-- ---- a seat that holds nothing

free_counts : (level : Level) → level ≡ Free → (reads level ≡ 0) × (updates level ≡ 0) × (writes level ≡ 0)
free_counts level is = rw is (refl, refl, refl)

-- levels that count nothing
sum_none : (f : HeldLevel → ℕ) (hs : List HeldLevel) → All (λ (h : HeldLevel). f h ≡ 0) hs → sum_by f hs ≡ 0
sum_none f [] all = refl
sum_none f (h ∷ hs) all =
    let c = sum_by-cons f h hs in let a = All-head (λ (x : HeldLevel). f x ≡ 0) h hs all in let r = sum_none f hs (All-tail (λ (x : HeldLevel). f x ≡ 0) h hs all) in omega arith

nothing_read : (v : View) → LeavesNothing v → reads_in v ≡ 0
nothing_read v nothing =
    let own = (free_counts v.own.level nothing.own).0 in
    let rest = sum_none (λ (h : HeldLevel). reads h.level) v.inherited (λ i h below. (free_counts (get_or v.inherited i h).level (nothing.inherited i h below)).0) in omega arith

nothing_updated : (v : View) → LeavesNothing v → updates_in v ≡ 0
nothing_updated v nothing =
    let own = (free_counts v.own.level nothing.own).1 in
    let rest = sum_none (λ (h : HeldLevel). updates h.level) v.inherited (λ i h below. (free_counts (get_or v.inherited i h).level (nothing.inherited i h below)).1) in omega arith

nothing_written : (v : View) → LeavesNothing v → writes_in v ≡ 0
nothing_written v nothing =
    let own = (free_counts v.own.level nothing.own).2 in
    let rest = sum_none (λ (h : HeldLevel). writes h.level) v.inherited (λ i h below. (free_counts (get_or v.inherited i h).level (nothing.inherited i h below)).2) in omega arith

-- no number stands for levels of it
stands_nowhere : (number : ℕ) (words : List ℕ) (v : View) → LeavesNothing v → StandsFor number words v → ⊥
stands_nowhere number words v nothing stands = elim stands.known [
  | inl one ↦ (let some = (stands.others one).1 in let r = nothing_read v nothing in let u = nothing_updated v nothing in omega arith)
  | inr two ↦ (let some = stands.writer two in let w = nothing_written v nothing in omega arith)
]

-- ---- one segment

module _ (key : Key) (v : View) (words : List ℕ) (calls : List Call) (closes : Closes key v words) where
  -- the words at the start represent the list's first state, with its number
  begins_lawful : IsLawfulSegment key.geo key.segment key.first → Lawful key.geo key.segment key.first closes.list.start closes.list.first
  begins_lawful (number, state, lawful) = record {
    lock = lawful.lock;
    number_is = closes.starts;
    number_within_limit = (let n = lawful.number_is in let s = closes.starts in let m = lawful.number_within_limit in omega arith);
    apart = rests_apart key.geo key.segment key.first closes.list.first closes.first_rests;
  }

  -- and those at the end its last one
  ends_after : LeavesNothing v → change_count calls ≡ length closes.list.changes
      → Lawful key.geo key.segment words (closes.list.start + change_count calls) (state_at key.geo closes.list (change_count calls))
  ends_after nothing many =
      let whole : take (length closes.list.changes) closes.list.changes ≡ closes.list.changes = take_all (length closes.list.changes) closes.list.changes (omega arith) in
      subst (λ (n : ℕ). Lawful key.geo key.segment words (closes.list.start + n) (state_at key.geo closes.list n)) (sym many)
      (subst (λ (cs : List Change). Lawful key.geo key.segment words (number_of closes.list) (state_after key.geo closes.list.first cs)) (sym whole)
      (words_lawful key v words closes nothing))

-- ---- all segments

module _ (old now : MapWords) (roots : List View) (key : YardKey) (claims : YardView) (calls : ℕ → List Call) (geo_is : now.geo ≡ old.geo) (key_geo : key.geo ≡ old.geo)
    (owned : owned_in key.geo key.first ≡ sum (linked_of old)) (many : length roots ≡ old.geo.segments) (closes : ClosesAll (keys_of old) roots now)
    (yard : ClosesYard key claims) (lawful : IsLawfulMap old) (root : KeepsRoot old.geo.extra calls roots claims) where
  key_there : (segment : ℕ) → segment < old.geo.segments → slice_get (keys_of old) segment ≡ Some (key_in old segment)
  key_there segment below =
      let long = length-map-range_with_len (key_in old) 0 old.geo.segments in
      slice_get_read (keys_of old) (length (keys_of old)) segment (key_in old segment) refl (omega arith)
      (sym (get_or-map-range_with_len (key_in old) 0 old.geo.segments segment segment (key_in old segment) below (omega arith)))

  -- no stop word was found with a number
  pub no_stop : HasFoundStop claims → ⊥
  no_stop (k, s, inside, is, some) =
      let long : length roots ≡ length (keys_of old) = many ∙ sym (length-map-range_with_len (key_in old) 0 old.geo.segments) in
      let all = stops_stand (keys_of old) roots now key claims long closes yard root.kept.stops in
      let at : StandsAt roots now s = subst (λ (x : StopNumber). x.number ≢ 0 → StandsAt roots now x) is (all k s inside) some in
      stands_nowhere s.number (segment_in now s.segment) at.seat (all_at LeavesNothing roots root.nothing s.segment at.seat at.there) at.stands

  -- the calls of each segment are one legal history
  pub ends_legal : EndsLegalAll old now calls
  ends_legal segment below =
      let (v, there) = element_at roots segment (omega arith) in
      let ends = closes.each segment (key_in old segment) v (key_there segment below) there in
      let has = root.kept.has segment v there in
      record {
        first = ends.list.first;
        before = ends.list.start;
        states = state_at old.geo ends.list;
        begins = begins_lawful (key_in old segment) v (segment_in now segment) (calls segment) ends (lawful.segments segment below);
        legal = legal (key_in old segment) v (segment_in now segment) (calls segment) ends has;
        ends = ends_after (key_in old segment) v (segment_in now segment) (calls segment) ends (all_at LeavesNothing roots root.nothing segment v there)
            (as_many (key_in old segment) v (segment_in now segment) (calls segment) ends has);
      }

  -- the words at the end represent a map
  pub ends_lawful : IsLawfulMap now
  ends_lawful = record {
    segments = λ segment below. (
        let ends = ends_legal segment (subst (λ (g : Geo). segment < g.segments) geo_is below) in (
          ends.before + change_count (calls segment),
          ends.states (change_count (calls segment)),
          subst (λ (g : Geo). Lawful g segment (segment_in now segment) (ends.before + change_count (calls segment)) (ends.states (change_count (calls segment))))
              (sym geo_is) ends.ends,
        ));
    allowance = ends_allowed old now roots key claims geo_is key_geo owned many closes yard root.kept.balance;
  }

  -- where a call was answered FullSpent, all extra tiers are linked at the end
  pub ends_spent : (segment : ℕ) (call : Call) → segment < old.geo.segments → Contains (calls segment) call → call.receipt.reply ≡ reply.FullSpent
      → old.geo.extra ≤ sum (linked_of now)
  ends_spent segment call below within is =
      let near = spent_near old now roots key claims 0 geo_is key_geo owned many closes yard root.kept.owes (root.kept.spent segment call within is) in omega arith
