-- Laws of the calls of a store, and of its words, at the end where nobody died (own).
use Rattle.std.specs.Prelude.{ℕ, ◌≡◌, ◌<◌, ◌≤◌, Contains, List, length, sum}
use Rattle.cm_plain.specs.declared.reply.Reply.TheVariants as reply
use Rattle.cm_plain.specs.History.{Call}
use Rattle.cm_words.specs.LawfulMaps.{IsLawfulMap}
use Rattle.cm_words.specs.Maps.{MapWords}
use Rattle.cm_lock.specs.declared.view.View.{View}
use Rattle.cm_yard.specs.declared.view.Key.{Key as YardKey}
use Rattle.cm_yard.specs.declared.view.View.{View as YardView}
use Rattle.cm_yard.specs.Words.{owned_in}
use Rattle.cm_store.specs.Closes.{ClosesAll, ClosesYard}
use Rattle.cm_store.specs.Tables.{keys_of, linked_of}
use Rattle.cm_history.specs.Endings.{EndsLegalAll, HasFoundStop, KeepsRoot}

-- what is so of the words at the start and at the end, of all calls, and of the yard's view, where the store was made over the words of a map and
-- closed with these views of the root, which keeps the calls
abbrev pub IsSoAtTheEnd : (MapWords → MapWords → (ℕ → List Call) → YardView → Type 0) → Type 0
IsSoAtTheEnd IsSo = (old now : MapWords) (roots : List View) (key : YardKey) (claims : YardView) (calls : ℕ → List Call) → now.geo ≡ old.geo → key.geo ≡ old.geo
    → owned_in key.geo key.first ≡ sum (linked_of old) → length roots ≡ old.geo.segments → ClosesAll (keys_of old) roots now → ClosesYard key claims
    → IsLawfulMap old → KeepsRoot old.geo.extra calls roots claims → IsSo old now calls claims

-- the calls of each segment are one legal history
abbrev pub CallsEndLegal : Type 0
CallsEndLegal = IsSoAtTheEnd (λ old now calls claims. EndsLegalAll old now calls)

-- the words represent a map
abbrev pub CallsEndLawful : Type 0
CallsEndLawful = IsSoAtTheEnd (λ old now calls claims. IsLawfulMap now)

-- where a call was answered FullSpent, all extra tiers are linked
abbrev pub SpentAnswersFindAllTiers : Type 0
SpentAnswersFindAllTiers = IsSoAtTheEnd (λ old now calls claims.
    (segment : ℕ) (call : Call) → segment < old.geo.segments → Contains (calls segment) call → call.receipt.reply ≡ reply.FullSpent → old.geo.extra ≤ sum (linked_of now))

-- no stop word was found with a number
abbrev pub NoStopIsFound : Type 0
NoStopIsFound = IsSoAtTheEnd (λ old now calls claims. HasFoundStop claims → ⊥)
