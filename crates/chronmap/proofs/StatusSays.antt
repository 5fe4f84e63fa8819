-- What a status says of the words, of what is lent, and of the sink.
use Rattle.std.specs.Prelude.{◌≡◌, ◌⊎◌, ℕ, zero, suc, List, Option, Some, None}
use Rattle.std.proofs.Common.{◌∙◌, ap, inl, inr, refl, subst, sym}
use Rattle.cm_geo.specs.declared.refused.GeoRefused.{GeoRefused}
use Rattle.cm_command.specs.Grammar.{AskForOne, AsksForNone}
use Rattle.cm_command.specs.declared.command.Command.{Command}
use Rattle.cm_command.specs.declared.command.Command.TheVariants as command
use Rattle.cm_command.specs.declared.command.Origin.TheVariants as origin
use Rattle.cm_command.specs.declared.kill.Kill.{Kill}
use Rattle.cm_command.specs.declared.numbers.Numbers.{Numbers}
use Rattle.cm_script.specs.Scripts.{too_long, refused}
use Rattle.chronmap.specs.declared.status.Status.{Status}
use Rattle.chronmap.specs.declared.status.Status.TheVariants as status
use Rattle.chronmap.specs.declared.stop.Stop.{Stop}
use Rattle.chronmap.specs.declared.stop.Stop.TheVariants as stop
use Rattle.chronmap.specs.Done.{Gives}
use Rattle.chronmap.specs.ExitCodes.{Asks, HasStatus, IsNoScript, RefusesGeometry, RefusesImage, RefusesWords, WritesText}
use Rattle.chronmap.specs.Lent.{Lent}
use Rattle.chronmap.specs.Refusals.{CausesStop, RefusesNumbers}
use Rattle.chronmap.specs.Runs.{refusal_of}
use Rattle.chronmap.specs.Statuses.{code_of, status_of}
use Rattle.chronmap.specs.Streams.{CountsFault, StreamView}
use Rattle.chronmap.specs.Taken.{AsksForNoneOf}
use Rattle.chronmap.specs.Vaults.{CountsVaultFault}

-- ---- a number is that of one status

abbrev status_in : ℕ → Status
status_in zero = status.Ok
status_in (suc zero) = status.NoMemory
status_in (suc (suc zero)) = status.Usage
status_in (suc (suc (suc zero))) = status.Script
status_in (suc (suc (suc (suc zero)))) = status.ReadFault
status_in (suc (suc (suc (suc (suc zero))))) = status.WriteFault
status_in (suc (suc (suc (suc (suc (suc zero)))))) = status.VaultFault
status_in (suc (suc (suc (suc (suc (suc (suc zero))))))) = status.Image
status_in (suc (suc (suc (suc (suc (suc (suc (suc rest)))))))) = status.Geometry

in-code : (it : Status) → status_in (code_of it) ≡ it
in-code status.Ok = refl
in-code status.NoMemory = refl
in-code status.Usage = refl
in-code status.Script = refl
in-code status.ReadFault = refl
in-code status.WriteFault = refl
in-code status.VaultFault = refl
in-code status.Image = refl
in-code status.Geometry = refl

same-status : (it other : Status) → code_of it ≡ code_of other → it ≡ other
same-status it other e = sym (in-code it) ∙ ap status_in e ∙ in-code other

-- ---- what each status says

abbrev Says : (Command → Type 0) → List (List ℕ) → Lent → Lent → StreamView → StreamView → Status → Type 0
Says takes words old new sink later_sink status.Ok = Unit {0}
Says takes words old new sink later_sink status.NoMemory = Unit {0}
Says takes words old new sink later_sink status.Usage = AsksForNoneOf takes words
Says takes words old new sink later_sink status.Script = IsNoScript takes words old new
Says takes words old new sink later_sink status.ReadFault = CountsFault old.source new.source
Says takes words old new sink later_sink status.WriteFault = CountsFault sink later_sink
Says takes words old new sink later_sink status.VaultFault = CountsVaultFault old.vault new.vault
Says takes words old new sink later_sink status.Image = RefusesImage takes words old.vault
Says takes words old new sink later_sink status.Geometry = RefusesGeometry takes words

says-words : (why : Stop) (takes : Command → Type 0) (words : List (List ℕ)) (old new : Lent) (sink later_sink : StreamView)
    → RefusesWords takes words why → Says takes words old new sink later_sink (status_of why)
says-words stop.NoMemory takes words old new sink later_sink r = tt
says-words stop.Usage takes words old new sink later_sink r = r
says-words (stop.Geometry w) takes words old new sink later_sink r = absurd r
says-words stop.Missing takes words old new sink later_sink r = absurd r
says-words (stop.NotImage w) takes words old new sink later_sink r = absurd r
says-words (stop.Broken b) takes words old new sink later_sink r = absurd r
says-words stop.TooLong takes words old new sink later_sink r = absurd r
says-words (stop.Refused line w) takes words old new sink later_sink r = absurd r
says-words stop.ReadFault takes words old new sink later_sink r = absurd r
says-words stop.VaultFault takes words old new sink later_sink r = absurd r

says-stop : (why : Stop) (takes : Command → Type 0) (words : List (List ℕ)) (old new : Lent) (sink later_sink : StreamView) (it : Command)
    → Asks takes words it → CausesStop it old new why → Says takes words old new sink later_sink (status_of why)
says-stop stop.NoMemory takes words old new sink later_sink it asked cause = tt
says-stop stop.Usage takes words old new sink later_sink it asked cause = absurd cause
says-stop (stop.Geometry w) takes words old new sink later_sink it asked cause = record { it = it; asked = asked; why = w; refuses = cause }
says-stop stop.Missing takes words old new sink later_sink it asked cause = record { it = it; asked = asked; why = stop.Missing; refuses = cause }
says-stop (stop.NotImage w) takes words old new sink later_sink it asked cause = record { it = it; asked = asked; why = stop.NotImage w; refuses = cause }
says-stop (stop.Broken b) takes words old new sink later_sink it asked cause = record { it = it; asked = asked; why = stop.Broken b; refuses = cause }
says-stop stop.TooLong takes words old new sink later_sink it asked cause = record { it = it; asked = asked; why = too_long; refuses = cause }
says-stop (stop.Refused line w) takes words old new sink later_sink it asked cause = record { it = it; asked = asked; why = refused line w; refuses = cause }
says-stop stop.ReadFault takes words old new sink later_sink it asked cause = cause.1
says-stop stop.VaultFault takes words old new sink later_sink it asked cause = cause.1

says-written : (it : Status) (takes : Command → Type 0) (words : List (List ℕ)) (old new : Lent) (sink later_sink : StreamView) (text : List ℕ)
    → WritesText it sink later_sink text → Says takes words old new sink later_sink it
says-written status.Ok takes words old new sink later_sink text w = tt
says-written status.NoMemory takes words old new sink later_sink text w = absurd w
says-written status.Usage takes words old new sink later_sink text w = absurd w
says-written status.Script takes words old new sink later_sink text w = absurd w
says-written status.ReadFault takes words old new sink later_sink text w = absurd w
says-written status.WriteFault takes words old new sink later_sink text w = w.0
says-written status.VaultFault takes words old new sink later_sink text w = absurd w
says-written status.Image takes words old new sink later_sink text w = absurd w
says-written status.Geometry takes words old new sink later_sink text w = absurd w

says : (it : Status) (takes : Command → Type 0) (words : List (List ℕ)) (old new : Lent) (sink later_sink : StreamView)
    → HasStatus it takes words old new sink later_sink → Says takes words old new sink later_sink it
says it takes words old new sink later_sink has = elim has [
  | inl done ↦ says-written it takes words old new sink later_sink done.text done.writes
  | inr refuses ↦ subst (λ (that : Status). Says takes words old new sink later_sink that) (sym refuses.status_is) (elim refuses.stopped [
    | inl w ↦ says-words refuses.why takes words old new sink later_sink w.refuses
    | inr s ↦ says-stop refuses.why takes words old new sink later_sink s.it s.asked s.stops.cause
  ])
]

-- ---- words that are refused have no other status

usage-words : (why : Stop) (takes : Command → Type 0) (words : List (List ℕ)) → RefusesWords takes words why → AsksForNone words → status_of why ≡ status.Usage
usage-words stop.NoMemory takes words r none = absurd (none r.0 r.1)
usage-words stop.Usage takes words r none = refl
usage-words (stop.Geometry w) takes words r none = absurd r
usage-words stop.Missing takes words r none = absurd r
usage-words (stop.NotImage w) takes words r none = absurd r
usage-words (stop.Broken b) takes words r none = absurd r
usage-words stop.TooLong takes words r none = absurd r
usage-words (stop.Refused line w) takes words r none = absurd r
usage-words stop.ReadFault takes words r none = absurd r
usage-words stop.VaultFault takes words r none = absurd r

usage-status : (it : Status) (takes : Command → Type 0) (words : List (List ℕ)) (old new : Lent) (sink later_sink : StreamView)
    → HasStatus it takes words old new sink later_sink → AsksForNone words → it ≡ status.Usage
usage-status it takes words old new sink later_sink has none = elim has [
  | inl done ↦ absurd (none done.answers.it done.answers.asked.asks)
  | inr refuses ↦ elim refuses.stopped [
    | inl w ↦ refuses.status_is ∙ usage-words refuses.why takes words w.refuses none
    | inr s ↦ absurd (none s.it s.asked.asks)
  ]
]

-- ---- numbers of no geometry have no other status but for want of memory

gives-none : (it : Command) (w : GeoRefused) (old new : Lent) (text : List ℕ) → RefusesNumbers it w → Gives it old new text → ⊥
gives-none (command.Run (origin.Numbers n) save kills) w old new text r gives = let clash : Some w ≡ None = sym r ∙ gives.begins.accepted in cc clash
gives-none (command.Run (origin.Image name) save kills) w old new text r gives = r
gives-none (command.Make records seed) w old new text r gives = r
gives-none (command.Check name) w old new text r gives = r
gives-none (command.Print name) w old new text r gives = r
gives-none (command.Recover name renewed) w old new text r gives = r

-- a geometry that was refused, or want of memory
abbrev IsRefused : Status → Type 0
IsRefused it = (it ≡ status.Geometry) ⊎ (it ≡ status.NoMemory)

refused-numbers : (why : Stop) (n : Numbers) (save : Option (List ℕ)) (kills : List Kill) (w : GeoRefused) (old new : Lent)
    → refusal_of n ≡ Some w → CausesStop (command.Run (origin.Numbers n) save kills) old new why → IsRefused (status_of why)
refused-numbers stop.NoMemory n save kills w old new r cause = inr refl
refused-numbers stop.Usage n save kills w old new r cause = absurd cause
refused-numbers (stop.Geometry v) n save kills w old new r cause = inl refl
refused-numbers stop.Missing n save kills w old new r cause = cc cause.1
refused-numbers (stop.NotImage v) n save kills w old new r cause = cc cause.1
refused-numbers (stop.Broken b) n save kills w old new r cause = cc cause.1.1
refused-numbers stop.TooLong n save kills w old new r cause = let clash : Some w ≡ None = sym r ∙ cause.begins.accepted in cc clash
refused-numbers (stop.Refused line v) n save kills w old new r cause = let clash : Some w ≡ None = sym r ∙ cause.begins.accepted in cc clash
refused-numbers stop.ReadFault n save kills w old new r cause = let clash : Some w ≡ None = sym r ∙ cause.0.1.accepted in cc clash
refused-numbers stop.VaultFault n save kills w old new r cause = let clash : Some w ≡ None = sym r ∙ cause.0 in cc clash

refused-stop : (it : Command) (why : Stop) (w : GeoRefused) (old new : Lent) → RefusesNumbers it w → CausesStop it old new why → IsRefused (status_of why)
refused-stop (command.Run (origin.Numbers n) save kills) why w old new r cause = refused-numbers why n save kills w old new r cause
refused-stop (command.Run (origin.Image name) save kills) why w old new r cause = absurd r
refused-stop (command.Make records seed) why w old new r cause = absurd r
refused-stop (command.Check name) why w old new r cause = absurd r
refused-stop (command.Print name) why w old new r cause = absurd r
refused-stop (command.Recover name renewed) why w old new r cause = absurd r

refused-words : (why : Stop) (takes : Command → Type 0) (words : List (List ℕ)) → RefusesWords takes words why → RefusesGeometry takes words → IsRefused (status_of why)
refused-words stop.NoMemory takes words r refuses = inr refl
refused-words stop.Usage takes words r refuses = absurd (r refuses.it refuses.asked.asks refuses.asked.taken)
refused-words (stop.Geometry w) takes words r refuses = absurd r
refused-words stop.Missing takes words r refuses = absurd r
refused-words (stop.NotImage w) takes words r refuses = absurd r
refused-words (stop.Broken b) takes words r refuses = absurd r
refused-words stop.TooLong takes words r refuses = absurd r
refused-words (stop.Refused line w) takes words r refuses = absurd r
refused-words stop.ReadFault takes words r refuses = absurd r
refused-words stop.VaultFault takes words r refuses = absurd r

refused-status : AskForOne → (it : Status) (takes : Command → Type 0) (words : List (List ℕ)) (old new : Lent) (sink later_sink : StreamView)
    → HasStatus it takes words old new sink later_sink → RefusesGeometry takes words → IsRefused it
refused-status one it takes words old new sink later_sink has refuses = elim has [
  | inl done ↦
      let same = one words done.answers.it refuses.it done.answers.asked.asks refuses.asked.asks in
      absurd (gives-none refuses.it refuses.why old new done.text refuses.refuses (subst (λ (that : Command). Gives that old new done.text) same done.answers.gives))
  | inr stops ↦ subst IsRefused (sym stops.status_is) (elim stops.stopped [
    | inl w ↦ refused-words stops.why takes words w.refuses refuses
    | inr s ↦
        let same = one words s.it refuses.it s.asked.asks refuses.asked.asks in
        refused-stop refuses.it stops.why refuses.why old new refuses.refuses (subst (λ (that : Command). CausesStop that old new stops.why) same s.stops.cause)
  ])
]

-- ---- by the number of the status

pub record CodeSays (code : ℕ) (takes : Command → Type 0) (words : List (List ℕ)) (old new : Lent) (sink later_sink : StreamView) : Type 0 where
  pub usage : code ≡ 2 → AsksForNoneOf takes words
  pub no_usage : AsksForNone words → code ≡ 2
  pub geometry : code ≡ 8 → RefusesGeometry takes words
  pub script : code ≡ 3 → IsNoScript takes words old new
  pub read : code ≡ 4 → CountsFault old.source new.source
  pub write : code ≡ 5 → CountsFault sink later_sink
  pub vault : code ≡ 6 → CountsVaultFault old.vault new.vault
  pub image : code ≡ 7 → RefusesImage takes words old.vault

pub code-says : (code : ℕ) (it : Status) (takes : Command → Type 0) (words : List (List ℕ)) (old new : Lent) (sink later_sink : StreamView)
    → code ≡ code_of it → HasStatus it takes words old new sink later_sink → CodeSays code takes words old new sink later_sink
code-says code it takes words old new sink later_sink is has =
    let told = says it takes words old new sink later_sink has in
    let at : (other : Status) → code ≡ code_of other → Says takes words old new sink later_sink other =
    λ other e. subst (λ (that : Status). Says takes words old new sink later_sink that) (same-status it other (sym is ∙ e)) told in
    record {
      usage = at status.Usage;
      no_usage = λ none. is ∙ ap code_of (usage-status it takes words old new sink later_sink has none);
      geometry = at status.Geometry;
      script = at status.Script;
      read = at status.ReadFault;
      write = at status.WriteFault;
      vault = at status.VaultFault;
      image = at status.Image;
    }

pub refused-code : AskForOne → (code : ℕ) (it : Status) (takes : Command → Type 0) (words : List (List ℕ)) (old new : Lent) (sink later_sink : StreamView)
    → code ≡ code_of it → HasStatus it takes words old new sink later_sink → RefusesGeometry takes words → (code ≡ 8) ⊎ (code ≡ 1)
refused-code one code it takes words old new sink later_sink is has refuses = elim (refused-status one it takes words old new sink later_sink has refuses) [
  | inl geometry ↦ inl (is ∙ ap code_of geometry)
  | inr memory ↦ inr (is ∙ ap code_of memory)
]
