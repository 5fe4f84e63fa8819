-- What words begin with: an option, in one way alone, or a kill.
use Rattle.std.specs.Prelude.{MatchBool, flat_map}
use Rattle.std.proofs.Common.{◌≡◌, ◌∙◌, ◌++◌, ◌∷◌, ◌≤◌, ◌⊎◌, inl, inr, not, [], ℕ, List, Option, Some, None, Bool, true, false, map, ap, append_assoc, arith, get_or, length, refl, subst, sym}
use Rattle.cm_command.specs.declared.kill.Kill.{Kill}
use Rattle.cm_command.specs.declared.option.RunOption.{RunOption}
use Rattle.cm_command.specs.declared.option.RunOption.TheVariants.{Geo, Image, Save}
use Rattle.cm_command.specs.Grammar.{Given, IsValue, option_word, words_of}
use Rattle.cm_command.specs.Kills.{AreKills, kill_text}
use Rattle.cm_command.specs.Texts.{AreAllKills, BeginsWithNoOption, BeginsWithOption, GoOn, IsNoOption, IsValueFor, MayBeNext, MayFollow, option_text}
use Rattle.cm_command.proofs.ReadKills.{kill-is-value}

-- the first word of an option that is given, with what is joined to it
abbrev joined_value : Bool → List ℕ → Option (List ℕ)
joined_value true value = Some value
joined_value false value = None

first-text : (option : RunOption) (value : List ℕ) (joined : Bool) (word : List ℕ) (others rest : List (List ℕ))
    → word ∷ others ≡ words_of (record { option = option; value = value; is_joined = joined }) ++ rest → word ≡ option_text option (joined_value joined value)
first-text option value true word others rest e = cc e
first-text option value false word others rest e = cc e

-- words begin with no option where the first of them is no option's
pub no-front : (words : List (List ℕ)) (word : List ℕ) (others : List (List ℕ)) → words ≡ word ∷ others → IsNoOption word → BeginsWithNoOption words
no-front words word others is none = λ option value rest begins.
    none option (joined_value begins.is_joined value) (first-text option value begins.is_joined word others rest (sym is ∙ begins.words_are))

pub no-front-at : (words : List (List ℕ)) (text word : List ℕ) → 1 ≤ length words → text ≡ get_or words 0 word → IsNoOption text → BeginsWithNoOption words
no-front-at [] text word some is none = absurd (omega (arith, some))
no-front-at (first ∷ others) text word some is none = no-front (first ∷ others) first others refl (subst IsNoOption is none)

-- what stands behind an option's name in its word
abbrev behind_name : Option (List ℕ) → List ℕ
behind_name None = []
behind_name (Some value) = 61 ∷ value

text-parts : (option : RunOption) (value : Option (List ℕ)) → option_text option value ≡ option_word option ++ behind_name value
text-parts Geo None = refl
text-parts Image None = refl
text-parts Save None = refl
text-parts Geo (Some value) = refl
text-parts Image (Some value) = refl
text-parts Save (Some value) = refl

same-name : (option other : RunOption) (xs ys : List ℕ) → option_word option ++ xs ≡ option_word other ++ ys → (option ≡ other) × (xs ≡ ys)
same-name Geo Geo xs ys e = let same : xs ≡ ys = cc e in (refl, same)
same-name Image Image xs ys e = let same : xs ≡ ys = cc e in (refl, same)
same-name Save Save xs ys e = let same : xs ≡ ys = cc e in (refl, same)
same-name Geo Image xs ys e = let clash : ◌≡◌ {A = ℕ} 103 105 = cc e in absurd (omega (arith, clash))
same-name Geo Save xs ys e = let clash : ◌≡◌ {A = ℕ} 103 115 = cc e in absurd (omega (arith, clash))
same-name Image Geo xs ys e = let clash : ◌≡◌ {A = ℕ} 105 103 = cc e in absurd (omega (arith, clash))
same-name Image Save xs ys e = let clash : ◌≡◌ {A = ℕ} 105 115 = cc e in absurd (omega (arith, clash))
same-name Save Geo xs ys e = let clash : ◌≡◌ {A = ℕ} 115 103 = cc e in absurd (omega (arith, clash))
same-name Save Image xs ys e = let clash : ◌≡◌ {A = ℕ} 115 105 = cc e in absurd (omega (arith, clash))

-- a word is of one option, and has one value or none joined to it
same-text : (option other : RunOption) (value its : Option (List ℕ)) → option_text option value ≡ option_text other its → (option ≡ other) × (behind_name value ≡ behind_name its)
same-text option other value its e = same-name option other (behind_name value) (behind_name its) (sym (text-parts option value) ∙ e ∙ text-parts other its)

-- words begin with one option at most
pub record IsSameFront (option other : RunOption) (value its : List ℕ) (rest others : List (List ℕ)) : Type 0 where
  pub option_is : option ≡ other
  pub value_is : value ≡ its
  pub rest_is : rest ≡ others

pub front-is-one : (option other : RunOption) (value its : List ℕ) (joined too : Bool) (rest others : List (List ℕ))
    → words_of (record { option = option; value = value; is_joined = joined }) ++ rest ≡ words_of (record { option = other; value = its; is_joined = too }) ++ others
    → IsSameFront option other value its rest others
front-is-one option other value its true true rest others e =
    let texts : option_text option (Some value) ≡ option_text other (Some its) = cc e in
    let same = same-text option other (Some value) (Some its) texts in
    record { option_is = same.0; value_is = cc same.1; rest_is = cc e }
front-is-one option other value its true false rest others e =
    let texts : option_text option (Some value) ≡ option_text other None = cc e in
    let same = same-text option other (Some value) None texts in
    absurd (cc same.1)
front-is-one option other value its false true rest others e =
    let texts : option_text option None ≡ option_text other (Some its) = cc e in
    let same = same-text option other None (Some its) texts in
    absurd (cc same.1)
front-is-one option other value its false false rest others e =
    let texts : option_text option None ≡ option_text other None = cc e in
    let same = same-text option other None None texts in
    record { option_is = same.0; value_is = cc e; rest_is = cc e }

-- where no option comes first, the words go on with kills alone
pub no-front-kills : (words : List (List ℕ)) (origin save : Bool) → BeginsWithNoOption words → GoOn words origin save → AreAllKills words
no-front-kills words origin save none go = by go.options go.kills go.words_are go.are_kills
  where
    by : (options : List Given) (kills : List Kill) → words ≡ flat_map words_of options ++ map kill_text kills → AreKills kills → AreAllKills words
    by [] kills is are = (kills, are, is)
    by (first ∷ more) kills is are =
        let rest : List (List ℕ) = flat_map words_of more ++ map kill_text kills in
        absurd (none first.option first.value rest (record { is_joined = first.is_joined; words_are = is ∙ append_assoc (words_of first) (flat_map words_of more) (map kill_text kills) }))

-- and kills alone may stand there
pub kills-go-on : (words : List (List ℕ)) (origin save : Bool) → AreAllKills words → GoOn words origin save
kills-go-on words origin save all = record { options = []; kills = all.0; words_are = all.2; may_follow = tt; are_kills = all.1 }

-- a value is no option's word
value-no-option : (option : RunOption) (value : Option (List ℕ)) (word : List ℕ) → IsValue word → word ≡ option_text option value → ⊥
value-no-option option value word is e = by option value (subst IsValue e is)
  where
    by : (option : RunOption) (value : Option (List ℕ)) → IsValue (option_text option value) → ⊥
    by Geo None is = is refl
    by Image None is = is refl
    by Save None is = is refl
    by Geo (Some value) is = is refl
    by Image (Some value) is = is refl
    by Save (Some value) is = is refl

some-words : (option : RunOption) (value : List ℕ) (joined : Bool) (rest : List (List ℕ)) → [] ≡ words_of (record { option = option; value = value; is_joined = joined }) ++ rest → ⊥
some-words option value true rest e = cc e
some-words option value false rest e = cc e

-- kills begin with no option
pub kills-no-front : (kills : List Kill) → AreKills kills → BeginsWithNoOption (map kill_text kills)
kills-no-front [] are = λ option value rest begins. some-words option value begins.is_joined rest begins.words_are
kills-no-front (kill ∷ kills) are =
    no-front (map kill_text (kill ∷ kills)) (kill_text kill) (map kill_text kills) refl (λ option value e. value-no-option option value (kill_text kill) (kill-is-value kill are.0) e)

-- what may follow behind an option may be had in its place
next-map : (option : RunOption) (Value Other : Type 0) (P Q : Bool → Bool → Type 0) (origin save : Bool) → (Value → Other) → ((a b : Bool) → P a b → Q a b)
    → MayBeNext option Value P origin save → MayBeNext option Other Q origin save
next-map Geo Value Other P Q origin save f g is = (is.0, f is.1, g true save is.2)
next-map Image Value Other P Q origin save f g is = (is.0, f is.1, g true save is.2)
next-map Save Value Other P Q origin save f g is = (is.0, f is.1, g origin true is.2)

-- where an option comes first, it may be next, and the rest goes on behind it
pub front-next : (words : List (List ℕ)) (option : RunOption) (value : List ℕ) (rest : List (List ℕ)) (origin save : Bool) → BeginsWithOption words option value rest → GoOn words origin save
    → MayBeNext option (IsValueFor option value) (GoOn rest) origin save
front-next words option value rest origin save begins go = by go.options go.kills go.words_are go.may_follow go.are_kills
  where
    by : (options : List Given) (kills : List Kill) → words ≡ flat_map words_of options ++ map kill_text kills → MayFollow options origin save → AreKills kills
        → MayBeNext option (IsValueFor option value) (GoOn rest) origin save
    by [] kills is may are = absurd (kills-no-front kills are option value rest (record { is_joined = begins.is_joined; words_are = sym is ∙ begins.words_are }))
    by (first ∷ more) kills is may are =
        let behind : List (List ℕ) = flat_map words_of more ++ map kill_text kills in
        let same = front-is-one first.option option first.value value first.is_joined begins.is_joined behind rest
        (sym (append_assoc (words_of first) (flat_map words_of more) (map kill_text kills)) ∙ sym is ∙ begins.words_are) in
        subst (λ (o : RunOption). MayBeNext o (IsValueFor o value) (GoOn rest) origin save) same.option_is
        (next-map first.option (IsValueFor first.option first.value) (IsValueFor first.option value) (MayFollow more) (GoOn rest) origin save
        (λ is. subst (IsValueFor first.option) same.value_is is)
        (λ a b follow. record { options = more; kills = kills; words_are = sym same.rest_is; may_follow = follow; are_kills = are }) may)

-- and the other way round: such an option and such a rest go on
pub next-goes-on : (words : List (List ℕ)) (option : RunOption) (value : List ℕ) (rest : List (List ℕ)) (origin save : Bool) → BeginsWithOption words option value rest
    → MayBeNext option (IsValueFor option value) (GoOn rest) origin save → GoOn words origin save
next-goes-on words option value rest origin save begins next = by option begins.words_are next
  where
    put : (option : RunOption) (a b : Bool) → words ≡ words_of (record { option = option; value = value; is_joined = begins.is_joined }) ++ rest → (go : GoOn rest a b)
        → MayBeNext option (IsValueFor option value) (MayFollow go.options) origin save → GoOn words origin save
    put option a b is go may =
        let given : Given = record { option = option; value = value; is_joined = begins.is_joined } in
        record {
          options = given ∷ go.options;
          kills = go.kills;
          words_are = is ∙ ap (λ (them : List (List ℕ)). words_of given ++ them) go.words_are ∙ sym (append_assoc (words_of given) (flat_map words_of go.options) (map kill_text go.kills));
          may_follow = may;
          are_kills = go.are_kills;
        }

    by : (option : RunOption) → words ≡ words_of (record { option = option; value = value; is_joined = begins.is_joined }) ++ rest
        → MayBeNext option (IsValueFor option value) (GoOn rest) origin save → GoOn words origin save
    by Geo is next = put Geo true save is next.2 (next.0, next.1, next.2.may_follow)
    by Image is next = put Image true save is next.2 (next.0, next.1, next.2.may_follow)
    by Save is next = put Save origin true is next.2 (next.0, next.1, next.2.may_follow)

-- what was found of the kills, or of what comes first, is found of the words
pub go-on-kills : (words : List (List ℕ)) (origin save found : Bool) → BeginsWithNoOption words → MatchBool found (AreAllKills words) (AreAllKills words → ⊥)
    → MatchBool found (GoOn words origin save) (GoOn words origin save → ⊥)
go-on-kills words origin save true none is = kills-go-on words origin save is
go-on-kills words origin save false none is = λ go. is (no-front-kills words origin save none go)

pub go-on-next : (words : List (List ℕ)) (option : RunOption) (value : List ℕ) (rest : List (List ℕ)) (origin save found : Bool) → BeginsWithOption words option value rest
    → MatchBool found (MayBeNext option (IsValueFor option value) (GoOn rest) origin save) (MayBeNext option (IsValueFor option value) (GoOn rest) origin save → ⊥)
    → MatchBool found (GoOn words origin save) (GoOn words origin save → ⊥)
go-on-next words option value rest origin save true begins is = next-goes-on words option value rest origin save begins is
go-on-next words option value rest origin save false begins is = λ go. is (front-next words option value rest origin save begins go)

-- the option says where the first words come from
abbrev pub IsOfOrigin : RunOption → Type 0
IsOfOrigin option = (option ≡ Geo) ⊎ (option ≡ Image)

origin-to : (option : RunOption) (V : Type 0) (P : Bool → Bool → Type 0) (origin save : Bool) → IsOfOrigin option → MayBeNext option V P origin save → (origin ≡ false) × V × P true save
origin-to Geo V P origin save is next = next
origin-to Image V P origin save is next = next
origin-to Save V P origin save is next = elim is [ inl e ↦ absurd (cc e) | inr e ↦ absurd (cc e) ]

origin-from : (option : RunOption) (V : Type 0) (P : Bool → Bool → Type 0) (origin save : Bool) → IsOfOrigin option → (origin ≡ false) × V × P true save → MayBeNext option V P origin save
origin-from Geo V P origin save is next = next
origin-from Image V P origin save is next = next
origin-from Save V P origin save is next = elim is [ inl e ↦ absurd (cc e) | inr e ↦ absurd (cc e) ]

decided : (A B : Type 0) (found : Bool) → (A → B) → (B → A) → MatchBool found A (A → ⊥) → MatchBool found B (B → ⊥)
decided A B true to from is = to is
decided A B false to from is = λ b. is (from b)

yes : (A : Type 0) (found : Bool) → found ≡ true → MatchBool found A (A → ⊥) → A
yes A true e is = is
yes A false e is = absurd (cc e)

no : (A : Type 0) (found : Bool) → found ≡ false → MatchBool found A (A → ⊥) → A → ⊥
no A true e is = absurd (cc e)
no A false e is = is

-- such an option that fits is next where the rest goes on
pub origin-next : (option : RunOption) (V : Type 0) (P : Bool → Bool → Type 0) (origin save fits found : Bool) → IsOfOrigin option → MatchBool fits V (V → ⊥)
    → (fits ≡ true) × (origin ≡ false) → MatchBool found (P true save) (P true save → ⊥)
    → MatchBool found (MayBeNext option V P origin save) (MayBeNext option V P origin save → ⊥)
origin-next option V P origin save fits found of fit are is =
    decided (P true save) (MayBeNext option V P origin save) found (λ p. origin-from option V P origin save of (are.1, yes V fits are.0 fit, p))
    (λ next. (origin-to option V P origin save of next).2) is

-- and isn't next where it doesn't fit, or one was there before
pub origin-not-next : (option : RunOption) (V : Type 0) (P : Bool → Bool → Type 0) (origin save fits : Bool) → IsOfOrigin option → MatchBool fits V (V → ⊥)
    → ((fits ≡ true) × (origin ≡ true)) ⊎ (fits ≡ false) → MayBeNext option V P origin save → ⊥
origin-not-next option V P origin save fits of fit either next =
    let parts = origin-to option V P origin save of next in
    elim either [ inl both ↦ cc (both.1, parts.0) | inr e ↦ no V fits e fit parts.1 ]

-- the same of `--save`
pub save-next : (option : RunOption) (V : Type 0) (P : Bool → Bool → Type 0) (origin save fits found : Bool) → option ≡ Save → MatchBool fits V (V → ⊥)
    → (fits ≡ true) × (save ≡ false) → MatchBool found (P origin true) (P origin true → ⊥)
    → MatchBool found (MayBeNext option V P origin save) (MayBeNext option V P origin save → ⊥)
save-next Geo V P origin save fits found of fit are is = absurd (cc of)
save-next Image V P origin save fits found of fit are is = absurd (cc of)
save-next Save V P origin save fits found of fit are is =
    decided (P origin true) (MayBeNext Save V P origin save) found (λ p. (are.1, yes V fits are.0 fit, p)) (λ next. next.2) is

pub save-not-next : (option : RunOption) (V : Type 0) (P : Bool → Bool → Type 0) (origin save fits : Bool) → option ≡ Save → MatchBool fits V (V → ⊥)
    → ((fits ≡ true) × (save ≡ true)) ⊎ (fits ≡ false) → MayBeNext option V P origin save → ⊥
save-not-next Geo V P origin save fits of fit either next = cc of
save-not-next Image V P origin save fits of fit either next = cc of
save-not-next Save V P origin save fits of fit either next = elim either [ inl both ↦ cc (both.1, next.0) | inr e ↦ no V fits e fit next.1 ]

-- words whose option isn't next don't go on
pub found-none : (words : List (List ℕ)) (option : RunOption) (value : List ℕ) (rest : List (List ℕ)) (origin save found : Bool) → found ≡ false → BeginsWithOption words option value rest
    → (MayBeNext option (IsValueFor option value) (GoOn rest) origin save → ⊥) → MatchBool found (GoOn words origin save) (GoOn words origin save → ⊥)
found-none words option value rest origin save found e begins none =
    rw e (λ go. none (front-next words option value rest origin save begins go))

-- nor is it passed where the option fits, and was there before
pub not-said : (fits said found : Bool) → found ≡ not said → fits ≡ true → ((fits ≡ true) × (said ≡ true)) ⊎ (fits ≡ false) → found ≡ false
not-said fits true found e f either = e
not-said fits false found e f either = elim either [ inl both ↦ absurd (cc both.1) | inr n ↦ absurd (cc (f, n)) ]
