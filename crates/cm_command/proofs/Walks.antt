-- How clap walks over the words of `run`: what it holds after each of them, and that it takes them.
use Rattle.std.proofs.Common.{◌≡◌, ◌∷◌, ◌++◌, ◌∙◌, ◌||◌, ◌&&◌, [], ℕ, List, codes, Option, Some, None, Bool, true, false, cond, map, fold, append_assoc, append-nil, refl, ap, ap₂, sym, subst, inl, inr}
use Rattle.std.specs.Prelude.{find, flat_map, is_some, option_and_then, slice_get}
use Rattle.std.specs.List.{list_all}
use Rattle.std.specs.Str.{bytes_eq}
use Rattle.std.proofs.lemmas.Bool.{cases_Bool, ne_eqb}
use Rattle.std.proofs.lemmas.List.Folds.{list_any-append}
use Rattle.std.proofs.lemmas.List.Sums.{fold-append}
use Rattle.clap.specs.Lexer.{strip_byte}
use Rattle.clap.specs.Simple.{Shape, built, entered, filled, with_index}
use Rattle.clap.specs.Takes.{default_passes, entered_passes, is_valid, positional_passes, settle_passes, takes, turn_passes, walk_passes}
use Rattle.clap.specs.declared.parser.matches.ValueSource.TheVariants.{CommandLine}
use Rattle.clap.specs.Walk.{Held, Walk, Waiting, after_step, at_row, finished, has_row, idle, is_pending, more_values, nothing_held, option, plain_word, positional, pushed, reading_by, settled, settled_rows, takes_several, walk, walk_from, walked, with_default, with_values, without, word_met}
use Rattle.clap.specs.Words.{Row, Rule, Text, all_of, first_of, matches_of}
use Rattle.clap.proofs.OnLiterals.{clap_on_literals}
use Rattle.cm_command.specs.declared.option.RunOption.{RunOption}
use Rattle.cm_command.specs.declared.option.RunOption.TheVariants.{Geo, Image, Save}
use Rattle.cm_command.specs.Apps.{kill_rule, option_id, option_rule, run_app}
use Rattle.cm_command.specs.Grammar.{AreOptions, Given, IsValue, is_same_option, option_word, value_of, words_of}

abbrev shape : Shape
shape = (built run_app).top

abbrev rules : List Rule
rules = shape.rules

abbrev at : List Row → Option (Text × List Text) → Waiting → Walk
at rows pending waiting = record { held = record { rows = rows; pending = pending; skip = 0 }; waiting = waiting; position = 1; is_trailing = false; stopped = None }

abbrev held : List Row → Option (Text × List Text) → Held
held rows pending = record { rows = rows; pending = pending; skip = 0 }

-- the row of an option that is given
abbrev pub row_of : Given → Row
row_of given =
    record { id = option_id given.option; values = given.value ∷ []; count = None; source = Some CommandLine; reading = reading_by (filled (option_rule (option_id given.option))) }

-- the rows of kills, one for all of them
abbrev pub kill_row : List Text → Row
kill_row texts = record { id = codes "kill"; values = texts; count = None; source = Some CommandLine; reading = reading_by (filled kill_rule) }

abbrev pub kill_rows : List Text → List Row
kill_rows [] = []
kill_rows (text ∷ texts) = kill_row (text ∷ texts) ∷ []

-- ---- rows

or-left : (a b : Bool) → (a || b) ≡ false → a ≡ false
or-left false b e = refl
or-left true b e = cc e

or-right : (a b : Bool) → (a || b) ≡ false → b ≡ false
or-right false b e = e
or-right true b e = cc e

-- a row that isn't there comes to the end
at-end : (id : Text) (change : Row → List Row) (missing : List Row) (rows : List Row) → has_row id rows ≡ false → at_row id change missing rows ≡ rows ++ missing
at-end id change missing [] n = refl
at-end id change missing (r ∷ rs) n = rw (or-left (bytes_eq r.id id) (has_row id rs) n) (ap (λ (t : List Row). r ∷ t) (at-end id change missing rs (or-right (bytes_eq r.id id) (has_row id rs) n)))

-- a use of an option adds its row
first-use : (given : Given) (rows : List Row) → has_row (option_id given.option) rows ≡ false
    → with_values (option_id given.option) (reading_by (filled (option_rule (option_id given.option)))) CommandLine (given.value ∷ []) (without (option_id given.option) rows) ≡ rows ++ row_of given ∷ []
first-use given rows n =
    let id = option_id given.option in
    ap (with_values id (reading_by (filled (option_rule id))) CommandLine (given.value ∷ [])) (at-end id (λ _. []) [] rows n ∙ append-nil rows)
    ∙ at-end id (more_values CommandLine (given.value ∷ [])) (row_of given ∷ []) rows n

-- a kill joins the row of those before it
next-kill : (text : Text) (rows : List Row) (texts : List Text) → has_row (codes "kill") rows ≡ false
    → with_values (codes "kill") (reading_by (filled kill_rule)) CommandLine (text ∷ []) (rows ++ kill_rows texts) ≡ rows ++ kill_rows (texts ++ text ∷ [])
next-kill text [] [] n = refl
next-kill text [] (first ∷ texts) n = refl
next-kill text (r ∷ rs) texts n =
    rw (or-left (bytes_eq r.id (codes "kill")) (has_row (codes "kill") rs) n)
    (ap (λ (t : List Row). r ∷ t) (next-kill text rs texts (or-right (bytes_eq r.id (codes "kill")) (has_row (codes "kill") rs) n)))

-- ---- words that are no flags

pub record IsPlainWord (word : List ℕ) : Type 0 where
  pub no_hyphen : strip_byte 45 word ≡ None
  pub no_end : bytes_eq word (45 ∷ 45 ∷ []) ≡ false

pub plain : (word : List ℕ) → IsValue word → IsPlainWord word
plain [] is = absurd is
plain (x ∷ xs) is = record { no_hyphen = rw (ne_eqb x 45 is) refl; no_end = rw (ne_eqb x 45 is) refl }

met-plain : (c : List Rule) (waiting : Waiting) (position : ℕ) (word : List ℕ) (h : Held) → IsPlainWord word → word_met c [] false waiting position word h ≡ plain_word c waiting word h
met-plain c idle position word h p = rw (p.no_end, p.no_hyphen, p.no_hyphen) refl
met-plain c (option id) position word h p = rw (p.no_end, p.no_hyphen, p.no_hyphen) refl
met-plain c positional position word h p = rw (p.no_end, p.no_hyphen, p.no_hyphen) refl

abbrev plainly : List Rule → Walk → List ℕ → Walk
plainly c w word = after_step c word w (plain_word c w.waiting word w.held).0 (plain_word c w.waiting word w.held).1

pub walked-plain : (c : List Rule) (h : Held) (waiting : Waiting) (position : ℕ) (word : List ℕ) → IsPlainWord word
    → walked c [] (record { held = h; waiting = waiting; position = position; is_trailing = false; stopped = None }) word
    ≡ plainly c (record { held = h; waiting = waiting; position = position; is_trailing = false; stopped = None }) word
unfolding walked
walked-plain c h waiting position word p = rw (met-plain c waiting position word h p) refl

-- ---- one word

-- an option whose value is joined to it
joined-step : (o : RunOption) (value : Text) (rows : List Row) (pending : Option (Text × List Text))
    → walked rules [] (at rows pending idle) (option_word o ++ codes "=" ++ value)
    ≡ at (with_values (option_id o) (reading_by (filled (option_rule (option_id o)))) CommandLine (value ∷ []) (without (option_id o) (settled_rows rules pending rows))) None idle
unfolding clap_on_literals
joined-step Geo value rows pending = refl
joined-step Image value rows pending = refl
joined-step Save value rows pending = refl

-- the word of an option whose value is the next word
name-step : (o : RunOption) (rows : List Row) (pending : Option (Text × List Text))
    → walked rules [] (at rows pending idle) (option_word o) ≡ at (settled_rows rules pending rows) (Some (option_id o, [])) (option (option_id o))
unfolding clap_on_literals
name-step Geo rows pending = refl
name-step Image rows pending = refl
name-step Save rows pending = refl

-- that value
value-step : (o : RunOption) (value : Text) (rows : List Row) → IsPlainWord value
    → walked rules [] (at rows (Some (option_id o, [])) (option (option_id o))) value ≡ at rows (Some (option_id o, value ∷ [])) idle
value-step Geo value rows p = walked-plain rules (held rows (Some (codes "geo", []))) (option (codes "geo")) 1 value p
value-step Image value rows p = walked-plain rules (held rows (Some (codes "image", []))) (option (codes "image")) 1 value p
value-step Save value rows p = walked-plain rules (held rows (Some (codes "save", []))) (option (codes "save")) 1 value p

and-false : (b : Bool) → (b && false) ≡ false
and-false true = refl
and-false false = refl

-- no option waits for its value
abbrev TakesKill : Waiting → Type 0
TakesKill idle = Unit {0}
TakesKill (option id) = ⊥
TakesKill positional = Unit {0}

-- a kill, behind options or other kills
kill-step : (waiting : Waiting) (word : Text) (rows : List Row) (pending : Option (Text × List Text)) → IsPlainWord word → TakesKill waiting
    → walked rules [] (at rows pending waiting) word ≡ at (settled_rows rules pending rows) (Some (codes "kill", word ∷ [])) positional
kill-step (option id) word rows pending p other = absurd other
kill-step idle word rows pending p other = walked-plain rules (held rows pending) idle 1 word p ∙ go pending
  where
    go : (pending : Option (Text × List Text)) → plainly rules (at rows pending idle) word ≡ at (settled_rows rules pending rows) (Some (codes "kill", word ∷ [])) positional
    go None = refl
    go (Some q) =
        ap (λ (b : Bool). record { held = pushed (codes "kill") word (cond b (held rows (Some q)) (settled rules (held rows (Some q)))); waiting = positional; position = 1; is_trailing = false; stopped = None })
        (and-false (bytes_eq q.0 (codes "kill")))
kill-step positional word rows pending p other = walked-plain rules (held rows pending) positional 1 word p ∙ go pending
  where
    go : (pending : Option (Text × List Text)) → plainly rules (at rows pending positional) word ≡ at (settled_rows rules pending rows) (Some (codes "kill", word ∷ [])) positional
    go None = refl
    go (Some q) =
        ap (λ (b : Bool). record { held = pushed (codes "kill") word (cond b (held rows (Some q)) (settled rules (held rows (Some q)))); waiting = positional; position = 1; is_trailing = false; stopped = None })
        (and-false (bytes_eq q.0 (codes "kill")))

-- the option whose value is pending is used
pending-used : (o : RunOption) (value : Text) (rows : List Row)
    → settled_rows rules (Some (option_id o, value ∷ [])) rows ≡ with_values (option_id o) (reading_by (filled (option_rule (option_id o)))) CommandLine (value ∷ []) (without (option_id o) rows)
pending-used Geo value rows = refl
pending-used Image value rows = refl
pending-used Save value rows = refl

-- ---- that one word passes

joined-passes : (o : RunOption) (value : Text) (rows : List Row) (pending : Option (Text × List Text)) → settle_passes rules false (held rows pending) ≡ true
    → has_row (option_id o) (settled_rows rules pending rows) ≡ false → turn_passes shape [] (at rows pending idle) (option_word o ++ codes "=" ++ value) ≡ true
unfolding clap_on_literals
joined-passes Geo value rows pending s n = rw (s, n) refl
joined-passes Image value rows pending s n = rw (s, n) refl
joined-passes Save value rows pending s n = rw (s, n) refl

name-passes : (o : RunOption) (rows : List Row) (pending : Option (Text × List Text)) → settle_passes rules false (held rows pending) ≡ true
    → turn_passes shape [] (at rows pending idle) (option_word o) ≡ true
unfolding clap_on_literals
name-passes Geo rows pending s = rw s refl
name-passes Image rows pending s = rw s refl
name-passes Save rows pending s = rw s refl

value-passes : (o : RunOption) (value : Text) (rows : List Row) → IsPlainWord value → turn_passes shape [] (at rows (Some (option_id o, [])) (option (option_id o))) value ≡ true
unfolding clap_on_literals
value-passes Geo value rows p = rw (p.no_end, p.no_hyphen, p.no_hyphen) refl
value-passes Image value rows p = rw (p.no_end, p.no_hyphen, p.no_hyphen) refl
value-passes Save value rows p = rw (p.no_end, p.no_hyphen, p.no_hyphen) refl

or-first : (a b : Bool) → (a || (b || false)) ≡ true → b ≡ false → a ≡ true
or-first true b e n = refl
or-first false b e n = let clash : true ≡ false = sym e ∙ rw n refl in cc clash

or-second : (a b : Bool) → b ≡ true → (a || b) ≡ true
or-second true b e = refl
or-second false b e = e

abbrev first_positional : Rule
first_positional = with_index 1 (filled kill_rule)

positional-settles : (rows : List Row) (pending : Option (Text × List Text)) → settle_passes rules false (held rows pending) ≡ true
    → positional_passes rules false first_positional (held rows pending) ≡ true
positional-settles rows pending s = or-second (is_pending first_positional pending && takes_several first_positional) (settle_passes rules false (held rows pending)) s

kill-passes : (waiting : Waiting) (word : Text) (rows : List Row) (pending : Option (Text × List Text)) → IsPlainWord word → TakesKill waiting
    → settle_passes rules false (held rows pending) ≡ true → turn_passes shape [] (at rows pending waiting) word ≡ true
unfolding clap_on_literals
kill-passes (option id) word rows pending p other s = absurd other
kill-passes idle word rows pending p other s = rw (p.no_end, p.no_hyphen, p.no_hyphen) (positional-settles rows pending s)
kill-passes positional word rows pending p other s = rw (p.no_end, p.no_hyphen, p.no_hyphen) (positional-settles rows pending s)

-- what the pending option comes to passes
option-settles : (o : RunOption) (value : Text) (rows : List Row) → has_row (option_id o) rows ≡ false → settle_passes rules false (held rows (Some (option_id o, value ∷ []))) ≡ true
option-settles Geo value rows n = rw n refl
option-settles Image value rows n = rw n refl
option-settles Save value rows n = rw n refl

kill-settles : (word : Text) (rows : List Row) → settle_passes rules false (held rows (Some (codes "kill", word ∷ []))) ≡ true
kill-settles word rows = refl

-- ---- several words

-- the walk comes from here to there over the words, and it passes where it passes from there on
pub record Walks (from : Walk) (words : List Text) (to : Walk) : Type 0 where
  pub comes : fold (walked rules []) from words ≡ to
  pub passes : (rest : List Text) → walk_passes shape [] to rest ≡ true → walk_passes shape [] from (words ++ rest) ≡ true

nowhere : (w : Walk) → Walks w [] w
nowhere w = record { comes = refl; passes = λ rest e. e }

and-both : (a b : Bool) → a ≡ true → b ≡ true → (a && b) ≡ true
and-both a b e f = rw (e, f) refl

no-words : (w : Walk) → walk_passes shape [] w [] ≡ true
unfolding walk_passes
no-words w = refl

word-passes : (w : Walk) (word : Text) (rest : List Text) → turn_passes shape [] w word ≡ true → walk_passes shape [] (walked rules [] w word) rest ≡ true
    → walk_passes shape [] w (word ∷ rest) ≡ true
unfolding walk_passes
word-passes w word rest e f = and-both (turn_passes shape [] w word) (walk_passes shape [] (walked rules [] w word) rest) e f

one-word : (w : Walk) (word : Text) (to : Walk) → walked rules [] w word ≡ to → turn_passes shape [] w word ≡ true → Walks w (word ∷ []) to
one-word w word to e passes = record {
  comes = e;
  passes = λ rest later. word-passes w word rest passes (subst (λ (v : Walk). walk_passes shape [] v rest ≡ true) (sym e) later);
}

further : (from middle to : Walk) (words others : List Text) → Walks from words middle → Walks middle others to → Walks from (words ++ others) to
further from middle to words others one two = record {
  comes = fold-append (walked rules []) from words others ∙ ap (λ (w : Walk). fold (walked rules []) w others) one.comes ∙ two.comes;
  passes = λ rest later. rw (append_assoc words others rest) (one.passes (others ++ rest) (two.passes rest later));
}

-- the walk comes over the words to rows that are these once the pending option is used, and that passes
pub record Reaches (from : Walk) (words : List Text) (waiting : Waiting) (to : List Row) : Type 0 where
  pub rows : List Row
  pub pending : Option (Text × List Text)
  pub walks : Walks from words (at rows pending waiting)
  pub rows_are : settled_rows rules pending rows ≡ to
  pub settles : settle_passes rules false (held rows pending) ≡ true

-- one option
option-reaches : (from : Walk) (words : List Text) (before : List Row) (o : RunOption) (value : Text) (is_joined : Bool) → Reaches from words idle before → has_row (option_id o) before ≡ false
    → IsValue value → Reaches from (words ++ words_of (record { option = o; value = value; is_joined = is_joined })) idle (before ++ row_of (record { option = o; value = value; is_joined = is_joined }) ∷ [])
option-reaches from words before o value true reaches n is =
    let given : Given = record { option = o; value = value; is_joined = true } in
    let fresh : has_row (option_id o) (settled_rows rules reaches.pending reaches.rows) ≡ false = rw reaches.rows_are n in
    let end : List Row = with_values (option_id o) (reading_by (filled (option_rule (option_id o)))) CommandLine (value ∷ []) (without (option_id o) (settled_rows rules reaches.pending reaches.rows)) in
    record {
      rows = end;
      pending = None;
      walks = further from (at reaches.rows reaches.pending idle) (at end None idle) words (words_of given) reaches.walks
          (one-word _ _ _ (joined-step o value reaches.rows reaches.pending) (joined-passes o value reaches.rows reaches.pending reaches.settles fresh));
      rows_are = first-use given (settled_rows rules reaches.pending reaches.rows) fresh ∙ ap (λ (rows : List Row). rows ++ row_of given ∷ []) reaches.rows_are;
      settles = refl;
    }
option-reaches from words before o value false reaches n is =
    let given : Given = record { option = o; value = value; is_joined = false } in
    let used : List Row = settled_rows rules reaches.pending reaches.rows in
    let fresh : has_row (option_id o) used ≡ false = rw reaches.rows_are n in
    let p = plain value is in
    record {
      rows = used;
      pending = Some (option_id o, value ∷ []);
      walks = further from (at reaches.rows reaches.pending idle) (at used (Some (option_id o, value ∷ [])) idle) words (words_of given) reaches.walks
          (further _ (at used (Some (option_id o, [])) (option (option_id o))) _ (option_word o ∷ []) (value ∷ [])
          (one-word _ _ _ (name-step o reaches.rows reaches.pending) (name-passes o reaches.rows reaches.pending reaches.settles))
          (one-word _ _ _ (value-step o value used p) (value-passes o value used p)));
      rows_are = pending-used o value used ∙ first-use given used fresh ∙ ap (λ (rows : List Row). rows ++ row_of given ∷ []) reaches.rows_are;
      settles = option-settles o value used fresh;
    }

-- ---- the options

same-ids : (a b : RunOption) → bytes_eq (option_id a) (option_id b) ≡ is_same_option a b
same-ids Geo Geo = refl
same-ids Geo Image = refl
same-ids Geo Save = refl
same-ids Image Geo = refl
same-ids Image Image = refl
same-ids Image Save = refl
same-ids Save Geo = refl
same-ids Save Image = refl
same-ids Save Save = refl

pub same-option : (a b : RunOption) → is_same_option a b ≡ true → a ≡ b
same-option Geo Geo e = refl
same-option Geo Image e = cc e
same-option Geo Save e = cc e
same-option Image Geo e = cc e
same-option Image Image e = refl
same-option Image Save e = cc e
same-option Save Geo e = cc e
same-option Save Image e = cc e
same-option Save Save e = refl

pub is-same : (o : RunOption) → is_same_option o o ≡ true
is-same Geo = refl
is-same Image = refl
is-same Save = refl

-- no option of these has a row yet
abbrev AreFresh : List Row → List Given → Type 0
AreFresh before options = (o : RunOption) → has_row (option_id o) before ≡ true → value_of o options ≡ None

first-fresh : (before : List Row) (first : Given) (rest : List Given) → AreFresh before (first ∷ rest) → has_row (option_id first.option) before ≡ false
first-fresh before first rest fresh = elim (cases_Bool (has_row (option_id first.option) before)) [
  | inl has ↦ let none = rw (is-same first.option) at (fresh first.option has) in cc none
  | inr none ↦ none
]

rest-fresh : (before : List Row) (first : Given) (rest : List Given) → AreFresh before (first ∷ rest) → value_of first.option rest ≡ None → AreFresh (before ++ row_of first ∷ []) rest
rest-fresh before first rest fresh once o has = elim (cases_Bool (is_same_option first.option o)) [
  | inl same ↦ subst (λ (o : RunOption). value_of o rest ≡ None) (same-option first.option o same) once
  | inr other ↦
      let both = sym (list_any-append (λ (r : Row). bytes_eq r.id (option_id o)) before (row_of first ∷ [])) ∙ has in
      let before_has : has_row (option_id o) before ≡ true = or-first _ (bytes_eq (option_id first.option) (option_id o)) both (same-ids first.option o ∙ other) in
      let none = rw other at (fresh o before_has) in none
]

options-reach : (options : List Given) (from : Walk) (words : List Text) (before : List Row) → Reaches from words idle before → AreFresh before options → AreOptions options
    → Reaches from (words ++ flat_map words_of options) idle (before ++ map row_of options)
options-reach [] from words before reaches fresh are = rw (append-nil words, append-nil before) reaches
options-reach (first ∷ rest) from words before reaches fresh are =
    let one = option-reaches from words before first.option first.value first.is_joined reaches (first-fresh before first rest fresh) are.0 in
    let all = options-reach rest from (words ++ words_of first) (before ++ row_of first ∷ []) one (rest-fresh before first rest fresh are.1) are.2 in
    rw (← append_assoc words (words_of first) (flat_map words_of rest), ← append_assoc before (row_of first ∷ []) (map row_of rest)) all

-- ---- the kills

kill-reaches : (waiting : Waiting) (from : Walk) (words : List Text) (before : List Row) (done : List Text) (word : Text) → Reaches from words waiting (before ++ kill_rows done) → TakesKill waiting
    → has_row (codes "kill") before ≡ false → IsValue word → Reaches from (words ++ word ∷ []) positional (before ++ kill_rows (done ++ word ∷ []))
kill-reaches waiting from words before done word reaches takes_kill n is =
    let used : List Row = settled_rows rules reaches.pending reaches.rows in
    let p = plain word is in
    record {
      rows = used;
      pending = Some (codes "kill", word ∷ []);
      walks = further from (at reaches.rows reaches.pending waiting) (at used (Some (codes "kill", word ∷ [])) positional) words (word ∷ []) reaches.walks
          (one-word _ _ _ (kill-step waiting word reaches.rows reaches.pending p takes_kill) (kill-passes waiting word reaches.rows reaches.pending p takes_kill reaches.settles));
      rows_are = ap (with_values (codes "kill") (reading_by (filled kill_rule)) CommandLine (word ∷ [])) reaches.rows_are ∙ next-kill word before done n;
      settles = kill-settles word used;
    }

-- each is a value
abbrev pub AreValues : List Text → Type 0
AreValues [] = Unit {0}
AreValues (word ∷ words) = IsValue word × AreValues words

-- wherever the walk waits in the end
record Ends (from : Walk) (words : List Text) (rows : List Row) : Type 0 where
  waiting : Waiting
  reaches : Reaches from words waiting rows

kills-reach : (texts : List Text) (waiting : Waiting) (from : Walk) (words : List Text) (before : List Row) (done : List Text) → Reaches from words waiting (before ++ kill_rows done)
    → TakesKill waiting → has_row (codes "kill") before ≡ false → AreValues texts → Ends from (words ++ texts) (before ++ kill_rows (done ++ texts))
kills-reach [] waiting from words before done reaches takes_kill n are = record { waiting = waiting; reaches = rw (append-nil words, append-nil done) reaches }
kills-reach (text ∷ texts) waiting from words before done reaches takes_kill n are =
    let one = kill-reaches waiting from words before done text reaches takes_kill n are.0 in
    let all = kills-reach texts positional from (words ++ text ∷ []) before (done ++ text ∷ []) one tt n are.1 in
    rw (← append_assoc words (text ∷ []) texts, ← append_assoc done (text ∷ []) texts) all

-- ---- the end

same-either : (b : Bool) (rows : List Row) → cond b rows rows ≡ rows
same-either true rows = refl
same-either false rows = refl

abbrev NoDefaults : List Rule → Type 0
NoDefaults [] = Unit {0}
NoDefaults (r ∷ rs) = (r.defaults ≡ []) × NoDefaults rs

no-defaults : (c : List Rule) (rows : List Row) → NoDefaults c → fold with_default rows c ≡ rows
no-defaults [] rows none = refl
no-defaults (r ∷ rs) rows none =
    let same : with_default rows r ≡ rows = rw none.0 (same-either (has_row r.id rows) rows) in
    ap (λ (rows : List Row). fold with_default rows rs) same ∙ no-defaults rs rows none.1

-- whether the words are taken, by the walk over them, and whether it passes
abbrev taken : Walk → Bool → Bool
taken w passes =
    entered_passes (built run_app) w.stopped && (passes && (settle_passes rules false w.held && (list_all default_passes rules
    && is_valid shape (finished rules w.held) (is_some (entered (built run_app) w.stopped)))))

takes-taken : (words : List Text) → takes run_app (codes "run" ∷ words) ≡ taken (walk rules [] nothing_held words) (walk_passes shape [] (walk_from nothing_held) words)
takes-taken words = refl

taken-at : (rows : List Row) (pending : Option (Text × List Text)) (waiting : Waiting) → settle_passes rules false (held rows pending) ≡ true → taken (at rows pending waiting) true ≡ true
taken-at rows pending waiting s = rw s refl

-- what clap finds in the words of `run`, and that it takes them
pub record RunIsRead (words : List Text) (rows : List Row) : Type 0 where
  pub rows_are : matches_of run_app words ≡ rows
  pub taken : takes run_app words ≡ true

run-read : (words : List Text) (rows : List Row) → Ends (at [] None idle) words rows → RunIsRead (codes "run" ∷ words) rows
run-read words rows ends =
    let r = ends.reaches in
    let whole : walk_passes shape [] (at [] None idle) words ≡ true = subst (λ (them : List Text). walk_passes shape [] (at [] None idle) them ≡ true) (append-nil words) (r.walks.passes [] (no-words (at r.rows r.pending ends.waiting))) in
    record {
      rows_are = ap (λ (w : Walk). finished rules w.held) r.walks.comes ∙ no-defaults rules (settled_rows rules r.pending r.rows) (refl, (refl, (refl, (refl, (refl, tt))))) ∙ r.rows_are;
      taken = takes-taken words ∙ ap₂ taken r.walks.comes whole ∙ taken-at r.rows r.pending ends.waiting r.settles;
    }

no-kill : (options : List Given) → has_row (codes "kill") (map row_of options) ≡ false
no-kill [] = refl
no-kill (first ∷ rest) = rw (no-kill rest) (other first.option)
  where
    other : (o : RunOption) → (bytes_eq (option_id o) (codes "kill") || false) ≡ false
    other Geo = refl
    other Image = refl
    other Save = refl

pub run-is-read : (options : List Given) (texts : List Text) → AreOptions options → AreValues texts
    → RunIsRead (codes "run" ∷ flat_map words_of options ++ texts) (map row_of options ++ kill_rows texts)
run-is-read options texts are values =
    let start : Reaches (at [] None idle) [] idle [] = record { rows = []; pending = None; walks = nowhere (at [] None idle); rows_are = refl; settles = refl } in
    let behind : Reaches (at [] None idle) (flat_map words_of options) idle (map row_of options) = options-reach options (at [] None idle) [] [] start (λ o e. cc e) are in
    let nil_behind : Reaches (at [] None idle) (flat_map words_of options) idle (map row_of options ++ kill_rows []) = rw (append-nil (map row_of options)) behind in
    let ends = kills-reach texts idle (at [] None idle) (flat_map words_of options) (map row_of options) [] nil_behind tt (no-kill options) values in
    run-read (flat_map words_of options ++ texts) (map row_of options ++ kill_rows texts) ends

-- ---- what is found

pub option-found : (options : List Given) (texts : List Text) (o : RunOption) → first_of (option_id o) (map row_of options ++ kill_rows texts) ≡ value_of o options
option-found [] [] Geo = refl
option-found [] [] Image = refl
option-found [] [] Save = refl
option-found [] (text ∷ texts) Geo = refl
option-found [] (text ∷ texts) Image = refl
option-found [] (text ∷ texts) Save = refl
option-found (first ∷ rest) texts o = rw (same-ids first.option o) (go (is_same_option first.option o) (option-found rest texts o))
  where
    go : (b : Bool) → first_of (option_id o) (map row_of rest ++ kill_rows texts) ≡ value_of o rest
        → option_and_then (λ (r : Row). slice_get r.values 0) (cond b (Some (row_of first)) (find (λ (r : Row). bytes_eq r.id (option_id o)) (map row_of rest ++ kill_rows texts)))
        ≡ cond b (Some first.value) (value_of o rest)
    go true later = refl
    go false later = later

-- no kills are None
abbrev pub texts_found : List Text → Option (List Text)
texts_found [] = None
texts_found (text ∷ texts) = Some (text ∷ texts)

pub kills-found : (options : List Given) (texts : List Text) → all_of (codes "kill") (map row_of options ++ kill_rows texts) ≡ texts_found texts
kills-found [] [] = refl
kills-found [] (text ∷ texts) = refl
kills-found (first ∷ rest) texts = rw (other first.option) (kills-found rest texts)
  where
    other : (o : RunOption) → bytes_eq (option_id o) (codes "kill") ≡ false
    other Geo = refl
    other Image = refl
    other Save = refl
