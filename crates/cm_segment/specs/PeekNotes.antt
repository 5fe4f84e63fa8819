-- What a memory tells whose words are found by a peek (own). The lock word and the change number, which aren't found, count as 0, and each other
-- address is noted with the newest word that was found there. Once two different words were found at one address, no list fits the notes.
use Rattle.std.specs.Prelude.{ℕ, ◌≡◌, ◌++◌, ◌||◌, ◌==◌, ◌^◌, not, Bool, false, List, [], ◌∷◌, Option, Some, None, if◌then◌else◌, nat_lt}
use Rattle.std.specs.Option.{option_map}
use Rattle.std.proofs.Common.{◌∙◌, refl, ap, sym}
use Rattle.std.proofs.lemmas.List.{append_assoc}
use Rattle.cm_words.specs.declared.access.Access.TheVariants.{Readable}
use Rattle.cm_words.specs.declared.peek.FoundWord.{FoundWord}
use Rattle.cm_words.specs.Memory.{MemSeen, Note}
use Rattle.cm_words.specs.Peeks.{PeekSeen}
use Rattle.cm_segment.specs.declared.peek_mem.PeekMem.{PeekMem}
use Rattle.cm_segment.specs.Peeked.{FindsMore}

-- the newest word that was found at an address
abbrev pub newest_word : List FoundWord → ℕ → Option ℕ
newest_word [] at = None
newest_word (f ∷ found) at = if f.at == at then Some f.word else newest_word found at

-- a word was found before, and another than this one
abbrev pub is_other : Option ℕ → ℕ → Bool
is_other None word = false
is_other (Some before) word = not (before == word)

-- two different words were found at one address
abbrev pub is_mixed : List FoundWord → Bool
is_mixed [] = false
is_mixed (f ∷ found) = is_mixed found || is_other (newest_word found f.at) f.word

-- the last word that was found, at its address; at others a number that is no word of 64 bits
abbrev pub last_alone : List FoundWord → ℕ → ℕ
last_alone [] at = 2 ^ 64
last_alone (f ∷ found) at = if f.at == at then f.word else 2 ^ 64

-- the note of a word at which nothing was stored
abbrev pub note_of : ℕ → Note
note_of word = record { present = word; first = word }

-- the notes of the words that were found, behind the first two addresses, and there
abbrev pub notes_behind : List FoundWord → ℕ → Option Note
notes_behind found at = if is_mixed found then Some (note_of (last_alone found at)) else option_map note_of (newest_word found at)

abbrev pub notes_of : List FoundWord → ℕ → Option Note
notes_of found at = if nat_lt at 2 then Some (note_of 0) else notes_behind found at

-- what such a memory tells
abbrev pub mem_of : PeekSeen → MemSeen
mem_of p = record {
  setting = record { geo = p.geo; segment = p.segment; access = Readable; guarded = false; shared = false };
  plan = None;
  noted = notes_of p.found;
  meter = p.meter;
}

abbrev pub peek_mem_seen : {P : Type 0} → (P → PeekSeen) → PeekMem P → MemSeen
peek_mem_seen seen m = mem_of (seen m.peek.now)

-- it is over the same peek, of which what no call changes is the same
pub record SameRest {P : Type 0} (seen : P → PeekSeen) (same_rest : P → P → Type 0) (a b : PeekMem P) : Type 0 where
  pub name : b.peek.ghost_name ≡ a.peek.ghost_name
  pub rest : same_rest a.peek.now b.peek.now
  pub found : FindsMore (seen a.peek.now).found (seen b.peek.now).found

-- two laws of it
pub same_rest_reflexive : {P : Type 0} (seen : P → PeekSeen) (same_rest : P → P → Type 0) (m : PeekMem P) → same_rest m.peek.now m.peek.now
    → SameRest seen same_rest m m
same_rest_reflexive seen same_rest m rest = record { name = refl; rest = rest; found = ([], refl) }

pub same_rest_transitive : {P : Type 0} (seen : P → PeekSeen) (same_rest : P → P → Type 0) (a b c : PeekMem P)
    → (same_rest a.peek.now b.peek.now → same_rest b.peek.now c.peek.now → same_rest a.peek.now c.peek.now)
    → SameRest seen same_rest a b → SameRest seen same_rest b c → SameRest seen same_rest a c
same_rest_transitive seen same_rest a b c on p q = record {
  name = q.name ∙ p.name;
  rest = on p.rest q.rest;
  found = (q.found.0 ++ p.found.0, q.found.1 ∙ (ap (λ (f : List FoundWord). q.found.0 ++ f) p.found.1 ∙ sym (append_assoc q.found.0 p.found.0 (seen a.peek.now).found)));
}
