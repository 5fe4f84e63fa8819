-- What each step makes of a view (own).
use Rattle.std.specs.Prelude.{ℕ, ◌+◌, List, [], ◌∷◌, ◌++◌, length}
use Rattle.cm_yard.specs.declared.view.OwnedWord.{OwnedWord}
use Rattle.cm_yard.specs.declared.view.View.{View}

-- a seat of this number that has noted nothing
abbrev pub new_view : ℕ → View
new_view n = record { number = n; events = 0; claims = []; misses = []; raises = []; stops = []; made = []; due = []; joined = [] }

-- the first seat, the root, has number 64
abbrev pub root_view : View
root_view = new_view 64

-- what is left of a seat that was joined
abbrev pub spent_view : View
spent_view = new_view 65

-- a claim word was given to the seat for a segment, by one exchange
abbrev pub with_claim : View → ℕ → ℕ → View
with_claim v index segment = record v { events = v.events + 1; claims = v.claims ++ record { index = index; segment = segment } ∷ [] }

-- these claim words were found owned, each by one exchange
abbrev pub with_misses : View → List OwnedWord → View
with_misses v words = record v { events = v.events + length words; misses = v.misses ++ words }

-- a number was raised in a segment
abbrev pub with_raise : View → ℕ → ℕ → View
with_raise v segment number = record v { raises = v.raises ++ record { segment = segment; number = number } ∷ [] }

-- a number, maybe 0, was found in a segment's stop word
abbrev pub with_stop : View → ℕ → ℕ → View
with_stop v segment number = record v { stops = v.stops ++ record { segment = segment; number = number } ∷ [] }

-- a seat of this number is about to be made
abbrev pub with_due : View → ℕ → View
with_due v n = record v { made = n ∷ v.made; due = n ∷ [] }

-- it was made
abbrev pub without_due : View → View
without_due v = record v { due = [] }

-- the first number; without one, the root's
abbrev pub head_or_root : List ℕ → ℕ
head_or_root [] = 64
head_or_root (n ∷ ns) = n

-- the seat that was due has noted nothing
abbrev pub child : View → View
child v = new_view (head_or_root v.due)

-- a seat of this number was made
abbrev pub with_seat : View → ℕ → View
with_seat v n = record v { made = n ∷ v.made; due = [] }

-- the root takes over what another seat had, and notes its number
abbrev pub with_joined : View → View → View
with_joined v w = record v {
  events = v.events + w.events;
  claims = v.claims ++ w.claims;
  misses = v.misses ++ w.misses;
  raises = v.raises ++ w.raises;
  stops = v.stops ++ w.stops;
  joined = w.number ∷ v.joined;
}
