-- A load by a peek, as one of a memory over it.
use Rattle.std.proofs.Common.{◌≡◌, ℕ, ◌<◌, List, [], ◌∷◌, Some, Ok, Err, refl, ap, ◌∙◌, arith}
use Rattle.std.specs.Prelude.{IsErr, IfOk}
use Rattle.std.specs.declared.result.Result.{Result}
use Rattle.cm_geo.specs.Addresses.{words_in_segment}
use Rattle.cm_words.specs.declared.fuse.EventKind.TheVariants.{Load}
use Rattle.cm_words.specs.declared.peek.FoundWord.{FoundWord}
use Rattle.cm_words.specs.Calls.{LoadsOnce}
use Rattle.cm_words.specs.Effects.{Keeps, Knows, Reads}
use Rattle.cm_words.specs.Peeks.{PeekSeen, PeeksOnce}
use Rattle.cm_words.proofs.CallSequences.{once_err, once_ok}
use Rattle.cm_words.proofs.FittingLists.{as_before}
use Rattle.cm_segment.specs.declared.peek_mem.PeekMem.{PeekMem}
use Rattle.cm_segment.specs.PeekNotes.{SameRest, mem_of, note_of, notes_of, peek_mem_seen}
use Rattle.cm_segment.proofs.PeekNotes.{knows_noted, noted_newest, reads_found}

-- the geometry and the segment are the same
keeps_by : (a b : PeekSeen) → b.geo ≡ a.geo → b.segment ≡ a.segment → Keeps (mem_of a) (mem_of b)
keeps_by a b geo segment = record { setting = rw (geo, segment) refl; plan = refl }

-- a word was found, and the memory may answer another one
pub loads_once : {P T E : Type 0} (seen : P → PeekSeen) (same_rest : P → P → Type 0) (at : ℕ) (a b : PeekMem P) (word : ℕ) (value : T)
    → b.peek.ghost_name ≡ a.peek.ghost_name → 1 < at
    → at < words_in_segment (seen a.peek.now).geo → PeeksOnce {E = E} seen same_rest at a.peek.now b.peek.now (Ok word)
    → LoadsOnce {T = T} {E = E} (λ m. peek_mem_seen seen m) (λ a b. SameRest seen same_rest a b) a b (Ok value)
loads_once seen same_rest at a b word value name inner below p =
    let f : FoundWord = record { at = at; word = word } in
    let before = seen a.peek.now in
    let now = seen b.peek.now in
    let below_now : at < words_in_segment now.geo = rw p.geo below in
    once_ok (λ m. peek_mem_seen seen m) (λ a b. SameRest seen same_rest a b) Load Reads a b value
    (record { name = name; rest = p.rest; found = (f ∷ [], p.found) })
    (record { survives = p.fuse.survives; killed = tt }) (record { events = p.event.events; stores = p.event.stores; counts = tt })
    (reads_found (mem_of before) (mem_of now) before.found f inner (λ k. refl) (λ k. ap (λ (found : List FoundWord). notes_of found k) p.found) below_now
    (keeps_by before now p.geo p.segment) (omega (arith, p.event.stores)))

-- its event died
pub loads_dead : {P E U F : Type 0} (seen : P → PeekSeen) (same_rest : P → P → Type 0) (at : ℕ) (a b : PeekMem P) (error : E) (result : Result U F)
    → IsErr result → b.peek.ghost_name ≡ a.peek.ghost_name
    → PeeksOnce {E = E} seen same_rest at a.peek.now b.peek.now (Err error)
    → LoadsOnce {T = U} {E = F} (λ m. peek_mem_seen seen m) (λ a b. SameRest seen same_rest a b) a b result
loads_dead seen same_rest at a b error result err name p =
    let before = seen a.peek.now in
    let now = seen b.peek.now in
    let killed = p.fuse.killed in
    once_err {T = Unit {0}} (λ m. peek_mem_seen seen m) (λ a b. SameRest seen same_rest a b) Load Reads a b error result err
    (record { name = name; rest = p.rest; found = ([], p.dead) })
    (record { survives = tt; killed = killed }) (record { events = tt; stores = tt; counts = p.event.counts })
    (as_before (mem_of before) (mem_of now) (keeps_by before now p.geo p.segment) (λ k. ap (λ (found : List FoundWord). notes_of found k) p.dead) p.dead_events
    (omega (arith, p.dead_events, killed.stores, killed.stores_within)))

-- the memory answers the word that was found
pub loads_found : {P E : Type 0} (seen : P → PeekSeen) (same_rest : P → P → Type 0) (at : ℕ) (a b : PeekMem P) (result : Result ℕ E)
    → b.peek.ghost_name ≡ a.peek.ghost_name → 1 < at
    → at < words_in_segment (seen a.peek.now).geo → PeeksOnce seen same_rest at a.peek.now b.peek.now result
    → LoadsOnce (λ m. peek_mem_seen seen m) (λ a b. SameRest seen same_rest a b) a b result
loads_found seen same_rest at a b (Ok word) name inner below p = loads_once seen same_rest at a b word word name inner below p
loads_found seen same_rest at a b (Err error) name inner below p = loads_dead seen same_rest at a b error (Err error) refl name p

-- and it is known from then on
pub knows_found : {P E : Type 0} (seen : P → PeekSeen) (same_rest : P → P → Type 0) (at : ℕ) (a b : P) (result : Result ℕ E) → 1 < at
    → at < words_in_segment (seen a).geo → PeeksOnce seen same_rest at a b result → IfOk result (Knows (mem_of (seen b)) at)
knows_found seen same_rest at a b (Ok word) inner below p =
    let below_now : at < words_in_segment (seen b).geo = rw p.geo below in
    knows_noted (mem_of (seen b)) at word below_now
    (ap (λ (found : List FoundWord). notes_of found at) p.found ∙ noted_newest (seen a).found (record { at = at; word = word }) inner)
knows_found seen same_rest at a b (Err error) inner below p = tt

-- the lock word and the change number are known as 0
pub knows_head : (p : PeekSeen) (at : ℕ) → at < 2 → at < words_in_segment p.geo → Knows (mem_of p) at 0
knows_head p at head below = knows_noted (mem_of p) at 0 below (zero p.found at head)
  where
    zero : (found : List FoundWord) (at : ℕ) → at < 2 → notes_of found at ≡ Some (note_of 0)
    zero found at head = grind arith
