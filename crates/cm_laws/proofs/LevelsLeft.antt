-- The lock words at the end, and the levels that are left.
use Rattle.std.proofs.Common.{◌≡◌, ℕ, ◌+◌, ◌*◌, List, [], ◌∷◌, slice_get, sum_by, Some, refl, arith}
use Rattle.std.proofs.lemmas.List.Sums.{sum_by-cons}
use Rattle.cm_words.specs.Maps.{MapWords, segment_in}
use Rattle.cm_lock.specs.declared.view.HeldLevel.{HeldLevel}
use Rattle.cm_lock.specs.declared.view.Key.{Key}
use Rattle.cm_lock.specs.declared.view.View.{View}
use Rattle.cm_lock.specs.Levels.{reads, reads_in, updates, updates_in, writes, writes_in}
use Rattle.cm_lock.specs.Tables.{Closes}
use Rattle.cm_store.specs.Closes.{ClosesAll}
use Rattle.cm_laws.specs.Laws.{CountsLeft}
use Rattle.cm_laws.proofs.Remains.{sum_one}

weigh_more : (f g h : HeldLevel → ℕ) (hs : List HeldLevel) → sum_by (λ (x : HeldLevel). f x + 1073741824 * g x + 2147483648 * h x) hs ≡ sum_by f hs + 1073741824 * sum_by g hs + 2147483648 * sum_by h hs
weigh_more f g h [] = refl
weigh_more f g h (x ∷ hs) =
    let w = sum_by-cons (λ (y : HeldLevel). f y + 1073741824 * g y + 2147483648 * h y) x hs in
    let a = sum_by-cons f x hs in let b = sum_by-cons g x hs in let c = sum_by-cons h x hs in
    let r = weigh_more f g h hs in omega arith

counts_left : (key : Key) (words : List ℕ) (v : View) → Closes key v words → CountsLeft words (v.own ∷ v.inherited)
counts_left key words v closes =
    let r = sum_one reads_in v in let u = sum_one updates_in v in let w = sum_one writes_in v in
    let rs = sum_by-cons (λ (h : HeldLevel). reads h.level) v.own v.inherited in
    let us = sum_by-cons (λ (h : HeldLevel). updates h.level) v.own v.inherited in
    let ws = sum_by-cons (λ (h : HeldLevel). writes h.level) v.own v.inherited in
    record {
      lock_word = (let l = closes.levels.lock_word in
          let all = weigh_more (λ (h : HeldLevel). reads h.level) (λ (h : HeldLevel). updates h.level) (λ (h : HeldLevel). writes h.level) (v.own ∷ v.inherited) in omega arith);
      at_most_one = (let m = closes.levels.at_most_one in omega arith);
      no_reader = λ some. (let n = closes.levels.no_reader (omega arith) in omega arith);
    }

pub lock_words_left : (keys : List Key) (roots : List View) (map_words : MapWords) → ClosesAll keys roots map_words
    → (segment : ℕ) (key : Key) (v : View) → slice_get keys segment ≡ Some key → slice_get roots segment ≡ Some v
    → CountsLeft (segment_in map_words segment) (v.own ∷ v.inherited)
lock_words_left keys roots map_words closes segment key v key_there there = counts_left key (segment_in map_words segment) v (closes.each segment key v key_there there)
