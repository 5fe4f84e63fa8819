-- A search along the bit words of a tier over a memory.
use Rattle.std.proofs.Common.{◌≡◌, ℕ, ◌+◌, ◌-◌, ◌*◌, ◌/◌, ◌^◌, ◌<◌, ◌≤◌, List, get_or, sym, ap, ◌∙◌, arith}
use Rattle.std.specs.Int.{trailing_zeros, leading_zeros, w64}
use Rattle.cm_geo.specs.declared.geo.Geo.{Geo}
use Rattle.cm_geo.specs.Addresses.{bits_at}
use Rattle.cm_geo.proofs.AddressOrder.{bits_behind_head, tier_behind_head}
use Rattle.cm_words.specs.Memory.{FitsNotes, MemSeen}
use Rattle.cm_words.specs.Effects.{Reads, Knows}
use Rattle.cm_words.proofs.FittingLists.{known_word}
use Rattle.cm_chunks.specs.Bits.{AreClear, IsFirstClear}
use Rattle.cm_chunks.specs.Free.{IsFirstFit, IsFreeRun}
use Rattle.cm_chunks.specs.Passing.{ArePassed}
use Rattle.cm_chunks.proofs.Fitting.{HasWord, fits_across, fits_inside, none_fits, passed_none, passes_word}

-- a bit word stands behind the lock word and the change number
pub bits_inner : (geo : Geo) (place number : ℕ) → 1 < bits_at geo place number
bits_inner geo place number = omega (arith, tier_behind_head geo place, bits_behind_head geo place number)

-- what was loaded of a bit word
pub record LoadedWord (a b : MemSeen) (geo : Geo) (place number word : ℕ) : Type 0 where
  pub at : ℕ
  pub at_is : at ≡ bits_at geo place number
  pub reads : Reads a b
  pub knows : Knows b at word
  pub small : word < 2 ^ 64

pub has_word : (a b : MemSeen) (geo : Geo) (place number word : ℕ) → LoadedWord a b geo place number word → (words : List ℕ) → FitsNotes b words → HasWord geo words place number word
has_word a b geo place number word loaded words fits = record { small = loaded.small; here = known_word b (bits_at geo place number) loaded.at word (bits_inner geo place number) loaded.at_is loaded.knows words fits }

pub begin_passing : (m : MemSeen) (geo : Geo) (place chunks : ℕ) → ArePassed m geo place chunks 0 0
begin_passing m geo place chunks words fits = passed_none geo words place chunks

pub pass_word : (a b : MemSeen) (geo : Geo) (place chunks number before word : ℕ) → ArePassed a geo place chunks number before → LoadedWord a b geo place number word → chunks ≤ 64
    → before + trailing_zeros w64 word < chunks → ((bit : ℕ) → AreClear word bit chunks → ⊥) → ArePassed b geo place chunks (number + 1) (leading_zeros w64 word)
pass_word a b geo place chunks number before word passed loaded within_limit in_one_word none words fits =
    passes_word geo words place chunks number before word (passed words (loaded.reads.fits words fits)) (has_word a b geo place number word loaded words fits) within_limit in_one_word none

pub find_across : (a b : MemSeen) (geo : Geo) (place chunks number before word : ℕ) → ArePassed a geo place chunks number before → LoadedWord a b geo place number word
    → number < geo.chunks / 64 → before ≤ 64 * number → chunks ≤ before + trailing_zeros w64 word → (words : List ℕ) → FitsNotes b words → IsFirstFit geo words place chunks (64 * number - before)
find_across a b geo place chunks number before word passed loaded inside within_limit enough words fits =
    fits_across geo words place chunks number before word (passed words (loaded.reads.fits words fits)) (has_word a b geo place number word loaded words fits) inside within_limit enough

pub find_inside : (a b : MemSeen) (geo : Geo) (place chunks number before word bit : ℕ) → ArePassed a geo place chunks number before → LoadedWord a b geo place number word → chunks ≤ 64
    → number < geo.chunks / 64 → before + trailing_zeros w64 word < chunks → IsFirstClear word chunks bit → (words : List ℕ) → FitsNotes b words → IsFirstFit geo words place chunks (64 * number + bit)
find_inside a b geo place chunks number before word bit passed loaded within_limit inside in_one_word first words fits =
    fits_inside geo words place chunks number before word bit (passed words (loaded.reads.fits words fits)) (has_word a b geo place number word loaded words fits) within_limit inside in_one_word first

pub find_none : (m : MemSeen) (geo : Geo) (place chunks number before : ℕ) → ArePassed m geo place chunks number before → geo.chunks / 64 ≤ number → 1 ≤ chunks
    → (words : List ℕ) → FitsNotes m words → (chunk : ℕ) → IsFreeRun geo words place chunk chunks → ⊥
find_none m geo place chunks number before passed past nonzero words fits chunk run = none_fits geo words place chunks number before chunk (passed words fits) past nonzero run
