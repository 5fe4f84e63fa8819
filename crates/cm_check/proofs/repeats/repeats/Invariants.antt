-- So far the law holds.
use Rattle.std.proofs.Common.{◌≡◌, ℕ, ◌<◌, [], get_or}
use Rattle.cm_check.specs.Places.{chain_in, places_before}
use Rattle.cm_check.specs.SlotLaws.{is_again, slots_where}
use Rattle.cm_check.specs.Quiets.{geo_of, words_of}
use Rattle.cm_check.proofs.repeats.repeats.Given as goal

abbrev pub invariant-loop-link : goal.invariant-loop-link
invariant-loop-link l = (k : ℕ) → k < l.link
    → slots_where (geo_of l.quiet) (get_or l.places k 0) (is_again (geo_of l.quiet) (words_of l.quiet) (places_before (chain_in (geo_of l.quiet) (words_of l.quiet)) (get_or l.places k 0)) (get_or l.places k 0)) ≡ []
