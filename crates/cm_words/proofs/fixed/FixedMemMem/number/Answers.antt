use Rattle.std.proofs.Common.{◌≡◌, false, true, refl}
use Rattle.cm_words.specs.Fixed.{SameWords, fixed_seen}
use Rattle.cm_words.specs.declared.fuse.EventKind.TheVariants.{Load}
use Rattle.cm_words.specs.Effects.{Reads}
use Rattle.cm_words.proofs.CallSequences.{load_no_store, once_err, once_ok}
use Rattle.cm_words.proofs.FittingLists.{as_before, knows_number, reads_load}
use Rattle.cm_words.proofs.MapPlaces.{number_inside}
use Rattle.cm_words.proofs.PlainNotes.{notes_loaded}
use Rattle.cm_words.proofs.fixed.FixedMemMem.number.Goals as goal

pub returns-in_err-ask-clause-loads : goal.returns-in_err-ask-clause-loads
returns-in_err-ask-clause-loads c =
    once_err fixed_seen SameWords Load Reads _ _ _ c.from_residual.result c.from_residual.ensures.0 (record { words = refl; segment = refl }) c.in_err-ask.ensures.fuse c.in_err-ask.ensures.event
    (as_before _ _ (record { setting = refl; plan = refl }) (λ k. refl) c.in_err-ask.ensures.dead_events c.in_err-ask.ensures.dead_stores)

pub address-address-requires : goal.address-address-requires
address-address-requires c = number_inside c.args.self.now.words.now.geo

pub returns-clause-loads : goal.returns-clause-loads
returns-clause-loads c =
    let m = c.args.self.now in
    let inside = number_inside m.words.now.geo in
    once_ok fixed_seen SameWords Load Reads _ _ _ (record { words = refl; segment = refl }) c.in_ok-ask.ensures.fuse c.in_ok-ask.ensures.event
    (reads_load _ _ 1 _ inside (record { setting = refl; plan = refl })
    (notes_loaded _ _ m.words.now.geo m.start 1 m.words.now.words m.words.now.words inside (λ k. refl) (λ k. refl)) (load_no_store _ _ c.in_ok-ask.ensures.event))

-- it is neither guarded nor shared
not_so : false ≡ true → ⊥
not_so e = cc e

pub returns-clause-number : goal.returns-clause-number
returns-clause-number c =
    let m = c.args.self.now in
    let inside = number_inside m.words.now.geo in
    rw (c.get.ensures, c.address-address.ensures.value) (knows_number (fixed_seen m) _ _ inside
    (notes_loaded _ _ m.words.now.geo m.start 1 m.words.now.words m.words.now.words inside (λ k. refl) (λ k. refl)) (λ guarded. absurd (not_so guarded)) (λ shared. absurd (not_so shared)))
