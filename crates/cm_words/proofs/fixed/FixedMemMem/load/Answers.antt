use Rattle.std.proofs.Common.{refl}
use Rattle.cm_words.specs.Fixed.{SameWords, fixed_seen}
use Rattle.cm_words.specs.declared.fuse.EventKind.TheVariants.{Load}
use Rattle.cm_words.specs.Effects.{Reads}
use Rattle.cm_words.proofs.CallSequences.{load_no_store, once_err, once_ok}
use Rattle.cm_words.proofs.FittingLists.{as_before, knows_load, reads_load}
use Rattle.cm_words.proofs.PlainNotes.{notes_loaded}
use Rattle.cm_words.proofs.fixed.FixedMemMem.load.Goals as goal

pub returns-in_err-ask-clause-loads : goal.returns-in_err-ask-clause-loads
returns-in_err-ask-clause-loads c =
    once_err fixed_seen SameWords Load Reads _ _ _ c.from_residual.result c.from_residual.ensures.0 (record { words = refl; segment = refl }) c.in_err-ask.ensures.fuse c.in_err-ask.ensures.event
    (as_before _ _ (record { setting = refl; plan = refl }) (λ k. refl) c.in_err-ask.ensures.dead_events c.in_err-ask.ensures.dead_stores)

pub returns-clause-loads : goal.returns-clause-loads
returns-clause-loads c =
    let m = c.args.self.now in
    once_ok fixed_seen SameWords Load Reads _ _ _ (record { words = refl; segment = refl }) c.in_ok-ask.ensures.fuse c.in_ok-ask.ensures.event
    (reads_load _ _ c.args.at _ c.requires.in_range (record { setting = refl; plan = refl })
    (notes_loaded _ _ m.words.now.geo m.start c.args.at m.words.now.words m.words.now.words c.requires.in_range (λ k. refl) (λ k. refl)) (load_no_store _ _ c.in_ok-ask.ensures.event))

pub returns-clause-word : goal.returns-clause-word
returns-clause-word c =
    let m = c.args.self.now in
    rw (c.get.ensures, c.address-address.ensures.value) (knows_load (fixed_seen m) _ c.args.at _ c.requires.in_range
    (notes_loaded _ _ m.words.now.geo m.start c.args.at m.words.now.words m.words.now.words c.requires.in_range (λ k. refl) (λ k. refl)))
