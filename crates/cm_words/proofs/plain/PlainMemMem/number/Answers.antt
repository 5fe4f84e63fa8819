use Rattle.std.proofs.Common.{◌≡◌, false, true, refl}
use Rattle.cm_words.specs.Plain.{SameRest, plain_seen}
use Rattle.cm_words.specs.declared.fuse.EventKind.TheVariants.{Load}
use Rattle.cm_words.specs.Effects.{Reads}
use Rattle.cm_words.proofs.CallSequences.{load_no_store, once_err, once_ok}
use Rattle.cm_words.proofs.FittingLists.{as_before, knows_number, reads_load}
use Rattle.cm_words.proofs.MapPlaces.{number_inside}
use Rattle.cm_words.proofs.PlainNotes.{no_plan, notes_loaded}
use Rattle.cm_words.proofs.plain.PlainMemMem.number.Goals as goal

pub returns-in_err-ask-clause-loads : goal.returns-in_err-ask-clause-loads
returns-in_err-ask-clause-loads g c =
    once_err (plain_seen g.F.Fuse.fused) SameRest Load Reads _ _ _ c.from_residual.result c.from_residual.ensures.0 (record { name = refl; segment = refl; rest = refl }) c.in_err-ask.ensures.fuse c.in_err-ask.ensures.event
    (as_before _ _ (record { setting = refl; plan = refl }) (λ k. refl) c.in_err-ask.ensures.dead_events c.in_err-ask.ensures.dead_stores)

pub address-address-requires : goal.address-address-requires
address-address-requires g c = number_inside c.args.self.now.words.now.geo

pub returns-clause-loads : goal.returns-clause-loads
returns-clause-loads g c =
    let m = c.args.self.now in
    let inside = number_inside m.words.now.geo in
    once_ok (plain_seen g.F.Fuse.fused) SameRest Load Reads _ _ _ (record { name = refl; segment = refl; rest = refl }) c.in_ok-ask.ensures.fuse c.in_ok-ask.ensures.event
    (reads_load _ _ 1 _ inside (record { setting = refl; plan = refl })
    (notes_loaded _ _ m.words.now.geo m.start 1 m.words.now.words m.first.value.words inside (λ k. refl) (λ k. refl)) (load_no_store _ _ c.in_ok-ask.ensures.event))

not_shared : false ≡ true → ⊥
not_shared e = cc e

pub returns-clause-number : goal.returns-clause-number
returns-clause-number g c =
    let m = c.args.self.now in
    let inside = number_inside m.words.now.geo in
    rw (c.get.ensures, c.address-address.ensures.value) (knows_number (plain_seen g.F.Fuse.fused m) _ _ inside
    (notes_loaded _ _ m.words.now.geo m.start 1 m.words.now.words m.first.value.words inside (λ k. refl) (λ k. refl)) (λ guarded. m.even guarded (no_plan m.is_under_way m.plan c.requires.idle)) (λ shared. absurd (not_shared shared)))
