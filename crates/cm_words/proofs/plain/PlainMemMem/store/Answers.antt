use Rattle.std.proofs.Common.{[], ◌∷◌, ◌≢◌, ◌+◌, ◌<◌, ◌^◌, ◌∙◌, length, length-set, get_or-set_other, arith, refl}
use Rattle.std.proofs.lemmas.List.Elements.{All-set}
use Rattle.cm_words.specs.Plain.{SameRest, plain_seen}
use Rattle.cm_words.specs.declared.fuse.EventKind.TheVariants.{Store}
use Rattle.cm_words.specs.Stores.{Writes, store_at}
use Rattle.cm_words.proofs.CallSequences.{once_err, once_ok}
use Rattle.cm_words.proofs.FittingLists.{as_before, knows_store, writes_store}
use Rattle.cm_words.proofs.MapPlaces.{place_inside, rest_stored}
use Rattle.cm_words.proofs.PlainNotes.{notes_stored}
use Rattle.cm_words.proofs.plain.PlainMemMem.store.Goals as goal

pub returns-in_err-ask-clause-stores : goal.returns-in_err-ask-clause-stores
returns-in_err-ask-clause-stores g c =
    once_err (plain_seen g.F.Fuse.fused) SameRest Store (λ old now. Writes old now (store_at c.args.at c.args.word ∷ [])) _ _ _ c.from_residual.result c.from_residual.ensures.0 (record { name = refl; segment = refl; rest = refl }) c.in_err-ask.ensures.fuse c.in_err-ask.ensures.event
    (as_before _ _ (record { setting = refl; plan = refl }) (λ k. refl) c.in_err-ask.ensures.dead_events c.in_err-ask.ensures.dead_stores)

-- a store behind the change number leaves that number
pub invariant_of-self-2 : goal.invariant_of-self-2
invariant_of-self-2 g c =
    let m = c.args.self.now in
    let apart : m.start + 1 ≢ m.start + c.args.at = omega (arith, c.requires.inner) in
    rw (c.set.ensures, c.address-address.ensures.value) (record {
      here = m.here;
      starts = m.starts;
      whole = length-set m.words.now.words (m.start + c.args.at) c.args.word ∙ m.whole;
      fit = All-set (λ word. word < 2 ^ 64) m.words.now.words (m.start + c.args.at) c.args.word c.ranges.word.fits m.fit;
      odd = λ planned. rw (get_or-set_other m.words.now.words (m.start + c.args.at) (m.start + 1) c.args.word 0 apart) (m.odd planned);
      even = λ guarded idle. rw (get_or-set_other m.words.now.words (m.start + c.args.at) (m.start + 1) c.args.word 0 apart) (m.even guarded idle);
    })

pub returns-clause-stores : goal.returns-clause-stores
returns-clause-stores g c =
    let m = c.args.self.now in
    let inside = (place_inside m.words.now.geo m.segment m.start c.args.at m.here m.starts c.requires.in_range).0 in
    let within : m.start + c.args.at < length m.words.now.words = rw m.whole inside in
    once_ok (plain_seen g.F.Fuse.fused) SameRest Store (λ old now. Writes old now (store_at c.args.at c.args.word ∷ [])) _ _ _
    (record { name = refl; segment = refl; rest = rw (c.set.ensures, c.address-address.ensures.value) (rest_stored m.words.now m.segment m.start c.args.at _ m.starts c.requires.in_range) })
    c.in_ok-ask.ensures.fuse c.in_ok-ask.ensures.event
    (rw (c.set.ensures, c.address-address.ensures.value) (writes_store _ _ c.args.at c.args.word _ c.requires.in_range (record { setting = refl; plan = refl })
    (notes_stored _ _ m.words.now.geo m.start c.args.at c.args.word m.words.now.words m.first.value.words c.requires.in_range within (m.fit (m.start + c.args.at) 0 within) (λ k. refl) (λ k. refl)) c.in_ok-ask.ensures.event.stores))

pub returns-clause-word : goal.returns-clause-word
returns-clause-word g c =
    let m = c.args.self.now in
    let inside = (place_inside m.words.now.geo m.segment m.start c.args.at m.here m.starts c.requires.in_range).0 in
    let within : m.start + c.args.at < length m.words.now.words = rw m.whole inside in
    rw (c.set.ensures, c.address-address.ensures.value) (knows_store (plain_seen g.F.Fuse.fused m) _ c.args.at c.args.word _ c.requires.in_range
    (notes_stored _ _ m.words.now.geo m.start c.args.at c.args.word m.words.now.words m.first.value.words c.requires.in_range within (m.fit (m.start + c.args.at) 0 within) (λ k. refl) (λ k. refl)))
