-- The stores that keep an entry, one after the other.
use Rattle.std.proofs.Common.{◌≡◌, ℕ, ◌+◌, ◌*◌, ◌<◌, List, [], ◌∷◌, ap, sym, ◌∙◌}
use Rattle.cm_geo.specs.declared.geo.Geo.{Geo}
use Rattle.cm_geo.specs.Addresses.{slot_at, tier_at, words_in_segment}
use Rattle.cm_plain.specs.declared.plan.Run.{Run}
use Rattle.cm_words.specs.Memory.{FitsNotes, MemSeen}
use Rattle.cm_words.specs.Effects.{Changes, Reads}
use Rattle.cm_words.specs.Calls.{HasDone, HasLoaded}
use Rattle.cm_words.specs.Stores.{Writes, store_at}
use Rattle.cm_words.proofs.FittingLists.{keeps_transitive}
use Rattle.cm_words.proofs.MeterCounts.{survives_transitive}
use Rattle.cm_chunks.specs.RunBits.{Sets}
use Rattle.cm_lookup.specs.Probing.{IsFirstEmpty}
use Rattle.cm_lookup.specs.Tiers.{HasEmptySlot, slot_word}
use Rattle.cm_recover.specs.Rebuilding.{IsAdded, raised}

-- the lists that fit
added_by : (a b c d e f : MemSeen) (geo : Geo) (run : Run) (fingerprint slot at tier_count : ℕ) → c.setting.geo ≡ geo → slot < 2 * geo.chunks
    → at ≡ slot_at geo run.place slot → tier_count ≡ tier_at geo run.place + 1
    → ((words : List ℕ) → FitsNotes c words → HasEmptySlot geo words run.place → IsFirstEmpty geo words run.place fingerprint slot)
    → Sets a b geo run → Reads b c → Writes c d (store_at at (slot_word fingerprint run.chunk) ∷ [])
    → Changes d e (λ before words. words ≡ raised tier_count before)
    → Changes e f (λ before words. words ≡ raised 2 before) → Changes a f (IsAdded geo run fingerprint)
added_by a b c d e f geo run fingerprint slot at tier_count geo_is below at_is count_is first sets reads writes one two = record {
  keeps = keeps_transitive a b f sets.keeps
      (keeps_transitive b c f reads.keeps (keeps_transitive c d f writes.keeps (keeps_transitive d e f one.keeps two.keeps)));
  came = λ words fits.
      let e' = two.came words fits in
      let d' = one.came e'.0 e'.1.fits in
      let c' = writes.came d'.0 d'.1.fits in
      let a' = sets.came c'.0 (reads.fits c'.0 c'.1.fits) in (
        a'.0,
        record {
          fits = a'.1.fits;
          origin = e'.1.origin ∙ (d'.1.origin ∙ (c'.1.origin ∙ (reads.origin c'.0 c'.1.fits ∙ a'.1.origin)));
          relates = record {
            taken = c'.0;
            long = c'.1.fits.are.length_is ∙ ap words_in_segment geo_is;
            set = a'.1.relates.has;
            slot = slot;
            below = below;
            first = first c'.0 c'.1.fits;
            words_are = rw (← count_is, ← at_is) (e'.1.relates ∙ ap (raised 2) (d'.1.relates ∙ ap (raised tier_count) (sym c'.1.relates.leads)));
          };
        },
      );
  noted = λ k h. two.noted k (one.noted k (writes.noted k (reads.noted k (sets.noted k h))));
}

-- and the rest of the memory
pub adds : {M : Type 0} (seen : M → MemSeen) (rest : M → M → Type 0) (a b c d e f : M) (geo : Geo) (run : Run) (fingerprint slot at tier_count : ℕ)
    → ((x y z : M) → rest x y → rest y z → rest x z) → (seen c).setting.geo ≡ geo → slot < 2 * geo.chunks → at ≡ slot_at geo run.place slot
    → tier_count ≡ tier_at geo run.place + 1
    → ((words : List ℕ) → FitsNotes (seen c) words → HasEmptySlot geo words run.place → IsFirstEmpty geo words run.place fingerprint slot)
    → HasDone seen rest (λ old now. Sets old now geo run) a b → HasLoaded seen rest b c
    → HasDone seen rest (λ old now. Writes old now (store_at at (slot_word fingerprint run.chunk) ∷ [])) c d
    → HasDone seen rest (λ old now. Changes old now (λ before words. words ≡ raised tier_count before)) d e
    → HasDone seen rest (λ old now. Changes old now (λ before words. words ≡ raised 2 before)) e f
    → HasDone seen rest (λ old now. Changes old now (IsAdded geo run fingerprint)) a f
adds seen rest a b c d e f geo run fingerprint slot at tier_count on geo_is below at_is count_is first sets reads writes one two = record {
  rest = on a b f sets.rest (on b c f reads.rest (on c d f writes.rest (on d e f one.rest two.rest)));
  survives = survives_transitive (seen a).meter (seen b).meter (seen f).meter sets.survives
      (survives_transitive (seen b).meter (seen c).meter (seen f).meter reads.survives
      (survives_transitive (seen c).meter (seen d).meter (seen f).meter writes.survives
      (survives_transitive (seen d).meter (seen e).meter (seen f).meter one.survives two.survives)));
  done = added_by (seen a) (seen b) (seen c) (seen d) (seen e)
      (seen f) geo run fingerprint slot at tier_count geo_is below at_is count_is first sets.done reads.done writes.done one.done two.done;
}
