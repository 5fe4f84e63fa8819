-- While a value is replaced in place the words are torn.
use Rattle.std.proofs.Common.{◌≡◌, ℕ, ◌+◌, ◌*◌, ◌/◌, ◌<◌, ◌≤◌, ◌⊎◌, List, length, take, drop, Contains, refl, ap, sym, subst, ◌∙◌, inl, inr, arith}
use Rattle.cm_geo.specs.declared.geo.Geo.{Geo}
use Rattle.cm_geo.specs.Addresses.{chunk_at, words_in_segment}
use Rattle.cm_geo.proofs.AddressOrder.{rows_in_order}
use Rattle.cm_plain.specs.declared.placed.Placed.{Placed}
use Rattle.cm_plain.specs.declared.plan.Run.{Run}
use Rattle.cm_plain.specs.States.{State, chunks_of}
use Rattle.cm_plain.specs.Changes.{Change, entry_at, new_entry, run_of}
use Rattle.cm_plain.specs.Slots.{IsPointed}
use Rattle.cm_plain.specs.Readings.{Stands, bytes_of, entry_checksum}
use Rattle.cm_plain.specs.FoundChains.{IsZero, chain_of}
use Rattle.cm_plain.specs.Lawful.{Represents}
use Rattle.cm_plain.specs.Torn.{BeginsAt, IsBetween, IsChangeEntry, Torn}
use Rattle.cm_plain.proofs.Apart.{IsApart}
use Rattle.cm_plain.proofs.OneState.{in_chain}
use Rattle.cm_plain.proofs.OutsideHead.{resting_many, resting_represents}
use Rattle.cm_plain.proofs.Planned.{IsNew, is_new}
use Rattle.cm_plain.proofs.RestingTorn.{resting_torn}
use Rattle.cm_plain.proofs.States.{is_placed, place_low}
use Rattle.cm_tiers.proofs.Appending.{linked_kept}
use Rattle.cm_entry.proofs.StoredEntries.{EntryWords, stood}
use Rattle.cm_segment.specs.Frames.{DiffersAt, IsChunkWord}
use Rattle.cm_segment.specs.Phases.{IsStart}
use Rattle.cm_segment.specs.ReplacementStages.{IsNewThere, IsReplacement, IsRoomWord}
use Rattle.cm_segment.specs.ReplacementStages.IsRoomWord.{bits, chunks}
use Rattle.cm_segment.proofs.Frames.{link_left, slot_left}
use Rattle.cm_segment.proofs.UntouchedParts.{stands_left}
use Rattle.cm_segment.proofs.EntryBefore.{HasOldEntry, old_entry}

-- ---- the room of the new entry

-- no head of a tier is in it, nor a slot
pub room_head : (geo : Geo) (run : Run) (place offset : ℕ) → offset < 4 → IsRoomWord geo run place offset → ⊥
room_head geo run place offset low (bits p is) = omega (arith, is.from)
room_head geo run place offset low (chunks p is) = omega (arith, is.from)

pub room_slot : (geo : Geo) (run : Run) (place slot : ℕ) → slot < 2 * geo.chunks → IsRoomWord geo run place (4 + geo.chunks / 64 + slot) → ⊥
room_slot geo run place slot below (bits p is) = omega (arith, is.to)
room_slot geo run place slot below (chunks p is) = omega (arith, is.from)

-- it lies in one tier
pub room_place : (geo : Geo) (run : Run) (place offset : ℕ) → IsRoomWord geo run place offset → place ≡ run.place
room_place geo run place offset (bits p is) = p
room_place geo run place offset (chunks p is) = p

-- and no entry apart from the new one has a word there
pub room_apart : (geo : Geo) (change : Change) (run : Run) (placed : Placed) → IsApart geo placed (new_entry change run)
    → run.chunks ≡ chunks_of geo (new_entry change run)
    → (offset : ℕ) → IsChunkWord geo placed.chunk (chunks_of geo placed) offset → IsRoomWord geo run placed.place offset → ⊥
room_apart geo change run placed apart size offset of (bits p is) = omega (arith, of.from, is.to)
room_apart geo change run placed apart size offset of (chunks p is) = apart_rows placed.chunk (chunks_of geo placed) run.chunk run.chunks (by apart) of is
  where
    by : IsApart geo placed (new_entry change run) → (placed.chunk + chunks_of geo placed ≤ run.chunk) ⊎ (run.chunk + run.chunks ≤ placed.chunk)
    by (inl h) = inl (let rows : placed.place * geo.chunks ≡ run.place * geo.chunks = ap (λ (q : ℕ). q * geo.chunks) p in omega (arith, rows, h))
    by (inr h) = inr (let rows : placed.place * geo.chunks ≡ run.place * geo.chunks = ap (λ (q : ℕ). q * geo.chunks) p in omega (arith, rows, h, size))

    apart_rows : (a n b m : ℕ) → (a + n ≤ b) ⊎ (b + m ≤ a) → IsChunkWord geo a n offset → IsChunkWord geo b m offset → ⊥
    apart_rows a n b m (inl h) x y = (let rows = rows_in_order 0 geo.chunk_words (a + n) b (omega arith) in omega (arith, x.to, y.from, rows))
    apart_rows a n b m (inr h) x y = (let rows = rows_in_order 0 geo.chunk_words (b + m) a (omega arith) in omega (arith, y.to, x.from, rows))

-- ---- the entry lies between the old one and the new one

-- while a value is replaced: nothing but the room of the new entry has changed, and what stands there lies between the old entry and the new one
pub record IsBeingReplaced (geo : Geo) (change : Change) (run : Run) (state : State) (start words : List ℕ) : Type 0 where
  pub differs : DiffersAt geo (IsRoomWord geo run) start words
  pub between : (old : Placed) → IsChangeEntry state change old → IsBetween geo words old (new_entry change run)

module _ (geo : Geo) (segment : ℕ) (state : State) (change : Change) (old run : Run) (start : List ℕ) (is : IsStart geo segment change start state)
    (replacement : IsReplacement geo change old run) where
  represents : Represents geo segment start state
  represents = resting_represents geo segment start state is.rests

  its : HasOldEntry geo state change.key old
  its = old_entry geo segment start state change old is replacement.old_is

  fresh : IsNew geo segment state change run
  fresh = is_new geo segment state change run is.planned replacement.run_is

  -- the key's entry begins where the new one does
  its_run : (placed : Placed) → IsChangeEntry state change placed → run_of geo placed ≡ old
  its_run placed at = ap (run_of geo) (its.only placed at.there at.key_is) ∙ sym its.run_is

  pub its_place : (placed : Placed) → IsChangeEntry state change placed → placed.place ≡ run.place
  its_place placed at = ap (λ (r : Run). r.place) (its_run placed at) ∙ sym replacement.place_is

  pub its_chunk : (placed : Placed) → IsChangeEntry state change placed → placed.chunk ≡ run.chunk
  its_chunk placed at = ap (λ (r : Run). r.chunk) (its_run placed at) ∙ sym replacement.chunk_is

  pub its_entry : (placed : Placed) → IsChangeEntry state change placed → placed ≡ entry_at change.key placed.value run.place run.chunk
  its_entry placed at = rw (← at.key_is, ← its_place placed at, ← its_chunk placed at) refl

  key_words : (words : List ℕ) (n : ℕ) (ks : List ℕ) (at : ℕ) → bytes_of (take n (drop at words)) ≡ ks → bytes_of (take n (drop (at + 0) words)) ≡ ks
  key_words words n ks at h = (let e : at + 0 ≡ at = omega arith in subst (λ (a : ℕ). bytes_of (take n (drop a words)) ≡ ks) (sym e) h)

  -- where the old one stands
  pub old_between : (words : List ℕ) → length words ≡ words_in_segment geo → DiffersAt geo (IsRoomWord geo run) start words
      → ((placed : Placed) → IsChangeEntry state change placed → Stands geo words placed) → IsBeingReplaced geo change run state start words
  unfolding entry_checksum
  old_between words long differs stands = record {
    differs = differs;
    between = λ placed at.
        (let placed_at = is_placed represents.is_state placed at.there in
        let ws : EntryWords words (chunk_at geo placed.place placed.chunk) placed.key placed.value =
        stood geo words placed.place placed.chunk placed.key placed.value long (place_low represents.is_state.chain placed.place placed_at.chained)
        (stands placed at) in
        record {
          head = inl ws.head;
          key = key_words words _ _ (chunk_at geo placed.place placed.chunk + 2) ws.key_words;
          stored_checksum = inl ws.stored_checksum;
        });
  }

  -- where the new one does
  pub new_between : (words : List ℕ) → length words ≡ words_in_segment geo → IsNewThere geo change run state start words
      → IsBeingReplaced geo change run state start words
  new_between words long there = record {
    differs = there.differs;
    between = λ placed at. between placed (its_place placed at) (its_chunk placed at) at.key_is
        (stood geo words run.place run.chunk change.key change.value long replacement.new_in.run_in.place_inside there.stands);
  }
    where
      between : (placed : Placed) → placed.place ≡ run.place → placed.chunk ≡ run.chunk → placed.key ≡ change.key
          → EntryWords words (chunk_at geo run.place run.chunk) change.key change.value → IsBetween geo words placed (new_entry change run)
      between placed e f k ws = rw (e, f, k)
          (record { head = inr ws.head; key = key_words words _ _ (chunk_at geo run.place run.chunk + 2) ws.key_words; stored_checksum = inr there.stands })

  -- ---- torn

  module _ (words : List ℕ) (replacing : IsBeingReplaced geo change run state start words) where
    first : Torn geo start state change
    first = resting_torn geo segment start state change.op change is.rests is.planned

    links : chain_of geo words ≡ chain_of geo start
    links = linked_kept geo start words
        (λ place low. link_left geo (IsRoomWord geo run) start words place replacing.differs (room_head geo run place 0 (omega arith)))

    chained : Contains state.chain run.place
    chained = subst (Contains state.chain) (sym replacement.place_is) its.chained

    pointed : (placed : Placed) → IsPointed geo start placed.place placed.key placed.chunk → IsPointed geo words placed.place placed.key placed.chunk
    pointed placed point = (
      point.0,
      record {
        inside = point.1.inside;
        slot_is = slot_left geo (IsRoomWord geo run) start words placed.place point.0 replacing.differs point.1.inside
            (room_slot geo run placed.place point.0 point.1.inside) ∙ point.1.slot_is;
      },
    )

    begins : (placed : Placed) → placed ≡ new_entry change run → BeginsAt change.old_run placed.place placed.chunk
    begins placed e = rw (replacement.old_is, e) (sym replacement.place_is, sym replacement.chunk_is)

    zero : (place : ℕ) → place < geo.tiers → (Contains (chain_of geo start).places place → ⊥) → IsZero geo words place
    zero place low out offset below =
        replacing.differs.others place offset below
        (λ room. out (rw represents.chain (subst (Contains state.chain) (sym (room_place geo run place offset room)) chained)))
        ∙ represents.unlinked place low (λ c. out (rw represents.chain c)) offset below

    pub replacement_torn : Torn geo words state change
    replacement_torn = record {
      others_stand = λ placed other.
          (let at = is_placed represents.is_state placed other.there in
          stands_left geo (IsRoomWord geo run) start words placed (resting_many geo segment start state is.rests)
          (place_low represents.is_state.chain placed.place at.chained) at.run replacing.differs
          (room_apart geo change run placed (fresh.apart placed other.there other.other) fresh.size) (represents.stand placed other.there));
      others_pointed = λ placed other. pointed placed (first.others_pointed placed other);
      slots = λ place number seen in_chain below e.
          first.slots place number seen (rw links at in_chain) below
          (sym (slot_left geo (IsRoomWord geo run) start words place number replacing.differs below (room_slot geo run place number below)) ∙ e);
      old_stands = λ placed at other points. absurd (other replacement.kind_is);
      new_stands = λ placed at apart points. absurd (apart (begins placed (fresh.only placed at)));
      pointed = λ before later at at_later. inl (record {
        chained = subst (λ l. Contains l.places before.place) (sym links) (in_chain geo segment start state before represents at.there);
        pointed = pointed before (let once = represents.pointed before at.there in (once.0, once.1));
      });
      whole = ap (λ l. l.cut) links ∙ represents.whole;
      chain = inl (ap (λ l. l.places) links ∙ represents.chain);
      unlinked = λ place low out. zero place low (λ c. out (rw links c));
      between = λ before later in_place at at_later. subst (λ (p : Placed). IsBetween geo words before p) (sym (fresh.only later at_later))
          (replacing.between before at);
    }
