-- What a plain memory tells: each word of its segment is noted (own).
use Rattle.std.specs.Prelude.{ℕ, ◌≡◌, Bool, false, None}
use Rattle.std.proofs.Common.{◌∙◌, refl}
use Rattle.cm_words.specs.declared.plain.PlainMem.{PlainMem}
use Rattle.cm_words.specs.declared.access.Access.TheVariants.{Writable}
use Rattle.cm_words.specs.Fuses.{FuseSeen}
use Rattle.cm_words.specs.Meters.{unused}
use Rattle.cm_words.specs.Metered.{meter_seen}
use Rattle.cm_words.specs.Memory.{MemSeen}
use Rattle.cm_words.specs.Maps.{MapWords, rest_of, words_before}
use Rattle.cm_words.specs.Notes.{notes_in}
use Rattle.cm_words.specs.PlanCopies.{plan_under_way}

-- what it tells
abbrev pub plain_seen : {F : Type 0} {g : _} → (F → FuseSeen) → PlainMem F g → MemSeen
plain_seen fused m = record {
  setting = record { geo = m.words.now.geo; segment = m.segment; access = Writable; guarded = m.is_guarded; shared = false };
  plan = plan_under_way m.is_under_way m.plan;
  noted = notes_in m.words.now.geo m.start m.words.now.words m.first.value.words;
  meter = meter_seen fused m.meter;
}

-- what a new one over words tells: no plan is under way, and the first words are the present ones
abbrev pub new_plain : Bool → MapWords → ℕ → FuseSeen → MemSeen
new_plain guarded map segment fuse = record {
  setting = record { geo = map.geo; segment = segment; access = Writable; guarded = guarded; shared = false };
  plan = None;
  noted = notes_in map.geo (words_before map.geo segment) map.words map.words;
  meter = unused fuse;
}

-- it lies over the words behind this reference
pub record IsOver {F : Type 0} {g : _} (reference : _) (map : MapWords) (segment : ℕ) (m : PlainMem F g) : Type 0 where
  pub name : m.words.ghost_name ≡ reference
  pub map_is : m.words.now ≡ map
  pub segment_is : m.segment ≡ segment

-- it lies over the same words of a map, of which those outside the segment are as they were
pub record SameRest {F : Type 0} {g : _} (a b : PlainMem F g) : Type 0 where
  pub name : b.words.ghost_name ≡ a.words.ghost_name
  pub segment : b.segment ≡ a.segment
  pub rest : rest_of b.words.now b.segment ≡ rest_of a.words.now a.segment

-- two laws of it
pub same_rest_reflexive : {F : Type 0} {g : _} (m : PlainMem F g) → SameRest m m
same_rest_reflexive m = record { name = refl; segment = refl; rest = refl }

pub same_rest_transitive : {F : Type 0} {g : _} (a b c : PlainMem F g) → SameRest a b → SameRest b c → SameRest a c
same_rest_transitive a b c p q = record { name = q.name ∙ p.name; segment = q.segment ∙ p.segment; rest = q.rest ∙ p.rest }
