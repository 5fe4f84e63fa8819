-- What a memory tells that is read alone (own).
use Rattle.std.specs.Prelude.{ℕ, ◌≡◌, false, None}
use Rattle.std.proofs.Common.{◌∙◌, refl}
use Rattle.cm_words.specs.declared.fixed.FixedMem.{FixedMem}
use Rattle.cm_words.specs.declared.fuse.Never.{Never}
use Rattle.cm_words.specs.declared.access.Access.TheVariants.{Readable}
use Rattle.cm_words.specs.Fuses.{FuseSeen}
use Rattle.cm_words.specs.KillFuses.{never_seen}
use Rattle.cm_words.specs.Meters.{unused}
use Rattle.cm_words.specs.Metered.{meter_seen}
use Rattle.cm_words.specs.Memory.{MemSeen}
use Rattle.cm_words.specs.Maps.{MapWords, words_before}
use Rattle.cm_words.specs.Notes.{notes_in}

-- its fuse never dies
abbrev pub fixed_fuse : Never → FuseSeen
fixed_fuse fuse = never_seen

-- what it tells: each word of its segment is noted, and the first words are the present ones
abbrev pub fixed_seen : FixedMem → MemSeen
fixed_seen m = record {
  setting = record { geo = m.words.now.geo; segment = m.segment; access = Readable; guarded = false; shared = false };
  plan = None;
  noted = notes_in m.words.now.geo m.start m.words.now.words m.words.now.words;
  meter = meter_seen fixed_fuse m.meter;
}

-- what a new one over words tells
abbrev pub new_fixed : MapWords → ℕ → MemSeen
new_fixed map segment = record {
  setting = record { geo = map.geo; segment = segment; access = Readable; guarded = false; shared = false };
  plan = None;
  noted = notes_in map.geo (words_before map.geo segment) map.words map.words;
  meter = unused never_seen;
}

-- it lies over the same words
pub record SameWords (a b : FixedMem) : Type 0 where
  pub words : b.words.now ≡ a.words.now
  pub segment : b.segment ≡ a.segment

-- two laws of it
pub same_words_reflexive : (m : FixedMem) → SameWords m m
same_words_reflexive m = record { words = refl; segment = refl }

pub same_words_transitive : (a b c : FixedMem) → SameWords a b → SameWords b c → SameWords a c
same_words_transitive a b c p q = record { words = q.words ∙ p.words; segment = q.segment ∙ p.segment }
