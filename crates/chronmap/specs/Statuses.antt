-- The statuses that the program ends with, and their refusal texts (own).
use Rattle.std.specs.Prelude.{ℕ, ◌++◌, List, codes, decimal}
use Rattle.cm_check.specs.declared.law.Broken.{Broken}
use Rattle.cm_check.specs.declared.law.Law.{Law}
use Rattle.cm_check.specs.declared.law.Law.TheVariants as law
use Rattle.cm_geo.specs.declared.refused.GeoRefused.{GeoRefused}
use Rattle.cm_geo.specs.declared.refused.GeoRefused.TheVariants as limit
use Rattle.cm_image.specs.declared.refused.ImageRefused.{ImageRefused}
use Rattle.cm_image.specs.declared.refused.ImageRefused.TheVariants as image
use Rattle.cm_script.specs.declared.stop.LineCause.{LineCause}
use Rattle.cm_script.specs.declared.stop.LineCause.TheVariants as cause
use Rattle.chronmap.specs.declared.status.Status.{Status}
use Rattle.chronmap.specs.declared.status.Status.TheVariants as status
use Rattle.chronmap.specs.declared.stop.Stop.{Stop}
use Rattle.chronmap.specs.declared.stop.Stop.TheVariants as stop

-- the number of a status
abbrev pub code_of : Status → ℕ
code_of status.Ok = 0
code_of status.NoMemory = 1
code_of status.Usage = 2
code_of status.Script = 3
code_of status.ReadFault = 4
code_of status.WriteFault = 5
code_of status.VaultFault = 6
code_of status.Image = 7
code_of status.Geometry = 8

-- the status of a refusal
abbrev pub status_of : Stop → Status
status_of stop.NoMemory = status.NoMemory
status_of stop.Usage = status.Usage
status_of (stop.Geometry why) = status.Geometry
status_of stop.Missing = status.Image
status_of (stop.NotImage why) = status.Image
status_of (stop.Broken broken) = status.Image
status_of stop.TooLong = status.Script
status_of (stop.Refused line why) = status.Script
status_of stop.ReadFault = status.ReadFault
status_of stop.VaultFault = status.VaultFault

-- the word of a record's cause
abbrev pub cause_word : LineCause → List ℕ
cause_word cause.Csv = codes "csv"
cause_word cause.Caller = codes "caller"
cause_word cause.Op = codes "op"
cause_word cause.Argument = codes "argument"
cause_word cause.TooLarge = codes "too-large"

-- the word of the number that is outside its limit
abbrev pub limit_word : GeoRefused → List ℕ
limit_word limit.Segments = codes "segments"
limit_word limit.Tiers = codes "tiers"
limit_word limit.Chunks = codes "chunks"
limit_word limit.ChunkWords = codes "chunk-words"
limit_word limit.Allowance = codes "allowance"
limit_word limit.TooManyWords = codes "too-many-words"

-- the word of what is wrong with bytes that are no image
abbrev pub image_word : ImageRefused → List ℕ
image_word image.Short = codes "short"
image_word image.Long = codes "long"
image_word image.Magic = codes "magic"
image_word image.Version = codes "version"
image_word image.Geometry = codes "geometry"

-- the word of a law
abbrev pub law_word : Law → List ℕ
law_word law.Lock = codes "lock"
law_word law.Number = codes "number"
law_word law.Header = codes "header"
law_word law.Chain = codes "chain"
law_word law.Reserved = codes "reserved"
law_word law.Slot = codes "slot"
law_word law.Gap = codes "gap"
law_word law.Duplicate = codes "duplicate"
law_word law.Overlap = codes "overlap"
law_word law.Bits = codes "bits"
law_word law.TierCount = codes "tier-count"
law_word law.SegmentCount = codes "segment-count"
law_word law.Unlinked = codes "unlinked"
law_word law.Allowance = codes "allowance"

-- the law, the segment and the word
abbrev pub broken_text : Broken → List ℕ
broken_text broken = law_word broken.law ++ codes "," ++ decimal broken.segment ++ codes "," ++ decimal broken.word

-- the text of a refusal, one line
abbrev pub refusal_text : Stop → List ℕ
refusal_text stop.NoMemory = codes "refused,memory\n"
refusal_text stop.Usage = codes "refused,usage\n"
refusal_text (stop.Geometry why) = codes "refused,geometry," ++ limit_word why ++ codes "\n"
refusal_text stop.Missing = codes "refused,image,missing\n"
refusal_text (stop.NotImage why) = codes "refused,image," ++ image_word why ++ codes "\n"
refusal_text (stop.Broken broken) = codes "refused,image," ++ broken_text broken ++ codes "\n"
refusal_text stop.TooLong = codes "refused,script,0,too-long\n"
refusal_text (stop.Refused line why) = codes "refused,script," ++ decimal line ++ codes "," ++ cause_word why ++ codes "\n"
refusal_text stop.ReadFault = codes "refused,read\n"
refusal_text stop.VaultFault = codes "refused,vault\n"
