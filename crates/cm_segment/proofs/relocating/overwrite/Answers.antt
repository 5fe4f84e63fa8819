use Rattle.std.proofs.Common.{◌∙◌, ap}
use Rattle.cm_geo.specs.Hash.{fingerprint_in}
use Rattle.cm_segment.proofs.RelocationStages.{may_overwrite, overwrite_advances}
use Rattle.cm_segment.proofs.relocating.overwrite.Goals as goal

pub put_slot-requires-clause-allowed : goal.put_slot-requires-clause-allowed
put_slot-requires-clause-allowed g c =
    may_overwrite c.requires.moves c.requires.same c.fingerprint_of-fingerprint.result
    (c.fingerprint_of-fingerprint.ensures ∙ ap (fingerprint_in c.args.geo.now) c.hash.ensures) c.requires.at

pub returns : goal.returns
returns g c =
    overwrite_advances c.requires.moves c.requires.same c.fingerprint_of-fingerprint.result
    (c.fingerprint_of-fingerprint.ensures ∙ ap (fingerprint_in c.args.geo.now) c.hash.ensures) c.requires.at c.put_slot.ensures
