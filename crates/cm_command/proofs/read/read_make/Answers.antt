use Rattle.std.proofs.Common.{◌∙◌, ◌∷◌, [], ℕ, List, ap₂, codes, sym}
use Rattle.clap.specs.Words.{found_of}
use Rattle.cm_command.specs.declared.limits.TheConstants.{MAX_RECORDS}
use Rattle.cm_command.proofs.OneWord.{is-there, is-word, make-has, number-is, number-there, reads-first, reads-second, takes-two}
use Rattle.cm_command.proofs.read.read_make.Goals as goal

pub two_words_matches-requires : goal.two_words_matches-requires
two_words_matches-requires c = takes-two c.args.words.now (codes "make") (make-has c.args.words.now c.requires).has

pub unwrap-requires : goal.unwrap-requires
unwrap-requires c =
    let has = (make-has c.args.words.now c.requires).has in
    is-there c.get_str.result has.word (c.get_str.ensures ∙ reads-first c.args.words.now (codes "make") has (found_of c.in-Ok.found) c.in-Ok.ensures.ok)

pub unwrap-records-requires : goal.unwrap-records-requires
unwrap-records-requires c =
    let make = make-has c.args.words.now c.requires in
    let read = c.get_str.ensures ∙ reads-first c.args.words.now (codes "make") make.has (found_of c.in-Ok.found) c.in-Ok.ensures.ok in
    let same = is-word c.get_str.result c.unwrap.result make.has.word read c.unwrap.ensures in
    number-there MAX_RECORDS make.records c.unwrap.result.now c.number_to.result (make.first_is.0, same ∙ make.first_is.1) c.number_to.ensures

pub unwrap-requires-2 : goal.unwrap-requires-2
unwrap-requires-2 c =
    let has = (make-has c.args.words.now c.requires).has in
    is-there c.get_str-2.result has.other (c.get_str-2.ensures ∙ reads-second c.args.words.now (codes "make") has (found_of c.in-Ok.found) c.in-Ok.ensures.ok)

pub unwrap-seed-requires : goal.unwrap-seed-requires
unwrap-seed-requires c =
    let make = make-has c.args.words.now c.requires in
    let read = c.get_str-2.ensures ∙ reads-second c.args.words.now (codes "make") make.has (found_of c.in-Ok.found) c.in-Ok.ensures.ok in
    let same = is-word c.get_str-2.result c.unwrap-2.result make.has.other read c.unwrap-2.ensures in
    number-there 18446744073709551615 make.seed c.unwrap-2.result.now c.number_to-2.result (make.second_is.0, same ∙ make.second_is.1) c.number_to-2.ensures

pub returns : goal.returns
returns c =
    let has = (make-has c.args.words.now c.requires).has in
    let read = c.get_str.ensures ∙ reads-first c.args.words.now (codes "make") has (found_of c.in-Ok.found) c.in-Ok.ensures.ok in
    let read_too = c.get_str-2.ensures ∙ reads-second c.args.words.now (codes "make") has (found_of c.in-Ok.found) c.in-Ok.ensures.ok in
    let same = is-word c.get_str.result c.unwrap.result has.word read c.unwrap.ensures in
    let same_too = is-word c.get_str-2.result c.unwrap-2.result has.other read_too c.unwrap-2.ensures in
    let records = number-is MAX_RECORDS c.unwrap-records.result c.unwrap.result.now c.number_to.result c.unwrap-records.ensures c.number_to.ensures in
    let seed = number-is 18446744073709551615 c.unwrap-seed.result c.unwrap-2.result.now c.number_to-2.result c.unwrap-seed.ensures c.number_to-2.ensures in
    (has.words_are ∙ ap₂ (λ (word other : List ℕ). codes "make" ∷ word ∷ other ∷ []) (sym same ∙ records.1) (sym same_too ∙ seed.1), records.0, c.unwrap-seed.type_inv)
