use Rattle.std.proofs.Common.{◌≡◌, ◌∙◌, codes}
use Rattle.clap.specs.Words.{found_of}
use Rattle.cm_command.proofs.OneWord.{is-there, is-word, reads-first, reads-second, recover-has, takes-two}
use Rattle.cm_command.proofs.read.read_recover.Goals as goal

pub two_words_matches-requires : goal.two_words_matches-requires
two_words_matches-requires c = takes-two c.args.words.now (codes "recover") (recover-has c.args.words.now c.requires)

pub unwrap-requires : goal.unwrap-requires
unwrap-requires c =
    let has = recover-has c.args.words.now c.requires in
    is-there c.get_str.result has.word (c.get_str.ensures ∙ reads-first c.args.words.now (codes "recover") has (found_of c.in-Ok.found) c.in-Ok.ensures.ok)

pub unwrap-requires-2 : goal.unwrap-requires-2
unwrap-requires-2 c =
    let has = recover-has c.args.words.now c.requires in
    is-there c.get_str-2.result has.other (c.get_str-2.ensures ∙ reads-second c.args.words.now (codes "recover") has (found_of c.in-Ok.found) c.in-Ok.ensures.ok)

pub returns : goal.returns
returns c =
    let has = recover-has c.args.words.now c.requires in
    let read = c.get_str.ensures ∙ reads-first c.args.words.now (codes "recover") has (found_of c.in-Ok.found) c.in-Ok.ensures.ok in
    let read_too = c.get_str-2.ensures ∙ reads-second c.args.words.now (codes "recover") has (found_of c.in-Ok.found) c.in-Ok.ensures.ok in
    let same : c.in_ok-name.name ≡ has.word = c.in_ok-name.ensures ∙ is-word c.get_str.result c.unwrap.result has.word read c.unwrap.ensures in
    let same_too : c.in_ok-new.new ≡ has.other = c.in_ok-new.ensures ∙ is-word c.get_str-2.result c.unwrap-2.result has.other read_too c.unwrap-2.ensures in
    rw (same, same_too) (has.words_are, has.is_value, has.is_value_too)
