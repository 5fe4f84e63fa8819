use Rattle.std.proofs.Common.{◌≡◌, ◌∙◌, codes}
use Rattle.clap.specs.Words.{found_of}
use Rattle.cm_command.proofs.OneWord.{print-has, is-there, is-word, reads-one, takes-one}
use Rattle.cm_command.proofs.read.read_print.Goals as goal

pub one_word_matches-requires : goal.one_word_matches-requires
one_word_matches-requires c = takes-one c.args.words.now (codes "print") (print-has c.args.words.now c.requires)

pub unwrap-requires : goal.unwrap-requires
unwrap-requires c =
    let has = print-has c.args.words.now c.requires in
    is-there c.get_str.result has.word (c.get_str.ensures ∙ reads-one c.args.words.now (codes "print") has (found_of c.in-Ok.found) c.in-Ok.ensures.ok)

pub returns : goal.returns
returns c =
    let has = print-has c.args.words.now c.requires in
    let read = c.get_str.ensures ∙ reads-one c.args.words.now (codes "print") has (found_of c.in-Ok.found) c.in-Ok.ensures.ok in
    let same : c.in_ok-name.name ≡ has.word = c.in_ok-name.ensures ∙ is-word c.get_str.result c.unwrap.result has.word read c.unwrap.ensures in
    rw same (has.words_are, has.is_value)
