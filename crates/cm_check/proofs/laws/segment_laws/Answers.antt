-- Each part of the laws in turn.
use Rattle.std.proofs.Common.{List, ◌++◌, sym, subst}
use Rattle.std.proofs.lemmas.Result.{err_from_is_err_and}
use Rattle.cm_check.specs.declared.law.Broken.{Broken}
use Rattle.cm_check.specs.Findings.{Begins, NamesFirst}
use Rattle.cm_check.specs.LawOrder.{breaks_of, count_laws, head_laws, slot_laws}
use Rattle.cm_check.specs.Quiets.{geo_of, words_of}
use Rattle.cm_check.proofs.BrokenLaws.{breaks_parts, names_rest}
use Rattle.cm_check.proofs.FirstFound.{begins_left, begins_right}
use Rattle.cm_check.proofs.laws.segment_laws.Goals as goal

pub returns-in_err-head_laws : goal.returns-in_err-head_laws
returns-in_err-head_laws c =
    let q = c.args.quiet.now in
    let p = err_from_is_err_and c.from_residual.result c.from_residual.ensures.1 in
    rw (p.1, p.2) (subst (λ (xs : List Broken). Begins xs c.in_err-head_laws.field-0.0) (sym (breaks_parts (geo_of q) q.segment (words_of q)))
    (begins_left (breaks_of head_laws (geo_of q) q.segment (words_of q)) (breaks_of slot_laws (geo_of q) q.segment (words_of q) ++ breaks_of count_laws (geo_of q) q.segment (words_of q)) c.in_err-head_laws.field-0.0 c.in_err-head_laws.ensures))

pub returns-in_err-slot_laws : goal.returns-in_err-slot_laws
returns-in_err-slot_laws c =
    let q = c.args.quiet.now in
    let p = err_from_is_err_and c.from_residual-in_err-slot_laws.result c.from_residual-in_err-slot_laws.ensures.1 in
    rw (p.1, p.2) (subst (λ (xs : List Broken). Begins xs c.in_err-slot_laws.field-0.0) (sym (breaks_parts (geo_of q) q.segment (words_of q)))
    (begins_right (breaks_of head_laws (geo_of q) q.segment (words_of q)) (breaks_of slot_laws (geo_of q) q.segment (words_of q) ++ breaks_of count_laws (geo_of q) q.segment (words_of q)) c.in_err-slot_laws.field-0.0 c.in_ok-head_laws.ensures
    (begins_left (breaks_of slot_laws (geo_of q) q.segment (words_of q)) (breaks_of count_laws (geo_of q) q.segment (words_of q)) c.in_err-slot_laws.field-0.0 c.in_err-slot_laws.ensures)))

pub returns : goal.returns
returns c =
    let q = c.args.quiet.now in
    subst (λ (xs : List Broken). NamesFirst xs c.count_laws.result) (sym (breaks_parts (geo_of q) q.segment (words_of q)))
    (names_rest (breaks_of head_laws (geo_of q) q.segment (words_of q)) (breaks_of slot_laws (geo_of q) q.segment (words_of q) ++ breaks_of count_laws (geo_of q) q.segment (words_of q)) c.count_laws.result c.in_ok-head_laws.ensures
    (names_rest (breaks_of slot_laws (geo_of q) q.segment (words_of q)) (breaks_of count_laws (geo_of q) q.segment (words_of q)) c.count_laws.result c.in_ok-slot_laws.ensures c.count_laws.ensures))
