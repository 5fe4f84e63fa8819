-- Each law in turn.
use Rattle.std.proofs.Common.{[], ◌∷◌}
use Rattle.std.proofs.lemmas.Result.{err_from_is_err_and}
use Rattle.cm_check.specs.declared.law.Law.TheVariants.{Chain, Header, Lock, Number, Reserved}
use Rattle.cm_check.specs.HeadLaws.{chain_broken, header_broken, lock_broken, number_broken, reserved_broken}
use Rattle.cm_check.specs.Quiets.{geo_of, words_of}
use Rattle.cm_check.proofs.BrokenLaws.{answer_err, answer_last, answer_ok, law_broken, law_kept, law_last, law_names}
use Rattle.cm_check.proofs.laws.head_laws.Goals as goal

pub returns-in_err-named : goal.returns-in_err-named
returns-in_err-named c =
    let q = c.args.quiet.now in
    let p = err_from_is_err_and c.from_residual.result c.from_residual.ensures.1 in
    rw (p.1, p.2) (law_broken Lock (Number ∷ Header ∷ Chain ∷ Reserved ∷ []) (geo_of q) q.segment (words_of q) c.in_err-named.field-0.0 (answer_err Lock (geo_of q) q.segment c.segment-segment.result (words_of q) c.named.result c.in_err-named.field-0.0 c.segment-segment.ensures.value (c.named.ensures (lock_broken (words_of q)) c.lock.ensures) c.in_err-named.was))

pub returns-in_err-named-2 : goal.returns-in_err-named-2
returns-in_err-named-2 c =
    let q = c.args.quiet.now in
    let p = err_from_is_err_and c.from_residual-in_err-named-2.result c.from_residual-in_err-named-2.ensures.1 in
    rw (p.1, p.2) (law_kept Lock (Number ∷ Header ∷ Chain ∷ Reserved ∷ []) (geo_of q) q.segment (words_of q) c.in_err-named-2.field-0.0 (answer_ok Lock (geo_of q) q.segment c.segment-segment.result (words_of q) c.named.result c.in_ok-named.field-0 c.segment-segment.ensures.value (c.named.ensures (lock_broken (words_of q)) c.lock.ensures) c.in_ok-named.was)
    (law_broken Number (Header ∷ Chain ∷ Reserved ∷ []) (geo_of q) q.segment (words_of q) c.in_err-named-2.field-0.0 (answer_err Number (geo_of q) q.segment c.segment-segment.result (words_of q) c.named-2.result c.in_err-named-2.field-0.0 c.segment-segment.ensures.value (c.named-2.ensures (number_broken (words_of q)) c.number.ensures) c.in_err-named-2.was)))

pub returns-in_err-named-3 : goal.returns-in_err-named-3
returns-in_err-named-3 c =
    let q = c.args.quiet.now in
    let p = err_from_is_err_and c.from_residual-in_err-named-3.result c.from_residual-in_err-named-3.ensures.1 in
    rw (p.1, p.2) (law_kept Lock (Number ∷ Header ∷ Chain ∷ Reserved ∷ []) (geo_of q) q.segment (words_of q) c.in_err-named-3.field-0.0 (answer_ok Lock (geo_of q) q.segment c.segment-segment.result (words_of q) c.named.result c.in_ok-named.field-0 c.segment-segment.ensures.value (c.named.ensures (lock_broken (words_of q)) c.lock.ensures) c.in_ok-named.was)
    (law_kept Number (Header ∷ Chain ∷ Reserved ∷ []) (geo_of q) q.segment (words_of q) c.in_err-named-3.field-0.0 (answer_ok Number (geo_of q) q.segment c.segment-segment.result (words_of q) c.named-2.result c.in_ok-named-2.field-0 c.segment-segment.ensures.value (c.named-2.ensures (number_broken (words_of q)) c.number.ensures) c.in_ok-named-2.was)
    (law_broken Header (Chain ∷ Reserved ∷ []) (geo_of q) q.segment (words_of q) c.in_err-named-3.field-0.0 (answer_err Header (geo_of q) q.segment c.segment-segment.result (words_of q) c.named-3.result c.in_err-named-3.field-0.0 c.segment-segment.ensures.value (c.named-3.ensures (header_broken (words_of q)) c.header.ensures) c.in_err-named-3.was))))

pub returns-in_err-named-4 : goal.returns-in_err-named-4
returns-in_err-named-4 c =
    let q = c.args.quiet.now in
    let p = err_from_is_err_and c.from_residual-in_err-named-4.result c.from_residual-in_err-named-4.ensures.1 in
    rw (p.1, p.2) (law_kept Lock (Number ∷ Header ∷ Chain ∷ Reserved ∷ []) (geo_of q) q.segment (words_of q) c.in_err-named-4.field-0.0 (answer_ok Lock (geo_of q) q.segment c.segment-segment.result (words_of q) c.named.result c.in_ok-named.field-0 c.segment-segment.ensures.value (c.named.ensures (lock_broken (words_of q)) c.lock.ensures) c.in_ok-named.was)
    (law_kept Number (Header ∷ Chain ∷ Reserved ∷ []) (geo_of q) q.segment (words_of q) c.in_err-named-4.field-0.0 (answer_ok Number (geo_of q) q.segment c.segment-segment.result (words_of q) c.named-2.result c.in_ok-named-2.field-0 c.segment-segment.ensures.value (c.named-2.ensures (number_broken (words_of q)) c.number.ensures) c.in_ok-named-2.was)
    (law_kept Header (Chain ∷ Reserved ∷ []) (geo_of q) q.segment (words_of q) c.in_err-named-4.field-0.0 (answer_ok Header (geo_of q) q.segment c.segment-segment.result (words_of q) c.named-3.result c.in_ok-named-3.field-0 c.segment-segment.ensures.value (c.named-3.ensures (header_broken (words_of q)) c.header.ensures) c.in_ok-named-3.was)
    (law_broken Chain (Reserved ∷ []) (geo_of q) q.segment (words_of q) c.in_err-named-4.field-0.0 (answer_err Chain (geo_of q) q.segment c.segment-segment.result (words_of q) c.named-4.result c.in_err-named-4.field-0.0 c.segment-segment.ensures.value (c.named-4.ensures (chain_broken (geo_of q) (words_of q)) c.chain.ensures) c.in_err-named-4.was)))))

pub returns : goal.returns
returns c =
    let q = c.args.quiet.now in
    law_names Lock (Number ∷ Header ∷ Chain ∷ Reserved ∷ []) (geo_of q) q.segment (words_of q) c.named-5.result (answer_ok Lock (geo_of q) q.segment c.segment-segment.result (words_of q) c.named.result c.in_ok-named.field-0 c.segment-segment.ensures.value (c.named.ensures (lock_broken (words_of q)) c.lock.ensures) c.in_ok-named.was)
    (law_names Number (Header ∷ Chain ∷ Reserved ∷ []) (geo_of q) q.segment (words_of q) c.named-5.result (answer_ok Number (geo_of q) q.segment c.segment-segment.result (words_of q) c.named-2.result c.in_ok-named-2.field-0 c.segment-segment.ensures.value (c.named-2.ensures (number_broken (words_of q)) c.number.ensures) c.in_ok-named-2.was)
    (law_names Header (Chain ∷ Reserved ∷ []) (geo_of q) q.segment (words_of q) c.named-5.result (answer_ok Header (geo_of q) q.segment c.segment-segment.result (words_of q) c.named-3.result c.in_ok-named-3.field-0 c.segment-segment.ensures.value (c.named-3.ensures (header_broken (words_of q)) c.header.ensures) c.in_ok-named-3.was)
    (law_names Chain (Reserved ∷ []) (geo_of q) q.segment (words_of q) c.named-5.result (answer_ok Chain (geo_of q) q.segment c.segment-segment.result (words_of q) c.named-4.result c.in_ok-named-4.field-0 c.segment-segment.ensures.value (c.named-4.ensures (chain_broken (geo_of q) (words_of q)) c.chain.ensures) c.in_ok-named-4.was)
    (law_last Reserved (geo_of q) q.segment (words_of q) c.named-5.result (answer_last Reserved (geo_of q) q.segment c.segment-segment.result (words_of q) c.named-5.result c.segment-segment.ensures.value (c.named-5.ensures (reserved_broken (geo_of q) (words_of q)) c.reserved.ensures))))))
