use Rattle.std.proofs.Common.{◌≡◌, ◌∙◌, [], All, List, length, map, sym, ap, subst, arith}
use Rattle.std.proofs.lemmas.List.{length-map}
use Rattle.cm_geo.specs.declared.geo.Geo.{Geo}
use Rattle.cm_lock.specs.declared.view.View.{View}
use Rattle.cm_lock.specs.Rule.{root_view}
use Rattle.cm_yard.specs.declared.view.View.{View as YardView}
use Rattle.cm_store.specs.Passes.{claims_view}
use Rattle.cm_store.specs.Tables.{keys_of}
use Rattle.cm_history.specs.Endings.{KeepsRoot}
use Rattle.cm_history.proofs.Gathering.{root_starts}
use Rattle.cm_script.specs.Scripts.{IsFor}
use Rattle.cm_caller.specs.declared.caller.Caller.{Caller}
use Rattle.cm_caller.specs.Records.{IsReady}
use Rattle.cm_run.specs.Callers.{HasPerformed, askers_of, numbers}
use Rattle.cm_run.proofs.Closed.{closed_explained, closed_lawful, has_closed}
use Rattle.cm_run.proofs.Gatherings.{made_countable, written_back}
use Rattle.cm_run.proofs.Roots.{made_none, root_has_joined_all}
use Rattle.cm_run.proofs.run.run_script.Goals as goal

pub callers_of-requires-clause-made : goal.callers_of-requires-clause-made
callers_of-requires-clause-made g c κs within = made_none (keys_of c.args.words) c.in_ok-store.root c.in_ok-store.ensures.roots c.in_ok-store.ensures.claims

pub callers_of-requires-clause-keeps : goal.callers_of-requires-clause-keeps
callers_of-requires-clause-keeps g c κs within =
    subst (λ (vs : List View). KeepsRoot c.in_ok-store.store.geo.extra (λ segment. []) vs (claims_view c.in_ok-store.root)) (sym c.in_ok-store.ensures.roots)
    (subst (λ (y : YardView). KeepsRoot c.in_ok-store.store.geo.extra (λ segment. []) (map root_view (keys_of c.args.words)) y) (sym c.in_ok-store.ensures.claims)
    (root_starts c.in_ok-store.store.geo.extra (keys_of c.args.words)))

pub callers_of-requires-clause-callers : goal.callers_of-requires-clause-callers
callers_of-requires-clause-callers g c κs within = λ k d below. (c.requires.for_geo k d below).caller

pub run_all-requires-clause-ready : goal.run_all-requires-clause-ready
run_all-requires-clause-ready g c κs within =
    subst (λ (l : List (Caller _)). All (IsReady g.G.Gate.Fuse.fused c.in_ok-store.store c.args.script.now) l) (sym c.as_mut_slice.ensures.value) c.in_ok-callers.ensures.ready.ready

pub run_all-requires-clause-for_geo : goal.run_all-requires-clause-for_geo
run_all-requires-clause-for_geo g c κs within = subst (λ (geo : Geo). IsFor geo c.args.script.now) (sym c.in_ok-store.ensures.geo) c.requires.for_geo

pub gather-requires-clause-numbers : goal.gather-requires-clause-numbers
gather-requires-clause-numbers g c κs within =
    let ran = c.run_all.ensures in
    let same : numbers c.run_all.new.callers ≡ numbers c.in_ok-callers.callers.items = ran.numbers_are ∙ ap (λ (l : List (Caller _)). numbers l) c.as_mut_slice.ensures.value in
    let long : length c.run_all.new.callers ≡ length c.in_ok-callers.callers.items =
    sym (length-map c.run_all.new.callers (λ (x : Caller _). x.number)) ∙ (ap length same ∙ length-map c.in_ok-callers.callers.items (λ (x : Caller _). x.number)) in
    ap (λ (l : List (Caller _)). numbers l) (written_back c.in_ok-callers.callers.len c.run_all.new.callers c.in_ok-callers.callers.items long (let o = c.in_ok-callers.callers.ok.0 in omega arith))
    ∙ (same ∙ c.in_ok-callers.ensures.ready.numbers_are)

pub gather-requires-clause-performed : goal.gather-requires-clause-performed
gather-requires-clause-performed g c κs within =
    let ran = c.run_all.ensures in
    let same : numbers c.run_all.new.callers ≡ numbers c.in_ok-callers.callers.items = ran.numbers_are ∙ ap (λ (l : List (Caller _)). numbers l) c.as_mut_slice.ensures.value in
    let long : length c.run_all.new.callers ≡ length c.in_ok-callers.callers.items =
    sym (length-map c.run_all.new.callers (λ (x : Caller _). x.number)) ∙ (ap length same ∙ length-map c.in_ok-callers.callers.items (λ (x : Caller _). x.number)) in
    subst (λ (l : List (Caller _)). All (HasPerformed g.G.Gate.Fuse.fused c.in_ok-store.store c.args.script.now) l)
    (sym (written_back c.in_ok-callers.callers.len c.run_all.new.callers c.in_ok-callers.callers.items long (let o = c.in_ok-callers.callers.ok.0 in omega arith))) ran.performed

pub gather-requires-clause-countable : goal.gather-requires-clause-countable
gather-requires-clause-countable g c κs within =
    made_countable c.args.script.now (g.G.GateMaker.seen c.args.gates.now) (g.G.GateMaker.seen c.callers_of.new.gates) c.in_ok-callers.ensures.made c.requires.countable

pub close-requires-clause-joined : goal.close-requires-clause-joined
close-requires-clause-joined g c = root_has_joined_all (askers_of c.args.script.now) c.gather.new.root (c.in_ok-all.ensures.gathers c.if-all.false).joined

pub report_of-requires : goal.report_of-requires
report_of-requires g c =
    closed_lawful c.args.words c.in_ok-words.words c.in_ok-store.store c.gather.new.root c.args.script.now c.in_ok-all.all c.requires.lawful c.in_ok-store.ensures.geo
    (has_closed c.args.words c.in_ok-words.words c.in_ok-store.store c.gather.new.root c.in_ok-all.ensures.root.its c.in_ok-store.ensures.geo c.in_ok-store.ensures.keys c.in_ok-store.ensures.owned
    c.in_ok-words.ensures.geo c.in_ok-words.ensures.closes c.in_ok-words.ensures.yard)
    (c.in_ok-all.ensures.gathers c.if-all.false)

pub returns-clause-explained : goal.returns-clause-explained
returns-clause-explained g c =
    closed_explained c.args.words c.in_ok-words.words c.in_ok-store.store c.gather.new.root c.args.script.now c.in_ok-all.all c.requires.lawful c.in_ok-store.ensures.geo
    (has_closed c.args.words c.in_ok-words.words c.in_ok-store.store c.gather.new.root c.in_ok-all.ensures.root.its c.in_ok-store.ensures.geo c.in_ok-store.ensures.keys c.in_ok-store.ensures.owned
    c.in_ok-words.ensures.geo c.in_ok-words.ensures.closes c.in_ok-words.ensures.yard)
    (c.in_ok-all.ensures.gathers c.if-all.false) c.in_ok-report.report c.args.kills.now (g.G.GateMaker.seen c.args.gates.now) (g.G.GateMaker.seen c.callers_of.new.gates)
    (g.G.GateMaker.seen c.gather.new.gates) c.requires.for_geo c.in_ok-report.ensures c.requires.no_kill c.in_ok-callers.ensures.made c.in_ok-all.ensures.gates
