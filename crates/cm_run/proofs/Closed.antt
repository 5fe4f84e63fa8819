-- A store that was closed at the end of a run of which nobody died.
use Rattle.std.proofs.Common.{◌≡◌, List, [], length, map, sum, sym, ap, ◌∙◌, subst}
use Rattle.cm_geo.specs.declared.geo.Geo.{Geo}
use Rattle.cm_plain.specs.declared.receipt.Receipt.{Receipt}
use Rattle.cm_words.specs.LawfulMaps.{IsLawfulMap}
use Rattle.cm_words.specs.Maps.{MapWords, segment_in}
use Rattle.cm_lock.specs.declared.view.Key.{Key}
use Rattle.cm_lock.specs.declared.view.View.{View}
use Rattle.cm_lock.specs.Tables.{key_of}
use Rattle.cm_yard.specs.declared.view.Key.{Key as YardKey}
use Rattle.cm_yard.specs.declared.view.View.{View as YardView}
use Rattle.cm_yard.specs.Words.{owned_in}
use Rattle.cm_yard.specs.Yards.{key_of as yard_key_of}
use Rattle.cm_store.specs.declared.pass.Pass.{Pass}
use Rattle.cm_store.specs.declared.store.Store.{Store}
use Rattle.cm_store.specs.Closes.{ClosesAll, ClosesYard}
use Rattle.cm_store.specs.Passes.{IsPassOf, claims_view, views_of}
use Rattle.cm_store.specs.Tables.{keys_of, linked_of}
use Rattle.cm_history.specs.Endings.{KeepsRoot}
use Rattle.cm_history.proofs.Finishing.{ends_lawful}
use Rattle.cm_script.specs.declared.limits.TheConstants.{MAX_CALLERS}
use Rattle.cm_script.specs.declared.line.Line.{Line}
use Rattle.cm_script.specs.declared.report.CallerEnd.{CallerEnd}
use Rattle.cm_script.specs.declared.report.Report.{Report}
use Rattle.cm_script.specs.Answers.{calls_in}
use Rattle.cm_script.specs.Scripts.{IsFor}
use Rattle.cm_command.specs.declared.kill.Kill.{Kill}
use Rattle.cm_run.specs.declared.run.Gathered.{Gathered}
use Rattle.cm_run.specs.Callers.{MadeBelow}
use Rattle.cm_run.specs.Explained.{Explained}
use Rattle.cm_run.specs.Gathered.{GathersBelow, ReportsRun, RootGathers}
use Rattle.cm_run.specs.Gates.{MakerSeen}
use Rattle.cm_run.specs.RunGates.{SameGates}
use Rattle.cm_run.proofs.Accounting.{explained}
use Rattle.cm_run.proofs.Roots.{pass_length}

-- what is known of the words at the end, and of the root's views, with the words at the start
pub record HasClosed (old now : MapWords) (roots : List View) (key : YardKey) (claims : YardView) : Type 0 where
  pub geo_is : now.geo ≡ old.geo
  pub key_geo : key.geo ≡ old.geo
  pub owned : owned_in key.geo key.first ≡ sum (linked_of old)
  pub many : length roots ≡ old.geo.segments
  pub closes : ClosesAll (keys_of old) roots now
  pub yard : ClosesYard key claims

pub has_closed : {F : Type 0} (old now : MapWords) (store : Store) (root : Pass F) → IsPassOf root store → store.geo ≡ old.geo → map key_of store.tables.items ≡ keys_of old
    → owned_in old.geo (yard_key_of store.yard).first ≡ sum (linked_of old) → now.geo ≡ store.geo → ClosesAll (map key_of store.tables.items) (views_of root) now
    → ClosesYard (yard_key_of store.yard) (claims_view root) → HasClosed old now (views_of root) (yard_key_of store.yard) (claims_view root)
has_closed old now store root its geo keys owned now_geo closes yard = record {
  geo_is = now_geo ∙ geo;
  key_geo = store.yard_geo ∙ geo;
  owned = ap (λ (g : Geo). owned_in g (yard_key_of store.yard).first) (store.yard_geo ∙ geo) ∙ owned;
  many = pass_length store root its ∙ ap (λ (g : Geo). g.segments) geo;
  closes = subst (λ (ks : List Key). ClosesAll ks (views_of root) now) keys closes;
  yard = yard;
}

module _ {F : Type 0} (old now : MapWords) (store : Store) (root : Pass F) (script : List Line) (all : Gathered) (lawful : IsLawfulMap old) (geo : store.geo ≡ old.geo)
    (closed : HasClosed old now (views_of root) (yard_key_of store.yard) (claims_view root)) (gathers : RootGathers store script MAX_CALLERS all root) where
  keeps : KeepsRoot old.geo.extra (calls_in script all.receipts.items) (views_of root) (claims_view root)
  keeps = subst (λ (g : Geo). KeepsRoot g.extra (calls_in script all.receipts.items) (views_of root) (claims_view root)) geo gathers.keeps

  pub closed_lawful : IsLawfulMap now
  closed_lawful = ends_lawful old now (views_of root) (yard_key_of store.yard) (claims_view root) (calls_in script all.receipts.items) closed.geo_is closed.key_geo closed.owned closed.many closed.closes
      closed.yard lawful keeps

  pub closed_explained : (report : Report) (kills : List Kill) (earlier mid later : MakerSeen) → IsFor old.geo script → ReportsRun now all report → kills ≡ [] → MadeBelow script MAX_CALLERS earlier mid
      → SameGates mid later → Explained old.geo (segment_in old) script kills earlier later report (segment_in now)
  closed_explained report kills earlier mid later for_geo reports no_kill made same =
      explained old now script (views_of root) (yard_key_of store.yard) (claims_view root) report lawful for_geo closed.geo_is closed.key_geo closed.owned closed.many closed.closes closed.yard
      (subst (λ (rs : List Receipt). KeepsRoot old.geo.extra (calls_in script rs) (views_of root) (claims_view root)) (sym reports.receipts_are) keeps)
      (subst (λ (rs : List Receipt). GathersBelow old.geo script MAX_CALLERS rs report.ends (claims_view root)) (sym reports.receipts_are)
      (subst (λ (es : List CallerEnd). GathersBelow old.geo script MAX_CALLERS all.receipts.items es (claims_view root)) (sym reports.ends_are)
      (subst (λ (g : Geo). GathersBelow g script MAX_CALLERS all.receipts.items all.ends.items (claims_view root)) geo gathers.gathers)))
      reports.none_found reports.map_is reports.extra_is kills earlier mid later no_kill made same
