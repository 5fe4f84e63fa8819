-- Each turn reads one record more, and at the end of the text these are all.
use Rattle.std.proofs.Common.{Bor, List, ℕ, ◌≡◌, ◌∙◌, ◌++◌, sym, refl, rules, inl, inr, false, true, not, Some, Result, Ok, Err, ◌≤◌, ◌<◌, vec_len, ◌∷◌, [], ap, length, ◌+◌, arith, subst}
use Rattle.csv.specs.Reading.{Reached, ReadRecord, default_config, strip_bom, with_flexible, with_names_headers}
use Rattle.csv.specs.Records.{fields_of}
use Rattle.csv.specs.declared.parser.State.TheVariants as st
use Rattle.csv.specs.declared.reader.ReaderBuilder.{ReaderBuilder}
use Rattle.csv.proofs.ReadFacts.{rows-end, rows-more}
use Rattle.std.proofs.lemmas.List.{append_assoc, append-nil, length-append}
use Rattle.cm_script.specs.Rows.{records_of}
use Rattle.cm_script.specs.Scripts.{Refusal, lines_from, refused}
use Rattle.cm_script.specs.Unread.{StopsReading, after, unless_refused}
use Rattle.cm_script.specs.declared.line.Line.{Line}
use Rattle.cm_script.specs.declared.limits.TheConstants.{MAX_SCRIPT_LINES}
use Rattle.cm_script.specs.declared.stop.ScriptStop.{ScriptStop}
use Rattle.cm_script.specs.declared.stop.LineCause.{LineCause}
use Rattle.cm_script.specs.declared.stop.ScriptStop.TheVariants as stop
use Rattle.std.specs.Result.{is_ok}
use Rattle.cm_script.proofs.MatchedResults.{err-matched, ok-mapped, ok-matched, on-ok}
use Rattle.cm_script.proofs.AllRecords.{all-records, reached-within_limit}
use Rattle.cm_script.proofs.read.read_lines.Goals as goal

after-none : (later : Result (List Line) Refusal) → after [] later ≡ later
after-none (Ok lines) = refl
after-none (Err why) = refl

pub loop-count-init : goal.loop-count-init
unfolding Reached
loop-count-init c =
    let fr = c.from_reader-reader.ensures in
    let e : c.flexible.result.now ≡ with_flexible (with_names_headers c.new.result false) true = c.flexible.ensures ∙ ap (λ (b : ReaderBuilder). with_flexible b true) c.has_headers.ensures in
    record {
      lists = omega arith;
      few = omega (arith, c.new-2.ensures.len);
      untrimmed = rw e at fr.trim ∙ c.new.ensures.trim;
      ready = inr (inr (rw e at fr.has_headers, fr.headers));
      config = rw e at fr.config ∙ c.new.ensures.config;
      left = strip_bom c.args.text.now;
      rows = [];
      count_is = refl;
      source = fr.source;
      reached = (sym fr.state, refl);
      same = λ later. rw c.new-2.ensures.items (sym (after-none (lines_from c.args.geo.now 1 0 later)));
    }

pub loop-count-preserved : goal.loop-count-preserved
loop-count-preserved c =
    let inv = c.loop-count.invariant in
    let there : c.in-Ok.is_there ≡ true = search rules in
    let good : is_ok c.take.result ≡ true = search rules in
    let step : ReadRecord (λ (s : Bor (List ℕ)). Some s.now) c.loop-count.reader c.read_byte_record.new.self true (fields_of c.read_byte_record.new.row)
    = rw there at (c.in-Ok.ensures.reads inv.untrimmed inv.ready) in
    let more = rows-more (λ (s : Bor (List ℕ)). Some s.now) c.loop-count.reader c.read_byte_record.new.self (fields_of c.read_byte_record.new.row) default_config st.StartRecord (strip_bom c.args.text.now) inv.left inv.rows inv.config inv.source inv.reached step in
    record {
      lists = omega (arith, c.take.ensures.lists);
      few = omega (arith, c.take.ensures.lines);
      untrimmed = step.3 ∙ inv.untrimmed;
      ready = inl (c.in-Ok.ensures.ready inv.untrimmed);
      config = step.2 ∙ inv.config;
      left = more.0;
      rows = inv.rows ++ fields_of c.read_byte_record.new.row ∷ [];
      count_is = simp length-append (omega (arith, inv.count_is));
      source = more.1;
      reached = more.2;
      same = λ later.
          ap (lines_from c.args.geo.now 1 0) (append_assoc inv.rows (fields_of c.read_byte_record.new.row ∷ []) later)
          ∙ inv.same (fields_of c.read_byte_record.new.row ∷ later) ∙ on-ok c.take.result _ good c.take.ensures.rest later;
    }

pub returns-then-not-is_there-clause-within_limit : goal.returns-then-not-is_there-clause-within_limit
returns-then-not-is_there-clause-within_limit c =
    let inv = c.loop-count.invariant in
    let none : c.in-Ok.is_there ≡ false = search rules in
    let step : ReadRecord (λ (s : Bor (List ℕ)). Some s.now) c.loop-count.reader c.read_byte_record.new.self false (fields_of c.read_byte_record.new.row)
    = rw none at (c.in-Ok.ensures.reads inv.untrimmed inv.ready) in
    let end = rows-end (λ (s : Bor (List ℕ)). Some s.now) c.loop-count.reader c.read_byte_record.new.self _ default_config inv.left inv.config inv.source step in
    let text = strip_bom c.args.text.now in
    let all : inv.rows ≡ records_of c.args.text.now = all-records (length text + 1) st.StartRecord text inv.rows c.loop-count.reader.state inv.left refl (omega arith) inv.reached end in
    let few : length (records_of c.args.text.now) ≤ MAX_SCRIPT_LINES = rw (sym all) (omega (arith, inv.count_is, c.loop-count-test.true)) in
    ok-matched c.end.result _ _ _ c.end.ensures.gives (λ lines is. few)

pub returns-then-not-is_there-clause-ok : goal.returns-then-not-is_there-clause-ok
returns-then-not-is_there-clause-ok c =
    let inv = c.loop-count.invariant in
    let none : c.in-Ok.is_there ≡ false = search rules in
    let step : ReadRecord (λ (s : Bor (List ℕ)). Some s.now) c.loop-count.reader c.read_byte_record.new.self false (fields_of c.read_byte_record.new.row)
    = rw none at (c.in-Ok.ensures.reads inv.untrimmed inv.ready) in
    let end = rows-end (λ (s : Bor (List ℕ)). Some s.now) c.loop-count.reader c.read_byte_record.new.self _ default_config inv.left inv.config inv.source step in
    let text = strip_bom c.args.text.now in
    let all : inv.rows ≡ records_of c.args.text.now = all-records (length text + 1) st.StartRecord text inv.rows c.loop-count.reader.state inv.left refl (omega arith) inv.reached end in
    let same = ap (lines_from c.args.geo.now 1 0) (sym all ∙ sym (append-nil inv.rows)) ∙ inv.same [] in
    ok-matched c.end.result _ _ _ c.end.ensures.gives (λ lines is. same ∙ is)

pub returns-then-not-is_there-clause-few : goal.returns-then-not-is_there-clause-few
returns-then-not-is_there-clause-few c =
    ok-mapped c.end.result _ _ c.end.ensures.few (λ lines same. omega (arith, same, c.loop-count.invariant.few, c.loop-count-test.true))

pub returns-then-not-is_there-clause-err : goal.returns-then-not-is_there-clause-err
returns-then-not-is_there-clause-err c =
    let inv = c.loop-count.invariant in
    let none : c.in-Ok.is_there ≡ false = search rules in
    let step : ReadRecord (λ (s : Bor (List ℕ)). Some s.now) c.loop-count.reader c.read_byte_record.new.self false (fields_of c.read_byte_record.new.row)
    = rw none at (c.in-Ok.ensures.reads inv.untrimmed inv.ready) in
    let end = rows-end (λ (s : Bor (List ℕ)). Some s.now) c.loop-count.reader c.read_byte_record.new.self _ default_config inv.left inv.config inv.source step in
    let text = strip_bom c.args.text.now in
    let all : inv.rows ≡ records_of c.args.text.now = all-records (length text + 1) st.StartRecord text inv.rows c.loop-count.reader.state inv.left refl (omega arith) inv.reached end in
    let few : length (records_of c.args.text.now) ≤ MAX_SCRIPT_LINES = rw (sym all) (omega (arith, inv.count_is, c.loop-count-test.true)) in
    let same = ap (lines_from c.args.geo.now 1 0) (sym all ∙ sym (append-nil inv.rows)) ∙ inv.same [] in
    err-matched c.end.result _ _ _ c.end.ensures.gives (λ why is. rw is.2 (few, same ∙ rw is.3 refl))

pub returns-clause-err : goal.returns-clause-err
returns-clause-err c =
    let inv = c.loop-count.invariant in
    let text = strip_bom c.args.text.now in
    let within = reached-within_limit (length text + 1) st.StartRecord text inv.rows c.loop-count.reader.state inv.left refl (omega arith) inv.reached in
    omega (arith, within, inv.count_is, c.loop-count-test.false)
