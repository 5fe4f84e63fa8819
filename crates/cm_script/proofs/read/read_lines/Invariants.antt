-- The reader has reached the rows so far, `left` is what it has yet to read, and the script is that of what was read and of any rows to come.
use Rattle.std.proofs.Common.{◌≡◌, ◌<◌, ◌≤◌, ◌+◌, ◌++◌, ℕ, List, Some, length, vec_len, true}
use Rattle.csv.specs.Reading.{Reached, Ready, default_config, source_of, strip_bom}
use Rattle.csv.specs.declared.parser.State.TheVariants as st
use Rattle.csv.specs.declared.reader.Trim.TheVariants as trim
use Rattle.cm_script.specs.Scripts.{lines_from}
use Rattle.cm_script.specs.Unread.{script_from}
use Rattle.cm_script.proofs.read.read_lines.Given as goal

abbrev pub invariant-loop-count : goal.invariant-loop-count
invariant-loop-count l = record {
  lists : l.so_far.lists ≤ l.count;
  few : vec_len l.so_far.lines ≤ l.count;
  untrimmed : l.reader.trim ≡ trim.None;
  ready : Ready l.reader;
  config : l.reader.config ≡ default_config;
  left : List ℕ;
  rows : List (List (List ℕ));
  count_is : length rows ≡ l.count;
  source : source_of (λ s. Some s.now) l.reader ≡ Some left;
  reached : Reached default_config st.StartRecord (strip_bom l.fn.text) rows l.reader.state left;
  same : (later : List (List (List ℕ))) → lines_from l.fn.geo 1 0 (rows ++ later) ≡ script_from l.fn.geo l.so_far (l.count + 1) later;
}
