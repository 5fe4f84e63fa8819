use Rattle.std.specs.Prelude.{flat_map}
use Rattle.std.proofs.Common.{◌≡◌, ◌∙◌, ◌∷◌, ◌++◌, ℕ, List, codes, map, ap, sym}
use Rattle.clap.specs.Words.{found_of}
use Rattle.cm_command.specs.declared.option.RunOption.TheVariants.{Geo, Image, Save}
use Rattle.cm_command.specs.Grammar.{words_of}
use Rattle.cm_command.specs.Kills.{AreKills, kill_text}
use Rattle.cm_command.proofs.ReadRun.{kills-read, none-found, run-asked, run-taken, some-found, value-read}
use Rattle.cm_command.proofs.read.read_run.Goals as goal
use Rattle.cm_command.proofs.read.read_run.Goals.{in-Some+in_ok-kills-in-Some, in-None+in_ok-kills-in-None}

pub run_matches-requires : goal.run_matches-requires
run_matches-requires c = (run-taken c.args.words.now (run-asked c.args.words.now c.requires)).taken

pub origin_of-requires : goal.origin_of-requires
origin_of-requires c =
    let run = run-asked c.args.words.now c.requires in
    let geo = c.get_str.ensures ∙ value-read c.args.words.now run Geo (found_of c.in-Ok.found) c.in-Ok.ensures.ok in
    let image = c.get_str-2.ensures ∙ value-read c.args.words.now run Image (found_of c.in-Ok.found) c.in-Ok.ensures.ok in
    (run.from, rw (geo, image) run.asks.origin)

pub kills_of-requires : goal.kills_of-requires
kills_of-requires c =
    let run = run-asked c.args.words.now c.requires in
    (run.kills, run.asks.are_kills, some-found _ _ (c.in-Some.ensures ∙ kills-read c.args.words.now run (found_of c.in-Ok.found) c.in-Ok.ensures.ok))

pub returns : goal.returns
returns c =
    let run = run-asked c.args.words.now c.requires in
    let found = found_of c.in-Ok.found in
    let geo = c.get_str.ensures ∙ value-read c.args.words.now run Geo found c.in-Ok.ensures.ok in
    let image = c.get_str-2.ensures ∙ value-read c.args.words.now run Image found c.in-Ok.ensures.ok in
    let save = c.get_str-3.ensures ∙ value-read c.args.words.now run Save found c.in-Ok.ensures.ok in
    let kills : map kill_text run.kills ≡ map kill_text c.match-get_strs.kills = elim c.match-get_strs.branch [
      | in-Some+in_ok-kills-in-Some w ↦
          sym (some-found _ _ (w.in-Some.ensures ∙ kills-read c.args.words.now run found c.in-Ok.ensures.ok)) ∙ w.in_ok-kills-in-Some.ensures.of_texts
          ∙ ap (map kill_text) (sym w.kills-is)
      | in-None+in_ok-kills-in-None w ↦
          none-found _ (w.in-None.ensures ∙ kills-read c.args.words.now run found c.in-Ok.ensures.ok) ∙ w.in_ok-kills-in-None.ensures.of_texts ∙ ap (map kill_text) (sym w.kills-is)
    ] in
    let are_kills : AreKills c.match-get_strs.kills = elim c.match-get_strs.branch [
      | in-Some+in_ok-kills-in-Some w ↦ rw w.kills-is w.in_ok-kills-in-Some.ensures.are_kills
      | in-None+in_ok-kills-in-None w ↦ rw w.kills-is w.in_ok-kills-in-None.ensures.are_kills
    ] in
    record {
      options = run.asks.options;
      words_are = run.asks.words_are ∙ ap (λ (texts : List (List ℕ)). codes "run" ∷ flat_map words_of run.asks.options ++ texts) kills;
      are_options = run.asks.are_options;
      are_kills = are_kills;
      origin = rw (geo, image) at c.in_ok-origin.ensures;
      save_is = c.in_ok-save.ensures ∙ save;
    }
