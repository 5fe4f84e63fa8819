use Rattle.chronmap.proofs.StatusSays.{code-says, refused-code}
use Rattle.chronmap.proofs.serve.run_words.Goals as goal

pub returns-clause-geometry : goal.returns-clause-geometry
returns-clause-geometry g c = (code-says c.code.result c.serve.result _ _ _ _ _ _ c.code.ensures c.serve.ensures).geometry

pub returns-clause-no_geometry : goal.returns-clause-no_geometry
returns-clause-no_geometry g c = refused-code c.words_ask_for_one.ensures c.code.result c.serve.result _ _ _ _ _ _ c.code.ensures c.serve.ensures
