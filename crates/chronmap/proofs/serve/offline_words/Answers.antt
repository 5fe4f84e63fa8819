use Rattle.chronmap.proofs.StatusSays.{code-says}
use Rattle.chronmap.proofs.WordCauses.{no-gates}
use Rattle.chronmap.proofs.serve.offline_words.Goals as goal

pub returns-clause-usage : goal.returns-clause-usage
returns-clause-usage g c = (code-says c.code.result c.serve_offline.result _ _ _ _ _ _ c.code.ensures (c.serve_offline.ensures (g.R.Source.seen c.args._source.now) no-gates)).usage

pub returns-clause-no_usage : goal.returns-clause-no_usage
returns-clause-no_usage g c = (code-says c.code.result c.serve_offline.result _ _ _ _ _ _ c.code.ensures (c.serve_offline.ensures (g.R.Source.seen c.args._source.now) no-gates)).no_usage

pub returns-clause-write : goal.returns-clause-write
returns-clause-write g c = (code-says c.code.result c.serve_offline.result _ _ _ _ _ _ c.code.ensures (c.serve_offline.ensures (g.R.Source.seen c.args._source.now) no-gates)).write

pub returns-clause-vault : goal.returns-clause-vault
returns-clause-vault g c = (code-says c.code.result c.serve_offline.result _ _ _ _ _ _ c.code.ensures (c.serve_offline.ensures (g.R.Source.seen c.args._source.now) no-gates)).vault

pub returns-clause-image : goal.returns-clause-image
returns-clause-image g c = (code-says c.code.result c.serve_offline.result _ _ _ _ _ _ c.code.ensures (c.serve_offline.ensures (g.R.Source.seen c.args._source.now) no-gates)).image
