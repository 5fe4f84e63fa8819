use Rattle.cm_laws.proofs.Linking.{chain_held}
use Rattle.cm_laws.proofs.laws.chains_keep_links.Goals as goal

pub returns : goal.returns
returns c = chain_held
