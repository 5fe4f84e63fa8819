use Rattle.cm_laws.proofs.Linking.{chain_bound}
use Rattle.cm_laws.proofs.laws.chains_grow_by_links.Goals as goal

pub returns : goal.returns
returns c = chain_bound
