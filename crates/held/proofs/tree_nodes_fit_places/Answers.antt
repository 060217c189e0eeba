use Rattle.held.proofs.Laws.{nodes_fit}
use Rattle.held.proofs.tree_nodes_fit_places.Goals as goal

pub returns : goal.returns
returns c = nodes_fit
