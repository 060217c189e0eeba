use Rattle.held.proofs.Laws.{nodes_come_back}
use Rattle.held.proofs.nodes_come_back.Goals as goal

pub returns : goal.returns
returns c = nodes_come_back
