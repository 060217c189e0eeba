use Rattle.tree.proofs.Laws.{map_law}
use Rattle.tree.proofs.map_law_holds.Goals as goal

pub returns : goal.returns
returns c = map_law
