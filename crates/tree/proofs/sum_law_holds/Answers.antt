use Rattle.tree.proofs.Laws.{sum_law}
use Rattle.tree.proofs.sum_law_holds.Goals as goal

pub returns : goal.returns
returns c = sum_law
