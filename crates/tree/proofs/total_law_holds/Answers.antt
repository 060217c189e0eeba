use Rattle.tree.proofs.Laws.{total_law}
use Rattle.tree.proofs.total_law_holds.Goals as goal

pub returns : goal.returns
returns c = total_law
