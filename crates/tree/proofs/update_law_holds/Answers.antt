use Rattle.tree.proofs.Laws.{update_law}
use Rattle.tree.proofs.update_law_holds.Goals as goal

pub returns : goal.returns
returns c = update_law
