use Rattle.tree.proofs.Laws.{page_law}
use Rattle.tree.proofs.page_law_holds.Goals as goal

pub returns : goal.returns
returns c = page_law
