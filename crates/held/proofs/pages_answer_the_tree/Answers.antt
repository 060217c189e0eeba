use Rattle.held.proofs.Laws.{store_pages}
use Rattle.held.proofs.pages_answer_the_tree.Goals as goal

pub returns : goal.returns
returns c = store_pages
