use Rattle.held.proofs.Laws.{store_queries}
use Rattle.held.proofs.queries_answer_the_tree.Goals as goal

pub returns : goal.returns
returns c = store_queries
