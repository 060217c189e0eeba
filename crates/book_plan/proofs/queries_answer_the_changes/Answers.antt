use Rattle.book_plan.proofs.Laws.{query_law}
use Rattle.book_plan.proofs.queries_answer_the_changes.Goals as goal

pub returns : goal.returns
returns c = query_law
