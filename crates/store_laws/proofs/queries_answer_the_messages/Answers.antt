use Rattle.store_laws.proofs.Laws.{query_law}
use Rattle.store_laws.proofs.queries_answer_the_messages.Goals as goal

pub returns : goal.returns
returns c = query_law
