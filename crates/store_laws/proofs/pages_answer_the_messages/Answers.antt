use Rattle.store_laws.proofs.Laws.{page_law}
use Rattle.store_laws.proofs.pages_answer_the_messages.Goals as goal

pub returns : goal.returns
returns c = page_law
