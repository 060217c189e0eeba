use Rattle.book_plan.proofs.Laws.{change_law}
use Rattle.book_plan.proofs.changes_are_kept.Goals as goal

pub returns : goal.returns
returns c = change_law
