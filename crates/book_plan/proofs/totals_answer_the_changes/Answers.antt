use Rattle.book_plan.proofs.Totals.{total_law}
use Rattle.book_plan.proofs.totals_answer_the_changes.Goals as goal

pub returns : goal.returns
returns c = total_law
