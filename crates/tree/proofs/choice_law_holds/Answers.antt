use Rattle.tree.proofs.Choices.{choice_law}
use Rattle.tree.proofs.choice_law_holds.Goals as goal

pub returns : goal.returns
returns c = choice_law
