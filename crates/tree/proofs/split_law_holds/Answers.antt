use Rattle.tree.proofs.Choices.{split_law}
use Rattle.tree.proofs.split_law_holds.Goals as goal

pub returns : goal.returns
returns c = split_law
