use Rattle.tree.proofs.Grown.{wear}
use Rattle.tree.proofs.wear_law_holds.Goals as goal

pub returns : goal.returns
returns c = wear
