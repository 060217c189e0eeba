use Rattle.tree.proofs.Shapes.{good_trees}
use Rattle.tree.proofs.shape_law_holds.Goals as goal

pub returns : goal.returns
returns c = good_trees
