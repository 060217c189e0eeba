use Rattle.tree.proofs.Costs.{batches}
use Rattle.tree.proofs.batch_law_holds.Goals as goal

pub returns : goal.returns
returns c = batches
