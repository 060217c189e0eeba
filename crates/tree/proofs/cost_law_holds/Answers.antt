use Rattle.tree.proofs.Costs.{costs}
use Rattle.tree.proofs.cost_law_holds.Goals as goal

pub returns : goal.returns
returns c = costs
