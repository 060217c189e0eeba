use Rattle.held.proofs.Laws.{store_updates}
use Rattle.held.proofs.updates_keep_the_tree.Goals as goal

pub returns : goal.returns
returns c = store_updates
