use Rattle.bridge.proofs.Update.{fresh_bridge}
use Rattle.bridge.proofs.fresh_tree_is_stored.Goals as goal

pub returns : goal.returns
returns c = record { rules = fresh_bridge; numbers = fresh_bridge }
