use Rattle.bridge.proofs.Update.{update_bridge}
use Rattle.bridge.proofs.updates_carry_over.Goals as goal

pub returns : goal.returns
returns c = record { rules = update_bridge; numbers = update_bridge }
