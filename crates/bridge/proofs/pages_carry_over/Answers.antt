use Rattle.bridge.proofs.Page.{page_bridge}
use Rattle.bridge.proofs.pages_carry_over.Goals as goal

pub returns : goal.returns
returns c = record { rules = page_bridge; numbers = page_bridge }
