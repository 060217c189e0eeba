use Rattle.bridge.proofs.Query.{query_bridge}
use Rattle.bridge.proofs.queries_carry_over.Goals as goal

pub returns : goal.returns
returns c = record { rules = query_bridge; numbers = query_bridge }
