use Rattle.tree.proofs.Known.{known_run}
use Rattle.tree.proofs.known_run_holds.Goals as goal

pub returns : goal.returns
returns c = known_run
