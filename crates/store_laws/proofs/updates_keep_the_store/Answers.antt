use Rattle.store_laws.proofs.Laws.{update_law}
use Rattle.store_laws.proofs.updates_keep_the_store.Goals as goal

pub returns : goal.returns
returns c = update_law
