use Rattle.store_laws.proofs.Openings.{close_law}
use Rattle.store_laws.proofs.closing_keeps_the_messages.Goals as goal

pub returns : goal.returns
returns c = close_law
