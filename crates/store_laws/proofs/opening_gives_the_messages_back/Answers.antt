use Rattle.store_laws.proofs.Openings.{open_law}
use Rattle.store_laws.proofs.opening_gives_the_messages_back.Goals as goal

pub returns : goal.returns
returns c = open_law
