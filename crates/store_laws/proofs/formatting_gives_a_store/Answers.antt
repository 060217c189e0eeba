use Rattle.store_laws.proofs.Openings.{format_law}
use Rattle.store_laws.proofs.formatting_gives_a_store.Goals as goal

pub returns : goal.returns
returns c = format_law
