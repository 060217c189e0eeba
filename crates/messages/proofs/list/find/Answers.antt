use Rattle.std.proofs.Common.{rules}
use Rattle.messages.proofs.Places.{find_at}
use Rattle.messages.proofs.list.find.Goals as goal

pub returns : goal.returns
returns g c = search (rules, find_at)
