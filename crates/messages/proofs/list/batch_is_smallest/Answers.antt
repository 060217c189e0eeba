use Rattle.messages.proofs.Smallest.{smallest}
use Rattle.messages.proofs.list.batch_is_smallest.Goals as goal

pub returns : goal.returns
returns c = smallest
