use Rattle.std.proofs.Common.{rules}
use Rattle.nodes.specs.Roots.{root_block}
use Rattle.nodes.proofs.root.Root.write.Goals as goal

pub returns : goal.returns
unfolding root_block
returns c = search rules
