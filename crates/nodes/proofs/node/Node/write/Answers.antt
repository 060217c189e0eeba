use Rattle.std.proofs.Common.{rules}
use Rattle.nodes.specs.Blocks.{node_block}
use Rattle.nodes.proofs.node.Node.write.Goals as goal

pub returns : goal.returns
unfolding node_block
returns c = search rules
