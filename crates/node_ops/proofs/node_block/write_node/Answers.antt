use Rattle.std.proofs.Common.{rules}
use Rattle.node_ops.specs.CodeOf.{encode_of}
use Rattle.node_ops.proofs.node_block.write_node.Goals as goal

pub returns : goal.returns
unfolding encode_of
returns g c = search rules
