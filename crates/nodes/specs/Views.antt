-- A node in memory as the tree has it.
use Rattle.std.specs.Prelude.{vec_items}
use Rattle.tree.specs.Nodes.{Node}
use Rattle.nodes.specs.declared.node.Node.{Node as NodeInMemory}

-- its fields, and the lists that its `Vec`s hold
abbrev pub view : NodeInMemory → Node
view x = record {
  frame = record { level = x.level; low = x.span.low; high = x.span.high; pivots = vec_items x.pivots; children = vec_items x.children };
  messages = vec_items x.messages;
  records = vec_items x.records;
}
