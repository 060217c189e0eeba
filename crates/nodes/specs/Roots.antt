-- The root, and what its block has besides its node.
use Rattle.std.specs.Prelude.{ℕ, List, [], ◌++◌, length}
use Rattle.nodes.specs.Blocks.{count_of, header_of, node_of, tables_of}
use Rattle.rules.specs.HeaderRules.{root_place}
use Rattle.rules.specs.Headers.{header_coding}
use Rattle.rules.specs.Marks.{mark_number}
use Rattle.tree.specs.Nodes.{Node, node}
use Rattle.tree.specs.Operations.{fresh}
use Rattle.nodes.specs.Views.{view}
use Rattle.rules.specs.declared.header.Header.{Header}
use Rattle.rules.specs.declared.mark.Mark.{Mark}
use Rattle.nodes.specs.declared.root.Root.{Root as RootInMemory}

-- the root's node, and the numbers that only its block has
pub record Root : Type 0 where
  pub node : Node
  pub kind : ℕ
  pub next_free : ℕ
  pub updates : ℕ
  pub tree_writes : ℕ

-- a root in memory as a value
abbrev pub view_root : RootInMemory → Root
view_root x = record { node = view x.node; kind = x.kind; next_free = x.next_free; updates = x.updates; tree_writes = x.tree_writes }

-- the header of the root
abbrev pub root_header : Mark → Root → Header
root_header mark x = record {
  level = x.node.frame.level;
  mark = mark_number mark;
  count = count_of x.node;
  children = length x.node.frame.children;
  kind = x.kind;
  unused = 0;
  next_free = x.next_free;
  gap = 0;
  updates = x.updates;
  tree_writes = x.tree_writes;
}

-- the block of the root, under a mark
unfoldable pub root_block : Mark → Root → List ℕ
root_block mark x = header_coding.encode (root_header mark x) ++ tables_of x.node

-- the root that a header and the tables behind it say
abbrev pub root_by : Header → List ℕ → Root
root_by h bs = record { node = node_of (root_place h) h bs; kind = h.kind; next_free = h.next_free; updates = h.updates; tree_writes = h.tree_writes }

-- the root that block 0 says
abbrev pub root_of : List ℕ → Root
root_of bs = root_by (header_of bs) bs

-- a leaf without records
abbrev pub empty_leaf : ℕ → ℕ → Node
empty_leaf low high = record { frame = record { level = 0; low = low; high = high; pivots = []; children = [] }; messages = []; records = [] }

-- the root as a store begins: that of a fresh tree, with 2 as the next free number
abbrev pub fresh_root : ℕ → Root
fresh_root kind = record {
  node = node fresh 0;
  kind = kind;
  next_free = 2;
  updates = 0;
  tree_writes = 0;
}
