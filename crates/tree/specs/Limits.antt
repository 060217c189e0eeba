-- The limits of nodes.
use Rattle.std.specs.Prelude.{ℕ}

-- a node has at most so many messages or records between updates; with more messages a step is made
abbrev pub most_entries : ℕ
most_entries = 256

-- a leaf with more records is split before messages come to it
abbrev pub roomy_leaf : ℕ
roomy_leaf = 240

-- an inner node with so many children is split before messages come to it, and the root is cut
abbrev pub most_children : ℕ
most_children = 8

-- an inner node has at least so many children, but for the root
abbrev pub fewest_children : ℕ
fewest_children = 4
