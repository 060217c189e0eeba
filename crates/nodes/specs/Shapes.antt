-- What is asked and kept of nodes in memory.
use Rattle.std.specs.Prelude.{◌≡◌, ℕ, ◌<◌, ◌≤◌, vec_len}
use Rattle.tree.specs.Limits.{most_children, most_entries, roomy_leaf}
use Rattle.nodes.specs.declared.node.Node.{Node}
use Rattle.nodes.specs.declared.root.Root.{Root}

-- an inner node
abbrev pub IsInner : Node → Type 0
IsInner x = 0 < x.level

-- the messages fit a block
abbrev pub MessagesFit : Node → Type 0
MessagesFit x = vec_len x.messages ≤ most_entries

-- a node as it is read where one of a level is expected
abbrev pub IsReadAt : ℕ → Node → Type 0
IsReadAt level x = (x.level ≡ level) × (vec_len x.messages ≤ 256)

-- the records of a leaf leave room for a batch
abbrev pub RecordsLeaveRoom : Node → Type 0
RecordsLeaveRoom x = x.level ≡ 0 → vec_len x.records ≤ roomy_leaf

-- the children of an inner node leave room for one more
abbrev pub ChildrenLeaveRoom : Node → Type 0
ChildrenLeaveRoom x = 0 < x.level → vec_len x.children < most_children

-- the level and the number of children stay
abbrev pub SameShape : Node → Node → Type 0
SameShape x y = (y.level ≡ x.level) × (vec_len y.children ≡ vec_len x.children)

-- a root as its block may say it: of level 1 to 8, with messages that fit a block and updates in their range
abbrev pub IsSoundRoot : Root → Type 0
IsSoundRoot r = (0 < r.node.level) × (r.node.level ≤ 8) × (vec_len r.node.messages ≤ 256) × (r.updates ≤ 4294967296)

-- all keys are its own
abbrev pub HasAllKeys : Root → Type 0
HasAllKeys r = (r.node.span.low ≡ 0) × (r.node.span.high ≡ 4294967296)
