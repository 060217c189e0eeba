-- What a half of a node has of it.
use Rattle.std.specs.Prelude.{◌≡◌, ◌≤◌, vec_len}
use Rattle.nodes.specs.Shapes.{IsInner, RecordsLeaveRoom}
use Rattle.nodes.specs.declared.node.Node.{Node}

-- its level, no more messages, 4 of the children of an inner node, and as a leaf room for a batch
abbrev pub IsHalf : Node → Node → Type 0
IsHalf x y = (y.level ≡ x.level) × (vec_len y.messages ≤ vec_len x.messages) × (IsInner x → vec_len y.children ≡ 4) × RecordsLeaveRoom y
