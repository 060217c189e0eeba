-- A node for all keys: the root.
use Rattle.std.specs.Prelude.{◌≡◌, ◌^◌}
use Rattle.tree.specs.Nodes.{Node}

abbrev pub SpansAllKeys : Node → Type 0
SpansAllKeys x = (x.frame.low ≡ 0) × (x.frame.high ≡ 2 ^ 32)
