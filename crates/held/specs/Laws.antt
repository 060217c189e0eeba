-- The laws of blocks that hold a tree, for the format that the store writes and for every kind of value. Each is the contract of a function in src/lib.rt.
use Rattle.std.specs.Prelude.{ℕ, ◌^◌, ◌<◌, ◌≤◌, List}
use Rattle.messages.specs.Algebra.{Algebra}
use Rattle.messages.specs.declared.entry.Entry.{Entry}
use Rattle.messages.specs.declared.message.Message.{Message}
use Rattle.rules.specs.declared.place.Place.{Place}
use Rattle.nodes.specs.Laws.{GoodNode}
use Rattle.node_ops.specs.CodeOf.{code_of, place_at}
use Rattle.plan.specs.Images.{Image}
use Rattle.tree.specs.Laws.{Keys}
use Rattle.tree.specs.Nodes.{Node, node, next_free}
use Rattle.tree.specs.Update.{grown}
use Rattle.bridge.specs.Laws.{OnDevice, Room, UpdateCarriesOver, QueryCarriesOver, PageCarriesOver}
use Rattle.bridge.specs.Stored.{WordFits, FitsBlock, RoundTrip, Stored}

-- where the node of block b stands in the tree a of a kind
abbrev pub place_of : Algebra → List Node → ℕ → Place
place_of K a b = place_at (node a b).frame.level (node a b).frame.low (node a b).frame.high K.number (next_free a)

-- a node of a tree whose numbers fit breaks no rule of the format at its place
abbrev pub NodesFit : Type 0
NodesFit = (K : Algebra) (a : List Node) (b : ℕ) → FitsBlock a b → GoodNode (place_of K a b) (node a b)

-- its block is not refused, and is read back as it was written
abbrev pub NodesComeBack : Type 0
NodesComeBack = (K : Algebra) → RoundTrip (code_of K)

-- an update of blocks that hold a tree
abbrev pub StoreUpdates : Type 0
StoreUpdates = (K : Algebra) (h : List (Entry Message)) → Keys h → let a = grown K h in
    (d : Image) (w : ℕ) → Stored (code_of K) d a → OnDevice d a → w < 2 ^ 64 → Room d a → (k : ℕ) (m : Message) → k < 2 ^ 32 → WordFits m → UpdateCarriesOver (code_of K) d w a k m

-- a query of blocks that hold a tree
abbrev pub StoreQueries : Type 0
StoreQueries = (K : Algebra) (h : List (Entry Message)) → Keys h → let a = grown K h in
    (d : Image) → Stored (code_of K) d a → OnDevice d a → (k : ℕ) → QueryCarriesOver (code_of K) d a k

-- a page of blocks that hold a tree
abbrev pub StorePages : Type 0
StorePages = (K : Algebra) (h : List (Entry Message)) → Keys h → let a = grown K h in
    (d : Image) → Stored (code_of K) d a → OnDevice d a → (first last : ℕ) → first ≤ last → last < 2 ^ 32 → PageCarriesOver (code_of K) d a first last
