-- What it means that blocks hold the nodes of a tree.
use Rattle.std.specs.Prelude.{◌≡◌, ℕ, ◌^◌, ◌<◌, ◌≤◌, List, None}
use Prim.{Unit}
use Rattle.std.specs.List.{AllByRecursion}
use Rattle.blocks.specs.Media.{most_blocks}
use Rattle.messages.specs.declared.message.Message.{Message}
use Rattle.messages.specs.declared.message.Message.TheVariants.{Put, Remove, Add}
use Rattle.plan.specs.Codes.{Code, decoded}
use Rattle.plan.specs.Images.{Image}
use Rattle.tree.specs.Nodes.{Node, node, next_free}
use Rattle.tree.specs.Shape.{GoodNode}

-- the highest level of a node
abbrev pub most_levels : ℕ
most_levels = 8

-- the word of a message fits 64 bits
abbrev pub WordFits : Message → Type 0
WordFits (Put v) = v < 2 ^ 64
WordFits Remove = Unit {0}
WordFits (Add d) = d < 2 ^ 64

-- the words of a node fit 64 bits
pub record WordsFit (x : Node) : Type 0 where
  pub messages_fit : AllByRecursion (λ e. WordFits e.value) x.messages
  pub records_fit : AllByRecursion (λ e. e.value < 2 ^ 64) x.records

-- a node below the root that breaks no rule, and whose numbers fit their widths
pub record FitsBlock (a : List Node) (b : ℕ) : Type 0 where
  pub below_root : 0 < b
  pub breaks_no_rule : GoodNode a b
  pub words_fit : WordsFit (node a b)
  pub level_fits : (node a b).frame.level ≤ most_levels
  pub span_fits : (node a b).frame.high ≤ 2 ^ 32
  pub numbers_fit : next_free a ≤ most_blocks

-- such a node is not refused where it is expected, and is read back as it was written
pub record RoundTrip {F : Type 0} (C : Code F) : Type 0 where
  pub not_refused : (a : List Node) (b : ℕ) → FitsBlock a b
      → C.fault (node a b).frame.level (node a b).frame.low (node a b).frame.high (next_free a) (C.encode (node a b)) ≡ None
  pub read_back : (a : List Node) (b : ℕ) → FitsBlock a b
      → decoded C (node a b).frame.level (node a b).frame.low (node a b).frame.high (C.encode (node a b)) ≡ node a b

-- each node of a tree but the root stands in its block, and all words fit
pub record Stored {F : Type 0} (C : Code F) (d : Image) (a : List Node) : Type 0 where
  pub in_blocks : (b : ℕ) → b < next_free a → 0 < b → d.bytes b ≡ C.encode (node a b)
  pub words_fit : (b : ℕ) → b < next_free a → WordsFit (node a b)
