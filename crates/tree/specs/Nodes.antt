-- Nodes, and the tree as a list of them: the node of block b stands at place b, the root at place 0.
use Rattle.std.specs.Prelude.{ℕ, cond, List, [], ◌∷◌, length, nat_lt, slice_index_or}
use Rattle.messages.specs.declared.entry.Entry.{Entry}
use Rattle.messages.specs.declared.message.Message.{Message}

-- where a node stands: its level, 0 at a leaf; its span, the keys from low on and below high; its pivots and its children's block numbers
pub record Frame : Type 0 where
  pub level : ℕ
  pub low : ℕ
  pub high : ℕ
  pub pivots : List ℕ
  pub children : List ℕ

-- a leaf has records, an inner node messages
pub record Node : Type 0 where
  pub frame : Frame
  pub messages : List (Entry Message)
  pub records : List (Entry ℕ)

abbrev pub no_node : Node
no_node = record { frame = record { level = 0; low = 0; high = 0; pivots = []; children = [] }; messages = []; records = [] }

-- the node of a block
abbrev pub node : List Node → ℕ → Node
node a b = slice_index_or a b no_node

-- the root's level, and the number of the next block to be taken
abbrev pub height : List Node → ℕ
height a = (node a 0).frame.level

abbrev pub next_free : List Node → ℕ
next_free a = length a

-- the child that takes a key: the first whose pivot is above it, else the last
abbrev pub pick : List ℕ → List ℕ → ℕ → ℕ
pick [] ps k = 0
pick (c ∷ cs) [] k = c
pick (c ∷ cs) (p ∷ ps) k = cond (nat_lt k p) c (pick cs ps k)

abbrev pub child : Frame → ℕ → ℕ
child f k = pick f.children f.pivots k
