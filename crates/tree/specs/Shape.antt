-- The shape of a tree: the rules that each node has to meet, and how the nodes hang together.
use Rattle.std.specs.Prelude.{◌≡◌, ℕ, zero, suc, ◌+◌, ◌^◌, ◌<◌, ◌≤◌, List, [], ◌∷◌, length, slice_index, slice_index_or}
use Rattle.messages.specs.Lists.{Within}
use Rattle.tree.specs.Limits.{most_entries, most_children, fewest_children}
use Rattle.tree.specs.Nodes.{Frame, Node, node, height}

-- pivots rise strictly between low and high
abbrev pub Rising : ℕ → ℕ → List ℕ → Type 0
Rising low high [] = Unit {0}
Rising low high (p ∷ ps) = (low < p) × (p < high) × Rising p high ps

-- the child at a place: a block that was taken, not the root, one level lower, with its part of the span
pub record GoodChild (a : List Node) (f : Frame) (j : ℕ) : Type 0 where
  pub not_root : 1 ≤ slice_index f.children j
  pub taken : slice_index f.children j < length a
  pub one_lower : (node a (slice_index f.children j)).frame.level + 1 ≡ f.level
  pub from : (node a (slice_index f.children j)).frame.low ≡ slice_index (f.low ∷ f.pivots) j
  pub upto : (node a (slice_index f.children j)).frame.high ≡ slice_index_or f.pivots j f.high

-- the node x of block b breaks no rule
pub record Good (a : List Node) (b : ℕ) (x : Node) : Type 0 where
  -- the root is no leaf; other levels are given by the parent
  pub root_inner : b ≡ 0 → 0 < x.frame.level
  -- at most 256 messages or records, each only where it belongs
  pub few_messages : length x.messages ≤ most_entries
  pub few_records : length x.records ≤ most_entries
  pub leaf_plain : x.frame.level ≡ 0 → (x.messages ≡ []) × (x.frame.pivots ≡ []) × (x.frame.children ≡ [])
  pub inner_plain : 0 < x.frame.level → x.records ≡ []
  -- 1 to 8 children in a root of level 1, 2 to 8 in a higher one, 4 to 8 in any other inner node
  pub root_children : b ≡ 0 → 1 ≤ length x.frame.children
  pub high_root_children : b ≡ 0 → 2 ≤ x.frame.level → 2 ≤ length x.frame.children
  pub inner_children : 0 < b → 0 < x.frame.level → fewest_children ≤ length x.frame.children
  pub few_children : length x.frame.children ≤ most_children
  -- one pivot fewer than children, rising strictly inside the span
  pub pivots_between : 0 < x.frame.level → length x.frame.pivots + 1 ≡ length x.frame.children
  pub pivots_rise : Rising x.frame.low x.frame.high x.frame.pivots
  pub children_good : (j : ℕ) → j < length x.frame.children → GoodChild a x.frame j
  -- keys rise strictly inside the span
  pub messages_rise : Within x.frame.low x.frame.high x.messages
  pub records_rise : Within x.frame.low x.frame.high x.records

abbrev pub GoodNode : List Node → ℕ → Type 0
GoodNode a b = Good a b (node a b)

-- a key lies in a node's span
pub record In (k : ℕ) (f : Frame) : Type 0 where
  pub low : f.low ≤ k
  pub high : k < f.high

-- a tree of good nodes: the root spans all keys, and blocks of one level have no key in common
pub record GoodTree (a : List Node) : Type 0 where
  pub two_blocks : 2 ≤ length a
  pub root_from_zero : (node a 0).frame.low ≡ 0
  pub root_to_end : (node a 0).frame.high ≡ 2 ^ 32
  pub nodes : (b : ℕ) → b < length a → GoodNode a b
  pub apart : (b d k : ℕ) → b < length a → d < length a → (node a b).frame.level ≡ (node a d).frame.level
      → In k (node a b).frame → In k (node a d).frame → b ≡ d

-- ---- the same by levels, as the proofs use it
-- block c is a node of level l, not the root, with the span from low to high
pub record Child (a : List Node) (l c low high : ℕ) : Type 0 where
  pub inside : c < length a
  pub not_root : 0 < c
  pub level_is : (node a c).frame.level ≡ l
  pub from : (node a c).frame.low ≡ low
  pub upto : (node a c).frame.high ≡ high
  pub nonempty : low < high

-- the children cs, of level l, share the span from low to high between them at the pivots ps
abbrev pub Children : List Node → ℕ → ℕ → ℕ → List ℕ → List ℕ → Type 0
Children a l low high [] ps = ⊥
Children a l low high (c ∷ []) [] = Child a l c low high
Children a l low high (c ∷ d ∷ cs) [] = ⊥
Children a l low high (c ∷ cs) (p ∷ ps) = Child a l c low p × Children a l p high cs ps

-- a node of a level: keys rise strictly inside the span, and children share it
abbrev pub Sound : List Node → ℕ → Node → Type 0
Sound a zero n = Within n.frame.low n.frame.high n.records
Sound a (suc l) n =
    Within n.frame.low n.frame.high n.messages × Children a l n.frame.low n.frame.high n.frame.children n.frame.pivots

pub record Tree (a : List Node) : Type 0 where
  pub has_root : 0 < length a
  pub root_from_zero : (node a 0).frame.low ≡ 0
  pub root_to_end : (node a 0).frame.high ≡ 2 ^ 32
  pub root_inner : 0 < height a
  pub root_highest : (b : ℕ) → b < length a → 0 < b → (node a b).frame.level < height a
  pub sound : (b : ℕ) → b < length a → Sound a (node a b).frame.level (node a b)
  pub apart : (b d k : ℕ) → b < length a → d < length a → (node a b).frame.level ≡ (node a d).frame.level
      → In k (node a b).frame → In k (node a d).frame → b ≡ d

-- the sizes of the node of block b, with at most so many messages and children
pub record Sized (messages children b : ℕ) (x : Node) : Type 0 where
  pub messages_le : length x.messages ≤ messages
  pub records_le : length x.records ≤ most_entries
  pub children_le : length x.frame.children ≤ children
  pub leaf : x.frame.level ≡ 0 → length x.frame.children ≡ 0
  pub bare : x.frame.level ≡ 0 → length x.messages ≡ 0
  pub inner : 0 < x.frame.level → 0 < b → fewest_children ≤ length x.frame.children

abbrev pub AllSized : List Node → Type 0
AllSized a = (b : ℕ) → b < length a → Sized most_entries most_children b (node a b)
