-- Trees that the operations reach in any order, and what each asks.
use Rattle.std.proofs.Common.{◌≡◌, ℕ, zero, suc, ◌+◌, ◌-◌, ◌^◌, ◌<◌, ◌≤◌, ◌⊎◌, List, [], ◌∷◌, map, length, get_or, Option}
use Rattle.messages.specs.Algebra.{Algebra}
use Rattle.messages.specs.Lists.{below, entry, find}
use Rattle.messages.specs.declared.entry.Entry.{Entry}
use Rattle.messages.specs.declared.message.Message.{Message}
use Rattle.tree.specs.Lookup.{acts}
use Rattle.tree.specs.Nodes.{Node, child, node}
use Rattle.tree.specs.Operations.{cut_root, fresh, joined, moved, split_child}
use Rattle.tree.specs.Shape.{Sound}
use Rattle.tree.proofs.Wear.{Shape, shape, State}

-- Block c is the child at place j of block p, with at least 16 messages pending.
pub record CanMove (a : List Node) (p j c : ℕ) : Type 0 where
  pub p_in : p < length a
  pub j_in : j < length (node a p).frame.children
  pub is : get_or (node a p).frame.children j 0 ≡ c
  pub inner : 0 < (node a p).frame.level
  pub pending : below (node a c).frame.low (node a p).messages + 16 ≤ below (node a c).frame.high (node a p).messages

-- The node x in two at the key q: y below it, z from it on.
pub record Halved (a : List Node) (q : ℕ) (x y z : Node) : Type 0 where
  pub level_y : y.frame.level ≡ x.frame.level
  pub level_z : z.frame.level ≡ x.frame.level
  pub low_y : y.frame.low ≡ x.frame.low
  pub high_y : y.frame.high ≡ q
  pub low_z : z.frame.low ≡ q
  pub high_z : z.frame.high ≡ x.frame.high
  pub over : x.frame.low < q
  pub under : q < x.frame.high
  pub sound_y : Sound a x.frame.level y
  pub sound_z : Sound a x.frame.level z
  pub says_y : (K : Algebra) (k : ℕ) (o : Option ℕ) → x.frame.low ≤ k → k < q
      → (find k y.records ≡ find k x.records) × (acts K k y.messages o ≡ acts K k x.messages o) × (child y.frame k ≡ child x.frame k)
  pub says_z : (K : Algebra) (k : ℕ) (o : Option ℕ) → q ≤ k → k < x.frame.high
      → (find k z.records ≡ find k x.records) × (acts K k z.messages o ≡ acts K k x.messages o) × (child z.frame k ≡ child x.frame k)

-- block c is the child at place j of block p, and halved at q into y and z
pub record CanSplit (a : List Node) (p j c q : ℕ) (y z : Node) : Type 0 where
  pub p_in : p < length a
  pub j_in : j < length (node a p).frame.children
  pub is : get_or (node a p).frame.children j 0 ≡ c
  pub inner : 0 < (node a p).frame.level
  pub halves : Halved a q (node a c) y z

-- a node that is due to be split
abbrev pub Full : Node → Type 0
Full x = ((x.frame.level ≡ 0) × (length x.frame.children ≡ 0) × (240 < length x.records)) ⊎ ((0 < x.frame.level) × (length x.frame.children ≡ 8))

-- block c is the child at place j of block p
pub record ChildAt (a : List Node) (p j c : ℕ) : Type 0 where
  pub p_in : p < length a
  pub j_in : j < length (node a p).frame.children
  pub is : get_or (node a p).frame.children j 0 ≡ c
  pub inner : 0 < (node a p).frame.level

-- The trees that operations reach from a fresh one, with the messages so far, the newest first, and the number of moves.
pub data Reached (K : Algebra) : List Node → List (Entry Message) → ℕ → Type 0 where
  start : Reached K fresh [] 0
  join : {a : List Node} {h : List (Entry Message)} {n : ℕ} (k : ℕ) (m : Message) → k < 2 ^ 32 → Reached K a h n → Reached K (joined K k m a) (entry k m ∷ h) n
  move : {a : List Node} {h : List (Entry Message)} {n : ℕ} (p j c : ℕ) → CanMove a p j c → Reached K a h n → Reached K (moved K a p c) h (n + 1)
  part : {a : List Node} {h : List (Entry Message)} {n : ℕ} (p j c : ℕ) → ChildAt a p j c → Full (node a c) → Reached K a h n → Reached K (split_child a p j c) h n
  rise : {a : List Node} {h : List (Entry Message)} {n : ℕ} → length (node a 0).frame.children ≡ 8 → Reached K a h n → Reached K (cut_root a) h n

-- a node as the wear law sees it
abbrev pub load_of : ℕ → Node → ℕ
load_of zero x = length x.records
load_of (suc l) x = length x.messages

abbrev pub shape_of : Node → Shape
shape_of x = shape x.frame.level (load_of x.frame.level x) (length x.frame.children)

abbrev pub worn_of : List Node → List (Entry Message) → ℕ → State
worn_of a h n = record { blocks = map shape_of a; updates = length h; moves = n; writes = n + (length a - 2) }
