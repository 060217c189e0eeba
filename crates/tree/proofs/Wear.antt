-- Nodes as the wear law sees them, and the steps that it counts.
use Rattle.std.proofs.Common.{◌≡◌, ℕ, zero, suc, ◌+◌, ◌-◌, ◌*◌, ◌^◌, ◌<◌, ◌≤◌, max, List, [], ◌∷◌, ◌++◌, length, get_or, set}

-- What of a node bears on wear: its level, the number of its messages or records, and of its children.
pub record Shape : Type 0 where
  pub level : ℕ
  pub load : ℕ
  pub children : ℕ

abbrev pub shape : ℕ → ℕ → ℕ → Shape
shape l m k = record { level = l; load = m; children = k }

-- The sum of a measure over all blocks.
unfoldable pub total : (Shape → ℕ) → List Shape → ℕ
total f [] = 0
total f (x ∷ xs) = f x + total f xs

-- 1 where the two are equal, else 0
abbrev pub same : ℕ → ℕ → ℕ
same zero zero = 1
same zero (suc n) = 0
same (suc m) zero = 0
same (suc m) (suc n) = same m n

-- how far the messages of a node have to fall
abbrev pub weight : Shape → ℕ
weight n = n.level * n.load

-- the load of a node, a leaf's counted as at least 120
abbrev pub bulk_of : ℕ → ℕ → ℕ
bulk_of zero m = max 120 m
bulk_of (suc l) m = m

abbrev pub bulk : Shape → ℕ
bulk n = bulk_of n.level n.load

-- 1 for an inner node
abbrev pub inner_of : ℕ → ℕ
inner_of zero = 0
inner_of (suc l) = 1

abbrev pub inner : Shape → ℕ
inner n = inner_of n.level

abbrev pub children_of : Shape → ℕ
children_of n = n.children

-- the children, and 1, of a node of level k
abbrev pub children_at : ℕ → Shape → ℕ
children_at k n = same n.level k * n.children

abbrev pub one_at : ℕ → Shape → ℕ
one_at k n = same n.level k

-- The blocks in the order of their numbers, and what was counted.
pub record State : Type 0 where
  pub blocks : List Shape
  pub updates : ℕ
  pub moves : ℕ
  pub writes : ℕ

abbrev pub at : State → ℕ → Shape
at s b = get_or s.blocks b (shape 0 0 0)

abbrev pub height : State → ℕ
height s = (at s 0).level

abbrev pub start : State
start = record { blocks = shape 1 0 1 ∷ shape 0 0 0 ∷ []; updates = 0; moves = 0; writes = 0 }

-- what each step leaves, with the new loads as it gives them
abbrev pub after_cut : State → ℕ → ℕ → State
after_cut s m₁ m₂ =
    record {
      blocks = set s.blocks 0 (shape (suc (height s)) 0 2) ++ (shape (height s) m₁ 4 ∷ shape (height s) m₂ 4 ∷ []);
      updates = s.updates;
      moves = s.moves;
      writes = s.writes + 2;
    }

abbrev pub after_join : State → ℕ → State
after_join s m =
    record {
      blocks = set s.blocks 0 (shape (height s) m (at s 0).children);
      updates = s.updates + 1;
      moves = s.moves;
      writes = s.writes;
    }

abbrev pub after_split : State → ℕ → ℕ → ℕ → ℕ → ℕ → ℕ → State
after_split s p c m₁ k₁ m₂ k₂ =
    record {
      blocks = set (set s.blocks p (shape (at s p).level (at s p).load ((at s p).children + 1))) c (shape (at s c).level m₁ k₁)
          ++ (shape (at s c).level m₂ k₂ ∷ []);
      updates = s.updates;
      moves = s.moves;
      writes = s.writes + 1;
    }

abbrev pub after_move : State → ℕ → ℕ → ℕ → State
after_move s p c m =
    record {
      blocks = set (set s.blocks p (shape (at s p).level ((at s p).load - 16) (at s p).children)) c (shape (at s c).level m (at s c).children);
      updates = s.updates;
      moves = s.moves + 1;
      writes = s.writes + 1;
    }

-- p is the parent's block number and c the child's, not the root's
pub record Pair (s : State) (p c : ℕ) : Type 0 where
  pub p_in : p < length s.blocks
  pub c_in : c < length s.blocks
  pub c_low : 0 < c
  pub below : (at s p).level ≡ suc (at s c).level

pub data Step (s : State) : State → Type 0 where
  cut : (m₁ m₂ : ℕ) → (at s 0).children ≡ 8 → m₁ + m₂ ≡ (at s 0).load → Step s (after_cut s m₁ m₂)
  join : (m : ℕ) → m ≤ (at s 0).load + 1 → Step s (after_join s m)
  split_inner : (p c m₁ m₂ : ℕ) → Pair s p c → 0 < (at s c).level → (at s c).children ≡ 8 → m₁ + m₂ ≡ (at s c).load
      → Step s (after_split s p c m₁ 4 m₂ 4)
  split_leaf : (p c m₁ m₂ : ℕ) → Pair s p c → (at s c).level ≡ 0 → (at s c).children ≡ 0 → 240 < (at s c).load → m₁ + m₂ ≡ (at s c).load
      → 120 ≤ m₁ → 120 ≤ m₂ → Step s (after_split s p c m₁ 0 m₂ 0)
  move : (p c m : ℕ) → Pair s p c → 16 ≤ (at s p).load → m ≤ (at s c).load + 16 → Step s (after_move s p c m)

-- What is shown of every state that a run from the start reaches.
pub record Worn (s : State) : Type 0 where
  pub pace : 16 * s.writes ≤ s.updates * (height s + 1)
  pub tall : 2 ≤ height s → 113 * (2 * 4 ^ (height s - 1) - 1) ≤ s.updates
  pub room : 226 * (length s.blocks - 2) ≤ 3 * s.updates
