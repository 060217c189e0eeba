-- What a tree holds for a key, and what a list of messages says of it.
use Rattle.std.specs.Prelude.{ℕ, zero, suc, cond, List, [], ◌∷◌, None, Option, ◌==◌}
use Rattle.messages.specs.Algebra.{Algebra}
use Rattle.messages.specs.Lists.{find}
use Rattle.messages.specs.Messages.{effect}
use Rattle.messages.specs.declared.entry.Entry.{Entry}
use Rattle.messages.specs.declared.message.Message.{Message}
use Rattle.tree.specs.Nodes.{Node, node, child, height}

-- what the messages of a list make of what one key holds, in their order
abbrev pub acts : Algebra → ℕ → List (Entry Message) → Option ℕ → Option ℕ
acts K k [] o = o
acts K k (x ∷ xs) o = acts K k xs (cond (x.key == k) (effect K x.value o) o)

-- what stands for a key under a block of level l: the leaf's record, and on it the messages on the way, the lowest first
abbrev pub look : Algebra → ℕ → List Node → ℕ → ℕ → Option ℕ
look K zero a b k = find k (node a b).records
look K (suc l) a b k = acts K k (node a b).messages (look K l a (child (node a b).frame k) k)

-- what stands for a key in the tree
abbrev pub lookup : Algebra → List Node → ℕ → Option ℕ
lookup K a k = look K (height a) a 0 k

-- what messages, the newest first, say of a key that was absent before them
abbrev pub said : Algebra → ℕ → List (Entry Message) → Option ℕ
said K k [] = None
said K k (x ∷ h) = cond (x.key == k) (effect K x.value (said K k h)) (said K k h)
