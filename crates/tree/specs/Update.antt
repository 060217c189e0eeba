-- The whole update, with its choices and its counted writes, and the trees that updates grow.
use Rattle.std.specs.Prelude.{ℕ, zero, suc, ◌+◌, Bool, cond, List, [], ◌∷◌, length, ◌==◌, nat_le, nat_lt, slice_index}
use Rattle.messages.specs.Algebra.{Algebra}
use Rattle.messages.specs.Lists.{pending}
use Rattle.messages.specs.declared.entry.Entry.{Entry}
use Rattle.messages.specs.declared.message.Message.{Message}
use Rattle.tree.specs.Limits.{most_entries, roomy_leaf, most_children}
use Rattle.tree.specs.Nodes.{Node, node, height}
use Rattle.tree.specs.Operations.{fresh, joined, split_key, split_child, cut_root, moved}

-- ---- the choice of the child
-- how many of the messages xs are pending for the child c, and for each of several
abbrev pub pending_for : List Node → List (Entry Message) → ℕ → ℕ
pending_for a xs c = pending (node a c).frame.low (node a c).frame.high xs

abbrev pub pending_counts : List Node → List (Entry Message) → List ℕ → List ℕ
pending_counts a xs [] = []
pending_counts a xs (c ∷ cs) = pending_for a xs c ∷ pending_counts a xs cs

-- the place of the largest number, the first at a tie
abbrev pub largest : List ℕ → ℕ
largest [] = 0
largest (x ∷ xs) = cond (nat_le (slice_index xs (largest xs)) x) 0 (suc (largest xs))

-- the place of the child of p with most pending messages, the lowest at a tie, and that child
abbrev pub busiest_place : List Node → ℕ → ℕ
busiest_place a p = largest (pending_counts a (node a p).messages (node a p).frame.children)

abbrev pub busiest_child : List Node → ℕ → ℕ
busiest_child a p = slice_index (node a p).frame.children (busiest_place a p)

-- ---- the split, if one is due
-- a leaf of more than 240 records is full, and an inner node of 8 children
abbrev pub full_at : ℕ → Node → Bool
full_at zero x = nat_lt roomy_leaf (length x.records)
full_at (suc l) x = length x.frame.children == most_children

abbrev pub is_full : Node → Bool
is_full x = full_at x.frame.level x

-- whether the upper half of c has more messages of p pending than the lower
abbrev pub upper_goes_on : List Node → ℕ → ℕ → Bool
upper_goes_on a p c =
    let q = split_key (node a c).frame.level (node a c) in
    nat_lt (pending (node a c).frame.low q (node a p).messages) (pending q (node a c).frame.high (node a p).messages)

-- the tree after a split if one is due, and the block that messages go to
abbrev pub prepared : List Node → ℕ → List Node
prepared a p = cond (is_full (node a (busiest_child a p))) (split_child a p (busiest_place a p) (busiest_child a p)) a

abbrev pub target : List Node → ℕ → ℕ
target a p =
    cond (is_full (node a (busiest_child a p))) (cond (upper_goes_on a p (busiest_child a p)) (length a) (busiest_child a p)) (busiest_child a p)

-- ---- the steps
abbrev pub after_step : Algebra → List Node → ℕ → List Node
after_step K a p = moved K (prepared a p) p (target a p)

-- steps from the current node p, of level l, on: while it has more than 256 messages
abbrev pub run_steps : Algebra → ℕ → List Node → ℕ → List Node
run_steps K zero a p = a
run_steps K (suc l) a p = cond (nat_lt most_entries (length (node a p).messages)) (run_steps K l (after_step K a p) (target a p)) a

-- how many steps, and so batches, that is
abbrev pub steps_made : Algebra → ℕ → List Node → ℕ → ℕ
steps_made K zero a p = 0
steps_made K (suc l) a p = cond (nat_lt most_entries (length (node a p).messages)) (suc (steps_made K l (after_step K a p) (target a p))) 0

-- a root of 8 children is cut
abbrev pub raised : List Node → List Node
raised a = cond (length (node a 0).frame.children == most_children) (cut_root a) a

abbrev pub update : Algebra → ℕ → Message → List Node → List Node
update K k m a = run_steps K (height (raised a)) (joined K k m (raised a)) 0

abbrev pub batches : Algebra → ℕ → Message → List Node → ℕ
batches K k m a = steps_made K (height (raised a)) (joined K k m (raised a)) 0

-- ---- the writes
-- each step writes the half that does not go on, if it split; a current node is written once its steps are done, unless it is the root.
-- `own` is what the current node's own write counts: 0 for the root, else 1
abbrev pub step_writes : Algebra → ℕ → List Node → ℕ → ℕ → ℕ
step_writes K zero a p own = own
step_writes K (suc l) a p own =
    cond (nat_lt most_entries (length (node a p).messages))
    (cond (is_full (node a (busiest_child a p))) 1 0 + own + step_writes K l (after_step K a p) (target a p) 1)
    own

-- a cut writes both halves
abbrev pub writes : Algebra → ℕ → Message → List Node → ℕ
writes K k m a =
    cond (length (node a 0).frame.children == most_children) 2 0 + step_writes K (height (raised a)) (joined K k m (raised a)) 0 0

-- ---- the trees that updates grow
-- the tree after messages, the newest first, from a fresh one
abbrev pub grown : Algebra → List (Entry Message) → List Node
grown K [] = fresh
grown K (e ∷ h) = update K e.key e.value (grown K h)

-- the tree writes of those updates
abbrev pub tree_writes : Algebra → List (Entry Message) → ℕ
tree_writes K [] = 0
tree_writes K (e ∷ h) = tree_writes K h + writes K e.key e.value (grown K h)

-- and the batches that they moved
abbrev pub batches_moved : Algebra → List (Entry Message) → ℕ
batches_moved K [] = 0
batches_moved K (e ∷ h) = batches_moved K h + batches K e.key e.value (grown K h)
