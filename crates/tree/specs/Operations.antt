-- The operations that an update is made of: a message joins the root, the root is cut, a child is split, a batch moves down.
use Rattle.std.specs.Prelude.{ℕ, zero, suc, ◌+◌, ◌/◌, ◌^◌, List, [], ◌∷◌, ◌++◌, length, take, drop, slice_index, slice_set}
use Rattle.messages.specs.Algebra.{Algebra}
use Rattle.messages.specs.Lists.{join_in, joins, acts_in, below, batch, rest}
use Rattle.messages.specs.declared.entry.Entry.{Entry}
use Rattle.messages.specs.declared.message.Message.{Message}
use Rattle.tree.specs.Nodes.{Node, node}

-- a tree just made: a root of level 1 over one empty leaf
abbrev pub fresh : List Node
fresh =
    record { frame = record { level = 1; low = 0; high = 2 ^ 32; pivots = []; children = 1 ∷ [] }; messages = []; records = [] }
    ∷ record { frame = record { level = 0; low = 0; high = 2 ^ 32; pivots = []; children = [] }; messages = []; records = [] }
    ∷ []

-- ---- a message joins the root
abbrev pub with_message : Algebra → ℕ → Message → Node → Node
with_message K k m x = record { frame = x.frame; messages = join_in K k m x.messages; records = x.records }

abbrev pub joined : Algebra → ℕ → Message → List Node → List Node
joined K k m a = slice_set a 0 (with_message K k m (node a 0))

-- ---- the two halves of a node
-- an inner node at its pivot at place i: the first i + 1 children with the pivots between them and the messages below that pivot, and the others
abbrev pub lower_inner : ℕ → Node → Node
lower_inner i x = record {
  frame = record {
    level = x.frame.level;
    low = x.frame.low;
    high = slice_index x.frame.pivots i;
    pivots = take i x.frame.pivots;
    children = take (suc i) x.frame.children;
  };
  messages = take (below (slice_index x.frame.pivots i) x.messages) x.messages;
  records = x.records;
}

abbrev pub upper_inner : ℕ → Node → Node
upper_inner i x = record {
  frame = record {
    level = x.frame.level;
    low = slice_index x.frame.pivots i;
    high = x.frame.high;
    pivots = drop (suc i) x.frame.pivots;
    children = drop (suc i) x.frame.children;
  };
  messages = drop (below (slice_index x.frame.pivots i) x.messages) x.messages;
  records = x.records;
}

abbrev pub key_at : ℕ → List (Entry ℕ) → ℕ
key_at i [] = 0
key_at zero (x ∷ xs) = x.key
key_at (suc i) (x ∷ xs) = key_at i xs

-- a leaf at its record at place i: the first i records, and the others
abbrev pub lower_leaf : ℕ → Node → Node
lower_leaf i x = record {
  frame = record { level = x.frame.level; low = x.frame.low; high = key_at i x.records; pivots = x.frame.pivots; children = x.frame.children };
  messages = x.messages;
  records = take i x.records;
}

abbrev pub upper_leaf : ℕ → Node → Node
upper_leaf i x = record {
  frame = record { level = x.frame.level; low = key_at i x.records; high = x.frame.high; pivots = x.frame.pivots; children = x.frame.children };
  messages = x.messages;
  records = drop i x.records;
}

-- the first half of the records, the odd one included
abbrev pub half_length : List (Entry ℕ) → ℕ
half_length xs = (length xs + 1) / 2

-- the key at which a node of level l is split: the first key of the upper records, or the fourth pivot
abbrev pub split_key : ℕ → Node → ℕ
split_key zero x = key_at (half_length x.records) x.records
split_key (suc l) x = slice_index x.frame.pivots 3

abbrev pub lower_half : ℕ → Node → Node
lower_half zero x = lower_leaf (half_length x.records) x
lower_half (suc l) x = lower_inner 3 x

abbrev pub upper_half : ℕ → Node → Node
upper_half zero x = upper_leaf (half_length x.records) x
upper_half (suc l) x = upper_inner 3 x

-- ---- a child is split
-- one more at place i of a list
abbrev pub insert : ℕ → ℕ → List ℕ → List ℕ
insert i x xs = take i xs ++ x ∷ drop i xs

-- a node with the new child n, from the key q on, behind the child at place j
abbrev pub with_new_child : ℕ → ℕ → ℕ → Node → Node
with_new_child j q n x = record {
  frame = record {
    level = x.frame.level;
    low = x.frame.low;
    high = x.frame.high;
    pivots = insert j q x.frame.pivots;
    children = insert (suc j) n x.frame.children;
  };
  messages = x.messages;
  records = x.records;
}

-- the child c at place j of p becomes y, and z, from the key q on, comes to the next free block
abbrev pub split : List Node → ℕ → ℕ → ℕ → ℕ → Node → Node → List Node
split a p j c q y z = slice_set (slice_set a p (with_new_child j q (length a) (node a p))) c y ++ z ∷ []

abbrev pub split_child : List Node → ℕ → ℕ → ℕ → List Node
split_child a p j c =
    let x = node a c in
    let l = x.frame.level in
    split a p j c (split_key l x) (lower_half l x) (upper_half l x)

-- ---- the root is cut
-- a root one level higher over the two halves of r at q, in the blocks n and n + 1
abbrev pub new_root : ℕ → ℕ → Node → Node
new_root q n r = record {
  frame = record { level = suc r.frame.level; low = r.frame.low; high = r.frame.high; pivots = q ∷ []; children = n ∷ suc n ∷ [] };
  messages = [];
  records = [];
}

-- y and z come to the next two free blocks, under a new root
abbrev pub cut : List Node → ℕ → Node → Node → List Node
cut a q y z = slice_set a 0 (new_root q (length a) (node a 0)) ++ y ∷ z ∷ []

abbrev pub cut_root : List Node → List Node
cut_root a = cut a (slice_index (node a 0).frame.pivots 3) (lower_inner 3 (node a 0)) (upper_inner 3 (node a 0))

-- ---- a batch moves down
-- a node without the batch for the span from low to high
abbrev pub without_batch : ℕ → ℕ → Node → Node
without_batch low high x = record { frame = x.frame; messages = rest low high x.messages; records = x.records }

-- at a leaf messages act on the records and are gone, at an inner node they join the messages
abbrev pub absorb_messages : Algebra → ℕ → List (Entry Message) → List (Entry Message) → List (Entry Message)
absorb_messages K zero xs bs = xs
absorb_messages K (suc l) xs bs = joins K xs bs

abbrev pub absorb_records : Algebra → ℕ → List (Entry ℕ) → List (Entry Message) → List (Entry ℕ)
absorb_records K zero xs bs = acts_in K xs bs
absorb_records K (suc l) xs bs = xs

abbrev pub absorb : Algebra → List (Entry Message) → Node → Node
absorb K bs x = record {
  frame = x.frame;
  messages = absorb_messages K x.frame.level x.messages bs;
  records = absorb_records K x.frame.level x.records bs;
}

-- the batch that goes from p to its child c
abbrev pub moving_batch : List Node → ℕ → ℕ → List (Entry Message)
moving_batch a p c = batch (node a c).frame.low (node a c).frame.high (node a p).messages

abbrev pub moved : Algebra → List Node → ℕ → ℕ → List Node
moved K a p c =
    slice_set (slice_set a p (without_batch (node a c).frame.low (node a c).frame.high (node a p))) c (absorb K (moving_batch a p c) (node a c))
