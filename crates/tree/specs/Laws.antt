-- The laws of every tree that updates grow from a fresh one. Each is the contract of a function in src/lib.rt.
use Rattle.std.specs.Prelude.{◌≡◌, ℕ, zero, suc, ◌+◌, ◌-◌, ◌*◌, ◌%◌, ◌^◌, ◌<◌, ◌≤◌, min, true, false, cond, ◌≢◌, List, [], ◌∷◌, ◌++◌, length, ℤ, pos, ◌+ℤ◌, Some, None, Option, ◌==◌, slice_index, unsigned_abs}
use Rattle.messages.specs.Algebra.{Algebra}
use Rattle.messages.specs.Lists.{entry, find, pending, batch_size, most_moving, Within}
use Rattle.messages.specs.Messages.{effect}
use Rattle.messages.specs.Quantity.{quantity_algebra}
use Rattle.messages.specs.Words.{signed}
use Rattle.messages.specs.declared.entry.Entry.{Entry}
use Rattle.messages.specs.declared.message.Message.{Message}
use Rattle.messages.specs.declared.message.Message.TheVariants.{Put, Remove, Add}
use Rattle.tree.specs.Limits.{most_entries}
use Rattle.tree.specs.Lookup.{lookup, said}
use Rattle.tree.specs.Nodes.{Frame, Node, node, height, next_free}
use Rattle.tree.specs.Operations.{joined, split_key, lower_half, upper_half}
use Rattle.tree.specs.Query.{query, messages_met, unsettled, Page, page, leaf_frame, entries}
use Rattle.tree.specs.Shape.{GoodTree}
use Rattle.tree.specs.Update.{pending_for, busiest_place, busiest_child, is_full, prepared, target, after_step, raised, update, writes, grown, tree_writes, batches_moved}

-- all keys are below 2^32
abbrev pub Keys : List (Entry Message) → Type 0
Keys [] = Unit {0}
Keys (e ∷ h) = (e.key < 2 ^ 32) × Keys h

-- ---- map
-- what stands for the key, and what a query finds, is what the messages say of it; the query reads one block for each node on the way that
-- settles nothing, so at most as many as the tree is high
pub record QueryAnswer (K : Algebra) (h : List (Entry Message)) (k : ℕ) : Type 0 where
  pub stands : lookup K (grown K h) k ≡ said K k h
  pub value : (query K (grown K h) k).value ≡ said K k h
  pub reads : (query K (grown K h) k).reads ≡ unsettled (messages_met (height (grown K h)) (grown K h) 0 k)
  pub reads_at_most : (query K (grown K h) k).reads ≤ height (grown K h)

abbrev pub MapLaw : Type 0
MapLaw = (K : Algebra) (h : List (Entry Message)) → Keys h → (k : ℕ) → k < 2 ^ 32 → QueryAnswer K h k

-- ---- one update
-- the message acts on what stood for its key, and every other key stands as before
pub record UpdateEffect (K : Algebra) (a : List Node) (k : ℕ) (m : Message) : Type 0 where
  pub here : lookup K (update K k m a) k ≡ effect K m (lookup K a k)
  pub elsewhere : (j : ℕ) → j < 2 ^ 32 → j ≢ k → lookup K (update K k m a) j ≡ lookup K a j

abbrev pub UpdateLaw : Type 0
UpdateLaw = (K : Algebra) (h : List (Entry Message)) → Keys h → (k : ℕ) (m : Message) → k < 2 ^ 32 → UpdateEffect K (grown K h) k m

-- ---- page
-- the page r from first to last, at a leaf with the frame f: exactly the present keys from first up to last or the end of the leaf's span, rising,
-- with what the messages say
pub record PageAnswer (K : Algebra) (h : List (Entry Message)) (first last : ℕ) (f : Frame) (r : Page) : Type 0 where
  -- the leaf's span holds the first key
  pub span_from : f.low ≤ first
  pub span_upto : first < f.high
  pub rising : Within first (min (suc last) f.high) r.entries
  pub exact : (k : ℕ) → first ≤ k → k ≤ last → k < f.high → find k r.entries ≡ said K k h
  -- the first key past the span, if that is at most last
  pub next_none : last < f.high → r.next ≡ None
  pub next_some : f.high ≤ last → r.next ≡ Some f.high
  pub reads : r.reads ≡ height (grown K h)
  -- the leaf's records, and the messages of each level above it
  pub few : length r.entries ≤ most_entries * (height (grown K h) + 1)
  pub table : height (grown K h) ≤ 8 → length r.entries ≤ 2304

abbrev pub PageLaw : Type 0
PageLaw = (K : Algebra) (h : List (Entry Message)) → Keys h → (first last : ℕ) → first ≤ last → last < 2 ^ 32
    → let a = grown K h in PageAnswer K h first last (leaf_frame a first) (page K a first last)

-- ---- total
-- page by page every present key of the range is met once, in rising order
pub record TotalAnswer (K : Algebra) (h : List (Entry Message)) (first last : ℕ) : Type 0 where
  pub rising : Within first (suc last) (entries K (grown K h) first last)
  pub exact : (k : ℕ) → first ≤ k → k ≤ last → find k (entries K (grown K h) first last) ≡ said K k h

abbrev pub TotalLaw : Type 0
TotalLaw = (K : Algebra) (h : List (Entry Message)) → Keys h → (first last : ℕ) → first ≤ last → last < 2 ^ 32 → TotalAnswer K h first last

-- the sum of the words as they stand, and of the numbers that they mean
abbrev pub sum_of_words : List (Entry ℕ) → ℕ
sum_of_words [] = 0
sum_of_words (x ∷ xs) = x.value + sum_of_words xs

abbrev pub sum_of_numbers : List (Entry ℕ) → ℤ
sum_of_numbers [] = pos 0
sum_of_numbers (x ∷ xs) = signed x.value +ℤ sum_of_numbers xs

-- a message of an amount within ±m
abbrev pub Amount : ℕ → Message → Type 0
Amount m (Put v) = (v < 2 ^ 64) × (unsigned_abs (signed v) ≤ m)
Amount m Remove = Unit {0}
Amount m (Add d) = (d < 2 ^ 64) × (unsigned_abs (signed d) ≤ m)

abbrev pub Amounts : ℕ → List (Entry Message) → Type 0
Amounts m [] = Unit {0}
Amounts m (e ∷ h) = Amount m e.value × Amounts m h

-- what messages of amounts, the newest first, say of a key in true numbers, which never wrap
abbrev pub numbered : Message → Option ℤ → Option ℤ
numbered (Put v) o = Some (signed v)
numbered Remove o = None
numbered (Add d) None = Some (signed d)
numbered (Add d) (Some z) = Some (z +ℤ signed d)

abbrev pub number_said : ℕ → List (Entry Message) → Option ℤ
number_said k [] = None
number_said k (e ∷ h) = cond (e.key == k) (numbered e.value (number_said k h)) (number_said k h)

abbrev pub meaning : Option ℕ → Option ℤ
meaning None = None
meaning (Some w) = Some (signed w)

-- with amounts of at most 10^9 and at most 2^32 updates: each quantity, read as signed, is the true number; and the words of a range, added modulo
-- 2^64 and read as signed, give the true sum
pub record Exact (h : List (Entry Message)) : Type 0 where
  pub quantities : (k : ℕ) → meaning (said quantity_algebra k h) ≡ number_said k h
  pub sums : (first last : ℕ) → first ≤ last → last < 2 ^ 32
      → let xs = entries quantity_algebra (grown quantity_algebra h) first last in signed (sum_of_words xs % 2 ^ 64) ≡ sum_of_numbers xs

abbrev pub SumLaw : Type 0
SumLaw = (h : List (Entry Message)) → Keys h → Amounts (10 ^ 9) h → length h ≤ 2 ^ 32 → Exact h

-- ---- shape
abbrev pub ShapeLaw : Type 0
ShapeLaw = (K : Algebra) (h : List (Entry Message)) → Keys h → GoodTree (grown K h)

-- each step from the node p, of level l, on moves a full batch of 16 messages
abbrev pub FullBatches : Algebra → ℕ → List Node → ℕ → Type 0
FullBatches K zero a p = Unit {0}
FullBatches K (suc l) a p =
    most_entries < length (node a p).messages
    → (batch_size (node (prepared a p) (target a p)).frame.low (node (prepared a p) (target a p)).frame.high (node (prepared a p) p).messages ≡ most_moving)
    × FullBatches K l (after_step K a p) (target a p)

abbrev pub BatchLaw : Type 0
BatchLaw = (K : Algebra) (h : List (Entry Message)) → Keys h → (k : ℕ) (m : Message) → k < 2 ^ 32
    → let a = raised (grown K h) in FullBatches K (height a) (joined K k m a) 0

-- ---- choices
-- the messages of p pending for the lower and for the upper half of c
abbrev pub pending_below : List Node → ℕ → ℕ → ℕ
pending_below a p c = pending (node a c).frame.low (split_key (node a c).frame.level (node a c)) (node a p).messages

abbrev pub pending_above : List Node → ℕ → ℕ → ℕ
pending_above a p c = pending (split_key (node a c).frame.level (node a c)) (node a c).frame.high (node a p).messages

-- messages go to the child of p with most of them pending, the lowest at a tie; of a full child, to the half with more, the lower at a tie
pub record Choice (a : List Node) (p : ℕ) : Type 0 where
  pub place_in : busiest_place a p < length (node a p).frame.children
  pub most : (i : ℕ) → i < length (node a p).frame.children
      → pending_for a (node a p).messages (slice_index (node a p).frame.children i) ≤ pending_for a (node a p).messages (busiest_child a p)
  pub lowest : (i : ℕ) → i < busiest_place a p
      → pending_for a (node a p).messages (slice_index (node a p).frame.children i) < pending_for a (node a p).messages (busiest_child a p)
  pub not_full : is_full (node a (busiest_child a p)) ≡ false → target a p ≡ busiest_child a p
  pub upper : is_full (node a (busiest_child a p)) ≡ true → pending_below a p (busiest_child a p) < pending_above a p (busiest_child a p) → target a p ≡ next_free a
  pub lower : is_full (node a (busiest_child a p)) ≡ true → pending_above a p (busiest_child a p) ≤ pending_below a p (busiest_child a p) → target a p ≡ busiest_child a p

abbrev pub ChoiceLaw : Type 0
ChoiceLaw = (a : List Node) (p : ℕ) → 0 < length (node a p).frame.children → Choice a p

-- a leaf is split into two halves of its records, the odd one in the lower
pub record LeafHalves (x : Node) : Type 0 where
  pub records_kept : (lower_half 0 x).records ++ (upper_half 0 x).records ≡ x.records
  pub even : length x.records % 2 ≡ 0 → length (lower_half 0 x).records ≡ length (upper_half 0 x).records
  pub odd : length x.records % 2 ≡ 1 → length (lower_half 0 x).records ≡ length (upper_half 0 x).records + 1

-- an inner node of 8 children is split into 4 and 4 at the pivot between them, and its messages with them
pub record InnerHalves (l : ℕ) (x : Node) : Type 0 where
  pub lower_children : length (lower_half (suc l) x).frame.children ≡ 4
  pub upper_children : length (upper_half (suc l) x).frame.children ≡ 4
  pub children_kept : (lower_half (suc l) x).frame.children ++ (upper_half (suc l) x).frame.children ≡ x.frame.children
  pub pivots_kept : (lower_half (suc l) x).frame.pivots ++ split_key (suc l) x ∷ (upper_half (suc l) x).frame.pivots ≡ x.frame.pivots
  pub messages_kept : (lower_half (suc l) x).messages ++ (upper_half (suc l) x).messages ≡ x.messages

pub record SplitLaw : Type 0 where
  pub leaves : (x : Node) → LeafHalves x
  pub inner_nodes : (l : ℕ) (x : Node) → length x.frame.children ≡ 8 → length x.frame.pivots ≡ 7 → InnerHalves l x

-- ---- wear
pub record Wear (K : Algebra) (h : List (Entry Message)) : Type 0 where
  -- each write is of a node that sent or took a batch, or of a new block: one for each batch moved, and one for each block beyond the first two
  pub counted : tree_writes K h + 2 ≡ batches_moved K h + next_free (grown K h)
  -- 16 updates cost at most as many writes as the tree has levels, the leaves' included
  pub pace : 16 * tree_writes K h ≤ length h * (height (grown K h) + 1)
  -- and many updates are needed for a high tree
  pub tall : 2 ≤ height (grown K h) → 113 * (2 * 4 ^ (height (grown K h) - 1) - 1) ≤ length h

abbrev pub WearLaw : Type 0
WearLaw = (K : Algebra) (h : List (Entry Message)) → Keys h → Wear K h

-- what one update costs at most, by the height before it: writes, and blocks taken
pub record Cost (K : Algebra) (a : List Node) (k : ℕ) (m : Message) : Type 0 where
  pub writes_at_most : writes K k m a ≤ 2 * height a
  pub blocks_at_most : next_free (update K k m a) ≤ next_free a + (height a + 1)

abbrev pub CostLaw : Type 0
CostLaw = (K : Algebra) (h : List (Entry Message)) → Keys h → (k : ℕ) (m : Message) → k < 2 ^ 32 → Cost K (grown K h) k m

-- ---- a known run
-- puts of the value v to the keys 1 to n, rising
abbrev pub rising_keys : ℕ → ℕ → List (Entry Message)
rising_keys v zero = []
rising_keys v (suc n) = entry (suc n) (Put v) ∷ rising_keys v n

pub record KnownRun (K : Algebra) (v : ℕ) : Type 0 where
  pub writes_are : tree_writes K (rising_keys v 513) ≡ 18
  pub height_is : height (grown K (rising_keys v 513)) ≡ 1
  pub next_is : next_free (grown K (rising_keys v 513)) ≡ 3
