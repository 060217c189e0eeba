-- Blocks and nodes come back from one another.
use Rattle.std.specs.Prelude.{◌≡◌, ℕ, ◌+◌, ◌^◌, ◌<◌, ◌≤◌, true, List, [], map, length, None}
use Rattle.std.specs.List.{AllByRecursion}
use Rattle.rows.specs.Bytes.{Bytes}
use Rattle.rows.specs.Coding.{number}
use Rattle.rows.specs.Entries.{record_coding, message_entry_coding}
use Rattle.tree.specs.Nodes.{Node}
use Rattle.nodes.specs.Blocks.{count_of, header_of, node_block, node_of}
use Rattle.nodes.specs.Checks.{node_fault, root_fault}
use Rattle.rules.specs.HeaderRules.{children_fit, root_children_fit, within}
use Rattle.rules.specs.Keys.{rising, numbers_below}
use Rattle.rules.specs.Marks.{mark_of}
use Rattle.nodes.specs.Roots.{Root, root_block, root_of}
use Rattle.rules.specs.declared.mark.Mark.{Mark}
use Rattle.rules.specs.declared.place.Place.{Place}

-- a block's worth of bytes
abbrev pub Block : List ℕ → Type 0
Block bs = (length bs ≡ 4096) × Bytes bs

-- what a node has to hold at a place for its tables to break no rule
pub record FitsPlace (p : Place) (x : Node) : Type 0 where
  pub level_is : x.frame.level ≡ p.level
  pub low_is : x.frame.low ≡ p.span.low
  pub high_is : x.frame.high ≡ p.span.high
  -- at most 256 messages or records, and 8 children
  pub few : count_of x ≤ 256
  pub few_children : length x.frame.children ≤ 8
  -- a leaf has only records, an inner node none, and one pivot fewer than children
  pub leaf_plain : p.level ≡ 0 → (x.frame.pivots ≡ []) × (x.frame.children ≡ []) × (x.messages ≡ [])
  pub inner_plain : 0 < p.level → x.records ≡ []
  pub pivots_between : 0 < p.level → length x.frame.pivots + 1 ≡ length x.frame.children
  -- pivots and keys rise strictly, inside the span, and child numbers are in range
  pub pivots_rise : rising p.span.low p.span.high x.frame.pivots ≡ true
  pub children_below : numbers_below p.next_free x.frame.children ≡ true
  pub messages_rise : rising p.span.low p.span.high (map (λ e. e.key) x.messages) ≡ true
  pub records_rise : rising p.span.low p.span.high (map (λ e. e.key) x.records) ≡ true
  -- numbers fit their width
  pub pivots_fit : AllByRecursion (λ n. (number 4).fits n ≡ true) x.frame.pivots
  pub children_fit : AllByRecursion (λ n. (number 4).fits n ≡ true) x.frame.children
  pub messages_fit : AllByRecursion (λ e. message_entry_coding.fits e ≡ true) x.messages
  pub records_fit : AllByRecursion (λ e. record_coding.fits e ≡ true) x.records

-- a node below the root that breaks no rule at a place
pub record GoodNode (p : Place) (x : Node) : Type 0 where
  pub tables : FitsPlace p x
  pub children : children_fit p.level (length x.frame.children) ≡ true
  pub level_fits : p.level < 256
  pub kind_fits : p.kind < 256

-- where a root stands
abbrev pub place_of_root : Root → Place
place_of_root x = record { level = x.node.frame.level; span = record { low = 0; high = 4294967296 }; kind = x.kind; next_free = x.next_free }

-- a root that breaks no rule on a device of a size
pub record GoodRoot (size : ℕ) (x : Root) : Type 0 where
  pub tables : FitsPlace (place_of_root x) x.node
  pub level : within 1 8 x.node.frame.level ≡ true
  pub children : root_children_fit x.node.frame.level (length x.node.frame.children) ≡ true
  pub next_free : within 2 size x.next_free ≡ true
  pub updates : x.updates ≤ 4294967296
  -- numbers fit their width
  pub next_free_fits : x.next_free < 256 ^ 4
  pub tree_writes_fit : x.tree_writes < 256 ^ 8
  pub kind_fits : x.kind < 256

-- a good node is read back from its block, and a block that breaks no rule is that of the node read from it, which is good
pub record NodeBlocksRoundTrip : Type 0 where
  pub node_back : (p : Place) (x : Node) → GoodNode p x → (node_fault p (node_block p.kind x) ≡ None) × (node_of p (header_of (node_block p.kind x)) (node_block p.kind x) ≡ x)
  pub block_back : (p : Place) (bs : List ℕ) → Block bs → node_fault p bs ≡ None → node_block p.kind (node_of p (header_of bs) bs) ≡ bs
  pub node_good : (p : Place) (bs : List ℕ) → Block bs → node_fault p bs ≡ None → GoodNode p (node_of p (header_of bs) bs)

-- the same of the root, whatever its mark
pub record RootBlocksRoundTrip : Type 0 where
  pub root_back : (size : ℕ) (mark : Mark) (x : Root) → GoodRoot size x → (root_fault size (root_block mark x) ≡ None) × (root_of (root_block mark x) ≡ x) × (mark_of (header_of (root_block mark x)).mark ≡ mark)
  pub block_back : (size : ℕ) (bs : List ℕ) → Block bs → root_fault size bs ≡ None → root_block (mark_of (header_of bs).mark) (root_of bs) ≡ bs
  pub root_good : (size : ℕ) (bs : List ℕ) → Block bs → root_fault size bs ≡ None → GoodRoot size (root_of bs)
