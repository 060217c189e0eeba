-- What it means that a store holds the tree of its messages.
use Rattle.std.specs.Prelude.{◌≡◌, ◌%◌, ◌^◌, ◌≤◌, List, length, Some, None}
use Rattle.messages.specs.Algebra.{Algebra}
use Rattle.messages.specs.declared.entry.Entry.{Entry}
use Rattle.messages.specs.declared.message.Message.{Message}
use Rattle.nodes.specs.Roots.{Root, root_block}
use Rattle.node_ops.specs.CodeOf.{code_of}
use Rattle.plan.specs.Images.{Image}
use Rattle.rules.specs.declared.mark.Mark.TheVariants.{Closed}
use Rattle.bridge.specs.Laws.{OnDevice}
use Rattle.bridge.specs.Stored.{Stored}
use Rattle.bridge.specs.Work.{AllSound}
use Rattle.store_plan.specs.Contents.{Contents}
use Rattle.store_plan.specs.Openings.{figures_of}
use Rattle.tree.specs.Laws.{Keys}
use Rattle.tree.specs.Nodes.{node, next_free}
use Rattle.tree.specs.Update.{grown, tree_writes}

-- the root of the tree of the messages h, the newest first, with the counts of the updates that brought them
abbrev pub root_of_tree : Algebra → List (Entry Message) → Root
root_of_tree K h = record {
  node = node (grown K h) 0;
  kind = K.number;
  next_free = next_free (grown K h);
  updates = length h;
  tree_writes = tree_writes K h % 2 ^ 64;
}

-- an open store of the kind K holds the tree of the messages h: the root in memory, each other node in its block, and all blocks are sound
pub record Holds (K : Algebra) (c : Contents) (h : List (Entry Message)) : Type 0 where
  pub root_is : c.root ≡ Some (root_of_tree K h)
  pub not_stopped : c.first ≡ None
  pub figures_are : c.figures ≡ figures_of (root_of_tree K h)
  pub stored : Stored (code_of K) c.image (grown K h)
  pub on_device : OnDevice c.image (grown K h)
  pub sound : AllSound c.image
  pub keys : Keys h
  pub few_updates : length h ≤ 4294967296

-- a closed store of the kind K on an image rests there with the tree of the messages h: its root stands closed in block 0
pub record Rests (K : Algebra) (d : Image) (h : List (Entry Message)) : Type 0 where
  pub root_block_is : d.bytes 0 ≡ root_block Closed (root_of_tree K h)
  pub stored : Stored (code_of K) d (grown K h)
  pub on_device : OnDevice d (grown K h)
  pub sound : AllSound d
  pub keys : Keys h
  pub few_updates : length h ≤ 4294967296
