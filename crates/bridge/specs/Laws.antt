-- The laws of blocks that hold a tree: what is done to the blocks is what is done to the tree. Each is the contract of a function in src/lib.rt.
use Rattle.std.specs.Prelude.{◌≡◌, ℕ, ◌+◌, ◌%◌, ◌^◌, ◌<◌, ◌≤◌, List, [], None}
use Rattle.blocks.specs.Media.{most_blocks}
use Rattle.messages.specs.declared.entry.Entry.{Entry}
use Rattle.messages.specs.declared.message.Message.{Message}
use Rattle.plan.specs.Codes.{Code}
use Rattle.plan.specs.Images.{Image}
use Rattle.plan.specs.Images.Try.{done}
use Rattle.plan.specs.Pages.{Paged, page_from}
use Rattle.plan.specs.Queries.{Answered, seek}
use Rattle.plan.specs.Steps.{Settled, updated}
use Rattle.tree.specs.Laws.{Keys}
use Rattle.tree.specs.Nodes.{Node, node, height, next_free}
use Rattle.tree.specs.Operations.{fresh}
use Rattle.tree.specs.Query.{query, page}
use Rattle.tree.specs.Update.{raised, update, writes, batches, grown}
use Rattle.bridge.specs.Stored.{most_levels, WordFits, RoundTrip, Stored}
use Rattle.bridge.specs.Work.{AllSound, Work}

-- a tree within the limits of a device and of levels
pub record OnDevice (d : Image) (a : List Node) : Type 0 where
  pub blocks : next_free a ≤ d.size
  pub size_fits : d.size ≤ most_blocks
  pub levels : height a ≤ most_levels

-- ---- a fresh tree
abbrev pub FreshBridge : Type 0 → Type 0
FreshBridge F = (C : Code F) (d : Image) → d.bytes 1 ≡ C.encode (node fresh 1) → Stored C d (grown C.algebra [])

-- ---- an update
-- an update of a tree has room on a device: a block for each level, the root's included, and a level for a root that is cut
pub record Room (d : Image) (a : List Node) : Type 0 where
  pub free_blocks : next_free a + (height a + 1) ≤ d.size
  pub free_level : height (raised a) ≤ most_levels

-- what comes of an update of the tree a on the image d, with w tree writes before: the updated tree, one read for each batch that
-- moves, and just the tree's writes
pub record Updated {F : Type 0} (C : Code F) (d : Image) (w : ℕ) (a : List Node) (k : ℕ) (m : Message) (s : Settled) : Type 0 where
  pub root_is : s.root ≡ node (update C.algebra k m a) 0
  pub next_is : s.next ≡ next_free (update C.algebra k m a)
  pub tree_writes_rise : s.writes ≡ (w + writes C.algebra k m a) % 2 ^ 64
  pub stored : Stored C s.image (update C.algebra k m a)
  pub on_device : OnDevice s.image (update C.algebra k m a)
  pub work : Work d s.image (batches C.algebra k m a) (writes C.algebra k m a) (next_free (update C.algebra k m a))

pub record UpdateCarriesOver {F : Type 0} (C : Code F) (d : Image) (w : ℕ) (a : List Node) (k : ℕ) (m : Message) : Type 0 where
  pub accepted : (s : Settled) → updated C d (next_free a) w (node a 0) k m ≡ done s → Updated C d w a k m s
  pub never_stops : AllSound d → (s : Settled) × (updated C d (next_free a) w (node a 0) k m ≡ done s)

abbrev pub UpdateBridge : Type 0 → Type 0
UpdateBridge F = (C : Code F) → RoundTrip C → (h : List (Entry Message)) → Keys h → let a = grown C.algebra h in
    (d : Image) (w : ℕ) → Stored C d a → OnDevice d a → w < 2 ^ 64 → Room d a → (k : ℕ) (m : Message) → k < 2 ^ 32 → WordFits m → UpdateCarriesOver C d w a k m

-- ---- a query
-- what comes of a query of the tree a on the image d: what the tree holds for the key, and just the blocks read for it
pub record Found {F : Type 0} (C : Code F) (d : Image) (a : List Node) (k : ℕ) (s : Answered) : Type 0 where
  pub value_is : s.value ≡ (query C.algebra a k).value
  pub reads_are : s.reads ≡ (query C.algebra a k).reads
  pub work : Work d s.image (query C.algebra a k).reads 0 0

pub record QueryCarriesOver {F : Type 0} (C : Code F) (d : Image) (a : List Node) (k : ℕ) : Type 0 where
  pub accepted : (s : Answered) → seek C (height a) d (next_free a) (node a 0) k None 0 ≡ done s → Found C d a k s
  pub never_stops : AllSound d → (s : Answered) × (seek C (height a) d (next_free a) (node a 0) k None 0 ≡ done s)

abbrev pub QueryBridge : Type 0 → Type 0
QueryBridge F = (C : Code F) → RoundTrip C → (h : List (Entry Message)) → Keys h → let a = grown C.algebra h in
    (d : Image) → Stored C d a → OnDevice d a → (k : ℕ) → QueryCarriesOver C d a k

-- ---- a page
-- what comes of a page of the tree a on the image d: the tree's page, and just the blocks read for it
pub record PageFound {F : Type 0} (C : Code F) (d : Image) (a : List Node) (first last : ℕ) (s : Paged) : Type 0 where
  pub entries_are : s.entries ≡ (page C.algebra a first last).entries
  pub next_is : s.next ≡ (page C.algebra a first last).next
  pub reads_are : s.reads ≡ (page C.algebra a first last).reads
  pub work : Work d s.image (page C.algebra a first last).reads 0 0

pub record PageCarriesOver {F : Type 0} (C : Code F) (d : Image) (a : List Node) (first last : ℕ) : Type 0 where
  pub accepted : (s : Paged) → page_from C (height a) d (next_free a) (node a 0) first last [] 0 ≡ done s → PageFound C d a first last s
  pub never_stops : AllSound d → (s : Paged) × (page_from C (height a) d (next_free a) (node a 0) first last [] 0 ≡ done s)

abbrev pub PageBridge : Type 0 → Type 0
PageBridge F = (C : Code F) → RoundTrip C → (h : List (Entry Message)) → Keys h → let a = grown C.algebra h in
    (d : Image) → Stored C d a → OnDevice d a → (first last : ℕ) → first ≤ last → last < 2 ^ 32 → PageCarriesOver C d a first last
