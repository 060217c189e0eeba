-- The laws of a store that holds the tree of its messages. Each is the contract of a function in src/lib.rt.
use Rattle.std.specs.Prelude.{◌≡◌, ℕ, ◌^◌, ◌<◌, ◌≤◌, List, [], ◌∷◌, length, Some, None, Option}
use Rattle.blocks.specs.Media.{most_blocks}
use Rattle.messages.specs.Algebra.{Algebra}
use Rattle.messages.specs.Lists.{entry}
use Rattle.messages.specs.declared.entry.Entry.{Entry}
use Rattle.messages.specs.declared.message.Message.{Message}
use Rattle.nodes.specs.Roots.{root_block}
use Rattle.plan.specs.Images.{Image, Try, image_read, image_written}
use Rattle.plan.specs.Images.Try.{done}
use Rattle.rules.specs.declared.mark.Mark.TheVariants.{Closed, InUse}
use Rattle.bridge.specs.Stored.{WordFits}
use Rattle.bridge.specs.Work.{AllSound, Work}
use Rattle.plan.specs.Reports.{store_report}
use Rattle.store_plan.specs.declared.page.Page.{Page as PageReply}
use Rattle.plan.specs.declared.refusal.StoreRefusal.{StoreRefusal}
use Rattle.store_plan.specs.Contents.{Contents, Called}
use Rattle.store_plan.specs.Contents.Answer.{accepted, refused}
use Rattle.store_plan.specs.Openings.{Opened, format_writes, formatted, opened, opening, closed}
use Rattle.store_plan.specs.Pages.{PagedStore, filled, page_refusal, paged_store}
use Rattle.store_plan.specs.Queries.{queried}
use Rattle.store_plan.specs.Updates.{update_refusal, updated_store}
use Rattle.tree.specs.Laws.{PageAnswer}
use Rattle.tree.specs.Lookup.{said}
use Rattle.tree.specs.Nodes.{height, next_free}
use Rattle.tree.specs.Query.{query, Page, page, leaf_frame}
use Rattle.tree.specs.Update.{update, writes, batches, grown}
use Rattle.store_laws.specs.Held.{root_of_tree, Holds, Rests}

-- ---- an update
-- an accepted update: the store holds one message more, after one read for each batch that moves and just the tree's writes
pub record Accepted (K : Algebra) (c : Contents) (h : List (Entry Message)) (k : ℕ) (m : Message) (r : Called (Unit {0})) : Type 0 where
  pub answer_is : r.answer ≡ accepted tt
  pub holds : Holds K r.contents (entry k m ∷ h)
  pub work : Work c.image r.contents.image (batches K k m (grown K h)) (writes K k m (grown K h)) (next_free (update K k m (grown K h)))

-- a refused update leaves the store as it was
pub record Refused (c : Contents) (y : StoreRefusal) (r : Called (Unit {0})) : Type 0 where
  pub answer_is : r.answer ≡ refused (store_report y)
  pub contents_kept : r.contents ≡ c

-- an update is refused or accepted, and never meets a fault
abbrev pub UpdateOutcome : Algebra → Contents → List (Entry Message) → ℕ → Message → Called (Unit {0}) → Option StoreRefusal → Type 0
UpdateOutcome K c h k m r None = Accepted K c h k m r
UpdateOutcome K c h k m r (Some y) = Refused c y r

abbrev pub UpdateLaw : Type 0
UpdateLaw = (K : Algebra) (c : Contents) (h : List (Entry Message)) → Holds K c h → (allowance k : ℕ) (m : Message) → k < 2 ^ 32 → WordFits m
    → UpdateOutcome K c h k m (updated_store K c c.root allowance k m) (update_refusal (root_of_tree K h) c.image.size allowance)

-- ---- a query
-- the answer is what the messages say of the key, after at most as many reads as the tree is high, and the store holds what it held
pub record Answered (K : Algebra) (c : Contents) (h : List (Entry Message)) (k : ℕ) (r : Called (Option ℕ × ℕ)) : Type 0 where
  pub answer_is : r.answer ≡ accepted (said K k h, (query K (grown K h) k).reads)
  pub reads_at_most : (query K (grown K h) k).reads ≤ height (grown K h)
  pub holds : Holds K r.contents h
  pub work : Work c.image r.contents.image (query K (grown K h) k).reads 0 0

abbrev pub QueryLaw : Type 0
QueryLaw = (K : Algebra) (c : Contents) (h : List (Entry Message)) → Holds K c h → (k : ℕ) → k < 2 ^ 32 → Answered K c h k (queried K c c.root k)

-- ---- a page
-- what a store answers for a page of its tree
abbrev pub told : Page → PageReply
told p = record { entries = length p.entries; reads = p.reads; next = p.next }

-- the page of the tree stands in the table, which has just the present keys of the range in the leaf's span with what the messages say of them, after as
-- many reads as the tree is high, and the store holds what it held
pub record PageGiven (K : Algebra) (c : Contents) (h : List (Entry Message)) (low high : ℕ) (table : List (Entry ℕ)) (r : PagedStore) : Type 0 where
  pub answer_is : r.called.answer ≡ accepted (told (page K (grown K h) low high))
  pub table_is : r.table ≡ filled (length table) (page K (grown K h) low high).entries
  pub says : PageAnswer K h low high (leaf_frame (grown K h) low) (page K (grown K h) low high)
  pub holds : Holds K r.called.contents h
  pub work : Work c.image r.called.contents.image (height (grown K h)) 0 0

-- a refused page leaves the store and the table as they were
pub record PageRefused (c : Contents) (table : List (Entry ℕ)) (y : StoreRefusal) (r : PagedStore) : Type 0 where
  pub answer_is : r.called.answer ≡ refused (store_report y)
  pub contents_kept : r.called.contents ≡ c
  pub table_kept : r.table ≡ table

-- a page is refused or given, and never meets a fault
abbrev pub PageOutcome : Algebra → Contents → List (Entry Message) → ℕ → ℕ → List (Entry ℕ) → PagedStore → Option StoreRefusal → Type 0
PageOutcome K c h low high table r None = PageGiven K c h low high table r
PageOutcome K c h low high table r (Some y) = PageRefused c table y r

abbrev pub PageLaw : Type 0
PageLaw = (K : Algebra) (c : Contents) (h : List (Entry Message)) → Holds K c h → (low high : ℕ) → high < 2 ^ 32 → (table : List (Entry ℕ))
    → PageOutcome K c h low high table (paged_store K c c.root low high table) (page_refusal low high (length table))

-- ---- formatting
-- a formatted device is written twice, and rests with no messages
pub record Formatted (K : Algebra) (d : Image) (t : Try Image) : Type 0 where
  pub formatted_is : t ≡ done (format_writes K d)
  pub rests : Rests K (format_writes K d) []

abbrev pub FormatLaw : Type 0
FormatLaw = (K : Algebra) (d : Image) → AllSound d → 4 ≤ d.size → d.size ≤ most_blocks → (allowance : ℕ) → 2 ≤ allowance → Formatted K d (formatted K d allowance)

-- ---- closing
-- one write, of the root to block 0, and the store rests with its messages
pub record AtRest (K : Algebra) (c : Contents) (h : List (Entry Message)) (d : Image) : Type 0 where
  pub image_is : d ≡ image_written c.image 0 (root_block Closed (root_of_tree K h))
  pub rests : Rests K d h

abbrev pub CloseLaw : Type 0
CloseLaw = (K : Algebra) (c : Contents) (h : List (Entry Message)) → Holds K c h → (allowance : ℕ) → 0 < allowance → AtRest K c h (closed c.image c.root allowance)

-- ---- opening
-- one read and one write of block 0, and the store holds the messages with which it rested
pub record OpenedAgain (K : Algebra) (d : Image) (h : List (Entry Message)) (t : Try Opened) : Type 0 where
  pub opened_is : t ≡ done (record { image = image_written (image_read d) 0 (root_block InUse (root_of_tree K h)); root = root_of_tree K h })
  pub holds : Holds K (opening t) h

abbrev pub OpenLaw : Type 0
OpenLaw = (K : Algebra) (d : Image) (h : List (Entry Message)) → Rests K d h → (allowance : ℕ) → 2 ≤ allowance → OpenedAgain K d h (opened K d allowance)

-- the same of the store that was opened
pub record StandsAgain (K : Algebra) (d : Image) (h : List (Entry Message)) (c : Contents) : Type 0 where
  pub image_is : c.image ≡ image_written (image_read d) 0 (root_block InUse (root_of_tree K h))
  pub holds : Holds K c h
