-- What a call on a device comes to, in the words that the contracts share.
use Rattle.std.specs.Prelude.{◌≡◌, ℕ, List, Result}
use Rattle.blocks.specs.Media.{LoweredBy}
use Rattle.blocks.specs.declared.device.Device.{Ghosts}
use Rattle.messages.specs.declared.entry.Entry.{Entry}
use Rattle.plan.specs.Images.{Image, Try, image}
use Rattle.plan.specs.Pages.{Paged}
use Rattle.plan.specs.Steps.{Settled}
use Rattle.steps.specs.Causes.{tried}
use Rattle.plan.specs.declared.cause.Cause.{Cause}
use Rattle.store_plan.specs.declared.page.Page.{Page}
use Rattle.tree.specs.Nodes.{Node}

-- a device without its allowance, and its allowance
abbrev pub image_of : {D F : Type 0} → Ghosts D F → D → Image
image_of G d = image (G.meaning d)

abbrev pub allowance_of : {D F : Type 0} → Ghosts D F → D → ℕ
allowance_of G d = (G.meaning d).allowance

-- the allowance stays, and n writes or fewer were taken of it
abbrev pub SameAllowance : {D F : Type 0} → Ghosts D F → D → D → Type 0
SameAllowance G old new = allowance_of G new ≡ allowance_of G old

abbrev pub Spends : {D F : Type 0} → ℕ → Ghosts D F → D → D → Type 0
Spends n G old new = LoweredBy n (allowance_of G old) (allowance_of G new)

-- what came of a call that left the device d: a value made of the image and of the result, or a stop
abbrev pub outcome : {T D F A : Type 0} (G : Ghosts D F) → Result T (Cause F) → D → (Image → T → A) → Try A
outcome G r d value = tried G.number r (image_of G d) (value (image_of G d))

-- a page as its table of entries and its figures tell it
abbrev pub paged : List (Entry ℕ) → Image → Page → Paged
paged entries d p = record { image = d; entries = entries; next = p.next; reads = p.reads }

-- an update's end: the next free number, the tree writes and the root
abbrev pub settled : ℕ → ℕ → Node → Image → Settled
settled next writes root d = record { image = d; next = next; writes = writes; root = root }
