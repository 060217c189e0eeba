-- The law of each call of a store, for every list of messages with which the store is laid out. A store's calls have these as clauses.
use Rattle.std.specs.Prelude.{◌≡◌, ℕ, ◌+◌, ◌<◌, ◌≤◌, List, length, Some, None, Option}
use Rattle.messages.specs.Algebra.{Algebra}
use Rattle.messages.specs.declared.entry.Entry.{Entry}
use Rattle.messages.specs.declared.message.Message.{Message}
use Rattle.plan.specs.Images.{Image, Try}
use Rattle.bridge.specs.Work.{AllSound}
use Rattle.store_plan.specs.Contents.{Contents, Answer, Called}
use Rattle.store_plan.specs.Openings.{figures_of}
use Rattle.store_plan.specs.Pages.{PagedStore, page_refusal}
use Rattle.store_plan.specs.Updates.{update_refusal, by_refusal}
use Rattle.store_plan.specs.declared.figures.Figures.{Figures}
use Rattle.plan.specs.declared.refusal.StoreRefusal.{StoreRefusal}
use Rattle.tree.specs.Update.{writes, grown}
use Rattle.store_laws.specs.Held.{root_of_tree, Holds, Rests}
use Rattle.store_laws.specs.Laws.{UpdateOutcome, Answered, PageOutcome, Formatted, AtRest, StandsAgain}

-- the device d is formatted, with the outcome t
abbrev pub FormatLaidOut : Algebra → Image → ℕ → Try Image → Type 0
FormatLaidOut K d allowance t = AllSound d → 4 ≤ d.size → 2 ≤ allowance → Formatted K d t

-- a store is opened on d, and is then c
abbrev pub OpenLaidOut : Algebra → Image → ℕ → Contents → Type 0
OpenLaidOut K d allowance c = (h : List (Entry Message)) → Rests K d h → 2 ≤ allowance → StandsAgain K d h c

-- the store c is asked for its figures
abbrev pub FiguresLaidOut : Algebra → Contents → Figures → Type 0
FiguresLaidOut K c r = (h : List (Entry Message)) → Holds K c h → r ≡ figures_of (root_of_tree K h)

-- the store c is asked whether an update would be refused
abbrev pub CheckLaidOut : Algebra → Contents → ℕ → Answer (Unit {0}) → Type 0
CheckLaidOut K c allowance r = (h : List (Entry Message)) → Holds K c h → r ≡ by_refusal (update_refusal (root_of_tree K h) c.image.size allowance)

-- the store c is updated
abbrev pub UpdateLaidOut : Algebra → Contents → ℕ → ℕ → Message → Called (Unit {0}) → Type 0
UpdateLaidOut K c allowance k m r = (h : List (Entry Message)) → Holds K c h → UpdateOutcome K c h k m r (update_refusal (root_of_tree K h) c.image.size allowance)

-- what an update takes of the allowance at most: as much as it writes, and nothing if it is refused
abbrev pub wear_of : Algebra → List (Entry Message) → ℕ → Message → Option StoreRefusal → ℕ
wear_of K h k m None = writes K k m (grown K h)
wear_of K h k m (Some y) = 0

-- an update of the store c leaves so much of the allowance
abbrev pub UpdateWear : Algebra → Contents → ℕ → ℕ → Message → ℕ → Type 0
UpdateWear K c allowance k m left = (h : List (Entry Message)) → Holds K c h → allowance ≤ left + wear_of K h k m (update_refusal (root_of_tree K h) c.image.size allowance)

-- the store c is asked what a key holds
abbrev pub QueryLaidOut : Algebra → Contents → ℕ → Called (Option ℕ × ℕ) → Type 0
QueryLaidOut K c k r = (h : List (Entry Message)) → Holds K c h → Answered K c h k r

-- the store c is asked for a page
abbrev pub PageLaidOut : Algebra → Contents → ℕ → ℕ → List (Entry ℕ) → PagedStore → Type 0
PageLaidOut K c low high table r = (h : List (Entry Message)) → Holds K c h → PageOutcome K c h low high table r (page_refusal low high (length table))

-- the store c is closed, which leaves the image d
abbrev pub CloseLaidOut : Algebra → Contents → ℕ → Image → Type 0
CloseLaidOut K c allowance d = (h : List (Entry Message)) → Holds K c h → 0 < allowance → AtRest K c h d
