-- What it means that a book keeps the changes that it has accepted.
use Rattle.std.specs.Prelude.{ℕ, ◌≤◌, List, [], ◌∷◌, None, Option, unsigned_abs}
use Rattle.messages.specs.LatestDay.{latest_day_algebra}
use Rattle.messages.specs.Lists.{entry}
use Rattle.messages.specs.Quantity.{quantity_algebra}
use Rattle.messages.specs.Words.{word}
use Rattle.messages.specs.declared.entry.Entry.{Entry}
use Rattle.messages.specs.declared.message.Message.{Message}
use Rattle.messages.specs.declared.message.Message.TheVariants.{Put, Remove, Add}
use Rattle.store_laws.specs.Held.{Holds}
use Rattle.store_plan.specs.Contents.{Contents}
use Rattle.calls.specs.declared.refusal.Refusal.{Refusal}
use Rattle.book_plan.specs.Books.{CalledBook, most_amount, last_day, bad_value, updated_book}
use Rattle.book_plan.specs.Changes.{Change}
use Rattle.book_plan.specs.Changes.Change.{booking, count, strike}

-- ---- the message that a change gives each store
abbrev pub sheet_of : Change → ℕ
sheet_of (booking sheet amount day) = sheet
sheet_of (count sheet amount day) = sheet
sheet_of (strike sheet) = sheet

abbrev pub stock_message : Change → Message
stock_message (booking sheet amount day) = Add (word amount)
stock_message (count sheet amount day) = Put (word amount)
stock_message (strike sheet) = Remove

abbrev pub day_message : Change → Message
day_message (booking sheet amount day) = Add day
day_message (count sheet amount day) = Add day
day_message (strike sheet) = Remove

abbrev pub stock_messages : List Change → List (Entry Message)
stock_messages [] = []
stock_messages (x ∷ cs) = entry (sheet_of x) (stock_message x) ∷ stock_messages cs

abbrev pub day_messages : List Change → List (Entry Message)
day_messages [] = []
day_messages (x ∷ cs) = entry (sheet_of x) (day_message x) ∷ day_messages cs

-- ---- the call that makes a change
abbrev pub value_refusal : Change → Option Refusal
value_refusal (booking sheet amount day) = bad_value amount day
value_refusal (count sheet amount day) = bad_value amount day
value_refusal (strike sheet) = None

abbrev pub changed : Contents → Contents → ℕ → ℕ → Change → CalledBook (Unit {0})
changed c d a b x = updated_book c d a b (value_refusal x) (sheet_of x) (stock_message x) (day_message x)

-- ---- changes that are in range
abbrev pub InRange : Change → Type 0
InRange (booking sheet amount day) = (unsigned_abs amount ≤ most_amount) × (1 ≤ day) × (day ≤ last_day)
InRange (count sheet amount day) = (unsigned_abs amount ≤ most_amount) × (1 ≤ day) × (day ≤ last_day)
InRange (strike sheet) = Unit {0}

abbrev pub AllInRange : List Change → Type 0
AllInRange [] = Unit {0}
AllInRange (x ∷ cs) = InRange x × AllInRange cs

-- ---- a book that is open, and one at rest, with the changes cs, the newest first
pub record Keeps (c d : Contents) (cs : List Change) : Type 0 where
  pub stock : Holds quantity_algebra c (stock_messages cs)
  pub day : Holds latest_day_algebra d (day_messages cs)
  pub in_range : AllInRange cs
