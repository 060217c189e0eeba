-- What a book is known by, closed and open, and what each of its calls makes of that.
use Rattle.std.specs.Prelude.{◌≡◌, ℕ, ◌^◌, ◌<◌, List, ℤ, Option, Result}
use Rattle.blocks.specs.Media.{Medium}
use Rattle.blocks.specs.declared.device.Device.{Ghosts}
use Rattle.messages.specs.declared.entry.Entry.{Entry}
use Rattle.messages.specs.declared.message.Message.{Message}
use Rattle.messages.specs.Algebra.{Algebra}
use Rattle.plan.specs.Images.{Image, image}
use Rattle.store.specs.Views.{contents}
use Rattle.store.specs.declared.store.Store.{Store}
use Rattle.store_plan.specs.Contents.{Contents, Answer, Called}
use Rattle.store_plan.specs.Openings.{opened, opening, closed}
use Rattle.store_plan.specs.Pages.{PagedStore, paged_store}
use Rattle.store_plan.specs.Queries.{queried}
use Rattle.store_plan.specs.Updates.{update_check, updated_store}
use Rattle.store_plan.specs.declared.figures.Figures.{Figures}
use Rattle.calls.specs.declared.answer.Found.{Found}
use Rattle.calls.specs.declared.answer.Sum.{Sum}
use Rattle.calls.specs.declared.part.Part.{Part}
use Rattle.calls.specs.declared.point.Reading.{Reading}
use Rattle.calls.specs.declared.refusal.Refusal.{Refusal}
use Rattle.book_plan.specs.Books.{CalledBook, FormattedBook, barred, most_writes, updated_book, booked, counted, struck, queried_book, figures_of_part, formatted_book}
use Rattle.blocks.specs.Media.{LoweredBy}
use Rattle.book_plan.specs.Told.{stopped_part}
use Rattle.book_plan.specs.Totals.{Totalled, totalled}
use Rattle.book.specs.declared.book.ClosedBook.{ClosedBook}
use Rattle.book.specs.declared.book.OpenBook.{OpenBook}

-- ---- one store: what it is known by, the writes that its device allows, and what each of its calls makes of that
abbrev pub known : {D K F : Type 0} {G : Ghosts D F} → Store D K F G → Contents
known {G = G} s = contents G s

abbrev pub allowance_of : {D K F : Type 0} {G : Ghosts D F} → Store D K F G → ℕ
allowance_of {G = G} s = (G.meaning s.device).allowance

abbrev pub checked_in : Contents → ℕ → Answer (Unit {0})
checked_in c allowance = update_check c c.root allowance

abbrev pub updated_store_in : Algebra → Contents → ℕ → ℕ → Message → Called (Unit {0})
updated_store_in kind c allowance k m = updated_store kind c c.root allowance k m

abbrev pub queried_store_in : Algebra → Contents → ℕ → Called (Option ℕ × ℕ)
queried_store_in kind c k = queried kind c c.root k

abbrev pub paged_in : Algebra → Contents → ℕ → ℕ → List (Entry ℕ) → PagedStore
paged_in kind c low high table = paged_store kind c c.root low high table

-- ---- a closed book: its devices, and what they mean
abbrev pub devices_of : {S D F G : Type 0} → ClosedBook S D F G → S × D
devices_of b = (b.stock, b.day)

pub record Media : Type 0 where
  pub stock : Medium
  pub day : Medium

abbrev pub media_of : {S D F G : Type 0} → (stock : Ghosts S F) → (day : Ghosts D G) → ClosedBook S D F G → Media
media_of stock day b = record { stock = stock.meaning b.stock; day = day.meaning b.day }

-- ---- an open book: what each store is known by, and the writes that its device allows
pub record BookState : Type 0 where
  pub stock : Contents
  pub day : Contents
  pub stock_allowance : ℕ
  pub day_allowance : ℕ

abbrev pub state_of : {S D F G : Type 0} {stock : Ghosts S F} {day : Ghosts D G} → OpenBook S D F G stock day → BookState
state_of b = record {
  stock = known b.stock;
  day = known b.day;
  stock_allowance = allowance_of b.stock;
  day_allowance = allowance_of b.day;
}

-- what a call answers, and what the stores are known by then
abbrev pub after_call : {T : Type 0} → Result T Refusal → BookState → CalledBook T
after_call answer s = record { answer = answer; stock = s.stock; day = s.day }

abbrev pub SameAllowances : BookState → BookState → Type 0
SameAllowances s t = (t.stock_allowance ≡ s.stock_allowance) × (t.day_allowance ≡ s.day_allowance)

-- which store is stopped, and by what
abbrev pub stopped_in : BookState → Option Refusal
stopped_in s = stopped_part s.stock.first s.day.first

-- a device's counts are 64-bit numbers
abbrev pub CountsFit : Reading → Type 0
CountsFit r = (r.reads < 2 ^ 64) × (r.writes < 2 ^ 64)

-- ---- updates
abbrev pub updated_in : BookState → Option Refusal → ℕ → Message → Message → CalledBook (Unit {0})
updated_in s value k m n = updated_book s.stock s.day s.stock_allowance s.day_allowance value k m n

abbrev pub booked_in : BookState → ℕ → ℤ → ℕ → CalledBook (Unit {0})
booked_in s k amount day = booked s.stock s.day s.stock_allowance s.day_allowance k amount day

abbrev pub counted_in : BookState → ℕ → ℤ → ℕ → CalledBook (Unit {0})
counted_in s k amount day = counted s.stock s.day s.stock_allowance s.day_allowance k amount day

abbrev pub struck_in : BookState → ℕ → CalledBook (Unit {0})
struck_in s k = struck s.stock s.day s.stock_allowance s.day_allowance k

abbrev pub barred_in : BookState → Option Refusal → Option Refusal
barred_in s value = barred s.stock s.day s.stock_allowance s.day_allowance value

-- an update of a value that is refused, or not, lowers each allowance by twice the height of the store at most, and by nothing if it is barred
abbrev pub UpdateLowers : Option Refusal → BookState → BookState → Type 0
UpdateLowers value s t =
    LoweredBy (most_writes (barred_in s value) s.stock.figures.height) s.stock_allowance t.stock_allowance
    × LoweredBy (most_writes (barred_in s value) s.day.figures.height) s.day_allowance t.day_allowance

-- ---- questions
abbrev pub queried_in : BookState → ℕ → CalledBook Found
queried_in s k = queried_book s.stock s.day k

abbrev pub figures_in : BookState → Part → Figures
figures_in s part = figures_of_part part s.stock s.day

abbrev pub after_total : Result Sum Refusal → BookState → List (Entry ℕ) → Totalled
after_total answer s table = record { answer = answer; stock = s.stock; table = table }

abbrev pub totalled_in : BookState → ℕ → ℕ → List (Entry ℕ) → Totalled
totalled_in s low high table = totalled s.stock s.day low high table

-- ---- formatting, opening and closing
abbrev pub after_format : Result (Unit {0}) Refusal → Media → FormattedBook
after_format answer m = record { answer = answer; stock = image m.stock; day = image m.day }

abbrev pub formatted_on : Media → FormattedBook
formatted_on m = formatted_book (image m.stock) (image m.day) m.stock.allowance m.day.allowance

abbrev pub FormatLowers : Media → Media → Type 0
FormatLowers m n = LoweredBy 2 m.stock.allowance n.stock.allowance × LoweredBy 2 m.day.allowance n.day.allowance

-- what a store of a kind is known by once it is opened on a device that meant m
abbrev pub opened_on : Algebra → Medium → Contents
opened_on kind m = opening (opened kind (image m) m.allowance)

-- the image of the device of a store that was known by c, once it is closed
abbrev pub closed_image : Contents → ℕ → Image
closed_image c allowance = closed c.image c.root allowance
