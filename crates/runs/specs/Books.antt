-- What a book is known by, closed or open.
use Rattle.blocks.specs.declared.device.Device.{Ghosts}
use Rattle.book.specs.Views.{media_of, state_of}
use Rattle.book.specs.declared.book.ClosedBook.{ClosedBook}
use Rattle.book.specs.declared.book.OpenBook.{OpenBook}
use Rattle.traces.specs.Views.{View}
use Rattle.traces.specs.Views.View.{closed, opened}
use Rattle.runs.specs.declared.turn.Book.{Book}
use Rattle.runs.specs.declared.turn.Book.TheVariants.{Closed, Open}

abbrev pub closed_view : {S D F G : Type 0} → (stock : Ghosts S F) → (day : Ghosts D G) → ClosedBook S D F G → View
closed_view stock day b = let m = media_of stock day b in closed m.stock m.day

abbrev pub open_view : {S D F G : Type 0} {stock : Ghosts S F} {day : Ghosts D G} → OpenBook S D F G stock day → View
open_view b = let s = state_of b in opened s.stock s.stock_allowance s.day s.day_allowance

abbrev pub view : {S D F G : Type 0} {stock : Ghosts S F} {day : Ghosts D G} → Book S D F G stock day → View
view {stock = stock} {day = day} (Closed b) = closed_view stock day b
view (Open b) = open_view b
