-- The calls that move a book from closed to open, or back.
use Rattle.calls.specs.declared.call.Call.{Call}
use Rattle.calls.specs.declared.call.Call.TheVariants.{Open, Booking, Count, Strike, Query, Total, Figures, Close}

abbrev pub IsTurn : Call → Type 0
IsTurn Open = Unit
IsTurn (Booking k x y) = ⊥
IsTurn (Count k x y) = ⊥
IsTurn (Strike k) = ⊥
IsTurn (Query k) = ⊥
IsTurn (Total low high) = ⊥
IsTurn (Figures part) = ⊥
IsTurn Close = Unit
