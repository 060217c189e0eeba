-- What a book is known by between calls.
use Rattle.std.specs.Prelude.{ℕ}
use Rattle.blocks.specs.Media.{Medium}
use Rattle.store_plan.specs.Contents.{Contents}
use Rattle.calls.specs.declared.point.Reading.{Reading}
use Rattle.book_plan.specs.Readings.{reading_of, at_rest}

-- closed, by what its devices mean; or opened, by what each store is known by and the writes that its device allows
pub data View : Type 0 where
  closed : Medium → Medium → View
  opened : Contents → ℕ → Contents → ℕ → View

abbrev pub stock_reading : View → Reading
stock_reading (closed m n) = at_rest m
stock_reading (opened c a d b) = reading_of c

abbrev pub day_reading : View → Reading
day_reading (closed m n) = at_rest n
day_reading (opened c a d b) = reading_of d
