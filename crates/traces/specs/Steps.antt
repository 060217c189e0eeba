-- What a call does to a book, by the contract of that call, and what a trace of calls is.
use Rattle.std.specs.Prelude.{◌≡◌, ℕ, ◌+◌, ◌^◌, ◌<◌, ◌≤◌, List, [], ◌∷◌, length, Ok, Err, Result}
use Rattle.blocks.specs.Media.{Medium, Lowered}
use Rattle.messages.specs.LatestDay.{latest_day_algebra}
use Rattle.messages.specs.Quantity.{quantity_algebra}
use Rattle.messages.specs.declared.entry.Entry.{Entry}
use Rattle.plan.specs.Images.{image}
use Rattle.store_plan.specs.Contents.{Contents}
use Rattle.store_plan.specs.Openings.{opened as opened_store, opening, closed as closed_store}
use Rattle.store_plan.specs.Pages.{table_length}
use Rattle.calls.specs.declared.answer.Answer.{Answer}
use Rattle.calls.specs.declared.answer.Answer.TheVariants.{NotMade, Opened, Done, Refused, Found as found_answer, Total as total_answer, Figures as figures_answer, Closed}
use Rattle.calls.specs.declared.answer.Found.{Found}
use Rattle.calls.specs.declared.answer.Sum.{Sum}
use Rattle.calls.specs.declared.call.Call.{Call}
use Rattle.calls.specs.declared.call.Call.TheVariants.{Open, Booking, Count, Strike, Query, Total, Figures, Close}
use Rattle.calls.specs.declared.part.Part.{Part}
use Rattle.calls.specs.declared.point.Point.{Point}
use Rattle.calls.specs.declared.refusal.Refusal.{Refusal}
use Rattle.book_plan.specs.Books.{barred, most_writes, figures_of_part, queried_book}
use Rattle.book_plan.specs.Changes.{Change}
use Rattle.book_plan.specs.Changes.Change.{booking, count, strike}
use Rattle.book_plan.specs.Kept.{value_refusal, changed}
use Rattle.book_plan.specs.Totals.{totalled}
use Rattle.book_plan.specs.Readings.{stands}
use Rattle.traces.specs.Views.{View, stock_reading, day_reading}
use Rattle.traces.specs.Views.View.{closed, opened}

-- ---- answers of calls that can be refused
abbrev pub change_answer : Result (Unit {0}) Refusal → Answer
change_answer (Ok x) = Done
change_answer (Err y) = Refused y

abbrev pub query_answer : Result Found Refusal → Answer
query_answer (Ok f) = found_answer f
query_answer (Err y) = Refused y

abbrev pub sum_answer : Result Sum Refusal → Answer
sum_answer (Ok s) = total_answer s
sum_answer (Err y) = Refused y

-- ---- each call
-- an allowance that falls by so much at most
abbrev pub Falls : ℕ → ℕ → ℕ → Type 0
Falls most before after = (after ≤ before) × (before ≤ after + most)

pub record Opens (m n : Medium) (answer : Answer) (c : Contents) (a : ℕ) (d : Contents) (b : ℕ) : Type 0 where
  pub stock_is : c ≡ opening (opened_store quantity_algebra (image m) m.allowance)
  pub day_is : d ≡ opening (opened_store latest_day_algebra (image n) n.allowance)
  pub answer_is : answer ≡ Opened c.first d.first
  pub stock_allowance : Lowered m.allowance a
  pub day_allowance : Lowered n.allowance b

pub record Changes (c : Contents) (a : ℕ) (d : Contents) (b : ℕ) (x : Change) (answer : Answer) (c' : Contents) (a' : ℕ) (d' : Contents) (b' : ℕ) : Type 0 where
  pub answer_is : answer ≡ change_answer (changed c d a b x).answer
  pub stock_is : c' ≡ (changed c d a b x).stock
  pub day_is : d' ≡ (changed c d a b x).day
  pub stock_allowance : Falls (most_writes (barred c d a b (value_refusal x)) c.figures.height) a a'
  pub day_allowance : Falls (most_writes (barred c d a b (value_refusal x)) d.figures.height) b b'

pub record Asks (c : Contents) (a : ℕ) (d : Contents) (b : ℕ) (k : ℕ) (answer : Answer) (c' : Contents) (a' : ℕ) (d' : Contents) (b' : ℕ) : Type 0 where
  pub answer_is : answer ≡ query_answer (queried_book c d k).answer
  pub stock_is : c' ≡ (queried_book c d k).stock
  pub day_is : d' ≡ (queried_book c d k).day
  pub stock_allowance : a' ≡ a
  pub day_allowance : b' ≡ b

-- a total works in a table; what stood there before is of no effect
pub record AddsUp (c : Contents) (a : ℕ) (d : Contents) (b : ℕ) (low high : ℕ) (answer : Answer) (c' : Contents) (a' : ℕ) (d' : Contents) (b' : ℕ) : Type 0 where
  pub table : List (Entry ℕ)
  pub table_is : length table ≡ table_length
  pub answer_is : answer ≡ sum_answer (totalled c d low high table).answer
  pub stock_is : c' ≡ (totalled c d low high table).stock
  pub day_is : d' ≡ d
  pub stock_allowance : a' ≡ a
  pub day_allowance : b' ≡ b

pub record Shows (c : Contents) (a : ℕ) (d : Contents) (b : ℕ) (part : Part) (answer : Answer) (c' : Contents) (a' : ℕ) (d' : Contents) (b' : ℕ) : Type 0 where
  pub answer_is : answer ≡ figures_answer (figures_of_part part c d)
  pub stock_is : c' ≡ c
  pub day_is : d' ≡ d
  pub stock_allowance : a' ≡ a
  pub day_allowance : b' ≡ b

pub record Closes (c : Contents) (a : ℕ) (d : Contents) (b : ℕ) (answer : Answer) (m n : Medium) : Type 0 where
  pub answer_is : answer ≡ Closed (stands c.root) (stands d.root)
  pub stock_is : image m ≡ closed_store c.image c.root a
  pub day_is : image n ≡ closed_store d.image d.root b
  pub stock_allowance : Lowered a m.allowance
  pub day_allowance : Lowered b n.allowance

-- a call that does not fit the book is not made
pub record Stays (answer : Answer) (v w : View) : Type 0 where
  pub answer_is : answer ≡ NotMade
  pub view_is : w ≡ v

-- ---- a call on a book that is known by a view, its answer, and the view afterwards
-- opening stands on a closed book
abbrev pub DoesClosed : Medium → Medium → Call → Answer → View → Type 0
DoesClosed m n Open answer (closed m' n') = ⊥
DoesClosed m n Open answer (opened c a d b) = Opens m n answer c a d b
DoesClosed m n (Booking k x y) answer w = Stays answer (closed m n) w
DoesClosed m n (Count k x y) answer w = Stays answer (closed m n) w
DoesClosed m n (Strike k) answer w = Stays answer (closed m n) w
DoesClosed m n (Query k) answer w = Stays answer (closed m n) w
DoesClosed m n (Total low high) answer w = Stays answer (closed m n) w
DoesClosed m n (Figures part) answer w = Stays answer (closed m n) w
DoesClosed m n Close answer w = Stays answer (closed m n) w

-- and every other call on an open one; keys are below 2^32
abbrev pub DoesOpen : Contents → ℕ → Contents → ℕ → Call → Answer → View → Type 0
DoesOpen c a d b Open answer w = Stays answer (opened c a d b) w
DoesOpen c a d b (Booking k x y) answer (closed m n) = ⊥
DoesOpen c a d b (Booking k x y) answer (opened c' a' d' b') = (k < 2 ^ 32) × Changes c a d b (booking k x y) answer c' a' d' b'
DoesOpen c a d b (Count k x y) answer (closed m n) = ⊥
DoesOpen c a d b (Count k x y) answer (opened c' a' d' b') = (k < 2 ^ 32) × Changes c a d b (count k x y) answer c' a' d' b'
DoesOpen c a d b (Strike k) answer (closed m n) = ⊥
DoesOpen c a d b (Strike k) answer (opened c' a' d' b') = (k < 2 ^ 32) × Changes c a d b (strike k) answer c' a' d' b'
DoesOpen c a d b (Query k) answer (closed m n) = ⊥
DoesOpen c a d b (Query k) answer (opened c' a' d' b') = (k < 2 ^ 32) × Asks c a d b k answer c' a' d' b'
DoesOpen c a d b (Total low high) answer (closed m n) = ⊥
DoesOpen c a d b (Total low high) answer (opened c' a' d' b') = (high < 2 ^ 32) × AddsUp c a d b low high answer c' a' d' b'
DoesOpen c a d b (Figures part) answer (closed m n) = ⊥
DoesOpen c a d b (Figures part) answer (opened c' a' d' b') = Shows c a d b part answer c' a' d' b'
DoesOpen c a d b Close answer (opened c' a' d' b') = ⊥
DoesOpen c a d b Close answer (closed m n) = Closes c a d b answer m n

abbrev pub Does : View → Call → Answer → View → Type 0
Does (closed m n) call answer w = DoesClosed m n call answer w
Does (opened c a d b) call answer w = DoesOpen c a d b call answer w

-- ---- a point of a trace: the call was made, and the readings are those of the book afterwards, whose counts fit 64 bits
pub record Made (v : View) (p : Point) (w : View) : Type 0 where
  pub does : Does v p.call p.answer w
  pub stock_read : p.stock ≡ stock_reading w
  pub day_read : p.day ≡ day_reading w
  pub stock_fits : (p.stock.reads < 2 ^ 64) × (p.stock.writes < 2 ^ 64)
  pub day_fits : (p.day.reads < 2 ^ 64) × (p.day.writes < 2 ^ 64)

-- a trace leads from one view to another, each point by its own call
abbrev pub Went : View → List Point → View → Type 0
Went v [] w = v ≡ w
Went v (p ∷ ps) w = (x : View) × Made v p x × Went x ps w
