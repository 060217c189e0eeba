-- What each call of a book does, by what its two stores are known by: its answer, and what they are known by then.
use Rattle.std.specs.Prelude.{ℕ, ◌*◌, cond, ◌&&◌, ℤ, Some, None, Ok, Err, Option, Result, nat_le, unsigned_abs}
use Rattle.std.specs.Option.{unwrap_or}
use Rattle.messages.specs.LatestDay.{latest_day_algebra}
use Rattle.messages.specs.Quantity.{quantity_algebra}
use Rattle.messages.specs.Words.{signed, word}
use Rattle.messages.specs.declared.message.Message.{Message}
use Rattle.messages.specs.declared.message.Message.TheVariants.{Put, Remove, Add}
use Rattle.plan.specs.Images.{Image, Try}
use Rattle.plan.specs.Images.Try.{done, stop}
use Rattle.store_plan.specs.Contents.{Contents, Called}
use Rattle.store_plan.specs.Openings.{format_refusal, formatted}
use Rattle.store_plan.specs.Queries.{queried}
use Rattle.plan.specs.Reports.{store_report}
use Rattle.store_plan.specs.Updates.{update_check, updated_store}
use Rattle.store_plan.specs.declared.figures.Figures.{Figures}
use Rattle.plan.specs.declared.refusal.StoreRefusal.{StoreRefusal}
use Rattle.calls.specs.declared.answer.Found.{Found}
use Rattle.calls.specs.declared.part.Part.{Part}
use Rattle.calls.specs.declared.part.Part.TheVariants.{Stock, Day}
use Rattle.calls.specs.declared.refusal.Refusal.{Refusal}
use Rattle.calls.specs.declared.refusal.Refusal.TheVariants.{BadValue, Met}
use Rattle.book_plan.specs.Told.{told, stopped_part}

pub record CalledBook (T : Type 0) : Type 0 where
  pub answer : Result T Refusal
  pub stock : Contents
  pub day : Contents

abbrev pub unless_refused : {T : Type 0} → Option Refusal → Contents → Contents → CalledBook T → CalledBook T
unless_refused None c d go = go
unless_refused (Some y) c d go = record { answer = Err y; stock = c; day = d }

-- ---- updates
-- an amount beyond 1,000,000,000 either way is refused, and a day outside 1 to 999,999
abbrev pub most_amount : ℕ
most_amount = 1000000000

abbrev pub last_day : ℕ
last_day = 999999

abbrev pub bad_value : ℤ → ℕ → Option Refusal
bad_value amount day = cond (nat_le (unsigned_abs amount) most_amount && (nat_le 1 day && nat_le day last_day)) None (Some BadValue)

-- what the conditions of the stores refuse, the stock store's first
abbrev pub first_refusal : Result (Unit {0}) Refusal → Result (Unit {0}) Refusal → Option Refusal
first_refusal (Err y) r = Some y
first_refusal (Ok x) (Err y) = Some y
first_refusal (Ok x) (Ok z) = None

abbrev pub conditions : Contents → Contents → ℕ → ℕ → Option Refusal
conditions c d a b = first_refusal (told Stock (update_check c c.root a)) (told Day (update_check d d.root b))

-- the stock store goes first; a fault ends the update, and what was done stands
abbrev pub day_next : Result (Unit {0}) Refusal → Contents → Contents → Called (Unit {0}) → CalledBook (Unit {0})
day_next (Err y) c d t = record { answer = Err y; stock = c; day = d }
day_next (Ok x) c d t = record { answer = told Day t.answer; stock = c; day = t.contents }

abbrev pub both_updated : Contents → Contents → ℕ → ℕ → ℕ → Message → Message → CalledBook (Unit {0})
both_updated c d a b k m n =
    let s = updated_store quantity_algebra c c.root a k m in
    day_next (told Stock s.answer) s.contents d (updated_store latest_day_algebra d d.root b k n)

-- the stores, with allowances a and b, get a message each on the sheet k, unless the value is refused
abbrev pub updated_book : Contents → Contents → ℕ → ℕ → Option Refusal → ℕ → Message → Message → CalledBook (Unit {0})
updated_book c d a b value k m n =
    unless_refused (stopped_part c.first d.first) c d
    (unless_refused value c d
    (unless_refused (conditions c d a b) c d
    (both_updated c d a b k m n)))

-- the writes that an update may cost a store of a height: none if it is refused before anything is done
abbrev pub most_writes : Option Refusal → ℕ → ℕ
most_writes None height = 2 * height
most_writes (Some y) height = 0

abbrev pub or_else : Option Refusal → Option Refusal → Option Refusal
or_else (Some y) o = Some y
or_else None o = o

-- what refuses an update before anything is done, the first that holds
abbrev pub barred : Contents → Contents → ℕ → ℕ → Option Refusal → Option Refusal
barred c d a b value = or_else (stopped_part c.first d.first) (or_else value (conditions c d a b))

abbrev pub booked : Contents → Contents → ℕ → ℕ → ℕ → ℤ → ℕ → CalledBook (Unit {0})
booked c d a b k amount day = updated_book c d a b (bad_value amount day) k (Add (word amount)) (Add day)

abbrev pub counted : Contents → Contents → ℕ → ℕ → ℕ → ℤ → ℕ → CalledBook (Unit {0})
counted c d a b k amount day = updated_book c d a b (bad_value amount day) k (Put (word amount)) (Add day)

abbrev pub struck : Contents → Contents → ℕ → ℕ → ℕ → CalledBook (Unit {0})
struck c d a b k = updated_book c d a b None k Remove Remove

-- ---- queries
abbrev pub day_found : ℕ → ℕ → Contents → Result (Option ℕ × ℕ) Refusal → Contents → CalledBook Found
day_found w n c (Err y) d = record { answer = Err y; stock = c; day = d }
day_found w n c (Ok (v, m)) d = record {
  answer = Ok (record { holding = Some (record { quantity = signed w; day = unwrap_or v 0 }); stock_reads = n; day_reads = m });
  stock = c;
  day = d;
}

-- the day store is asked only if the stock store holds the sheet
abbrev pub stock_found : Result (Option ℕ × ℕ) Refusal → Contents → Contents → Called (Option ℕ × ℕ) → CalledBook Found
stock_found (Err y) c d t = record { answer = Err y; stock = c; day = d }
stock_found (Ok (None, n)) c d t = record { answer = Ok (record { holding = None; stock_reads = n; day_reads = 0 }); stock = c; day = d }
stock_found (Ok (Some w, n)) c d t = day_found w n c (told Day t.answer) t.contents

abbrev pub queried_book : Contents → Contents → ℕ → CalledBook Found
queried_book c d k =
    let s = queried quantity_algebra c c.root k in
    unless_refused (stopped_part c.first d.first) c d
    (stock_found (told Stock s.answer) s.contents d (queried latest_day_algebra d d.root k))

-- ---- figures
abbrev pub figures_of_part : Part → Contents → Contents → Figures
figures_of_part Stock c d = c.figures
figures_of_part Day c d = d.figures

-- ---- formatting
pub record FormattedBook : Type 0 where
  pub answer : Result (Unit {0}) Refusal
  pub stock : Image
  pub day : Image

abbrev pub day_formatted : Image → Try Image → FormattedBook
day_formatted d (done f) = record { answer = Ok tt; stock = d; day = f }
day_formatted d (stop f y) = record { answer = Err (Met Day y); stock = d; day = f }

abbrev pub both_formatted : Try Image → Image → Try Image → FormattedBook
both_formatted (done d) e t = day_formatted d t
both_formatted (stop d y) e t = record { answer = Err (Met Stock y); stock = d; day = e }

-- both devices are checked before either is written
abbrev pub unless_unfit : Option StoreRefusal → Option StoreRefusal → Image → Image → FormattedBook → FormattedBook
unless_unfit (Some r) o d e go = record { answer = Err (Met Stock (store_report r)); stock = d; day = e }
unless_unfit None (Some r) d e go = record { answer = Err (Met Day (store_report r)); stock = d; day = e }
unless_unfit None None d e go = go

abbrev pub formatted_book : Image → Image → ℕ → ℕ → FormattedBook
formatted_book d e a b =
    unless_unfit (format_refusal d a) (format_refusal e b) d e (both_formatted (formatted quantity_algebra d a) e (formatted latest_day_algebra e b))
