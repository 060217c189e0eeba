-- The laws of a book that keeps its changes.
use Rattle.std.specs.Prelude.{◌≡◌, ℕ, ◌*◌, ◌^◌, ◌<◌, ◌≤◌, List, ◌∷◌, length, Some, None, Ok, Err, Option}
use Rattle.messages.specs.LatestDay.{latest_day_algebra}
use Rattle.messages.specs.Quantity.{quantity_algebra}
use Rattle.messages.specs.declared.entry.Entry.{Entry}
use Rattle.bridge.specs.Work.{Work}
use Rattle.store_laws.specs.Held.{Holds, root_of_tree}
use Rattle.store_plan.specs.Contents.{Contents}
use Rattle.store_plan.specs.Pages.{page_refusal}
use Rattle.plan.specs.Reports.{store_report}
use Rattle.store_plan.specs.Updates.{update_refusal}
use Rattle.plan.specs.declared.refusal.StoreRefusal.{StoreRefusal}
use Rattle.tree.specs.Nodes.{height, next_free}
use Rattle.tree.specs.Update.{update, writes, batches, grown}
use Rattle.calls.specs.declared.answer.Found.{Found}
use Rattle.calls.specs.declared.answer.Sum.{Sum}
use Rattle.calls.specs.declared.part.Part.{Part}
use Rattle.calls.specs.declared.part.Part.TheVariants.{Stock, Day}
use Rattle.calls.specs.declared.refusal.Refusal.{Refusal}
use Rattle.calls.specs.declared.refusal.Refusal.TheVariants.{Met}
use Rattle.book_plan.specs.Books.{CalledBook, or_else, queried_book}
use Rattle.book_plan.specs.Changes.{Change, holding_of}
use Rattle.book_plan.specs.Kept.{Keeps, sheet_of, stock_message, day_message, stock_messages, day_messages, value_refusal, changed}
use Rattle.book_plan.specs.Sums.{SumOf}
use Rattle.book_plan.specs.Totals.{Totalled, totalled}

-- ---- a change
abbrev pub of_part : Part → Option StoreRefusal → Option Refusal
of_part part None = None
of_part part (Some r) = Some (Met part (store_report r))

-- when a change is refused, by the changes before it, the sizes of the devices and the writes that are left: its value, then the
-- conditions of the stock store, then those of the day store
abbrev pub change_refusal : List Change → ℕ → ℕ → ℕ → ℕ → Change → Option Refusal
change_refusal cs stock_size day_size a b x =
    or_else (value_refusal x)
    (or_else (of_part Stock (update_refusal (root_of_tree quantity_algebra (stock_messages cs)) stock_size a))
    (of_part Day (update_refusal (root_of_tree latest_day_algebra (day_messages cs)) day_size b)))

-- an accepted change: the book keeps it, and each device was written just as often as its tree says
pub record ChangeKept (c d : Contents) (cs : List Change) (x : Change) (r : CalledBook (Unit {0})) : Type 0 where
  pub answer_is : r.answer ≡ Ok tt
  pub keeps : Keeps r.stock r.day (x ∷ cs)
  pub stock_work : Work c.image r.stock.image
      (batches quantity_algebra (sheet_of x) (stock_message x) (grown quantity_algebra (stock_messages cs)))
      (writes quantity_algebra (sheet_of x) (stock_message x) (grown quantity_algebra (stock_messages cs)))
      (next_free (update quantity_algebra (sheet_of x) (stock_message x) (grown quantity_algebra (stock_messages cs))))
  pub day_work : Work d.image r.day.image
      (batches latest_day_algebra (sheet_of x) (day_message x) (grown latest_day_algebra (day_messages cs)))
      (writes latest_day_algebra (sheet_of x) (day_message x) (grown latest_day_algebra (day_messages cs)))
      (next_free (update latest_day_algebra (sheet_of x) (day_message x) (grown latest_day_algebra (day_messages cs))))

-- a refused one leaves the book as it was
pub record ChangeRefused (c d : Contents) (y : Refusal) (r : CalledBook (Unit {0})) : Type 0 where
  pub answer_is : r.answer ≡ Err y
  pub stock_kept : r.stock ≡ c
  pub day_kept : r.day ≡ d

abbrev pub ChangeOutcome : Contents → Contents → List Change → Change → CalledBook (Unit {0}) → Option Refusal → Type 0
ChangeOutcome c d cs x r None = ChangeKept c d cs x r
ChangeOutcome c d cs x r (Some y) = ChangeRefused c d y r

abbrev pub ChangeLaw : Type 0
ChangeLaw = (c d : Contents) (cs : List Change) → Keeps c d cs → (a b : ℕ) (x : Change) → sheet_of x < 2 ^ 32
    → ChangeOutcome c d cs x (changed c d a b x) (change_refusal cs c.image.size d.image.size a b x)

-- ---- a query
-- the answer is what the changes say of the sheet, after at most as many reads of each store as its tree is high
pub record QueryKept (c d : Contents) (cs : List Change) (k : ℕ) (r : CalledBook Found) : Type 0 where
  pub stock_reads : ℕ
  pub day_reads : ℕ
  pub answer_is : r.answer ≡ Ok (record { holding = holding_of k cs; stock_reads = stock_reads; day_reads = day_reads })
  pub stock_at_most : stock_reads ≤ height (grown quantity_algebra (stock_messages cs))
  pub day_at_most : day_reads ≤ height (grown latest_day_algebra (day_messages cs))
  pub keeps : Keeps r.stock r.day cs
  pub stock_work : Work c.image r.stock.image stock_reads 0 0
  pub day_work : Work d.image r.day.image day_reads 0 0

abbrev pub QueryLaw : Type 0
QueryLaw = (c d : Contents) (cs : List Change) → Keeps c d cs → (k : ℕ) → k < 2 ^ 32 → QueryKept c d cs k (queried_book c d k)

-- ---- a total
-- the answer is what the changes say of the range, each page reads as many blocks as the stock store's tree is high, and the store keeps what it held
pub record TotalKept (c : Contents) (cs : List Change) (low high : ℕ) (r : Totalled) : Type 0 where
  pub sum : Sum
  pub answer_is : r.answer ≡ Ok sum
  pub says : SumOf low high cs sum
  pub reads_are : sum.stock_reads ≡ sum.pages * height (grown quantity_algebra (stock_messages cs))
  pub holds : Holds quantity_algebra r.stock (stock_messages cs)
  pub work : Work c.image r.stock.image sum.stock_reads 0 0

-- a refused total leaves the store and the table as they were
pub record TotalRefused (c : Contents) (table : List (Entry ℕ)) (y : StoreRefusal) (r : Totalled) : Type 0 where
  pub answer_is : r.answer ≡ Err (Met Stock (store_report y))
  pub stock_kept : r.stock ≡ c
  pub table_kept : r.table ≡ table

abbrev pub TotalOutcome : Contents → List Change → ℕ → ℕ → List (Entry ℕ) → Totalled → Option StoreRefusal → Type 0
TotalOutcome c cs low high table r None = TotalKept c cs low high r
TotalOutcome c cs low high table r (Some y) = TotalRefused c table y r

-- a total is refused where its range is empty or its table is short, and nowhere else
abbrev pub TotalLaw : Type 0
TotalLaw = (c d : Contents) (cs : List Change) → Keeps c d cs → (low high : ℕ) → high < 2 ^ 32 → (table : List (Entry ℕ))
    → TotalOutcome c cs low high table (totalled c d low high table) (page_refusal low high (length table))
