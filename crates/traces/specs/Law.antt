-- The law of every list of calls on a book that was formatted on sound devices. It speaks of answers and readings alone.
use Rattle.std.specs.Prelude.{◌≡◌, ℕ, ◌+◌, ◌-◌, ◌*◌, ◌%◌, ◌^◌, ◌≤◌, Bool, true, false, List, [], ◌∷◌, ◌++◌, length, Some, None, Option}
use Rattle.store_plan.specs.declared.figures.Figures.{Figures}
use Rattle.calls.specs.declared.answer.Answer.{Answer}
use Rattle.calls.specs.declared.answer.Answer.TheVariants.{NotMade, Opened, Done, Refused, Found as found_answer, Total as total_answer, Figures as figures_answer, Closed}
use Rattle.calls.specs.declared.answer.Found.{Found}
use Rattle.calls.specs.declared.answer.Sum.{Sum}
use Rattle.calls.specs.declared.call.Call.{Call}
use Rattle.calls.specs.declared.call.Call.TheVariants.{Open, Booking, Count, Strike, Query, Total, Figures as figures_call, Close}
use Rattle.calls.specs.declared.part.Part.{Part}
use Rattle.calls.specs.declared.part.Part.TheVariants.{Stock, Day}
use Rattle.calls.specs.declared.point.Point.{Point}
use Rattle.calls.specs.declared.point.Reading.{Reading}
use Rattle.book_plan.specs.Changes.{Change, holding_of}
use Rattle.book_plan.specs.Changes.Change.{booking, count, strike}
use Rattle.book_plan.specs.Sums.{SumOf}

-- ---- what is counted along a trace
-- of two things, the one that belongs to a store
abbrev pub of : {X : Type 0} → Part → X → X → X
of Stock x y = x
of Day x y = y

abbrev pub reading : Part → Point → Reading
reading part p = of part p.stock p.day

abbrev pub one_if_none : {X : Type 0} → Option X → ℕ
one_if_none None = 1
one_if_none (Some x) = 0

abbrev pub one_if : Bool → ℕ
one_if true = 1
one_if false = 0

-- 1 at an opening that left the store not stopped
abbrev pub opening_of : Part → Answer → ℕ
opening_of part NotMade = 0
opening_of part (Opened s d) = one_if_none (of part s d)
opening_of part Done = 0
opening_of part (Refused y) = 0
opening_of part (found_answer f) = 0
opening_of part (total_answer s) = 0
opening_of part (figures_answer f) = 0
opening_of part (Closed s d) = 0

-- 1 at a closing that found the store not stopped
abbrev pub closing_of : Part → Answer → ℕ
closing_of part NotMade = 0
closing_of part (Opened s d) = 0
closing_of part Done = 0
closing_of part (Refused y) = 0
closing_of part (found_answer f) = 0
closing_of part (total_answer s) = 0
closing_of part (figures_answer f) = 0
closing_of part (Closed s d) = one_if (of part s d)

abbrev pub counted : (Answer → ℕ) → List Point → ℕ
counted f [] = 0
counted f (p ∷ ps) = f p.answer + counted f ps

-- the change that a call asks for, and whether the answer accepted it
abbrev pub asked : Call → List Change
asked Open = []
asked (Booking sheet amount day) = booking sheet amount day ∷ []
asked (Count sheet amount day) = count sheet amount day ∷ []
asked (Strike sheet) = strike sheet ∷ []
asked (Query sheet) = []
asked (Total low high) = []
asked (figures_call part) = []
asked Close = []

abbrev pub if_done : Answer → List Change → List Change
if_done NotMade xs = []
if_done (Opened s d) xs = []
if_done Done xs = xs
if_done (Refused y) xs = []
if_done (found_answer f) xs = []
if_done (total_answer s) xs = []
if_done (figures_answer f) xs = []
if_done (Closed s d) xs = []

-- the changes that were accepted along a trace, the newest first; each gives each store one message
abbrev pub changes : List Point → List Change
changes [] = []
changes (p ∷ ps) = changes ps ++ if_done p.answer (asked p.call)

-- ---- wear
-- a store that reads r, whose device had counted `start` writes before it was formatted, after so many openings, closings and updates
pub record Worn (start openings closings updates : ℕ) (r : Reading) : Type 0 where
  pub updates_are : r.figures.updates ≡ updates
  -- the device's own count: 2 writes of formatting, 1 of each opening and of each closing, and the tree writes
  pub writes_are : r.writes ≡ (start + (2 + openings + closings + r.figures.tree_writes)) % 2 ^ 64
  -- 16 updates cost at most one write for each level, the leaves' included
  pub pace : 16 * r.figures.tree_writes ≤ r.figures.updates * (r.figures.height + 1)
  -- and a high tree has taken many updates
  pub tall : 2 ≤ r.figures.height → 113 * (2 * 4 ^ (r.figures.height - 1) - 1) ≤ r.figures.updates

-- the book stands open after p
abbrev pub Stands : Point → Type 0
Stands p = (p.stock.stands ≡ true) × (p.day.stands ≡ true)

-- the points of a trace up to p and with it
abbrev pub upto : List Point → Point → List Point
upto before p = before ++ (p ∷ [])

abbrev pub WearLaw : ℕ → ℕ → List Point → Type 0
WearLaw stock_start day_start trace = (before after : List Point) (p : Point) → trace ≡ before ++ (p ∷ after) → Stands p → (part : Part)
    → Worn (of part stock_start day_start) (counted (opening_of part) (upto before p)) (counted (closing_of part) (upto before p)) (length (changes (upto before p))) (reading part p)

-- ---- answers
-- what is answered at p is what the changes cs that were accepted before it say
pub record Plain (cs : List Change) (p : Point) : Type 0 where
  pub of_queries : (sheet : ℕ) (f : Found) → p.call ≡ Query sheet → p.answer ≡ found_answer f → f.holding ≡ holding_of sheet cs
  pub of_totals : (low high : ℕ) (s : Sum) → p.call ≡ Total low high → p.answer ≡ total_answer s → SumOf low high cs s
  -- figures are those that the store reads
  pub of_figures : (part : Part) (f : Figures) → p.call ≡ figures_call part → p.answer ≡ figures_answer f
      → f ≡ (reading part p).figures

abbrev pub AnswerLaw : List Point → Type 0
AnswerLaw trace = (before after : List Point) (p : Point) → trace ≡ before ++ (p ∷ after) → Plain (changes before) p

-- ---- reads
-- what the call of q read, after p: as many blocks as its answer says, by the devices' own counts
pub record CountedReads (p q : Point) : Type 0 where
  -- a query at most as many of each store as that is high
  pub of_queries : (sheet : ℕ) (f : Found) → q.call ≡ Query sheet → q.answer ≡ found_answer f
      → (f.stock_reads ≤ q.stock.figures.height) × (f.day_reads ≤ q.day.figures.height)
      × (q.stock.reads ≡ (p.stock.reads + f.stock_reads) % 2 ^ 64) × (q.day.reads ≡ (p.day.reads + f.day_reads) % 2 ^ 64)
  -- each page of a total just as many as the stock store is high
  pub of_totals : (low high : ℕ) (s : Sum) → q.call ≡ Total low high → q.answer ≡ total_answer s
      → (s.stock_reads ≡ s.pages * q.stock.figures.height)
      × (q.stock.reads ≡ (p.stock.reads + s.stock_reads) % 2 ^ 64) × (q.day.reads ≡ p.day.reads)

-- a query or a total is never the first point of a trace that is answered, since a book begins closed
abbrev pub ReadLaw : List Point → Type 0
ReadLaw trace = (before after : List Point) (p q : Point) → trace ≡ before ++ (p ∷ q ∷ after) → CountedReads p q

-- ---- all of it
pub record Law (stock_start day_start : ℕ) (trace : List Point) : Type 0 where
  pub wear : WearLaw stock_start day_start trace
  pub answers : AnswerLaw trace
  pub reads : ReadLaw trace
