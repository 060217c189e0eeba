-- How a run ends, and what is left where it is not made.
use Rattle.std.specs.Prelude.{◌≡◌, ◌⊎◌, List, [], ◌∷◌, ◌++◌, Err}
use Rattle.blocks.specs.Media.{Medium}
use Rattle.plan.specs.Images.{image}
use Rattle.calls.specs.declared.call.Call.TheVariants.{Close}
use Rattle.calls.specs.declared.point.Point.{Point}
use Rattle.calls.specs.declared.refusal.Refusal.{Refusal}
use Rattle.book_plan.specs.Books.{formatted_book}
use Rattle.traces.specs.Steps.{Made}
use Rattle.traces.specs.Views.{View}
use Rattle.runs.specs.declared.run.Reason.{Reason}
use Rattle.runs.specs.declared.run.Reason.TheVariants.{NoMemory, Refused}

-- a book that is open after the points ps is closed by one more call
pub record ClosedBy (v : View) (ps qs : List Point) (w : View) : Type 0 where
  pub point : Point
  pub call_is : point.call ≡ Close
  pub added : qs ≡ ps ++ (point ∷ [])
  pub made : Made v point w

abbrev pub Ended : View → List Point → List Point → View → Type 0
Ended v ps qs w = ((v ≡ w) × (qs ≡ ps)) ⊎ ClosedBy v ps qs w

-- formatting was refused, and left both devices as they were
pub record Unfit (m n : Medium) (y : Refusal) (m' n' : Medium) : Type 0 where
  pub book_is : formatted_book (image m) (image n) m.allowance n.allowance ≡ record { answer = Err y; stock = image m'; day = image n' }
  pub stock_kept : image m' ≡ image m
  pub day_kept : image n' ≡ image n

abbrev pub LeftOver : Medium → Medium → Reason → Medium → Medium → Type 0
LeftOver m n NoMemory m' n' = (m' ≡ m) × (n' ≡ n)
LeftOver m n (Refused y) m' n' = Unfit m n y m' n'
