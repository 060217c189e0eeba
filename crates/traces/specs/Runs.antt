-- What a run promises: its trace is real, and keeps the law.
use Rattle.std.specs.Prelude.{◌≡◌, ◌⊎◌, List, [], ◌∷◌, ◌++◌, map, Ok}
use Rattle.blocks.specs.Media.{Medium, Sane}
use Rattle.plan.specs.Images.{image}
use Rattle.bridge.specs.Work.{AllSound}
use Rattle.calls.specs.declared.call.Call.{Call}
use Rattle.calls.specs.declared.call.Call.TheVariants.{Close}
use Rattle.calls.specs.declared.point.Point.{Point}
use Rattle.book_plan.specs.Books.{formatted_book}
use Rattle.traces.specs.Law.{Law}
use Rattle.traces.specs.Steps.{Falls, Went}
use Rattle.traces.specs.Views.View.{closed}

-- a book is formatted on two devices: they meant m and n before, and mean m' and n' then
pub record Formats (m n m' n' : Medium) : Type 0 where
  pub book_is : formatted_book (image m) (image n) m.allowance n.allowance ≡ record { answer = Ok tt; stock = image m'; day = image n' }
  pub stock_allowance : Falls 2 m.allowance m'.allowance
  pub day_allowance : Falls 2 n.allowance n'.allowance

-- the calls of a trace
abbrev pub called : List Point → List Call
called trace = map (λ p. p.call) trace

-- a run of calls on devices that meant m and n when they were handed in, and mean m'' and n'' when they are handed back
pub record Traced (m n : Medium) (calls : List Call) (trace : List Point) (m'' n'' : Medium) : Type 0 where
  -- one point for each call, in order; a book that the list leaves open is closed by one more call
  pub calls_made : (called trace ≡ calls) ⊎ (called trace ≡ calls ++ (Close ∷ []))
  -- each point is what that call did, by its own contract, from the devices handed in to those handed back: so nothing in it is made up
  pub m' : Medium
  pub n' : Medium
  pub formats : Formats m n m' n'
  pub did : Went (closed m' n') trace (closed m'' n'')
  -- on devices all of whose blocks were sound, the law holds
  pub law : AllSound (image m) → AllSound (image n) → Law m.writes n.writes trace

-- every trace of a book that was formatted on sound devices keeps the law
abbrev pub TraceLaw : Type 0
TraceLaw = (m n m' n' : Medium) → Sane m → Sane n → Formats m n m' n' → (trace : List Point) (m'' n'' : Medium) → Went (closed m' n') trace (closed m'' n'')
    → AllSound (image m) → AllSound (image n) → Law m.writes n.writes trace
