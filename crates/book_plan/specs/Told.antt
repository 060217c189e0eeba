-- What a book makes of the answer of one of its stores.
use Rattle.std.specs.Prelude.{Some, None, Ok, Err, Option, Result}
use Rattle.plan.specs.Reports.{Report}
use Rattle.calls.specs.declared.part.Part.{Part}
use Rattle.calls.specs.declared.part.Part.TheVariants.{Stock, Day}
use Rattle.calls.specs.declared.refusal.Refusal.{Refusal}
use Rattle.calls.specs.declared.refusal.Refusal.TheVariants.{BadValue, Met, Stopped}
use Rattle.store_plan.specs.Contents.{Answer}
use Rattle.store_plan.specs.Contents.Answer.{accepted, refused, was_stopped}

-- a store that was stopped before has a first report
abbrev pub stopped_by : Part → Option Report → Refusal
stopped_by part (Some y) = Stopped part y
stopped_by part None = BadValue

-- the store's answer, under the store's name
abbrev pub told : {T : Type 0} → Part → Answer T → Result T Refusal
told part (accepted x) = Ok x
told part (refused y) = Err (Met part y)
told part (was_stopped o) = Err (stopped_by part o)

-- the refusal of a book one of whose stores is stopped, by what stopped each
abbrev pub stopped_part : Option Report → Option Report → Option Refusal
stopped_part (Some y) o = Some (Stopped Stock y)
stopped_part None (Some y) = Some (Stopped Day y)
stopped_part None None = None
