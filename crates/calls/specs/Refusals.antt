-- What a refusal of a book tells: its number, its layer, and the store that it is about. No other place states these.
use Rattle.std.specs.Prelude.{ℕ, Some, None, Option}
use Rattle.plan.specs.Reports.{number_of, layer_of}
use Rattle.plan.specs.declared.layer.Layer.{Layer}
use Rattle.plan.specs.declared.layer.Layer.TheVariants.{Store, Book}
use Rattle.calls.specs.declared.part.Part.{Part}
use Rattle.calls.specs.declared.refusal.Refusal.{Refusal}
use Rattle.calls.specs.declared.refusal.Refusal.TheVariants.{BadValue, Met, Stopped}

abbrev pub number_told : Refusal → ℕ
number_told BadValue = 3
number_told (Met part report) = number_of report
number_told (Stopped part first) = 2

abbrev pub layer_told : Refusal → Layer
layer_told BadValue = Book
layer_told (Met part report) = layer_of report
layer_told (Stopped part first) = Store

abbrev pub part_told : Refusal → Option Part
part_told BadValue = None
part_told (Met part report) = Some part
part_told (Stopped part first) = Some part
