-- What is told of a cause: its number and its layer. No other place states these.
use Rattle.std.specs.Prelude.{ℕ}
use Rattle.rules.specs.declared.rule.Rule.{Rule}
use Rattle.plan.specs.Refusals.{store_number}
use Rattle.plan.specs.declared.cause.Cause.{Cause}
use Rattle.plan.specs.declared.cause.Cause.TheVariants.{Device, BadNode, Store}
use Rattle.plan.specs.declared.layer.Layer.{Layer}
use Rattle.plan.specs.declared.layer.Layer.TheVariants.{Device as device_layer, Node as node_layer, Store as store_layer}
use Rattle.plan.specs.declared.refusal.StoreRefusal.{StoreRefusal}

-- a cause whose fault is told by its number
abbrev pub Report : Type 0
Report = Cause ℕ

-- a refusal of the device at block n, a node in block n that breaks a rule, and a refusal of the store itself
abbrev pub device_report : ℕ → ℕ → Report
device_report number n = Device number n

abbrev pub node_report : ℕ → Rule → Report
node_report n rule = BadNode n rule

abbrev pub store_report : StoreRefusal → Report
store_report r = Store r

-- the number of a report
abbrev pub number_of : Report → ℕ
number_of (Device number n) = number
number_of (BadNode n rule) = 12
number_of (Store r) = store_number r

-- the layer that refused
abbrev pub layer_of : Report → Layer
layer_of (Device number n) = device_layer
layer_of (BadNode n rule) = node_layer
layer_of (Store r) = store_layer

-- a cause told by the numbers of the device's faults
abbrev pub told_by : {F : Type 0} → (F → ℕ) → Cause F → Report
told_by number (Device fault n) = Device (number fault) n
told_by number (BadNode n rule) = BadNode n rule
told_by number (Store r) = Store r
