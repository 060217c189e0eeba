use Rattle.std.proofs.Common.{◌≡◌, ◌^◌, ◌<◌, drop}
use Rattle.fields.specs.Told.{reads}
use Rattle.fields.proofs.numbers.digits.Given as goal

abbrev pub invariant-loop-b : goal.invariant-loop-b
invariant-loop-b l = (reads l.n (drop l.b-index l.text) ≡ reads 0 l.text) × (l.n < 10 ^ l.b-index)
