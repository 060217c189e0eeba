use Rattle.std.proofs.Common.{◌≡◌, true, take}
use Rattle.rows.specs.Bytes.{all_zero}
use Rattle.rows.proofs.bytes.is_zero.Given as goal

abbrev pub invariant-loop-b : goal.invariant-loop-b
invariant-loop-b l = all_zero (take l.b-index l.bytes) ≡ true
