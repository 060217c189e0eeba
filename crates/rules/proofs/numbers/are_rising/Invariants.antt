use Rattle.std.proofs.Common.{◌≡◌, drop}
use Rattle.rules.specs.Keys.{rising}
use Rattle.rules.proofs.numbers.are_rising.Given as goal

abbrev pub invariant-loop-k : goal.invariant-loop-k
invariant-loop-k l = rising l.next l.span.high (drop l.k-index l.keys) ≡ rising l.span.low l.span.high l.keys
