use Rattle.std.proofs.Common.{◌≡◌, ◌+◌, drop}
use Rattle.messages.specs.Lists.{below}
use Rattle.messages.proofs.list.place_of.Given as goal

abbrev pub invariant-loop-i : goal.invariant-loop-i
invariant-loop-i g l = l.i + below l.key (drop l.i l.entries) ≡ below l.key l.entries
