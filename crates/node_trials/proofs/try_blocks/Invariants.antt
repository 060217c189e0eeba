use Rattle.std.proofs.Common.{◌≤◌}
use Rattle.node_trials.proofs.try_blocks.Given as goal

abbrev pub invariant-loop-changes : goal.invariant-loop-changes
invariant-loop-changes g l = goal.F-IsAlwaysCallable g l.read × (l.as_expected ≤ l.changes-index)
