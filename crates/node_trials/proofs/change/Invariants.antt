use Rattle.std.proofs.Common.{◌≡◌, length, drop}
use Rattle.node_trials.specs.Trials.{changed}
use Rattle.node_trials.proofs.change.Given as goal

abbrev pub invariant-loop-place : goal.invariant-loop-place
invariant-loop-place l = (length l.block ≡ 4096) × (changed (drop l.place-index l.changes) l.block ≡ changed l.changes l.initial.block)
