use Rattle.std.proofs.Common.{◌≡◌, ◌+◌, ◌*◌, ◌<◌, ◌≤◌, vec_len}
use Rattle.node_ops.specs.CodeOf.{code_of}
use Rattle.nodes.specs.Views.{view}
use Rattle.plan.specs.Steps.{sink}
use Rattle.steps.specs.Allowances.{rise}
use Rattle.steps.specs.Outcomes.{allowance_of, image_of}
use Rattle.steps.proofs.bench.Bench.sink.Given as goal

-- the outcome from here is the outcome from the start; allowance and blocks suffice for the levels that are left, and the allowance fell by at most the
-- writes that were counted
abbrev pub invariant-down : goal.invariant-down
invariant-down g l =
    let C = code_of g.K.Kind.algebra in
    let left = allowance_of g.D.Device l.device in
    let begun = allowance_of g.D.Device l.fn.device in
    record {
      same : sink C l.self.here.level (image_of g.D.Device l.device) l.progress.next_free l.progress.tree_writes l.at (view l.self.here)
          ≡ sink C l.fn.self.here.level (image_of g.D.Device l.fn.device) l.fn.progress.next_free l.fn.progress.tree_writes l.fn.first (view l.fn.self.here);
      enough : 2 * l.self.here.level + 1 ≤ left;
      lower : left ≤ begun;
      above : begun + 2 * l.self.here.level ≤ left + 2 * l.fn.self.here.level;
      children : 0 < l.self.here.level → vec_len l.self.here.children ≤ 7;
      blocks : l.progress.next_free + l.self.here.level ≤ l.fn.progress.next_free + l.fn.self.here.level;
      counted : rise l.fn.progress.tree_writes l.progress.tree_writes + 2 * l.self.here.level ≤ 2 * l.fn.self.here.level;
      fell : begun ≤ left + rise l.fn.progress.tree_writes l.progress.tree_writes;
    }

abbrev pub decreases-down : goal.decreases-down
decreases-down g l = l.self.here.level
