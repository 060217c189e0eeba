use Rattle.std.proofs.Common.{◌≡◌, ◌+◌, None}
use Rattle.node_ops.specs.CodeOf.{code_of}
use Rattle.nodes.specs.Views.{view}
use Rattle.plan.specs.Queries.{seek}
use Rattle.steps.specs.Outcomes.{allowance_of, image_of}
use Rattle.steps.proofs.bench.Bench.query.Given as goal

-- the answer from here is the answer from the root
abbrev pub invariant-down : goal.invariant-down
invariant-down g l =
    let C = code_of g.K.Kind.algebra in
    record {
      same : seek C l.self.here.level (image_of g.D.Device l.device) l.root.next_free (view l.self.here) l.key l.met l.reads
          ≡ seek C l.root.node.level (image_of g.D.Device l.fn.device) l.root.next_free (view l.root.node) l.key None 0;
      allowance : allowance_of g.D.Device l.device ≡ allowance_of g.D.Device l.fn.device;
      level : l.self.here.level + l.reads ≡ l.height;
    }
