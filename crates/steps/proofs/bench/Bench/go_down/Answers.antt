use Rattle.std.proofs.Common.{refl, ap, ◌∙◌}
use Rattle.nodes.specs.declared.node.Node.{Node as NodeInMemory}
use Rattle.nodes.specs.Views.{view}
use Rattle.steps.proofs.Paging.{past}
use Rattle.steps.proofs.bench.Bench.go_down.Goals as goal

pub returns-clause-past : goal.returns-clause-past
returns-clause-past g c ok =
    let high = ap (λ (y : NodeInMemory). y.span.high) c.swap.ensures.x_after ∙ (c.in_ok-fetch_child.ensures.span refl).1 in
    past (view c.args.self.now.here) c.args.key c.child_for.result _ c.child_for.ensures high
