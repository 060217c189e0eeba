use Rattle.nodes.specs.Views.{view}
use Rattle.steps.proofs.Paging.{past}
use Rattle.steps.proofs.bench.Bench.enter.Goals as goal

pub returns-clause-past : goal.returns-clause-past
returns-clause-past g c ok = past (view c.args.root.now.node) c.args.key c.child_for.result _ c.child_for.ensures (c.fetch_child.ensures.span ok).1
