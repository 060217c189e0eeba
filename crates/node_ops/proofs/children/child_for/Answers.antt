use Rattle.std.proofs.Common.{◌∙◌, ap}
use Rattle.plan.specs.Queries.{place_among}
use Rattle.node_ops.proofs.Front.{at_or_below}
use Rattle.node_ops.proofs.children.child_for.Goals as goal

pub returns : goal.returns
returns c = c.at_or_below.ensures ∙ at_or_below c.args.key c.deref.result.now ∙ ap (λ pivots. place_among pivots c.args.key) c.deref.ensures.value
