use Rattle.std.proofs.Common.{◌≡◌, ℕ, suc, vec_len}
use Rattle.messages.specs.Lists.{below}
use Rattle.nodes.specs.Views.{view}
use Rattle.plan.specs.Steps.{pending_at, child_high}
use Rattle.node_ops.proofs.Largest.{Best}
use Rattle.node_ops.proofs.children.busiest_child.Given as goal

-- of the children from place j on, the one with most pending; and the messages below the end of the child before j
abbrev pub invariant-children : goal.invariant-children
invariant-children l =
    let x = view l.node in
    Best (pending_at x) (vec_len l.node.children) l.j l.best l.most
    × ((i : ℕ) → l.j ≡ suc i → l.upper ≡ below (child_high x i) x.messages)
