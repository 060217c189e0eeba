use Rattle.std.proofs.Common.{ℕ, Option, ap, ◌∙◌}
use Rattle.messages.specs.Outcomes.{ok_unless}
use Rattle.nodes.specs.Checks.{node_fault}
use Rattle.rules.specs.declared.rule.Rule.{Rule}
use Rattle.node_ops.specs.CodeOf.{fault_of, pivots_at, children_at, messages_at, records_at, place_at}
use Rattle.tree.specs.Nodes.{Node}
use Rattle.node_ops.proofs.node_block.read_node.Goals as goal

pub returns-clause-answer : goal.returns-clause-answer
unfolding fault_of
returns-clause-answer g c =
    let fault : ℕ → Option Rule = λ kind. node_fault (place_at c.args.level c.args.span.low c.args.span.high kind c.args.next_free) c.args.block.now in
    c.read.ensures.answer ∙ ap (λ kind. ok_unless (fault kind) tt) c.number.ensures

pub returns-clause-span : goal.returns-clause-span
returns-clause-span g c = λ e.
    let low = ap (λ (x : Node). x.frame.low) (c.read.ensures.node e) in
    let high = ap (λ (x : Node). x.frame.high) (c.read.ensures.node e) in
    λ i. record { low = low i; high = high i }

pub returns-clause-node : goal.returns-clause-node
unfolding pivots_at children_at messages_at records_at
returns-clause-node g c = c.read.ensures.node
