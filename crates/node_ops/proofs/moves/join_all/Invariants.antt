use Rattle.std.proofs.Common.{◌≡◌, ◌+◌, ◌≤◌, drop, vec_items, vec_len, vec_capacity}
use Rattle.messages.specs.Lists.{joins}
use Rattle.node_ops.proofs.moves.join_all.Given as goal

abbrev pub invariant-loop-message : goal.invariant-loop-message
invariant-loop-message g l =
    let K = g.K.Kind.algebra in
    (joins K (vec_items l.messages) (drop l.message-index l.arriving) ≡ joins K (vec_items l.initial.messages) l.arriving)
    × (vec_len l.messages ≤ vec_len l.initial.messages + l.message-index)
    × (vec_capacity l.messages ≡ vec_capacity l.initial.messages)
