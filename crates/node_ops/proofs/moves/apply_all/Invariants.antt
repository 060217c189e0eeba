use Rattle.std.proofs.Common.{◌≡◌, ◌+◌, ◌≤◌, drop, vec_items, vec_len, vec_capacity}
use Rattle.messages.specs.Lists.{acts_in}
use Rattle.node_ops.proofs.moves.apply_all.Given as goal

abbrev pub invariant-loop-message : goal.invariant-loop-message
invariant-loop-message g l =
    let K = g.K.Kind.algebra in
    (acts_in K (vec_items l.records) (drop l.message-index l.arriving) ≡ acts_in K (vec_items l.initial.records) l.arriving)
    × (vec_len l.records ≤ vec_len l.initial.records + l.message-index)
    × (vec_capacity l.records ≡ vec_capacity l.initial.records)
