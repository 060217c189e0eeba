use Rattle.std.proofs.Common.{◌+◌, List, drop, vec_items, sym, ap, ◌∙◌, arith, rules}
use Rattle.std.proofs.lemmas.List.{at_drop_more, at_drop_all}
use Rattle.messages.specs.Lists.{entry, joins}
use Rattle.messages.specs.declared.entry.Entry.{Entry}
use Rattle.messages.specs.declared.message.Message.{Message}
use Rattle.messages.specs.declared.message.Message.TheVariants.{Put}
use Rattle.node_ops.proofs.moves.join_all.Goals as goal

pub loop-message-preserved : goal.loop-message-preserved
loop-message-preserved g c =
    let K = g.K.Kind.algebra in
    let bs = c.args.arriving.now in
    let i = c.loop-message.message-index in
    let next = at_drop_more (λ (ys : List (Entry Message)). joins K (vec_items c.loop-message.messages) ys) bs i (entry 0 (Put 0)) (omega arith) in
    (ap (λ (xs : List (Entry Message)). joins K xs (drop (i + 1) bs)) c.join_message.ensures.items ∙ sym next ∙ c.loop-message.invariant.0, search rules, search rules)

pub returns : goal.returns
returns g c =
    let K = g.K.Kind.algebra in
    let all = at_drop_all (λ (ys : List (Entry Message)). joins K (vec_items c.loop-message.messages) ys) c.args.arriving.now c.loop-message.message-index (omega arith) in
    record { items = sym all ∙ c.loop-message.invariant.0; bound = search rules; capacity = search rules }
