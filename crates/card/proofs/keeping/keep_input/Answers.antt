use Rattle.std.proofs.Common.{vec_items, ap, ◌∙◌, rules}
use Rattle.blocks.specs.Memory.{held}
use Rattle.card.specs.Keeping.{after_keep}
use Rattle.card.proofs.Kept.{keeps_none, keeps_more}
use Rattle.card.proofs.keeping.keep_input.Goals as goal

pub loop-part-init : goal.loop-part-init
loop-part-init c =
    let m = held c.args.card.now in
    let start = keeps_none m c.args.input.now in
    (rw c.in_ok-outcomes.ensures.items start, search rules, search rules, search rules, search rules)

pub loop-part-preserved : goal.loop-part-preserved
loop-part-preserved c =
    let m = held c.args.card.now in
    let t = held c.loop-part.card in
    let n = c.loop-part.part in
    let b = c.keep_block.ensures.after ∙ ap (after_keep c.keep_block.result t n) c.fill_block.ensures in
    let more =
    keeps_more m t c.args.input.now n (vec_items c.loop-part.outcomes) c.loop-part.invariant.0 c.keep_block.result (held c.keep_block.new.card)
    c.keep_block.ensures.outcome
    b in
    (rw c.push_reserved.ensures.items more, search rules, search rules, search rules, search rules)
