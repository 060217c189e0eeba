use Rattle.std.proofs.Common.{◌+◌, ◌%◌, ◌^◌, ◌<◌, get_or, ap, ◌∙◌, take_all, w64, to_z, of_z, rules}
use Rattle.std.proofs.lemmas.Int.{to_z-of_z}
use Rattle.messages.specs.Words.{signed, word}
use Rattle.store_plan.specs.Pages.{no_entry}
use Rattle.tree.specs.Laws.{sum_of_words}
use Rattle.book.proofs.Adding.{none_added, one_added}
use Rattle.book.proofs.totals.add_words.Goals as goal

pub loop-item-init : goal.loop-item-init
loop-item-init c = none_added c.args.sum c.ranges.sum

pub loop-item-preserved : goal.loop-item-preserved
loop-item-preserved c =
    let fits : (get_or c.args.page.now c.loop-item.item-index no_entry).value < 2 ^ 64 = search rules in
    one_added _ _ c.loop-item.item-index c.cast_signed-sum.result c.args.page.now c.loop-item.auto.sum.fits c.loop-item-test.true fits c.cast_signed-sum.ensures c.loop-item.invariant

pub returns : goal.returns
returns c =
    c.loop-item.invariant
    ∙ ap (λ xs. signed ((word (to_z w64 (of_z w64 c.args.sum)) + sum_of_words xs) % 2 ^ 64)) (take_all _ _ c.loop-item-test.false)
    ∙ ap (λ z. signed ((word z + sum_of_words c.args.page.now) % 2 ^ 64)) (to_z-of_z w64 c.args.sum c.ranges.sum)
