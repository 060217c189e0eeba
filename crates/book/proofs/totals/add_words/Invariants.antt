use Rattle.std.proofs.Common.{◌≡◌, ◌+◌, ◌%◌, ◌^◌, take}
use Rattle.messages.specs.Words.{signed, word}
use Rattle.tree.specs.Laws.{sum_of_words}
use Rattle.book.proofs.totals.add_words.Given as goal

abbrev pub invariant-loop-item : goal.invariant-loop-item
invariant-loop-item l = l.sum ≡ signed ((word l.initial.sum + sum_of_words (take l.item-index l.page)) % 2 ^ 64)
