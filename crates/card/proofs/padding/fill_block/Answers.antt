use Rattle.std.proofs.Common.{ap, ◌∙◌}
use Rattle.card.specs.Keeping.{padded}
use Rattle.card.proofs.Padded.{part_is}
use Rattle.card.proofs.padding.fill_block.Goals as goal

pub returns : goal.returns
returns c = c.pad.ensures ∙ ap padded (part_is c.args.input.now c.args.part c.min-to.result c.min-to.ensures)
