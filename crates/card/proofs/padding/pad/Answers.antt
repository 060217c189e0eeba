use Rattle.std.proofs.Common.{arith}
use Rattle.card.proofs.Padded.{padded_is}
use Rattle.card.proofs.padding.pad.Goals as goal

pub returns : goal.returns
returns c =
    padded_is c.args.bytes.now c.args.block.now c.copy_from_slice.new.self c.fill.new.self (omega arith) (omega arith)
    c.copy_from_slice.ensures.after
    (c.fill.ensures.after (λ y e. e))
