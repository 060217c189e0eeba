use Rattle.std.proofs.Common.{◌≡◌, ◌+◌, ◌-◌, arith}
use Rattle.blocks.proofs.memory.put_block.Goals as goal

pub returns : goal.returns
returns c =
    let same : c.args.at + 4096 - c.args.at ≡ 4096 = omega arith in
    simp (same, c.copy.ensures)
