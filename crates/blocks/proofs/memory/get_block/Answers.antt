use Rattle.std.proofs.Common.{◌≡◌, ◌+◌, ◌-◌, refl, arith}
use Rattle.blocks.proofs.memory.get_block.Goals as goal

pub returns : goal.returns
returns c =
    let same : c.args.at + 4096 - c.args.at ≡ 4096 = omega arith in
    record { copied = rw same at c.copy.ensures; same = refl }
