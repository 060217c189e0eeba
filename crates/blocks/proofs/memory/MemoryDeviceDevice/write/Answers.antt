use Rattle.std.proofs.Common.{◌≡◌, ◌-◌, ◌<◌, length, arith}
use Rattle.std.proofs.lemmas.Bool.Decides.{nat_tests}
use Rattle.blocks.specs.Media.{block_bytes}
use Rattle.blocks.specs.Memory.{whole_blocks}
use Rattle.blocks.proofs.Written.{memory_written, put_left_over}
use Rattle.blocks.proofs.memory.MemoryDeviceDevice.write.Goals as goal

pub returns-clause-after : goal.returns-clause-after
returns-clause-after c =
    let s = c.args.self.now in
    let whole : length c.args.bytes.now ≡ block_bytes = grind (arith, nat_tests) in
    let inside : c.args.block < whole_blocks (length s.bytes.now) = grind (arith, nat_tests) in
    rw c.put_block.ensures (memory_written s.bytes.now c.args.bytes.now c.args.block s.allowance (s.allowance - 1) s.reads s.writes inside whole)

pub returns-clause-untouched : goal.returns-clause-untouched
returns-clause-untouched c =
    let s = c.args.self.now in
    let whole : length c.args.bytes.now ≡ block_bytes = grind (arith, nat_tests) in
    let inside : c.args.block < whole_blocks (length s.bytes.now) = grind (arith, nat_tests) in
    rw c.put_block.ensures (put_left_over s.bytes.now c.args.bytes.now c.args.block inside whole)
