use Rattle.std.proofs.Common.{◌≡◌, ◌<◌, length, arith}
use Rattle.std.proofs.lemmas.Bool.Decides.{nat_tests}
use Rattle.blocks.specs.Faulty.{faulty_size}
use Rattle.blocks.specs.Media.{block_bytes}
use Rattle.blocks.proofs.Written.{faulty_written}
use Rattle.blocks.proofs.faulty.FaultyDeviceDevice.write.Goals as goal

pub returns-clause-after : goal.returns-clause-after
returns-clause-after c =
    let s = c.args.self.now in
    let whole : length c.args.bytes.now ≡ block_bytes = grind (arith, nat_tests) in
    let inside : c.args.block < faulty_size s.bytes.now s.states.now = grind (arith, nat_tests) in
    rw c.put_block.ensures (faulty_written s.bytes.now c.args.bytes.now s.states.now c.args.block s.allowance c.worn-self.result s.reads s.writes inside whole)
