use Rattle.std.proofs.Common.{arith}
use Rattle.std.proofs.lemmas.List.{at_drop_all}
use Rattle.std.proofs.lemmas.Bool.Decides.{nat_tests}
use Rattle.messages.specs.Lists.{below}
use Rattle.messages.proofs.Places.{below_next}
use Rattle.messages.proofs.list.place_of.Goals as goal

pub returns-then-from-key : goal.returns-then-from-key
returns-then-from-key g c =
    let h = below_next c.args.key c.args.entries.now c.loop-i.i c.index-entries-i.result c.loop-i-test.true c.index-entries-i.is in
    record { value = grind (arith, nat_tests); within = omega arith; all = λ past. absurd (omega arith) }

pub loop-i-preserved : goal.loop-i-preserved
loop-i-preserved g c =
    let h = below_next c.args.key c.args.entries.now c.loop-i.i c.index-entries-i.result c.loop-i-test.true c.index-entries-i.is in
    grind (arith, nat_tests)

pub returns : goal.returns
returns g c =
    let e = at_drop_all (below c.args.key) c.args.entries.now c.loop-i.i c.loop-i-test.false in
    record { value = omega (arith, c.loop-i.invariant); within = omega arith; all = λ past. omega arith }
