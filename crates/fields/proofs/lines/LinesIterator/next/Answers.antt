use Rattle.std.proofs.Common.{length, refl, ap, arith}
use Rattle.fields.proofs.Cut.{first_line}
use Rattle.fields.proofs.lines.LinesIterator.next.Goals as goal

pub returns-clause-steps : goal.returns-clause-steps
returns-clause-steps c =
    rw (← c.self.view_is) record { first = first_line c.self.inside.input.now c.self.inside.place c.before-line.result.now c.if-self.false c.before-line.ensures; same = refl }

pub returns-clause-goes : goal.returns-clause-goes
returns-clause-goes c =
    let step = ap length (first_line c.self.inside.input.now c.self.inside.place c.before-line.result.now c.if-self.false c.before-line.ensures) in
    rw (← c.self.view_is) record { on = λ h. (tt, tt, omega (arith, step)); keeps = tt; rests = λ h. tt }
