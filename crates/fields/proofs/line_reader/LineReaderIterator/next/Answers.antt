use Rattle.std.proofs.Common.{sym, refl, ap, ◌∙◌, length, arith}
use Rattle.fields.specs.Parts.{before}
use Rattle.fields.specs.Told.{told}
use Rattle.fields.proofs.Cut.{first_field}
use Rattle.fields.proofs.line_reader.LineReaderIterator.next.Goals as goal

pub returns-clause-steps : goal.returns-clause-steps
returns-clause-steps c =
    let left = c.in_ok-get.ensures.lookup.0 in
    let field = first_field c.self.inside.line.now c.self.inside.place c.before-text.result.now left.0 (c.before-text.ensures ∙ ap (before 9) left.2) in
    let token = c.tell-token.ensures in
    rw (← c.self.view_is) record { first = rw token.part field.0; sort = token.sort ∙ ap told (sym token.part); place = token.at; part = rw (token.at, token.part) field.1; same = refl }

pub returns-clause-goes : goal.returns-clause-goes
returns-clause-goes c =
    let left = c.in_ok-get.ensures.lookup.0 in
    let field = first_field c.self.inside.line.now c.self.inside.place c.before-text.result.now left.0 (c.before-text.ensures ∙ ap (before 9) left.2) in
    rw (← c.self.view_is) record { on = λ h. (tt, tt, omega (arith, ap length field.0)); keeps = tt; rests = λ h. tt }
