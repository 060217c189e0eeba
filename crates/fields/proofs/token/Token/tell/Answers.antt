use Rattle.std.proofs.Common.{rules}
use Rattle.fields.specs.Told.{number, junk}
use Rattle.fields.specs.Laws.{ToldRight}
use Rattle.fields.proofs.Numerals.{told_right}
use Rattle.fields.proofs.token.Token.tell.Goals as goal

pub returns-in-Some-clause-right : goal.returns-in-Some-clause-right
returns-in-Some-clause-right c =
    let right : ToldRight c.args.text.now (number c.in-Some.value) = told_right c.args.text.now (number c.in-Some.value) (search rules) in
    search rules

pub returns-in-None-clause-right : goal.returns-in-None-clause-right
returns-in-None-clause-right c = told_right c.args.text.now junk (search rules)
