use Rattle.std.proofs.Common.{◌≡◌, rules}
use Rattle.std.specs.Result.{result_err}
use Rattle.book_plan.specs.Books.{bad_value}
use Rattle.book.proofs.Refused.{refused}
use Rattle.book.proofs.book.OpenBook.count.Goals as goal

pub returns-clause-value : goal.returns-clause-value
returns-clause-value g c =
    let value : result_err c.check_value.result ≡ bad_value c.args.amount c.args.day = refused _ c.args.amount c.args.day c.ranges.amount c.check_value.ensures in
    search rules

pub returns-clause-lowered : goal.returns-clause-lowered
returns-clause-lowered g c = rw (refused _ c.args.amount c.args.day c.ranges.amount c.check_value.ensures) at c.update.ensures.lowered
