use Rattle.std.proofs.Common.{vec_items, sym}
use Rattle.runs.specs.Books.{view}
use Rattle.runs.proofs.Formats.{unfit_at, traced, traced_at}
use Rattle.runs.proofs.run.run.Goals as goal

pub returns-in-Err-clause-not_run : goal.returns-in-Err-clause-not_run
returns-in-Err-clause-not_run g c =
    let new = c.new-book.ensures in
    let back = c.hand_back-stock.ensures in
    unfit_at g.S.Device.meaning g.D.Device.meaning c.args.stock c.new-book.result.stock c.format.new.self.stock _ c.args.day c.new-book.result.day c.format.new.self.day _
    new.stock new.day back.stock back.day c.in-Err.refusal c.in-Err.ensures.value

pub returns-clause-finished : goal.returns-clause-finished
returns-clause-finished g c =
    let new = c.new-book.ensures in
    let formatted = c.in_default-format.ensures in
    let played = c.play-book.ensures in
    let back = c.hand_back-stock-2.ensures in
    let S = g.S.Device.meaning in
    let D = g.D.Device.meaning in
    let before = c.format.new.self in
    traced_at S D c.args.stock c.new-book.result.stock c.end-book.result.stock _ c.args.day c.new-book.result.day c.end-book.result.day _
    new.stock new.day back.stock back.day c.args.calls.now _
    (traced (S c.new-book.result.stock) (D c.new-book.result.day) (S before.stock) (D before.day)
    (g.S.Device.sane c.new-book.result.stock) (g.D.Device.sane c.new-book.result.day)
    (record { book_is = sym formatted.value; stock_allowance = formatted.lowered.0; day_allowance = formatted.lowered.1 })
    c.args.calls.now (vec_items c.play-book.new.trace) _ (view c.play-book.result) (S c.end-book.result.stock) (D c.end-book.result.day)
    played.calls played.went c.end-book.ensures)
