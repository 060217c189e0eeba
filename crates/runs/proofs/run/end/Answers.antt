use Rattle.std.proofs.Common.{inr, refl, sym, ap, ◌∙◌, subst, vec_items, rules}
use Rattle.calls.specs.declared.call.Call.TheVariants.{Close}
use Rattle.calls.specs.declared.point.Point.{Point}
use Rattle.book.specs.Views.{Media}
use Rattle.book_plan.specs.Readings.{at_rest}
use Rattle.traces.specs.Steps.{Does, Made}
use Rattle.traces.specs.Views.View.{closed}
use Rattle.runs.specs.Books.{open_view, closed_view}
use Rattle.runs.specs.Ends.{Ended}
use Rattle.runs.proofs.run.end.Goals as goal

pub returns-in-Open : goal.returns-in-Open
returns-in-Open g c =
    let seen = c.readings.ensures in
    let point : Point = record { call = Close; answer = c.close_book-book.result.1; stock = c.readings.result.0; day = c.readings.result.1 } in
    let made : Made (open_view c.in-Open.book) point (closed_view g.S.Device g.D.Device c.readings.new.self) = record {
      does = subst (λ (m : Media). Does (open_view c.in-Open.book) Close point.answer (closed m.stock m.day)) (sym seen.same) c.close_book-book.ensures;
      stock_read = seen.stock ∙ ap (λ (m : Media). at_rest m.stock) (sym seen.same);
      day_read = seen.day ∙ ap (λ (m : Media). at_rest m.day) (sym seen.same);
      stock_fits = seen.fits.0;
      day_fits = seen.fits.1;
    } in
    let ended : Ended (open_view c.in-Open.book) (vec_items c.args.trace.now) (vec_items c.push_reserved.new.self) (closed_view g.S.Device g.D.Device c.readings.new.self) =
    inr (record { point = point; call_is = refl; added = c.push_reserved.ensures.items; made = made }) in
    search rules
