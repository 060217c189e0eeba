use Rattle.std.proofs.Common.{◌≡◌, ap, ◌∙◌, rules}
use Rattle.book_plan.specs.Totals.{Totalled}
use Rattle.traces.specs.Steps.{sum_answer}
use Rattle.runs.proofs.turn.answer_total.Goals as goal

pub returns : goal.returns
returns g c =
    let called = c.total.ensures in
    let told = c.map_or_else.result in
    let answer : told ≡ sum_answer c.total.result = search rules in (
      search rules,
      record {
        table = c.args.table.now;
        table_is = c.requires;
        answer_is = answer ∙ ap (λ (t : Totalled). sum_answer t.answer) called.value;
        stock_is = ap (λ (t : Totalled). t.stock) called.value;
        day_is = called.day;
        stock_allowance = called.allowances.0;
        day_allowance = called.allowances.1;
      },
    )
