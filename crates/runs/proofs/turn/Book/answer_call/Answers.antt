use Rattle.std.proofs.Common.{rules}
use Rattle.runs.proofs.turn.Book.answer_call.Goals as goal
use Rattle.runs.proofs.turn.Book.answer_call.Goals.{in_default-Open, in-Open-Booking, in-Open-Count, in-Open-Strike, in-Open-Query, in-Open-Total, in-Open-Figures, in-Closed-default, in-Closed-default-2, in-Closed-default-3, in-Closed-default-4, in-Closed-default-5, in-Closed-default-6}

pub returns-clause-made : goal.returns-clause-made
returns-clause-made g c =
    elim c.match-call.branch [
      | in_default-Open w ↦ search rules
      | in-Open-Booking w ↦ search rules
      | in-Open-Count w ↦ search rules
      | in-Open-Strike w ↦ search rules
      | in-Open-Query w ↦ search rules
      | in-Open-Total w ↦ search rules
      | in-Open-Figures w ↦ search rules
      | in-Closed-default w ↦ search rules
      | in-Closed-default-2 w ↦ search rules
      | in-Closed-default-3 w ↦ search rules
      | in-Closed-default-4 w ↦ search rules
      | in-Closed-default-5 w ↦ search rules
      | in-Closed-default-6 w ↦ search rules
    ]
