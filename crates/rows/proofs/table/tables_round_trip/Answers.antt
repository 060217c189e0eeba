use Rattle.rows.proofs.Tables.{tables_round_trip}
use Rattle.rows.proofs.table.tables_round_trip.Goals as goal

pub returns : goal.returns
returns g c = tables_round_trip g.T.Row.coding
