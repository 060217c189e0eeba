use Rattle.std.proofs.Common.{◌≡◌, ◌*◌, take}
use Rattle.rows.specs.Tables.{rows_of}
use Rattle.rows.proofs.table.write_table.Given as goal

abbrev pub invariant-loop-i : goal.invariant-loop-i
invariant-loop-i g l = take (l.i * l.size) l.table ≡ rows_of g.T.Row.coding (take l.i l.values)
