use Rattle.std.proofs.Common.{◌≡◌, ◌+◌, ◌++◌, vec_items, vec_len, vec_capacity}
use Rattle.rows.specs.Tables.{values_of}
use Rattle.rows.proofs.table.read_table.Given as goal

abbrev pub invariant-loop-row : goal.invariant-loop-row
invariant-loop-row g l =
    (vec_items l.values ≡ vec_items l.initial.values ++ values_of g.T.Row.coding l.row l.table)
    × (vec_len l.values ≡ vec_len l.initial.values + l.row)
    × (vec_capacity l.values ≡ vec_capacity l.initial.values)
