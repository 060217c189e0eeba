use Rattle.std.proofs.Common.{◌≡◌, ◌+◌, ◌-◌, ◌*◌, ◌&&◌, ◌++◌, drop, vec_items, vec_len, vec_capacity}
use Rattle.rows.specs.Tables.{values_of, all_rows}
use Rattle.rules.specs.Keys.{rows_in_order}
use Rattle.rules.proofs.entries.read_entries.Given as goal

abbrev pub invariant-loop-row : goal.invariant-loop-row
invariant-loop-row g l =
    let c = g.T.Row.coding in
    let k = g.T.KeyedRow in
    let left = l.count - l._row in
    record {
      rest : l.rest ≡ drop (c.size * l._row) l.table;
      entries : vec_items l.entries ≡ vec_items l.initial.entries ++ values_of c l._row l.table;
      capacity : vec_capacity l.entries ≡ vec_capacity l.initial.entries;
      length : vec_len l.entries ≡ vec_len l.initial.entries + l._row;
      order : rows_in_order c k.key k.known l.span.low l.span.high l.count l.table ≡ (l.in_order && rows_in_order c k.key k.known l.next l.span.high left l.rest);
      exact : all_rows k.exact c.size l.count l.table ≡ (l.exact && all_rows k.exact c.size left l.rest);
    }
