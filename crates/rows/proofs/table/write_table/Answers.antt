use Rattle.std.proofs.Common.{◌≡◌, ◌*◌, length, take, ap, ◌∙◌, arith}
use Rattle.std.proofs.lemmas.List.{take_all}
use Rattle.rows.specs.Tables.{rows_of}
use Rattle.rows.proofs.Tables.{row_written, length_rows, zero_filled}
use Rattle.rows.proofs.table.write_table.Goals as goal

pub loop-i-preserved : goal.loop-i-preserved
loop-i-preserved g c = row_written g.T.Row.coding _ _ c.loop-i.i c.args.values.now _ c.loop-i.table _ c.size-size.ensures (omega arith) c.loop-i-test.true c.index-values-i.is c.loop-i.invariant c.write.ensures

pub returns : goal.returns
returns g c =
    let k = g.T.Row.coding in
    let xs = c.args.values.now in
    let e : c.loop-i.i ≡ length xs = omega arith in
    let front : take (length xs * c.size-size.result) c.loop-i.table ≡ rows_of k xs = rw e at c.loop-i.invariant ∙ ap (rows_of k) (take_all (length xs) xs (omega arith)) in
    let used : length (rows_of k xs) ≡ length xs * c.size-size.result = rw c.size-size.ensures (length_rows k xs ∙ omega arith) in
    zero_filled _ (length c.args.table.now) (rows_of k xs) c.loop-i.table _ front used (omega arith) (c.fill.ensures.after (λ y e. e))
