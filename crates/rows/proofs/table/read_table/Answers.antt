use Rattle.std.proofs.Common.{◌≡◌, ◌-◌, ◌*◌, length, take, drop, vec_items, ap, ◌∙◌, arith}
use Rattle.std.proofs.lemmas.List.{take_rest}
use Rattle.rows.proofs.Tables.{read_more}
use Rattle.rows.proofs.table.read_table.Goals as goal

pub loop-row-preserved : goal.loop-row-preserved
loop-row-preserved g c =
    let k = g.T.Row.coding in
    let i = c.loop-row.row in
    let bs = c.args.table.now in
    let from = i * c.size-size.result in
    let place : from ≡ k.size * i = rw c.size-size.ensures (omega arith) in (
      read_more k (vec_items c.args.values.now) (vec_items c.loop-row.values) (vec_items c.push_reserved.new.self) c.read.result bs (take (length bs - from) (drop from bs)) i
          c.push_reserved.ensures.items c.loop-row.invariant.0 (take_rest bs from ∙ ap (λ n. drop n bs) place) c.read.ensures,
      omega arith,
      c.push_reserved.ensures.capacity ∙ c.loop-row.invariant.2,
    )
