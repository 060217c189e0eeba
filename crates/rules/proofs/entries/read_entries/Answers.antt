use Rattle.std.proofs.Common.{◌≡◌, ◌&&◌, ltb, leb, drop, vec_items, ap, ◌∙◌, arith}
use Rattle.std.proofs.lemmas.List.{take_rest}
use Rattle.std.proofs.lemmas.Bool.Decides.{nat_tests}
use Rattle.rows.proofs.Tables.{read_more, rest_more}
use Rattle.rules.proofs.Passes.{order_more, exact_more}
use Rattle.rules.proofs.entries.read_entries.Goals as goal

pub loop-row-preserved : goal.loop-row-preserved
loop-row-preserved g c =
    let k = g.T.Row.coding in
    let t = g.T.KeyedRow in
    let bs = c.args.table.now in
    let rest = c.loop-row.rest.now in
    let i = c.loop-row._row in
    let held = c.loop-row.invariant in
    let less = c.loop-row-test.true in
    let tail = take_rest rest c.size.result ∙ ap (λ n. drop n rest) c.size.ensures in
    let fits : c.contains.result ≡ (leb c.loop-row.next c.from-key.result && ltb c.from-key.result c.args.span.high) = let t = c.contains.ensures in grind (arith, nat_tests) in
    let key = c.from-key.ensures ∙ c.key.ensures ∙ ap t.key c.read-entry.ensures in
    record {
      rest = tail ∙ rest_more k bs rest i held.rest;
      entries = read_more k (vec_items c.args.entries.now) (vec_items c.loop-row.entries) (vec_items c.push_reserved.new.self) c.read-entry.result bs rest i c.push_reserved.ensures.items held.entries held.rest c.read-entry.ensures;
      capacity = c.push_reserved.ensures.capacity ∙ held.capacity;
      length = omega arith;
      order = order_more k c.args.count i rest _ less tail t.key t.known c.loop-row.next c.args.span.high c.from-key.result _ c.loop-row.in_order c.contains.result c.is_known.result key fits c.is_known.ensures held.order;
      exact = exact_more k c.args.count i rest _ less tail t.exact _ c.loop-row.exact c.is_exact.result c.is_exact.ensures held.exact;
    }
