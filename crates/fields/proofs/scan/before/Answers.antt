use Rattle.std.proofs.Common.{eqb, rules, tests}
use Rattle.std.proofs.lemmas.Iterator.{YieldsList-from_slice}
use Rattle.std.proofs.lemmas.Iterator.Search.{position_from_yields_List}
use Rattle.fields.proofs.Cut.{before_at}
use Rattle.fields.proofs.scan.before.Goals as goal

pub returns : goal.returns
returns c =
    let bs = c.args.bytes.now in
    let at = position_from_yields_List (λ b. eqb b c.args.mark) _ _ c.position-end.result c.position-end.ensures.ran (YieldsList-from_slice bs cc) (λ x b q k. search (rules, tests)) in
    rw c.unwrap_or.ensures (before_at c.args.mark bs c.position-end.result at)
