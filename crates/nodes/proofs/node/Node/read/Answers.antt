use Rattle.std.proofs.Common.{◌≡◌, Err, ap, ◌∙◌, rules}
use Rattle.messages.specs.Outcomes.{ok_unless}
use Rattle.nodes.specs.Blocks.{header_of, node_of}
use Rattle.nodes.specs.Checks.{table_rules, node_fault}
use Rattle.nodes.specs.Views.{view}
use Rattle.rules.specs.HeaderRules.{header_rules}
use Rattle.rules.proofs.Verdicts.{accepted, none_broken}
use Rattle.nodes.proofs.Loaded.{bad_header, past_header}
use Rattle.nodes.proofs.RoundTrips.{node_exact}
use Rattle.nodes.proofs.node.Node.read.Goals as goal

pub returns-in_err-check_below-clause-answer : goal.returns-in_err-check_below-clause-answer
unfolding node_fault header_of
returns-in_err-check_below-clause-answer c =
    let p = c.args.place.now in
    let bs = c.args.block.now in
    let told : c.from_residual.result ≡ Err c.in_err-check_below.field-0.0 = search rules in
    told ∙ bad_header (header_rules p) (λ h. table_rules p h bs) bs c.read-header.result c.read-header.ensures (tt {0}) (tt {0}) _ c.in_err-check_below.ensures.value

pub returns : goal.returns
unfolding node_fault header_of
returns c =
    let p = c.args.place.now in
    let bs = c.args.block.now in
    let is = c.read-header.ensures in
    let good = accepted (tt {0}) (tt {0}) _ c.in_ok-check_below.ensures.value in
    let answer = c.load.ensures.fault ∙ ap (λ o. ok_unless o (tt {0})) (past_header (header_rules p) (λ h. table_rules p h bs) bs c.read-header.result is good.0) in
    let node = c.load.ensures.node ∙ ap (λ h. node_of p h bs) is in
    record {
      answer = answer;
      node = λ ok. node;
      exact = λ ok. node_exact p bs (view c.load.new.self) c.told-block c.fits-block (none_broken (tt {0}) c.load.result _ answer ok) node;
      sizes = λ ok. c.load.ensures.sizes;
    }
