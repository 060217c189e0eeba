use Rattle.std.proofs.Common.{◌≡◌, Err, sym, ap, ◌∙◌, rules}
use Rattle.messages.specs.Outcomes.{ok_unless}
use Rattle.nodes.specs.Blocks.{header_of, node_of}
use Rattle.nodes.specs.Checks.{table_rules, root_fault}
use Rattle.nodes.specs.Roots.{root_by, root_of}
use Rattle.rules.specs.HeaderRules.{root_header_rules, root_place}
use Rattle.rules.specs.Marks.{mark_of}
use Rattle.nodes.proofs.Loaded.{bad_header, bad_root, good_root}
use Rattle.nodes.proofs.RoundTrips.{root_exact}
use Rattle.nodes.proofs.root.Root.read.Goals as goal

pub returns-in_err-mark-clause-answer : goal.returns-in_err-mark-clause-answer
unfolding root_fault header_of
returns-in_err-mark-clause-answer c =
    let bs = c.args.block.now in
    let h = c.read-header.result in
    let told : c.from_residual.result ≡ Err c.in_err-mark.field-0.0 = search rules in
    told ∙ bad_header (root_header_rules c.args.size) (λ h. table_rules (root_place h) h bs) bs h c.read-header.ensures (mark_of (header_of bs).mark) (mark_of h.mark) _ c.in_err-mark.ensures.value

pub returns-in_err-load-clause-answer : goal.returns-in_err-load-clause-answer
unfolding header_of
returns-in_err-load-clause-answer c =
    let told : c.from_residual-in_err-load.result ≡ Err c.in_err-load.field-0.0 = search rules in
    told ∙ bad_root c.args.size c.args.block.now c.read-header.result c.read-header.ensures _ c.root_place.ensures c.in_ok-mark.mark c.in_ok-mark.ensures.value _ c.in_err-load.ensures.fault

pub returns : goal.returns
unfolding header_of
returns c =
    let bs = c.args.block.now in
    let h = c.read-header.result in
    let good = good_root c.args.size bs h c.read-header.ensures _ c.root_place.ensures c.in_ok-mark.mark c.in_ok-mark.ensures.value c.in_ok-load.ensures.fault in
    let node = c.load.ensures.node ∙ ap (λ p. node_of p h bs) c.root_place.ensures in
    let root : _ ≡ root_of bs = (λ i. record { node = node i; kind = h.kind; next_free = h.next_free; updates = h.updates; tree_writes = h.tree_writes }) ∙ ap (λ x. root_by x bs) c.read-header.ensures in
    record {
      answer = λ i. ok_unless (sym good.0 i) (good.1 i);
      root = λ ok. root;
      exact = root_exact c.args.size bs c.in_ok-mark.mark _ c.told-block c.fits-block good.0 good.1 root;
      limits = search rules;
      span = search rules;
    }
