use Rattle.std.proofs.Common.{◌≡◌, [], vec_items, ap, ◌∙◌, arith, rules}
use Rattle.std.proofs.lemmas.List.{nil_from_length}
use Rattle.tree.specs.Operations.{key_at, half_length}
use Rattle.splits.proofs.Middle.{key_there}
use Rattle.splits.proofs.halves.split_leaf.Goals as goal

pub returns : goal.returns
returns c =
    let x = c.args.node.now in
    let rs = vec_items x.records in
    let half = c.div_ceil-half.result in
    let halved : half ≡ half_length rs = omega arith in
    let is : c.index.result.now.key ≡ key_at (half_length rs) rs = key_there rs half c.index.result.now (omega arith) c.index.ensures ∙ ap (λ n. key_at n rs) halved in
    let plain = x.leaf c.requires.leaf in
    let no_pivots : vec_items x.pivots ≡ [] = nil_from_length _ (omega (arith, plain)) in
    let no_children : vec_items x.children ≡ [] = nil_from_length _ (omega (arith, plain)) in
    let no_messages : vec_items x.messages ≡ [] = nil_from_length _ (omega (arith, plain)) in
    record {
      key = is;
      lower = search rules;
      upper = search rules;
      levels = search rules;
      records = omega arith;
      lower_half = omega arith;
      upper_half = omega arith;
    }
