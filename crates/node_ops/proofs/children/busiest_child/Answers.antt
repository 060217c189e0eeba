use Rattle.std.proofs.Common.{◌≡◌, ℕ, suc, ◌+◌, ◌-◌, ◌<◌, length, vec_items, vec_len, sym, ap, ◌∙◌, subst, arith}
use Rattle.messages.specs.Lists.{below}
use Rattle.nodes.specs.declared.node.Node.{Node as NodeInMemory}
use Rattle.nodes.specs.Views.{view}
use Rattle.plan.specs.Steps.{pending_at, child_low, child_high, busiest}
use Rattle.node_ops.proofs.Crowded.{bounds_meet, last_bound, busiest_has_some, below_zero}
use Rattle.node_ops.proofs.Largest.{best_none, best_here, best_after, best_all}
use Rattle.node_ops.proofs.children.busiest_child.Goals as goal
use Rattle.node_ops.proofs.children.busiest_child.Goals.{After-place_of-upper, After-place_of-lower, After-saturating_sub-pending}

-- an inner node has a pivot between every two children
parted : (x : NodeInMemory) → 0 < x.level → length (vec_items x.pivots) + 1 ≡ length (vec_items x.children)
parted x inner = omega (arith, (x.inner inner).1, x.pivots.ok.0, x.children.ok.0)

-- how many messages are below the node's end, and below the child at the place just before j
ends : (c : After-place_of-upper) → c.place_of-upper.result ≡ below c.args.node.now.span.high (vec_items c.args.node.now.messages)
ends c = c.place_of-upper.ensures.value ∙ ap (below c.args.node.now.span.high) c.deref.ensures.value

pub children-init : goal.children-init
children-init c =
    let x = c.args.node.now in (
      best_none (pending_at (view x)) (vec_len x.children) c.len-children.result c.len-children.ensures,
      λ i last. ends (goal.at.children-init c).After-place_of-upper ∙ ap (λ h. below h (vec_items x.messages)) (sym (last_bound (view x) i (parted x c.requires) (omega (arith, last, c.len-children.ensures, x.children.ok.0)))),
    )

-- what the turn at a child finds: the messages below its begin, and those that are pending for it
begins : (c : After-place_of-lower) → c.place_of-lower.result ≡ below (child_low (view c.args.node.now) (c.children.j - 1)) (vec_items c.args.node.now.messages)
begins c =
    c.place_of-lower.ensures.value
    ∙ ap (λ k. below k c.deref-in-children.result.now) (c.from.ensures ∙ c.child_low.ensures)
    ∙ ap (below (child_low (view c.args.node.now) (c.children.j - 1))) c.deref-in-children.ensures.value

-- how many are pending for the child
counted : (c : After-saturating_sub-pending) → c.place_of-lower.result ≡ below (child_low (view c.args.node.now) (c.children.j - 1)) (vec_items c.args.node.now.messages)
    → c.saturating_sub-pending.result ≡ pending_at (view c.args.node.now) (c.children.j - 1)
counted c lower =
    let j = c.children.j - 1 in
    let upper = c.children.invariant.1 j (omega arith) in
    c.saturating_sub-pending.ensures ∙ ap (λ n. n - c.place_of-lower.result) upper ∙ ap (λ n. below (child_high (view c.args.node.now) j) (vec_items c.args.node.now.messages) - n) lower

-- the child before it ends where this one begins
meets : (c : After-place_of-lower) (i : ℕ) → c.children.j - 1 ≡ suc i → c.place_of-lower.result ≡ below (child_high (view c.args.node.now) i) (vec_items c.args.node.now.messages)
meets c i next =
    let x = c.args.node.now in
    let bound = ap (child_low (view x)) next ∙ bounds_meet (view x) i (parted x c.requires) (omega (arith, next, c.children.invariant.0.0, x.children.ok.0)) in
    begins c ∙ ap (λ k. below k (vec_items x.messages)) bound

pub children-preserved-then-most-pending : goal.children-preserved-then-most-pending
children-preserved-then-most-pending c =
    let x = c.args.node.now in
    let at = goal.at.children-preserved-then-most-pending c in (
      best_here (pending_at (view x)) (vec_len x.children) (c.children.j - 1) c.children.j c.children.best c.children.most c.saturating_sub-pending.result
          (omega arith) c.children.invariant.0 (counted at.After-saturating_sub-pending (begins at.After-place_of-lower)) (omega arith),
      meets at.After-place_of-lower,
    )

pub children-preserved : goal.children-preserved
children-preserved c =
    let x = c.args.node.now in
    let at = goal.at.children-preserved c in (
      best_after (pending_at (view x)) (vec_len x.children) (c.children.j - 1) c.children.j c.children.best c.children.most c.saturating_sub-pending.result
          (omega arith) c.children.invariant.0 (counted at.After-saturating_sub-pending (begins at.After-place_of-lower)) (omega arith),
      meets at.After-place_of-lower,
    )

pub returns : goal.returns
returns c =
    let x = c.args.node.now in
    let n = x.children.ok.0 in
    let has : 0 < vec_len x.children = omega (arith, (x.inner c.requires).1) in
    let none_left : c.children.j ≡ 0 = omega arith in
    let value : c.children.best ≡ busiest (view x) = best_all (pending_at (view x)) (vec_len x.children) (length (vec_items x.children)) c.children.j c.children.best c.children.most none_left n c.children.invariant.0 in
    let inside : c.children.best < vec_len x.children = c.children.invariant.0.3 (omega arith) in
    record {
      value = value;
      within = inside;
      some = λ all some.
          let low = ap (λ k. below k (vec_items x.messages)) all.0 ∙ below_zero (vec_items x.messages) in
          let high = sym (ends (goal.at.returns c).After-place_of-upper) ∙ c.place_of-upper.ensures.all (omega (arith, all.1)) ∙ c.deref.ensures.len in
          subst (λ (k : ℕ). 0 < pending_at (view x) k) (sym value) (busiest_has_some (view x) (parted x c.requires) (omega (arith, value, inside, n)) (omega (arith, low, high, some)));
    }
