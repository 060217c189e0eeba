-- No node of a grown tree breaks a rule.
use Rattle.std.proofs.Common.{◌≡◌, ℕ, zero, suc, ◌<◌, ◌≤◌, List, [], ◌∷◌, length, get_or, sym, refl, ap, subst, arith}
use Rattle.messages.specs.Lists.{Within}
use Rattle.tree.specs.Laws.{ShapeLaw}
use Rattle.tree.specs.Nodes.{Frame, Node, node, height}
use Rattle.tree.specs.Shape.{Rising, GoodChild, GoodNode, Child, Children, Tree, AllSized}
use Rattle.tree.specs.Update.{grown}
use Rattle.tree.proofs.Wear.{Shape}
use Rattle.tree.proofs.Frames.{children_some}
use Rattle.tree.proofs.Grown.{held, grown_tree}
use Rattle.tree.proofs.Invariants.{inv, level_up}
use Rattle.tree.proofs.Lengths.{children_length}
use Rattle.tree.proofs.Move.{inner_sound, leaf_sound}
use Rattle.tree.proofs.Plain.{Plain, all_plain}
use Rattle.tree.proofs.Real.{at_shape}

pub children_rising : (a : List Node) (l low high : ℕ) (cs ps : List ℕ) → Children a l low high cs ps → Rising low high ps
children_rising a l low high [] ps h = absurd h
children_rising a l low high (c ∷ []) [] h = tt
children_rising a l low high (c ∷ d ∷ cs) [] h = absurd h
children_rising a l low high (c ∷ cs) (r ∷ ps) h = (h.0.nonempty, children_some a l r high cs ps h.1, children_rising a l r high cs ps h.1)

pub child_at : (a : List Node) (l low high : ℕ) (cs ps : List ℕ) (j : ℕ) → Children a l low high cs ps → j < length cs → Child a l (get_or cs j 0) (get_or (low ∷ ps) j 0) (get_or ps j high)
child_at a l low high [] ps j h g = absurd h
child_at a l low high (c ∷ []) [] zero h g = h
child_at a l low high (c ∷ []) [] (suc j) h g = absurd (omega arith)
child_at a l low high (c ∷ d ∷ cs) [] j h g = absurd h
child_at a l low high (c ∷ cs) (r ∷ ps) zero h g = h.0
child_at a l low high (c ∷ cs) (r ∷ ps) (suc j) h g = child_at a l r high cs ps j h.1 (omega arith)

pub good_child : (a : List Node) (l : ℕ) (f : Frame) (j : ℕ) → f.level ≡ suc l → Children a l f.low f.high f.children f.pivots → j < length f.children → GoodChild a f j
good_child a l f j e h g =
    let c = child_at a l f.low f.high f.children f.pivots j h g in
    record { not_root = c.not_root; taken = c.inside; one_lower = omega (arith, c.level_is); from = c.from; upto = c.upto }

module _ (a : List Node) (t : Tree a) (z : AllSized a) (root_children : 1 ≤ length (node a 0).frame.children) (high_root : 2 ≤ height a → 2 ≤ length (node a 0).frame.children) where
  good_leaf : (b : ℕ) → b < length a → Plain (node a b) → (node a b).frame.level ≡ 0 → GoodNode a b
  good_leaf b h p e =
      let n = p.leaf e in
      let lower : b ≡ 0 → ⊥ = λ i. (let r : (node a b).frame.level ≡ height a = ap (λ x. (node a x).frame.level) i in omega (arith, t.root_inner)) in
      record {
        root_inner = λ i. absurd (lower i);
        few_messages = (z b h).messages_le;
        few_records = (z b h).records_le;
        leaf_plain = p.leaf;
        inner_plain = p.inner;
        root_children = λ i. absurd (lower i);
        high_root_children = λ i. absurd (lower i);
        inner_children = λ _ g. absurd (omega arith);
        few_children = (z b h).children_le;
        pivots_between = λ g. absurd (omega arith);
        pivots_rise = subst (Rising (node a b).frame.low (node a b).frame.high) (sym n.1) tt;
        children_good = λ j g. absurd (omega (arith, (z b h).leaf e));
        messages_rise = subst (Within (node a b).frame.low (node a b).frame.high) (sym n.0) tt;
        records_rise = leaf_sound a _ (node a b) e (t.sound b h);
      }

  good_inner : (b l : ℕ) → b < length a → Plain (node a b) → (node a b).frame.level ≡ suc l → GoodNode a b
  good_inner b l h p e =
      let s = inner_sound a l _ (node a b) e (t.sound b h) in
      let f = (node a b).frame in
      record {
        root_inner = λ _. omega arith;
        few_messages = (z b h).messages_le;
        few_records = (z b h).records_le;
        leaf_plain = p.leaf;
        inner_plain = p.inner;
        root_children = λ i. subst (λ x. 1 ≤ length (node a x).frame.children) (sym i) root_children;
        high_root_children = λ i. subst (λ x. 2 ≤ (node a x).frame.level → 2 ≤ length (node a x).frame.children) (sym i) high_root;
        inner_children = λ i g. (z b h).inner g i;
        few_children = (z b h).children_le;
        pivots_between = λ _. omega (arith, children_length a l f.low f.high f.children f.pivots s.1);
        pivots_rise = children_rising a l f.low f.high f.children f.pivots s.1;
        children_good = λ j g. good_child a l f j e s.1 g;
        messages_rise = s.0;
        records_rise = subst (Within f.low f.high) (sym (p.inner (omega arith))) tt;
      }

  good : (b l : ℕ) → b < length a → Plain (node a b) → (node a b).frame.level ≡ l → GoodNode a b
  good b zero h p e = good_leaf b h p e
  good b (suc l) h p e = good_inner b l h p e

-- the root and its first child are two blocks
two_blocks : (a : List Node) → Tree a → 2 ≤ length a
two_blocks a t =
    let (l, e) = level_up (height a) t.root_inner in
    let f = (node a 0).frame in
    let s = (inner_sound a l _ (node a 0) e (t.sound 0 t.has_root)).1 in
    let n = children_length a l f.low f.high f.children f.pivots s in
    let c = child_at a l f.low f.high f.children f.pivots 0 s (omega arith) in
    omega (arith, c.inside, c.not_root)

pub good_trees : ShapeLaw
good_trees K h ks =
    let a = grown K h in
    let i = held K h ks in
    let t = grown_tree K h ks in
    let v = inv K a h i.moves i.reached in
    let s = at_shape a 0 in
    let level_is = ap (λ (x : Shape). x.level) s in
    let children_are = ap (λ (x : Shape). x.children) s in
    let many : 1 ≤ length (node a 0).frame.children = omega (arith, v.root_children, children_are) in
    let more : 2 ≤ height a → 2 ≤ length (node a 0).frame.children = λ g. omega (arith, v.root_children₂ (omega (arith, level_is)), children_are) in
    record {
      two_blocks = two_blocks a t;
      root_from_zero = t.root_from_zero;
      root_to_end = t.root_to_end;
      nodes = λ b lt. good a t i.sized many more b (node a b).frame.level lt (all_plain K a h i.moves i.reached b lt) refl;
      apart = t.apart;
    }
