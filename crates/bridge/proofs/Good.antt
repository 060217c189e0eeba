-- A node below the root of a tree, of the right sizes, breaks no rule.
use Rattle.std.proofs.Common.{◌≡◌, ℕ, zero, suc, ◌+◌, ◌<◌, List, length, sym, refl, subst, arith}
use Rattle.messages.specs.Lists.{Within}
use Rattle.tree.specs.Nodes.{Node, node}
use Rattle.tree.specs.Shape.{Tree, Sized, Rising, GoodChild, GoodNode}
use Rattle.tree.proofs.Lengths.{children_length}
use Rattle.tree.proofs.Move.{inner_sound, leaf_sound}
use Rattle.tree.proofs.Plain.{Plain}
use Rattle.tree.proofs.Shapes.{children_rising, good_child}

module _ (a : List Node) (t : Tree a) (b : ℕ) (inside : b < length a) (not_root : 0 < b) (plain : Plain (node a b)) (z : Sized 256 8 b (node a b)) where
  -- the tables of a node of level l
  record Tables : Type 0 where
    between : 0 < (node a b).frame.level → length (node a b).frame.pivots + 1 ≡ length (node a b).frame.children
    rise : Rising (node a b).frame.low (node a b).frame.high (node a b).frame.pivots
    children : (j : ℕ) → j < length (node a b).frame.children → GoodChild a (node a b).frame j
    messages : Within (node a b).frame.low (node a b).frame.high (node a b).messages
    records : Within (node a b).frame.low (node a b).frame.high (node a b).records

  tables : (l : ℕ) → (node a b).frame.level ≡ l → Tables
  tables zero e =
      let n = plain.leaf e in
      record {
        between = λ g. absurd (omega arith);
        rise = subst (Rising (node a b).frame.low (node a b).frame.high) (sym n.1) tt;
        children = λ j g. absurd (omega (arith, z.leaf e));
        messages = subst (Within (node a b).frame.low (node a b).frame.high) (sym n.0) tt;
        records = leaf_sound a _ (node a b) e (t.sound b inside);
      }
  tables (suc l) e =
      let s = inner_sound a l _ (node a b) e (t.sound b inside) in
      let f = (node a b).frame in
      record {
        between = λ _. omega (arith, children_length a l f.low f.high f.children f.pivots s.1);
        rise = children_rising a l f.low f.high f.children f.pivots s.1;
        children = λ j g. good_child a l f j e s.1 g;
        messages = s.0;
        records = subst (Within f.low f.high) (sym (plain.inner (omega arith))) tt;
      }

  pub good_below : GoodNode a b
  good_below =
      let r = tables (node a b).frame.level refl in
      record {
        root_inner = λ i. absurd (omega arith);
        few_messages = z.messages_le;
        few_records = z.records_le;
        leaf_plain = plain.leaf;
        inner_plain = plain.inner;
        root_children = λ i. absurd (omega arith);
        high_root_children = λ i. absurd (omega arith);
        inner_children = λ i g. z.inner g i;
        few_children = z.children_le;
        pivots_between = r.between;
        pivots_rise = r.rise;
        children_good = r.children;
        messages_rise = r.messages;
        records_rise = r.records;
      }
