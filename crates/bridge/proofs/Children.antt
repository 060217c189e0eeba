-- A node's children by its pivots are the children in the tree: which has most pending, and what is read of one.
use Rattle.std.proofs.Common.{◌≡◌, ℕ, suc, ◌-◌, ◌<◌, List, length, sym, ap, ◌∙◌, arith}
use Rattle.std.proofs.lemmas.List.FromFn.{fill_by_all}
use Rattle.blocks.specs.declared.state.State.TheVariants.{Sound}
use Rattle.messages.specs.Lists.{pending}
use Rattle.plan.specs.Codes.{Code, decoded}
use Rattle.plan.specs.Images.{Image, Try, bind, image_read}
use Rattle.plan.specs.Steps.{Fetched, fetch_child, child_block, child_low, child_high, pending_at, busiest}
use Rattle.tree.specs.Nodes.{Node, node}
use Rattle.tree.specs.Shape.{Child, Children}
use Rattle.tree.specs.Update.{largest, pending_counts}
use Rattle.tree.proofs.Lengths.{length_counts, getD_counts}
use Rattle.tree.proofs.Shapes.{child_at}
use Rattle.bridge.specs.Stored.{FitsBlock, RoundTrip}
use Rattle.bridge.proofs.Outcomes.{Ends, fetch_then}

module _ (a : List Node) (l : ℕ) (x : Node) (h : Children a l x.frame.low x.frame.high x.frame.children x.frame.pivots) where
  at_place : (j : ℕ) → j < length x.frame.children → Child a l (child_block x j) (child_low x j) (child_high x j)
  at_place j i = child_at a l x.frame.low x.frame.high x.frame.children x.frame.pivots j h i

  -- the same child has most pending messages
  pub busiest_is : busiest x ≡ largest (pending_counts a x.messages x.frame.children)
  busiest_is = sym (ap largest (fill_by_all (pending_at x) (pending_counts a x.messages x.frame.children) (length x.frame.children) 0
      (length_counts a x.messages x.frame.children)
      (λ j i. getD_counts a x.messages x.frame.children j i ∙ (λ q. pending ((at_place j i).from q) ((at_place j i).upto q) x.messages))))

  -- a child that stands in its block is read as the node of the tree
  pub child_then : {B : Type 0} {F : Type 0} (C : Code F) → RoundTrip C → (S : Type 0) (d : Image) (j : ℕ) → x.frame.level ≡ suc l → j < length x.frame.children
      → FitsBlock a (child_block x j) → d.bytes (child_block x j) ≡ C.encode (node a (child_block x j))
      → child_block x j < d.size → (S → d.state (child_block x j) ≡ Sound) → (f : Fetched → Try B) (R : B → Type 0)
      → Ends S (f (record { image = image_read d; child = node a (child_block x j) })) R → Ends S (bind (fetch_child C d (length a) x j) f) R
  child_then C T S d j level_is i fits stands inside sound f R ends =
      let c = child_block x j in
      let at = at_place j i in
      let level : x.frame.level - 1 ≡ (node a c).frame.level = omega (arith, at.level_is) in
      fetch_then S d c inside sound C (length a) (x.frame.level - 1) (child_low x j) (child_high x j) (node a c) f R
      ((λ q. C.fault (level q) (sym at.from q) (sym at.upto q) (length a) (stands q)) ∙ T.not_refused a c fits)
      ((λ q. decoded C (level q) (sym at.from q) (sym at.upto q) (stands q)) ∙ T.read_back a c fits)
      ends
