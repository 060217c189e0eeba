-- The way down from a node to the child that takes a key.
use Rattle.std.proofs.Common.{◌≡◌, ℕ, suc, ◌^◌, ◌<◌, ◌≤◌, Bool, true, false, cond, ltb, List, [], ◌∷◌, length, get_or, sym, refl, subst, arith}
use Rattle.blocks.specs.Media.{most_blocks}
use Rattle.plan.specs.Codes.{Code}
use Rattle.plan.specs.Images.{Image, Try, bind, image_read}
use Rattle.plan.specs.Queries.{place_among}
use Rattle.plan.specs.Steps.{Fetched, child_block, fetch_child}
use Rattle.tree.specs.Nodes.{Node, node, pick, child}
use Rattle.tree.specs.Shape.{AllSized, Children, Tree}
use Rattle.tree.proofs.Frames.{Part, children_part}
use Rattle.tree.proofs.Move.{inner_sound}
use Rattle.tree.proofs.Plain.{Plain}
use Rattle.bridge.specs.Stored.{most_levels, FitsBlock, RoundTrip, Stored}
use Rattle.bridge.specs.Work.{AllSound, Work}
use Rattle.bridge.proofs.Children.{child_then}
use Rattle.bridge.proofs.Good.{good_below}
use Rattle.bridge.proofs.Outcomes.{Ends}

-- the child at the place that a key has among the pivots is the child that takes it
place_is : (a : List Node) (l low high k : ℕ) (cs ps : List ℕ) → Children a l low high cs ps → (place_among ps k < length cs) × (get_or cs (place_among ps k) 0 ≡ pick cs ps k)
place_is a l low high k [] ps h = absurd h
place_is a l low high k (c ∷ []) [] h = (omega arith, refl)
place_is a l low high k (c ∷ b ∷ cs) [] h = absurd h
place_is a l low high k (c ∷ cs) (p ∷ ps) h = go (ltb k p) (place_is a l p high k cs ps h.1)
  where
    go : (b : Bool) → (place_among ps k < length cs) × (get_or cs (place_among ps k) 0 ≡ pick cs ps k)
        → (cond b 0 (suc (place_among ps k)) < length (c ∷ cs)) × (get_or (c ∷ cs) (cond b 0 (suc (place_among ps k))) 0 ≡ cond b c (pick cs ps k))
    go true ih = (omega arith, refl)
    go false ih = (omega (arith, ih.0), ih.1)

-- that child is a node one level below, in the span of its parent
pub taking_child : (a : List Node) → Tree a → (l b k : ℕ) → b < length a → (node a b).frame.level ≡ suc l → Part a l (child (node a b).frame k) (node a b).frame.low (node a b).frame.high
taking_child a t l b k i level_is =
    let x = (node a b).frame in
    let children = (inner_sound a l _ (node a b) level_is (t.sound b i)).1 in
    let at = place_is a l x.low x.high k x.children x.pivots children in
    subst (λ c. Part a l c x.low x.high) at.1 (children_part a l x.low x.high x.low x.children x.pivots (place_among x.pivots k) children at.0 (omega arith))

-- it is read as the node of the tree, where the image e, made of d by n reads, holds the tree a
pub taking_child_then : {B : Type 0} {F : Type 0} (C : Code F) → RoundTrip C → (a : List Node) → Tree a → AllSized a → ((b : ℕ) → b < length a → Plain (node a b)) → (d : Image) → length a ≤ d.size
    → length a ≤ most_blocks → (l b k : ℕ) → l ≤ most_levels → b < length a → (node a b).frame.level ≡ suc l → (node a b).frame.high ≤ 2 ^ 32 → (e : Image) → Stored C e a → (n : ℕ) → Work d e n 0 0
    → (f : Fetched → Try B) (R : B → Type 0) → Ends (AllSound d) (f (record { image = image_read e; child = node a (child (node a b).frame k) })) R
    → Ends (AllSound d) (bind (fetch_child C e (length a) (node a b) (place_among (node a b).frame.pivots k)) f) R
taking_child_then C T a t sized plain d inside numbers_fit l b k lev i level_is span e st n w f R ends =
    let x = (node a b).frame in
    let children = (inner_sound a l _ (node a b) level_is (t.sound b i)).1 in
    let j = place_among x.pivots k in
    let at = place_is a l x.low x.high k x.children x.pivots children in
    let c = child_block (node a b) j in
    let p : Part a l c x.low x.high = children_part a l x.low x.high x.low x.children x.pivots j children at.0 (omega arith) in
    let fits : FitsBlock a c = record {
      below_root = p.not_root;
      breaks_no_rule = good_below a t c p.inside p.not_root (plain c p.inside) (sized c p.inside);
      words_fit = st.words_fit c p.inside;
      level_fits = omega (arith, p.level_is);
      span_fits = omega (arith, p.under);
      numbers_fit = numbers_fit;
    } in
    let size : c < e.size = omega (arith, p.inside, w.size_kept) in
    child_then a l (node a b) children C T (AllSound d) e j level_is at.0 fits (st.in_blocks c p.inside p.not_root) size (λ s. w.stays_sound s c size) f R
    (subst (λ c. Ends (AllSound d) (f (record { image = image_read e; child = node a c })) R) (sym at.1) ends)
