-- Where messages go, and how a node is halved.
use Rattle.std.proofs.Common.{◌≡◌, ℕ, zero, suc, ◌-◌, ◌<◌, List, [], ◌∷◌, ◌++◌, length, get_or, take, drop, sym, refl, ap, ◌∙◌, arith, length-drop, length-take}
use Rattle.std.proofs.lemmas.List.{take-append-drop, drop_more}
use Rattle.std.proofs.lemmas.Bool.{lt-ltb, le-ltb}
use Rattle.std.proofs.lemmas.Bool.Decides.{nat_tests}
use Rattle.messages.specs.Lists.{below}
use Rattle.tree.specs.Laws.{pending_below, pending_above, ChoiceLaw, LeafHalves, InnerHalves, SplitLaw}
use Rattle.tree.specs.Nodes.{Node, node}
use Rattle.tree.specs.Operations.{half_length}
use Rattle.tree.specs.Update.{pending_counts, largest, busiest_place, busiest_child}
use Rattle.tree.proofs.Lengths.{largest_is, largest_in, length_counts, getD_counts}

-- what stands before the largest is smaller
largest_lowest : (xs : List ℕ) (i : ℕ) → i < largest xs → get_or xs i 0 < get_or xs (largest xs) 0
largest_lowest [] i h = absurd (omega arith)
largest_lowest (x ∷ xs) zero h = grind (arith, nat_tests)
largest_lowest (x ∷ xs) (suc i) h = let ih = largest_lowest xs i in grind (arith, nat_tests)

pub choice_law : ChoiceLaw
choice_law a p some =
    let cs = (node a p).frame.children in
    let ms = (node a p).messages in
    let c = busiest_child a p in
    let n = length_counts a ms cs in
    let inside : busiest_place a p < length cs = omega (arith, largest_in (pending_counts a ms cs) (omega arith), n) in
    let here = getD_counts a ms cs (busiest_place a p) inside in
    record {
      place_in = inside;
      most = λ i h. omega (arith, largest_is (pending_counts a ms cs) i (omega (arith, n)), getD_counts a ms cs i h, here);
      lowest = λ i h. omega (arith, largest_lowest (pending_counts a ms cs) i h, getD_counts a ms cs i (omega (arith, inside)), here);
      not_full = λ e. rw e refl;
      upper = λ e f. rw (e, lt-ltb (pending_below a p c) (pending_above a p c) f) refl;
      lower = λ e f. rw (e, le-ltb (pending_below a p c) (pending_above a p c) f) refl;
    }

leaf_halves : (x : Node) → LeafHalves x
leaf_halves x =
    let i = half_length x.records in
    let low : length (take i x.records) ≡ i = simp length-take (omega arith) in
    let up : length (drop i x.records) ≡ length x.records - i = simp length-drop in
    record { records_kept = take-append-drop i x.records; even = λ e. omega arith; odd = λ e. omega arith }

inner_halves : (l : ℕ) (x : Node) → length x.frame.children ≡ 8 → length x.frame.pivots ≡ 7 → InnerHalves l x
inner_halves l x e f =
    let ps = x.frame.pivots in
    record {
      lower_children = simp length-take (omega arith);
      upper_children = simp length-drop (omega arith);
      children_kept = take-append-drop 4 x.frame.children;
      pivots_kept = ap (λ r. take 3 ps ++ r) (sym (drop_more ps 3 0 (omega arith))) ∙ take-append-drop 3 ps;
      messages_kept = take-append-drop (below (get_or ps 3 0) x.messages) x.messages;
    }

pub split_law : SplitLaw
split_law = record { leaves = leaf_halves; inner_nodes = inner_halves }
