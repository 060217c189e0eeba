-- What holds of every tree that the operations reach: its structure, what it says of a key, and the sums behind the wear law.
use Rattle.std.proofs.Common.{◌≡◌, ℕ, zero, suc, ◌^◌, ◌<◌, cond, eqb, List, length, get_or, refl, ap, ◌∙◌, subst, inl, inr, arith}
use Rattle.messages.specs.Algebra.{Algebra}
use Rattle.messages.specs.Messages.{effect}
use Rattle.messages.specs.declared.entry.Entry.{Entry}
use Rattle.messages.specs.declared.message.Message.{Message}
use Rattle.tree.proofs.Wear.{Worn}
use Rattle.tree.proofs.Reached.{CanSplit, ChildAt, Full, Halved, Reached, worn_of}
use Rattle.tree.specs.Lookup.{lookup, said}
use Rattle.tree.specs.Nodes.{Node, node}
use Rattle.tree.specs.Operations.{fresh, half_length, lower_half, lower_inner, split_key, upper_half, upper_inner}
use Rattle.tree.specs.Shape.{In, Sound, Tree}
use Rattle.tree.proofs.Reached.Reached.{start, join, move, part, rise}
use Rattle.tree.proofs.Move.{move_lookup, move_tree, inner_sound}
use Rattle.tree.proofs.Split.{split_lookup, split_tree}
use Rattle.tree.proofs.Cut.{cut_lookup, cut_tree, join_lookup, join_tree}
use Rattle.tree.proofs.Halves.{halve_inner, halve_leaf}
use Rattle.tree.proofs.Frames.{children_part}
use Rattle.tree.proofs.Lengths.{children_length}
use Rattle.tree.proofs.Keeps.{Inv, inv_start}
use Rattle.tree.proofs.Ends.{ends}
use Rattle.tree.proofs.Real.{real_join, real_move, real_part, real_cut}

pub halve : (a : List Node) (l : ℕ) (x : Node) → x.frame.level ≡ l → Sound a x.frame.level x → Full x → Halved a (split_key l x) x (lower_half l x) (upper_half l x)
halve a zero x e s (inl f) = halve_leaf a (half_length x.records) x e s (omega (arith, f.2)) (omega (arith, f.2))
halve a zero x e s (inr f) = absurd (omega (arith, f.0))
halve a (suc l) x e s (inl f) = absurd (omega (arith, f.0))
halve a (suc l) x e s (inr f) = halve_inner a l 3 x e s (omega (arith, f.1, children_length a l _ _ x.frame.children x.frame.pivots (inner_sound a l _ x e s).1))

pub level_up : (l : ℕ) → 0 < l → (m : ℕ) × (l ≡ suc m)
level_up zero h = absurd (omega arith)
level_up (suc l) h = (l, refl)

-- ---- the tree
fresh_tree : Tree fresh
fresh_tree =
    record {
      has_root = omega arith;
      root_from_zero = refl;
      root_to_end = refl;
      root_inner = omega arith;
      root_highest = elim [ zero ↦ λ h g. absurd (omega arith) | suc b ↦ elim b as (λ b. suc b < 2 → 0 < suc b → (node fresh (suc b)).frame.level < 1) [ zero ↦ λ h g. omega arith | suc b ↦ λ h g. absurd (omega arith) ] ];
      sound = sound;
      apart = apart;
    }
  where
    sound : (b : ℕ) → b < length fresh → Sound fresh (node fresh b).frame.level (node fresh b)
    sound zero h = (tt, record { inside = omega arith; not_root = omega arith; level_is = refl; from = refl; upto = refl; nonempty = omega arith })
    sound (suc zero) h = tt
    sound (suc (suc b)) h = absurd (omega arith)

    apart : (b d k : ℕ) → b < length fresh → d < length fresh → (node fresh b).frame.level ≡ (node fresh d).frame.level
        → In k (node fresh b).frame → In k (node fresh d).frame → b ≡ d
    apart zero zero k h g e i j = refl
    apart zero (suc zero) k h g e i j = absurd (omega arith)
    apart zero (suc (suc d)) k h g e i j = absurd (omega arith)
    apart (suc zero) zero k h g e i j = absurd (omega arith)
    apart (suc zero) (suc zero) k h g e i j = refl
    apart (suc zero) (suc (suc d)) k h g e i j = absurd (omega arith)
    apart (suc (suc b)) d k h g e i j = absurd (omega arith)

pub under_in : (a : List Node) → Tree a → (p j c : ℕ) → ChildAt a p j c → c < length a
under_in a t p j c u =
    let (l, e) = level_up (node a p).frame.level u.inner in
    subst (λ x. x < length a) u.is
    (children_part a l _ _ (node a p).frame.low (node a p).frame.children (node a p).frame.pivots j (inner_sound a l _ (node a p) e (t.sound p u.p_in)).1 u.j_in (omega arith)).inside

pub splits : (a : List Node) → Tree a → (p j c : ℕ) → ChildAt a p j c → Full (node a c)
    → CanSplit a p j c (split_key (node a c).frame.level (node a c)) (lower_half (node a c).frame.level (node a c)) (upper_half (node a c).frame.level (node a c))
splits a t p j c u f =
    record { p_in = u.p_in; j_in = u.j_in; is = u.is; inner = u.inner; halves = halve a _ (node a c) refl (t.sound c (under_in a t p j c u)) f }

pub root_halved : (a : List Node) → Tree a → length (node a 0).frame.children ≡ 8 → Halved a (get_or (node a 0).frame.pivots 3 0) (node a 0) (lower_inner 3 (node a 0)) (upper_inner 3 (node a 0))
root_halved a t e8 =
    let (l, e) = level_up (node a 0).frame.level t.root_inner in
    let s = t.sound 0 t.has_root in
    halve_inner a l 3 (node a 0) e s (omega (arith, children_length a l _ _ (node a 0).frame.children (node a 0).frame.pivots (inner_sound a l _ (node a 0) e s).1))

pub tree : (K : Algebra) (a : List Node) (h : List (Entry Message)) (n : ℕ) → Reached K a h n → Tree a
tree K a h n start = fresh_tree
tree K a h n (join {a = b} k m lt r) = join_tree K b (tree K b _ _ r) k m lt
tree K a h n (move {a = b} p j c m r) = let (l, e) = level_up (node b p).frame.level m.inner in move_tree K b (tree K b _ _ r) p j c l m e
tree K a h n (part {a = b} p j c u f r) =
    let t = tree K b _ _ r in
    let (l, e) = level_up (node b p).frame.level u.inner in
    split_tree b t p j c _ l _ _ (splits b t p j c u f) e
tree K a h n (rise {a = b} e8 r) = let t = tree K b _ _ r in cut_tree b t _ _ _ (root_halved b t e8)

-- ---- the map
pub says_as_told : (K : Algebra) (a : List Node) (h : List (Entry Message)) (n : ℕ) → Reached K a h n → (k : ℕ) → k < 2 ^ 32 → lookup K a k ≡ said K k h
says_as_told K a h n start k lt = refl
says_as_told K a h n (join {a = b} {h = g} j m l r) k lt =
    join_lookup K b (tree K b _ _ r) j m l k lt ∙ ap (λ o. cond (eqb j k) (effect K m o) o) (says_as_told K b _ _ r k lt)
says_as_told K a h n (move {a = b} p j c m r) k lt =
    let (l, e) = level_up (node b p).frame.level m.inner in move_lookup K b (tree K b _ _ r) p j c l m e k lt ∙ says_as_told K b _ _ r k lt
says_as_told K a h n (part {a = b} p j c u f r) k lt =
    let t = tree K b _ _ r in
    let (l, e) = level_up (node b p).frame.level u.inner in
    split_lookup b t p j c _ l _ _ (splits b t p j c u f) e K k lt ∙ says_as_told K b _ _ r k lt
says_as_told K a h n (rise {a = b} e8 r) k lt = let t = tree K b _ _ r in cut_lookup b t _ _ _ (root_halved b t e8) K k lt ∙ says_as_told K b _ _ r k lt

-- ---- the wear
pub inv : (K : Algebra) (a : List Node) (h : List (Entry Message)) (n : ℕ) → Reached K a h n → Inv (worn_of a h n)
inv K a h n start = inv_start
inv K a h n (join {a = b} {h = g} k m lt r) = real_join K b (tree K b g n r) g n (inv K b g n r) k m
inv K a h n (move {a = b} {n = o} p j c m r) =
    let (l, e) = level_up (node b p).frame.level m.inner in real_move K b (tree K b h o r) h o (inv K b h o r) p j c l m e
inv K a h n (part {a = b} p j c u f r) =
    let (l, e) = level_up (node b p).frame.level u.inner in real_part K b (tree K b h n r) h n (inv K b h n r) p j c l u e f
inv K a h n (rise {a = b} e8 r) = real_cut K b (tree K b h n r) h n (inv K b h n r) e8

pub worn : (K : Algebra) (a : List Node) (h : List (Entry Message)) (n : ℕ) → Reached K a h n → Worn (worn_of a h n)
worn K a h n r = ends (worn_of a h n) (inv K a h n r)
