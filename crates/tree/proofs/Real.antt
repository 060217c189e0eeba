-- The counts of real nodes go as the counted steps do.
use Rattle.std.proofs.Common.{◌≡◌, ℕ, zero, suc, ◌+◌, ◌-◌, ◌<◌, ◌≤◌, List, [], ◌∷◌, ◌++◌, map, length, get_or, set, sym, refl, ap, ◌∙◌, subst, inl, inr, arith, length-append, length-drop, length-set, length-take}
use Rattle.std.proofs.lemmas.List.{map-set, map-append, length-map}
use Rattle.messages.specs.Algebra.{Algebra}
use Rattle.messages.specs.Lists.{below, entry}
use Rattle.messages.proofs.Places.{below_length}
use Rattle.messages.specs.declared.entry.Entry.{Entry}
use Rattle.messages.specs.declared.message.Message.{Message}
use Rattle.tree.proofs.Reached.{CanMove, ChildAt, Full, load_of, shape_of, worn_of}
use Rattle.tree.proofs.Wear.{Pair, Shape, State, after_cut, after_join, after_move, after_split, at, height, shape}
use Rattle.tree.specs.Nodes.{Node, node}
use Rattle.tree.specs.Operations.{absorb, absorb_messages, absorb_records, cut_root, half_length, joined, lower_half, lower_inner, moved, moving_batch, new_root, split, split_child, split_key, upper_half, upper_inner, with_message, with_new_child, without_batch}
use Rattle.tree.specs.Shape.{Tree}
use Rattle.tree.proofs.Wear.Step.{cut, join, split_inner, split_leaf, move}
use Rattle.tree.proofs.Keeps.{Inv, inv_step}
use Rattle.tree.proofs.Frames.{Part, children_part}
use Rattle.tree.proofs.Move.{inner_sound}
use Rattle.tree.proofs.Lengths.{length_join, length_joins, length_acts, length_rest, length_batch}

pub at_shape : (a : List Node) (b : ℕ) → get_or (map shape_of a) b (shape 0 0 0) ≡ shape_of (node a b)
at_shape [] b = refl
at_shape (x ∷ a) zero = refl
at_shape (x ∷ a) (suc b) = at_shape a b

-- states with the same parts
same_state : (s t : State) → s.blocks ≡ t.blocks → s.updates ≡ t.updates → s.moves ≡ t.moves → s.writes ≡ t.writes → s ≡ t
same_state s t b u m w = λ i. record { blocks = b i; updates = u i; moves = m i; writes = w i }

same_shape : (l l' m m' k k' : ℕ) → l ≡ l' → m ≡ m' → k ≡ k' → shape l m k ≡ shape l' m' k'
same_shape l l' m m' k k' e f g = λ i. record { level = e i; load = f i; children = g i }

load_inner : (l : ℕ) (x : Node) → 0 < l → load_of l x ≡ length x.messages
load_inner zero x h = absurd (omega arith)
load_inner (suc l) x h = refl

load_same : (l : ℕ) (x y : Node) → x.messages ≡ y.messages → x.records ≡ y.records → load_of l x ≡ load_of l y
load_same zero x y e f = ap length f
load_same (suc l) x y e f = ap length e

two_eq : (xs : List Shape) (p c : ℕ) (x x' y y' : Shape) → x ≡ x' → y ≡ y' → set (set xs p x) c y ≡ set (set xs p x') c y'
two_eq xs p c x x' y y' e f = cc

three_eq : (xs : List Shape) (p c : ℕ) (x x' y y' z z' : Shape) → x ≡ x' → y ≡ y' → z ≡ z' → set (set xs p x) c y ++ z ∷ [] ≡ set (set xs p x') c y' ++ z' ∷ []
three_eq xs p c x x' y y' z z' e f g = cc

cut_eq : (xs : List Shape) (x x' y y' z z' : Shape) → x ≡ x' → y ≡ y' → z ≡ z' → set xs 0 x ++ y ∷ z ∷ [] ≡ set xs 0 x' ++ y' ∷ z' ∷ []
cut_eq xs x x' y y' z z' e f g = cc

module _ (K : Algebra) (a : List Node) (t : Tree a) (h : List (Entry Message)) (n : ℕ) (i : Inv (worn_of a h n)) where
  level_at : (b : ℕ) → (at (worn_of a h n) b).level ≡ (node a b).frame.level
  level_at b = ap (λ (x : Shape). x.level) (at_shape a b)

  load_at : (b : ℕ) → (at (worn_of a h n) b).load ≡ load_of (node a b).frame.level (node a b)
  load_at b = ap (λ (x : Shape). x.load) (at_shape a b)

  children_at : (b : ℕ) → (at (worn_of a h n) b).children ≡ length (node a b).frame.children
  children_at b = ap (λ (x : Shape). x.children) (at_shape a b)

  two : 2 ≤ length a
  two = omega (arith, i.written, length-map a shape_of)

  -- ---- the join
  pub real_join : (k : ℕ) (m : Message) → Inv (worn_of (joined K k m a) (entry k m ∷ h) n)
  real_join k m =
      let r = with_message K k m (node a 0) in
      let low = load_inner (node a 0).frame.level (node a 0) t.root_inner in
      let lr = load_inner (node a 0).frame.level r t.root_inner in
      let ln = length_join K k m (node a 0).messages in
      subst Inv (same_state (after_join (worn_of a h n) (length r.messages)) (worn_of (joined K k m a) (entry k m ∷ h) n)
      (ap (set (map shape_of a) 0) (same_shape _ _ _ _ _ _ (level_at 0) (sym lr) (children_at 0)) ∙ sym (map-set shape_of a 0 r))
      (omega arith) refl (ap (λ x. n + (x - 2)) (sym (length-set a 0 r))))
      (inv_step _ _ (join (length r.messages) (omega (arith, load_at 0))) i)

  -- ---- a parent and its child
  part_of : (p j c l : ℕ) → p < length a → j < length (node a p).frame.children → get_or (node a p).frame.children j 0 ≡ c → (node a p).frame.level ≡ suc l
      → Part a l c (node a p).frame.low (node a p).frame.high
  part_of p j c l p_in j_in is pl = subst (λ z. Part a l z (node a p).frame.low (node a p).frame.high) is
      (children_part a l _ _ (node a p).frame.low (node a p).frame.children (node a p).frame.pivots j (inner_sound a l _ (node a p) pl (t.sound p p_in)).1 j_in (omega arith))

  pair_of : (p c l : ℕ) → p < length a → (node a p).frame.level ≡ suc l → Part a l c (node a p).frame.low (node a p).frame.high → Pair (worn_of a h n) p c
  pair_of p c l p_in pl pt =
      record {
        p_in = omega (arith, length-map a shape_of);
        c_in = omega (arith, length-map a shape_of, pt.inside);
        c_low = pt.not_root;
        below = level_at p ∙ pl ∙ ap suc (sym (level_at c ∙ pt.level_is));
      }

  map_two : (p c : ℕ) (x y : Node) → map shape_of (set (set a p x) c y) ≡ set (set (map shape_of a) p (shape_of x)) c (shape_of y)
  map_two p c x y = map-set shape_of (set a p x) c y ∙ ap (λ l. set l c (shape_of y)) (map-set shape_of a p x)

  -- ---- the move
  more : (l : ℕ) (x : Node) (bs : List (Entry Message)) → length bs ≡ 16
      → load_of l (record { frame = x.frame; messages = absorb_messages K l x.messages bs; records = absorb_records K l x.records bs }) ≤ load_of l x + 16
  more zero x bs e = omega (arith, length_acts K x.records bs)
  more (suc l) x bs e = omega (arith, length_joins K x.messages bs)

  pub real_move : (p j c l : ℕ) → CanMove a p j c → (node a p).frame.level ≡ suc l → Inv (worn_of (moved K a p c) h (n + 1))
  real_move p j c l m pl =
      let x = without_batch (node a c).frame.low (node a c).frame.high (node a p) in
      let y = absorb K (moving_batch a p c) (node a c) in
      let pt = part_of p j c l m.p_in m.j_in m.is pl in
      let bl = below_length (node a c).frame.high (node a p).messages in
      let lp = load_inner (node a p).frame.level (node a p) m.inner in
      let lx = load_inner (node a p).frame.level x m.inner in
      let fit : below (node a c).frame.low (node a p).messages + 16 ≤ length (node a p).messages = omega (arith, m.pending) in
      let lr = length_rest (node a c).frame.low (node a c).frame.high (node a p).messages m.pending in
      let ly = more (node a c).frame.level (node a c) (moving_batch a p c) (length_batch (node a c).frame.low (node a c).frame.high (node a p).messages m.pending) in
      let len : length (moved K a p c) ≡ length a = simp length-set in
      let ex : shape (at (worn_of a h n) p).level ((at (worn_of a h n) p).load - 16) (at (worn_of a h n) p).children ≡ shape_of x
      = same_shape _ _ _ _ _ _ (level_at p) (omega (arith, load_at p)) (children_at p) in
      let ey : shape (at (worn_of a h n) c).level (load_of (node a c).frame.level y) (at (worn_of a h n) c).children ≡ shape_of y
      = same_shape _ _ _ _ _ _ (level_at c) refl (children_at c) in
      subst Inv (same_state (after_move (worn_of a h n) p c (load_of (node a c).frame.level y)) (worn_of (moved K a p c) h (n + 1))
      (two_eq (map shape_of a) p c _ _ _ _ ex ey ∙ sym (map_two p c x y))
      refl refl (omega arith))
      (inv_step _ _ (move p c (load_of (node a c).frame.level y) (pair_of p c l m.p_in pl pt) (omega (arith, load_at p)) (omega (arith, load_at c))) i)

  -- ---- the split
  real_split : (p j c l : ℕ) (q : ℕ) (y z : Node) → ChildAt a p j c → (node a p).frame.level ≡ suc l
      → y.frame.level ≡ (node a c).frame.level → z.frame.level ≡ (node a c).frame.level
      → Inv (after_split (worn_of a h n) p c (load_of y.frame.level y) (length y.frame.children) (load_of z.frame.level z) (length z.frame.children))
      → Inv (worn_of (split a p j c q y z) h n)
  real_split p j c l q y z u pl ly lz done =
      let x = with_new_child j q (length a) (node a p) in
      let s = worn_of a h n in
      let len : length (split a p j c q y z) ≡ length a + 1 = simp (length-append, length-set) in
      let kx : length x.frame.children ≡ length (node a p).frame.children + 1 = simp (length-append, length-take, length-drop) (omega (arith, u.j_in)) in
      let ex : shape (at s p).level (at s p).load ((at s p).children + 1) ≡ shape_of x = same_shape _ _ _ _ _ _ (level_at p) (load_at p ∙ load_same (node a p).frame.level (node a p) x refl refl) (omega (arith, children_at p)) in
      let ey : shape (at s c).level (load_of y.frame.level y) (length y.frame.children) ≡ shape_of y = same_shape _ _ _ _ _ _ (level_at c ∙ sym ly) refl refl in
      let ez : shape (at s c).level (load_of z.frame.level z) (length z.frame.children) ≡ shape_of z = same_shape _ _ _ _ _ _ (level_at c ∙ sym lz) refl refl in
      subst Inv (same_state (after_split s p c (load_of y.frame.level y) (length y.frame.children) (load_of z.frame.level z) (length z.frame.children)) (worn_of (split a p j c q y z) h n)
      (three_eq (map shape_of a) p c _ _ _ _ _ _ ex ey ez
      ∙ sym (map-append shape_of (set (set a p x) c y) (z ∷ []) ∙ ap (λ w. w ++ shape_of z ∷ []) (map_two p c x y)))
      refl refl (omega (arith, two))) done

  pub real_part : (p j c l : ℕ) → ChildAt a p j c → (node a p).frame.level ≡ suc l → Full (node a c) → Inv (worn_of (split_child a p j c) h n)
  real_part p j c l u pl f = go (node a c).frame.level refl f
    where
      pr : Pair (worn_of a h n) p c
      pr = pair_of p c l u.p_in pl (part_of p j c l u.p_in u.j_in u.is pl)

      go : (e : ℕ) → (node a c).frame.level ≡ e → Full (node a c) → Inv (worn_of (split a p j c (split_key e (node a c)) (lower_half e (node a c)) (upper_half e (node a c))) h n)
      go zero e (inl g) =
          let lc : load_of (node a c).frame.level (node a c) ≡ length (node a c).records = ap (λ x. load_of x (node a c)) e in
          let l₁ : load_of (node a c).frame.level (lower_half 0 (node a c)) ≡ half_length (node a c).records = ap (λ x. load_of x (lower_half 0 (node a c))) e ∙ simp length-take (omega (arith, g.2)) in
          let l₂ : load_of (node a c).frame.level (upper_half 0 (node a c)) ≡ length (node a c).records - half_length (node a c).records = ap (λ x. load_of x (upper_half 0 (node a c))) e ∙ simp length-drop in
          let m₁ = load_of (node a c).frame.level (lower_half 0 (node a c)) in
          let m₂ = load_of (node a c).frame.level (upper_half 0 (node a c)) in
          real_split p j c l _ (lower_half 0 (node a c)) (upper_half 0 (node a c)) u pl refl refl
          (subst (λ k. Inv (after_split (worn_of a h n) p c m₁ k m₂ k)) (sym g.1)
          (inv_step _ _ (split_leaf p c m₁ m₂ pr (level_at c ∙ e) (children_at c ∙ g.1) (omega (arith, load_at c, g.2)) (omega (arith, load_at c, g.2)) (omega (arith, g.2)) (omega (arith, g.2))) i))
      go zero e (inr g) = absurd (omega (arith, g.0))
      go (suc e') e (inl g) = absurd (omega (arith, g.0))
      go (suc e') e (inr g) =
          let y = lower_inner 3 (node a c) in
          let z = upper_inner 3 (node a c) in
          let q = get_or (node a c).frame.pivots 3 0 in
          let lc = load_inner (node a c).frame.level (node a c) g.0 in
          let l₁ : load_of (node a c).frame.level y ≡ below q (node a c).messages = load_inner (node a c).frame.level y g.0 ∙ simp length-take (omega (arith, below_length q (node a c).messages)) in
          let l₂ : load_of (node a c).frame.level z ≡ length (node a c).messages - below q (node a c).messages = load_inner (node a c).frame.level z g.0 ∙ simp length-drop in
          let k₁ : length y.frame.children ≡ 4 = simp length-take (omega (arith, g.1)) in
          let k₂ : length z.frame.children ≡ 4 = simp length-drop (omega (arith, g.1)) in
          let m₁ = load_of (node a c).frame.level y in
          let m₂ = load_of (node a c).frame.level z in
          real_split p j c l q y z u pl refl refl
          (subst (λ k. Inv (after_split (worn_of a h n) p c m₁ k m₂ (length z.frame.children))) (sym k₁)
          (subst (λ k. Inv (after_split (worn_of a h n) p c m₁ 4 m₂ k)) (sym k₂)
          (inv_step _ _ (split_inner p c m₁ m₂ pr (omega (arith, level_at c, g.0)) (children_at c ∙ g.1) (omega (arith, load_at c, below_length q (node a c).messages))) i)))

  -- ---- the cut
  pub real_cut : length (node a 0).frame.children ≡ 8 → Inv (worn_of (cut_root a) h n)
  real_cut e8 =
      let r = node a 0 in
      let y = lower_inner 3 r in
      let z = upper_inner 3 r in
      let q = get_or r.frame.pivots 3 0 in
      let x = new_root q (length a) r in
      let s = worn_of a h n in
      let lc = load_inner r.frame.level r t.root_inner in
      let m₁ = load_of r.frame.level y in
      let m₂ = load_of r.frame.level z in
      let l₁ : m₁ ≡ below q r.messages = load_inner r.frame.level y t.root_inner ∙ simp length-take (omega (arith, below_length q r.messages)) in
      let l₂ : m₂ ≡ length r.messages - below q r.messages = load_inner r.frame.level z t.root_inner ∙ simp length-drop in
      let k₁ : length y.frame.children ≡ 4 = simp length-take (omega arith) in
      let k₂ : length z.frame.children ≡ 4 = simp length-drop (omega arith) in
      let len : length (cut_root a) ≡ length a + 2 = simp (length-append, length-set) in
      let ex : shape (suc (height s)) 0 2 ≡ shape_of x = same_shape _ _ _ _ _ _ (ap suc (level_at 0)) refl refl in
      let ey : shape (height s) m₁ 4 ≡ shape_of y = same_shape _ _ _ _ _ _ (level_at 0) refl (sym k₁) in
      let ez : shape (height s) m₂ 4 ≡ shape_of z = same_shape _ _ _ _ _ _ (level_at 0) refl (sym k₂) in
      subst Inv (same_state (after_cut s m₁ m₂) (worn_of (cut_root a) h n)
      (cut_eq (map shape_of a) _ _ _ _ _ _ ex ey ez ∙ sym (map-append shape_of (set a 0 x) (y ∷ z ∷ []) ∙ ap (λ w. w ++ shape_of y ∷ shape_of z ∷ []) (map-set shape_of a 0 x)))
      refl refl (omega (arith, two)))
      (inv_step _ _ (cut m₁ m₂ (children_at 0 ∙ e8) (omega (arith, load_at 0, below_length q r.messages))) i)
